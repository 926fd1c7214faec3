use Rattle.schema_json_walk.specs.Walk.{parts}
use Rattle.schema_build_expand.proofs.Ranked.{all_added, row_made}
use Rattle.schema_build_expand.proofs.ranks.ranks_of.Goals as goal

pub returns : goal.returns
returns g c =
    let scope = g.R.Meanings.scope in
    let place = g.R.Meanings.place in
    let names = c.args.names.now in
    row_made (scope names) (place names) (parts c.args.ty.now) c.new.result.items c.walk_type.new.visitor.ranks.items
    c.new.ensures.items
    (all_added (λ r. scope r.now) (λ r. place r.now) (λ f. f.names) (λ f. f.ranks.items)
    (parts c.args.ty.now) _ c.walk_type.new.visitor c.in_ok-walk_type.ensures.taken)
