use Rattle.std.proofs.Common.{refl}
use Rattle.schema_convert_faults.specs.NamesIn.{entity_names_in, entities_of}
use Rattle.schema_convert_openings.proofs.Gathered.{more_at, over_at}
use Rattle.schema_convert_faults.proofs.names_in.entity_names_in.Goals as goal

pub loop-decl-preserved : goal.loop-decl-preserved
loop-decl-preserved c =
    more_at entity_names_in (λ d. entities_of d.item.node) refl (λ x xs. refl) _ _ c.args.decls.now
    c.loop-decl.decl-index c.decl-item.result _ c.loop-decl.invariant c.loop-decl-test.true c.decl-item.is
    c.in_ok-push_entities.ensures

pub returns : goal.returns
returns c = over_at entity_names_in (λ d. entities_of d.item.node) refl (λ x xs. refl) _ c.args.decls.now
    c.loop-decl.decl-index _ c.loop-decl.invariant c.loop-decl-test.false
