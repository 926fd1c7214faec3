use Rattle.std.proofs.Common.{List, refl}
use Rattle.std.specs.List.{filter}
use Rattle.std.proofs.lemmas.List.Elements.{filter-append}
use Rattle.cedar_data.specs.declared.node.Node.{Node}
use Rattle.cedar_identifiers.specs.declared.id.Id.{Id}
use Rattle.schema_convert_faults.specs.NamesIn.{entities_of, entity_names_in}
use Rattle.schema_convert_faults.specs.Shadowings.{is_taken}
use Rattle.schema_convert_openings.proofs.Gathered.{more_at, over_at}
use Rattle.schema_convert_faults.proofs.shadowing.taken_names.Goals as goal

pub loop-decl-preserved : goal.loop-decl-preserved
loop-decl-preserved c =
    let taken = λ (ns : List (Node Id)). filter (λ n. is_taken c.args.table.now n.node.text) ns in
    more_at (λ ds. taken (entity_names_in ds)) (λ d. taken (entities_of d.item.node)) refl
    (λ x xs. filter-append (λ n. is_taken c.args.table.now n.node.text) (entities_of x.item.node) (entity_names_in xs))
    _ _ c.args.decls.now c.loop-decl.decl-index c.decl-item.result _ c.loop-decl.invariant c.loop-decl-test.true
    c.decl-item.is c.in_ok-push_taken_of.ensures

pub returns : goal.returns
returns c =
    let taken = λ (ns : List (Node Id)). filter (λ n. is_taken c.args.table.now n.node.text) ns in
    over_at (λ ds. taken (entity_names_in ds)) (λ d. taken (entities_of d.item.node)) refl
    (λ x xs. filter-append (λ n. is_taken c.args.table.now n.node.text) (entities_of x.item.node) (entity_names_in xs))
    _ c.args.decls.now c.loop-decl.decl-index _ c.loop-decl.invariant c.loop-decl-test.false
