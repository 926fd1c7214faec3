use Rattle.std.proofs.Common.{refl}
use Rattle.std.specs.List.{filter_map}
use Rattle.std.proofs.lemmas.List.Elements.{filter_map-append}
use Rattle.schema_convert_faults.specs.Faults.{entity_faults, reserved_id}
use Rattle.schema_convert_faults.specs.NamesIn.{entities_of, entity_names_in}
use Rattle.schema_convert_openings.proofs.Gathered.{more_at, over_at}
use Rattle.schema_convert_faults.proofs.faults.entity_faults.Goals as goal

pub loop-decl-preserved : goal.loop-decl-preserved
loop-decl-preserved c =
    more_at entity_faults (λ d. filter_map reserved_id (entities_of d.item.node)) refl
    (λ x xs. filter_map-append reserved_id (entities_of x.item.node) (entity_names_in xs)) _ _ c.args.decls.now
    c.loop-decl.decl-index c.decl-item.result _ c.loop-decl.invariant c.loop-decl-test.true c.decl-item.is
    c.in_ok-push_reserved.ensures

pub returns : goal.returns
returns c =
    over_at entity_faults (λ d. filter_map reserved_id (entities_of d.item.node)) refl
    (λ x xs. filter_map-append reserved_id (entities_of x.item.node) (entity_names_in xs)) _ c.args.decls.now
    c.loop-decl.decl-index _ c.loop-decl.invariant c.loop-decl-test.false
