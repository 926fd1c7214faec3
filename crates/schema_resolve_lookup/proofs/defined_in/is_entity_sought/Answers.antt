use Rattle.std.proofs.Common.{map}
use Rattle.std.proofs.lemmas.List.Folds.{list_any-append}
use Rattle.cedar_names.specs.Definitions.{same_name}
use Rattle.schema_resolve_definitions.specs.Declarations.{declared}
use Rattle.schema_resolve_lookup.specs.Sought.{name_sought}
use Rattle.schema_resolve_lookup.proofs.Looked.{or_passed, or_next}
use Rattle.schema_resolve_lookup.proofs.defined_in.is_entity_sought.Goals as goal

pub returns-then-declares_entity : goal.returns-then-declares_entity
returns-then-declares_entity c = λ table.
    let d = declared c.args.searched.now.fragment.now in
    or_passed _ _ _ _ c.if-declares_entity.true c.declares_entity.ensures
    (list_any-append (same_name (name_sought c.args.sought)) d.entities (map (λ a. a.0) d.actions))

pub returns-else-declares_entity : goal.returns-else-declares_entity
returns-else-declares_entity c = λ table.
    let d = declared c.args.searched.now.fragment.now in
    or_next _ _ _ _ _ c.if-declares_entity.false c.declares_entity.ensures c.is_type_of_action.ensures
    (list_any-append (same_name (name_sought c.args.sought)) d.entities (map (λ a. a.0) d.actions))
