use Rattle.std.proofs.Common.{◌≡◌, ◌+◌, ◌*◌, ◌++◌, ◌∷◌, false, drop, map, string_bytes}
use Rattle.std.specs.Map.{values_of}
use denote.Param.Weighed.{most}
use Rattle.serde_json.specs.Written.{members_text}
use Rattle.schema_json.specs.declared.types.TypeOfAttribute.{size-TypeOfAttribute}
use Rattle.schema_json_values.specs.TypeValues.{attribute_entry}
use Rattle.schema_json_text.specs.Members.{members_in_order}
use Rattle.schema_json_text.proofs.types.+types.Given as goal

abbrev pub decreases-push_annotated : goal.decreases-push_annotated
decreases-push_annotated g l = 2 * goal.size-push_annotated g l

abbrev pub decreases-push_variant : goal.decreases-push_variant
decreases-push_variant g l = 2 * goal.size-push_variant g l

abbrev pub decreases-push_attributes : goal.decreases-push_attributes
decreases-push_attributes g l = 2 * most (size-TypeOfAttribute g.row.N.Denot) (values_of l.entries.now) + 1

abbrev pub invariant-push_attributes-loop-name : goal.invariant-push_attributes-loop-name
invariant-push_attributes-loop-name g l =
    let entry = attribute_entry g.N.NameText.components in
    string_bytes l.out ++ members_text l.later (members_in_order (map entry (drop l.name-index l.entries)))
    ≡ string_bytes l.fn.out ++ 123 ∷ members_text false (members_in_order (map entry l.entries))
