use Rattle.std.proofs.Common.{◌≡◌, ◌++◌, drop, map, string_bytes}
use Rattle.serde_json.specs.View.{items_of}
use Rattle.serde_json.specs.Written.{compact_text, items_text}
use Rattle.schema_json_values.specs.FragmentValues.{name_value, names_value}
use Rattle.schema_json_text.proofs.leaves.push_names.Given as goal

abbrev pub invariant-loop-name : goal.invariant-loop-name
invariant-loop-name g l = string_bytes l.out
    ++ items_text l.later (items_of (map (name_value g.N.NameText.components) (drop l.name-index l.names)))
    ≡ string_bytes l.fn.out ++ compact_text (names_value g.N.NameText.components l.names)
