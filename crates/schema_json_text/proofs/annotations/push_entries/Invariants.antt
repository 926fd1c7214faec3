use Rattle.std.proofs.Common.{◌≡◌, ◌++◌, ◌∷◌, drop, map, string_bytes, false}
use Rattle.serde_json.specs.Written.{members_text}
use Rattle.schema_json_values.specs.TypeValues.{annotation_entry}
use Rattle.schema_json_text.specs.Members.{members_in_order}
use Rattle.schema_json_text.proofs.annotations.push_entries.Given as goal

abbrev pub invariant-loop-key : goal.invariant-loop-key
invariant-loop-key l = string_bytes l.out
    ++ members_text l.later (members_in_order (map annotation_entry (drop l.key-index l.entries)))
    ≡ string_bytes l.fn.out ++ 123 ∷ members_text false (members_in_order (map annotation_entry l.entries))
