use Rattle.std.proofs.Common.{◌≡◌, ◌++◌, drop, map}
use Rattle.std.specs.Str.{chars}
use Rattle.serde_json.specs.View.{members_view}
use Rattle.schema_json_shapes.specs.Walk.{present, is_given}
use Rattle.schema_json_shapes.specs.Seen.{name_texts}
use Rattle.schema_json_shapes.proofs.conflicts.given.Given as goal

abbrev pub invariant-loop-field : goal.invariant-loop-field
invariant-loop-field l = l.found.items
    ++ map chars (present is_given (name_texts (drop l.field-index l.fields)) (members_view l.members.entries))
    ≡ map chars (present is_given (name_texts l.fields) (members_view l.members.entries))
