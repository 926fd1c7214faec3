use Rattle.std.proofs.Common.{◌≡◌, ◌++◌}
use Rattle.serde_json.specs.View.{members_view}
use Rattle.schema_json_shapes.specs.Shapes.{key_texts}
use Rattle.schema_json_shapes.proofs.KeyTexts.{Spelled}
use Rattle.schema_json_shapes.proofs.actions.read_keys.Given as goal

abbrev pub invariant-loop-key : goal.invariant-loop-key
invariant-loop-key l = record {
  keys : l.keys.items ++ key_texts (members_view l.key-iterator) ≡ key_texts (members_view l.members.entries);
  spelled : Spelled l.key-iterator → Spelled l.members.entries;
}
