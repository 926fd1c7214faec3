use Rattle.std.proofs.Common.{◌≡◌}
use Rattle.serde_json.specs.View.{members_view}
use Rattle.serde_json.specs.Find.{get_member}
use Rattle.schema_json_shapes.proofs.fields.at_few.Given as goal

abbrev pub invariant-loop-key : goal.invariant-loop-key
invariant-loop-key l = get_member l.name (members_view l.key-iterator)
    ≡ get_member l.name (members_view l.members.entries)
