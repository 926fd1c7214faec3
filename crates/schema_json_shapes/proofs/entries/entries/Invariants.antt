use Rattle.serde_json.specs.View.{members_view}
use Rattle.schema_json_shapes.proofs.EntriesAhead.{EntriesAhead}
use Rattle.schema_json_shapes.proofs.entries.entries.Given as goal

abbrev pub invariant-loop-key : goal.invariant-loop-key
invariant-loop-key g l = record {
  ahead : EntriesAhead g.E.Entry.asks g.E.Entry.is_key g.E.Entry.is_item (members_view l.key-iterator)
      (members_view l.members.entries) l.entries.items;
}
