use Rattle.std.proofs.Common.{◌≡◌, ℕ, ◌+◌, ◌*◌, ◌≤◌, length, List, []}
use Rattle.std.specs.Prelude.{is_some}
use Rattle.std.specs.List.{list_any}
use Rattle.std.specs.Str.{bytes_eq}
use Rattle.json.specs.Token.{Token}
use Rattle.json.specs.Json.{items, members, value}
use Rattle.serde_json.specs.Data.{Items, Members, no_members}
use Rattle.serde_json.specs.Find.{get_member}
use Rattle.serde_json.specs.View.{members_view}
use Rattle.schema_json_keys.specs.Plain.{ArePlainItems, ArePlainMembers}
use Rattle.schema_json_keys.proofs.Plainly.{items_before}
use Rattle.schema_json_keys.proofs.plain.+plain.Given as goal

abbrev pub decreases-read_value : goal.decreases-read_value
decreases-read_value l = 2 * l.depth

abbrev pub decreases-read_items : goal.decreases-read_items
decreases-read_items l = 2 * l.depth + 1

abbrev pub decreases-read_members : goal.decreases-read_members
decreases-read_members l = 2 * l.depth + 1

abbrev pub invariant-read_items-items : goal.invariant-read_items-items
invariant-read_items-items l = record {
  turns : ℕ;
  enough : length l.reader ≤ turns;
  whole : (more : Items) (rest : List Token) → ArePlainItems (items (value l.depth) turns l.reader) more rest
      → ArePlainItems (items (value l.depth) (length l.initial.reader) l.initial.reader)
      (items_before l.found.items more) rest;
  within : length l.reader ≤ length l.initial.reader;
}

abbrev pub decreases-read_items-items : goal.decreases-read_items-items
decreases-read_items-items l = length l.reader

abbrev pub invariant-read_members-members : goal.invariant-read_members-members
invariant-read_members-members l = record {
  turns : ℕ;
  earlier : List (List ℕ);
  enough : length l.reader ≤ turns;
  whole : (all : Members) (rest : List Token)
      → ArePlainMembers earlier (members_view l.found.entries) (members (value l.depth) turns l.reader) all rest
      → ArePlainMembers [] no_members (members (value l.depth) (length l.initial.reader) l.initial.reader) all rest;
  keys : (name : List ℕ) → is_some (get_member name (members_view l.found.entries))
      ≡ list_any (bytes_eq name) earlier;
  within : length l.reader ≤ length l.initial.reader;
}

abbrev pub decreases-read_members-members : goal.decreases-read_members-members
decreases-read_members-members l = length l.reader
