use Rattle.std.proofs.Common.{◌≡◌, take, map}
use Rattle.schema_json_values.specs.FragmentValues.{namespace_entry}
use Rattle.schema_json_text.specs.Places.{placed_entry}
use Rattle.schema_json_text.proofs.fragments.by_text.Given as goal

abbrev pub invariant-loop-name : goal.invariant-loop-name
invariant-loop-name g l =
    let names = g.N.NameText.components in
    map (λ p. placed_entry names p.0 p.1.now) l.placed.items ≡ map (namespace_entry names) (take l.name-index l.entries)
