use Rattle.std.proofs.Common.{◌≡◌, ◌++◌, drop, map}
use Rattle.serde_json.specs.View.{view}
use Rattle.schema_json_values.specs.FragmentValues.{name_value}
use Rattle.schema_json_values.proofs.leaves.names_value.Given as goal

abbrev pub invariant-loop-name : goal.invariant-loop-name
invariant-loop-name g l = map view l.items.items
    ++ map (name_value g.N.NameText.components) (drop l.name-index l.names)
    ≡ map (name_value g.N.NameText.components) l.names
