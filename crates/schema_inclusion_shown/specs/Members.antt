-- What the members of a set in memory stand for.
use Rattle.std.specs.Prelude.{List, map}
use Rattle.schema_inclusion_values.specs.Seen.{value_of, vals_of}
use Rattle.schema_inclusion_values.specs.Values.{Vals}
use Rattle.schema_inclusion_values.specs.declared.val.Val as held

abbrev pub members_value : List held.Val → Vals
members_value members = vals_of (map value_of members)
