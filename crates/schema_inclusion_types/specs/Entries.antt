-- Attributes with values, and others behind them.
use Rattle.std.specs.Prelude.{ℕ, cond, List, [], ◌∷◌}
use Rattle.cedar_names.specs.Meaning.{Attributes, no_more, attribute}
use Rattle.schema_inclusion_values.specs.Checks.{some_value, some_entries}
use Rattle.schema_inclusion_values.specs.Seen.{value_of}
use Rattle.schema_inclusion_values.specs.Values.{Text, Name, Val, Entries, no_entries, entry}
use Rattle.schema_inclusion_values.specs.declared.val.Val as held
use Rattle.schema_inclusion_types.specs.Kinds.{Attrs, plain_attrs}

-- the attributes, and then the rest
abbrev pub entries_onto : List (Text × held.Val) → Entries → Entries
entries_onto [] rest = rest
entries_onto (e ∷ es) rest = entry e.0 (value_of e.1) (entries_onto es rest)

module _ (id_of : Name → Text) where
  -- a value of each required attribute, and then the rest
  abbrev pub some_onto : Attributes → Entries → Entries
  some_onto no_more rest = rest
  some_onto (attribute n r t fs) rest = cond r (entry n (some_value id_of t) (some_onto fs rest)) (some_onto fs rest)

  -- the first attribute of these with this value, and a value of each other one that is required
  abbrev pub entries_at : Attrs → Attrs → Val → Entries
  entries_at before [] v = some_entries id_of (plain_attrs before)
  entries_at before (a ∷ behind) v = some_onto (plain_attrs before)
      (entry a.0 v (some_entries id_of (plain_attrs behind)))
