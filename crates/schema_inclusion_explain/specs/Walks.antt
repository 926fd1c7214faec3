-- One attribute against the entries that are left.
use Rattle.std.specs.Prelude.{◌≡◌, ◌+◌, ℕ, Bool, List, Option, Some, None, drop}
use Rattle.std.specs.Option.{option_map}
use Rattle.cedar_names.specs.Meaning.{Attributes, attribute}
use Rattle.schema_build_types.specs.declared.types.Type.{«Type»}
use Rattle.schema_inclusion_types.specs.Kinds.{plain}
use Rattle.schema_inclusion_values.specs.Seen.{entries_value}
use Rattle.schema_inclusion_values.specs.Values.{Text, Name}
use Rattle.schema_inclusion_values.specs.declared.val.Val as held
use Rattle.schema_inclusion_reasons.specs.FirstMisfit.{Found, Named, named_misfit, behind_name, with_name}
use Rattle.schema_inclusion_explain.specs.Held.{held_found}
use Rattle.schema_inclusion_explain.specs.declared.places.Found as found

-- the attribute with others behind it
abbrev pub with_attribute : List ℕ × («Type» × Bool) → Attributes → Attributes
with_attribute a fs = attribute a.0 a.1.1 (plain a.1.0) fs

-- the first misfit is this one; or where none is found, it is the first of the rest
abbrev pub Goes : Option Named → Option Named → Option found.Found → Type 0
Goes all rest None = all ≡ rest
Goes all rest (Some f) = option_map behind_name all ≡ Some (held_found f)

-- what the attribute and those behind it say of the entries from the one place on, by those behind it and the entries
-- from the other place on
abbrev pub GoesOn : (Name → Text → Bool) → List ℕ × («Type» × Bool) → Attributes → List (Text × held.Val) → ℕ → ℕ
    → Option found.Found → Type 0
GoesOn fits a fs es next place = Goes (named_misfit fits (with_attribute a fs) (entries_value (drop next es)))
    (named_misfit fits fs (entries_value (drop place es)))

-- the value of an attribute has this misfit, and the entries go on where they stand; or it has none, and they go on
-- behind it
abbrev pub Fits : Option Found → Text → ℕ → ℕ → Option found.Found → Type 0
Fits all name next place None = (all ≡ None) × (place ≡ next + 1)
Fits all name next place (Some f) = (place ≡ next)
    × (option_map (λ g. behind_name (with_name name g)) all ≡ Some (held_found f))
