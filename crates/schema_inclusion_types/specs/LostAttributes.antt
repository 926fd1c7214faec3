-- What is lost of an attribute, by what stands at its name among the new ones.
use Rattle.std.specs.Prelude.{ℕ, Bool, false, List, Option, Some, None}
use Rattle.cedar_names.specs.Meaning.{PlainType}
use Rattle.schema_build_types.specs.declared.types.Type.{«Type»}
use Rattle.schema_inclusion_values.specs.Checks.{some_value, lost_value}
use Rattle.schema_inclusion_values.specs.Values.{Text, Name, Val}
use Rattle.schema_inclusion_types.specs.Kinds.{plain}

-- an attribute is found that is required
abbrev pub is_marked : Option («Type» × Bool) → Bool
is_marked None = false
is_marked (Some a) = a.1

module _ (id_of : Name → Text) (lost : Name → Option Text) where
  -- a value of the type that the attribute that is found has not
  abbrev pub lost_to : PlainType → Option («Type» × Bool) → Option Val
  lost_to t None = Some (some_value id_of t)
  lost_to t (Some a) = lost_value id_of lost t (plain a.0)
