-- Types of a meaning whose attributes rise.
use Rattle.std.specs.Prelude.{ℕ, List, [], ◌∷◌}
use Rattle.std.specs.List.Sorted.{IsStrictlySortedBy}
use Rattle.cedar_data.specs.Text.{text_cmp}
use Rattle.cedar_names.specs.Meaning.{PlainType, Attributes}
use Rattle.cedar_names.specs.Meaning as m

-- the names of attributes, in order
abbrev pub meant_names : Attributes → List (List ℕ)
meant_names m.no_more = []
meant_names (m.attribute n r t xs) = n ∷ meant_names xs

abbrev mutual
  -- the attributes of each record in it rise by their names
  pub IsOrderedType : PlainType → Type 0
  IsOrderedType (PlainType.Set t) = IsOrderedType t
  IsOrderedType (PlainType.Rec xs) = IsStrictlySortedBy text_cmp (meant_names xs) × AreOrderedTypes xs
  IsOrderedType _ = Unit {0}

  pub AreOrderedTypes : Attributes → Type 0
  AreOrderedTypes m.no_more = Unit {0}
  AreOrderedTypes (m.attribute n r t xs) = IsOrderedType t × AreOrderedTypes xs
