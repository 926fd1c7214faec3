-- The least of a list.
use Rattle.std.specs.Prelude.{◌≡◌, true, false, List, ◌∷◌, ◌++◌}
use Rattle.std.specs.List.{AllByRecursion}
use Rattle.std.specs.Ordering.{is_lt}
use Rattle.std.specs.declared.cmp.Ordering.{Ordering}

-- x is one of these; all before it are greater, and none behind it is less
pub record IsFirstLeast {A : Type 0} (order : A → A → Ordering) (xs : List A) (x : A) : Type 0 where
  pub before : List A
  pub behind : List A
  pub among : xs ≡ before ++ x ∷ behind
  pub greater : AllByRecursion (λ y. is_lt (order x y) ≡ true) before
  pub not_less : AllByRecursion (λ y. is_lt (order y x) ≡ false) behind
