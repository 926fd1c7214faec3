-- Each of a list once, in order, as it stands there first.
use Rattle.std.specs.Prelude.{◌≡◌, List, ◌∷◌, All, Contains}
use Rattle.std.specs.List.{filter}
use Rattle.std.specs.List.Sorted.{IsStrictlySortedBy}
use Rattle.std.specs.Ordering.{is_eq}
use Rattle.std.specs.declared.cmp.Ordering.{Ordering}
use Rattle.std.specs.declared.cmp.Ordering.TheVariants.{Equal}

-- of the uses that the order does not tell from x, x is the first
abbrev pub IsFirstUse : {A : Type 0} → (A → A → Ordering) → List A → A → Type 0
IsFirstUse {A} order uses x = (others : List A) × (filter (λ y. is_eq (order x y)) uses ≡ x ∷ others)

-- one of these is, as the order sees it, the same as u
abbrev pub HasAlike : {A : Type 0} → (A → A → Ordering) → List A → A → Type 0
HasAlike {A} order xs u = (x : A) × Contains xs x × (order x u ≡ Equal)

-- they rise, and are the first of each that is used
pub record AreFirstUses {A : Type 0} (order : A → A → Ordering) (uses firsts : List A) : Type 0 where
  pub rising : IsStrictlySortedBy order firsts
  pub first : All (IsFirstUse order uses) firsts
  pub whole : (u : A) → Contains uses u → HasAlike order firsts u
