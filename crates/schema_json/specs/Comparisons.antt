-- What comparisons keep.
use Rattle.std.specs.Prelude.{◌≡◌, Bool, true}
use Rattle.std.specs.Cmp.{IsEquivalence, IsTotalOrder}
use Rattle.std.specs.Ordering.{eq_by_cmp}
use Rattle.std.specs.declared.cmp.Ordering.{Ordering}

-- equality is an equivalence, and the order is total and agrees with it
pub record IsLawfulComparison {T : Type 0} (eq : T → T → Bool) (cmp : T → T → Ordering) : Type 0 where
  pub equivalence : IsEquivalence eq
  pub order : IsTotalOrder cmp
  pub agrees : (a b : T) → eq a b ≡ eq_by_cmp cmp a b

-- equal values hash alike
abbrev pub HashesAlike : {T H : Type 0} → (T → T → Bool) → (T → H) → Type 0
HashesAlike {T} eq hash = (a b : T) → eq a b ≡ true → hash a ≡ hash b

-- each value equals itself with every place erased
abbrev pub IsPlaceless : {T : Type 0} → (T → T → Bool) → (T → T) → Type 0
IsPlaceless {T} eq erased = (a : T) → eq (erased a) a ≡ true
