-- The least so far, as a list grows.
use Rattle.std.proofs.Common.{ℕ, ◌≤◌, length, map, take, ◌≡◌, true, false, List, [], ◌∷◌, ◌++◌, refl, sym, ap, ◌∙◌}
use Rattle.std.proofs.Common.{append_assoc, inl, inr, subst}
use Rattle.std.specs.Prelude.{◌⊎◌}
use Rattle.std.specs.List.{AllByRecursion, flat_map}
use Rattle.std.proofs.lemmas.List.{map-append, take_all}
use Rattle.std.specs.Ordering.{is_lt}
use Rattle.std.specs.Cmp.{IsStrictWeakOrder}
use Rattle.std.specs.declared.cmp.Ordering.{Ordering}
use Rattle.std.proofs.lemmas.Bool.{cases_Bool}
use Rattle.cedar_data.proofs.Every.{All-append, All-weaker, All-map}
use Rattle.schema_build_checks.specs.Least.{IsFirstLeast}

module _ {A : Type 0} (order : A → A → Ordering) where
  pub least_alone : (x : A) → IsFirstLeast order (x ∷ []) x
  least_alone x = record { before = []; behind = []; among = refl; greater = tt; not_less = tt }

  pub least_kept : (xs : List A) (x y : A) → IsFirstLeast order xs x → is_lt (order y x) ≡ false
      → IsFirstLeast order (xs ++ y ∷ []) x
  least_kept xs x y h kept = record {
    before = h.before;
    behind = h.behind ++ y ∷ [];
    among = ap (λ l. l ++ y ∷ []) h.among ∙ append_assoc h.before (x ∷ h.behind) (y ∷ []);
    greater = h.greater;
    not_less = All-append (λ z. is_lt (order z x) ≡ false) h.behind (y ∷ []) h.not_less (kept, tt);
  }

  module _ (o : IsStrictWeakOrder (λ a b. is_lt (order a b))) where
    -- what is less than x is less than what x is not greater than
    below : (x y z : A) → is_lt (order y x) ≡ true → is_lt (order z x) ≡ false → is_lt (order y z) ≡ true
    below x y z less kept = go (cases_Bool (is_lt (order y z)))
      where
        go : (is_lt (order y z) ≡ true) ⊎ (is_lt (order y z) ≡ false) → is_lt (order y z) ≡ true
        go (inl e) = e
        go (inr e) = let h = o.chain y z x e kept in cc

    pub least_taken : (xs : List A) (x y : A) → IsFirstLeast order xs x → is_lt (order y x) ≡ true
        → IsFirstLeast order (xs ++ y ∷ []) y
    least_taken xs x y h less = record {
      before = xs;
      behind = [];
      among = refl;
      greater = subst (λ l. AllByRecursion (λ z. is_lt (order y z) ≡ true) l) (sym h.among)
          (All-append (λ z. is_lt (order y z) ≡ true) h.before (x ∷ h.behind)
          (All-weaker (λ z. is_lt (order x z) ≡ true) (λ z. is_lt (order y z) ≡ true)
          (λ z l. below x y z less (o.one_way x z l)) h.before h.greater) (
            less,
            All-weaker (λ z. is_lt (order z x) ≡ false) (λ z. is_lt (order y z) ≡ true)
                (λ z l. below x y z less l) h.behind h.not_less,
          ));
      not_less = tt;
    }

-- the whole of what a list gives, once a loop has gone through it
pub whole_given : {A B : Type 0} (f : A → List B) (xs ys : List A) (i : ℕ) → length xs ≤ i → xs ≡ ys
    → flat_map f (take i xs) ≡ flat_map f ys
whole_given f xs ys i l e = ap (flat_map f) (take_all i xs l ∙ e)

-- the least by what is seen of the items
pub least_seen : {A B : Type 0} (g : A → B) (order : B → B → Ordering) (xs : List A) (x : A)
    → IsFirstLeast (λ a b. order (g a) (g b)) xs x → IsFirstLeast order (map g xs) (g x)
least_seen g order xs x h = record {
  before = map g h.before;
  behind = map g h.behind;
  among = ap (map g) h.among ∙ map-append g h.before (x ∷ h.behind);
  greater = All-map (λ y. is_lt (order (g x) y) ≡ true) g h.before h.greater;
  not_less = All-map (λ y. is_lt (order y (g x)) ≡ false) g h.behind h.not_less;
}
