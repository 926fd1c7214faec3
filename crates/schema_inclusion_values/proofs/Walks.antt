-- Lists by rising keys: what stands at a key, and the first of a walk.
use Rattle.std.proofs.Common.{◌≡◌, Bool, true, false, cond, List, [], ◌∷◌, Option, Some, None, inl, inr, refl, sym, ◌∙◌}
use Rattle.std.proofs.Common.{subst}
use Rattle.std.specs.Prelude.{◌⊎◌, MatchOption}
use Rattle.std.specs.List.{AllByRecursion, find}
use Rattle.std.specs.declared.cmp.Ordering.{Ordering}
use Rattle.std.specs.declared.cmp.Ordering.TheVariants.{Less}
use Rattle.std.specs.Cmp.{IsTotalOrder}
use Rattle.std.proofs.lemmas.Cmp.{tied_itself}
use Rattle.schema_inclusion_values.specs.Ids.{AnyOf}
use Rattle.schema_inclusion_values.specs.Whole.{Rise}
use Rattle.schema_inclusion_values.specs.Lost.{or_else, first_of_each}

module _ {X K : Type 0} (order : K → K → Ordering) (total : IsTotalOrder order) (key : X → K) where
  pub not_less : (k : K) → order k k ≡ Less → ⊥
  not_less k h = let e = sym h ∙ tied_itself total k in cc

  all_any : (P Q : X → Type 0) (xs : List X) → AllByRecursion Q xs → ((x : X) → Q x → P x → ⊥) → AnyOf P xs → ⊥
  all_any P Q [] q f h = h
  all_any P Q (x ∷ xs) q f (inl h) = f x q.0 h
  all_any P Q (x ∷ xs) q f (inr h) = all_any P Q xs q.1 f h

  module _ (same : K → K → Bool) (equal : (a b : K) → same a b ≡ true → a ≡ b) (itself : (a : K)
      → same a a ≡ true) where
    -- what stands at the key k: P holds of one that does where P holds of this one, and Q holds of it as of all
    abbrev pub AtKey : (X → Type 0) → K → List X → Type 0
    AtKey P k xs = AnyOf (λ x. (key x ≡ k) × P x) xs

    abbrev pub Standing : (X → Type 0) → (X → Type 0) → K → List X → X → Type 0
    Standing P Q k xs n = (key n ≡ k) × Q n × (P n → AtKey P k xs) × (AtKey P k xs → P n)

    abbrev pub Stands : (X → Type 0) → (X → Type 0) → K → List X → Option X → Type 0
    Stands P Q k xs found = MatchOption found (AtKey P k xs → ⊥) (Standing P Q k xs)

    other : (P : X → Type 0) (k : K) (x : X) (xs : List X) → same (key x) k ≡ false → (key x ≡ k) × P x ⊎ AtKey P k xs
        → AtKey P k xs
    other P k x xs e (inl h) = let t = subst (λ y. same y k ≡ true) (sym h.0) (itself k) in absurd (cc)
    other P k x xs e (inr h) = h

    one : (P : X → Type 0) (k : K) (x : X) (xs : List X) → key x ≡ k
        → AllByRecursion (λ y. order (key x) (key y) ≡ Less) xs → (key x ≡ k) × P x ⊎ AtKey P k xs → P x
    one P k x xs e above (inl h) = h.1
    one P k x xs e above (inr h) = absurd (all_any (λ y. (key y ≡ k) × P y) (λ y. order (key x) (key y) ≡ Less) xs above
        (λ y less g. not_less k (subst (λ a. order a k ≡ Less) e (subst (λ b. order (key x) b ≡ Less) g.0 less))) h)

    stands_at : (P Q : X → Type 0) (k : K) (x : X) (xs : List X) (b : Bool) (o : Option X) → same (key x) k ≡ b
        → AllByRecursion (λ y. order (key x) (key y) ≡ Less) xs → Q x → Stands P Q k xs o
        → Stands P Q k (x ∷ xs) (cond b (Some x) o)
    stands_at P Q k x xs true o e above q h = let same_key = equal (key x) k e in
        (same_key, q, λ p. inl (same_key, p), λ g. one P k x xs same_key above g)
    stands_at P Q k x xs false None e above q h = λ g. h (other P k x xs e g)
    stands_at P Q k x xs false (Some n) e above q h = (h.0, h.1, λ p. inr (h.2 p), λ g. h.3 (other P k x xs e g))

    pub stands : (P Q : X → Type 0) (k : K) (xs : List X) → Rise order key xs → AllByRecursion Q xs
        → Stands P Q k xs (find (λ x. same (key x) k) xs)
    stands P Q k [] rise all = λ h. h
    stands P Q k (x ∷ xs) rise all = stands_at P Q k x xs (same (key x) k)
        (find (λ x. same (key x) k) xs) refl rise.0 all.0 (stands P Q k xs rise.1 all.1)

  -- ---- the first of a walk

  module _ {V : Type 0} (subject : V → K) (P : X → V → Type 0) (New : V → Type 0) where
    -- some of them gives v
    abbrev pub Gives : List X → V → Type 0
    Gives xs v = AnyOf (λ x. (key x ≡ subject v) × P x v) xs

    abbrev pub OneLost : X → Option V → Type 0
    OneLost x found = MatchOption found ((v : V) → key x ≡ subject v → P x v → New v) (λ v. (key x ≡ subject v) × P x v
        × (New v → ⊥))

    -- it is given and not new, and each that is given before it is new
    abbrev pub First : List X → V → Type 0
    First xs w = Gives xs w × (New w → ⊥) × ((v : V) → order (subject v) (subject w) ≡ Less → Gives xs v → New v)

    abbrev pub FirstLost : List X → Option V → Type 0
    FirstLost xs found = MatchOption found ((v : V) → Gives xs v → New v) (First xs)

    before_first : (x : X) (xs : List X) (w v : V) → key x ≡ subject w
        → AllByRecursion (λ y. order (key x) (key y) ≡ Less) xs → order (subject v) (subject w) ≡ Less
        → (key x ≡ subject v) × P x v ⊎ Gives xs v → ⊥
    before_first x xs w v at above less (inl h) = not_less (subject w)
        (subst (λ a. order a (subject w) ≡ Less) (sym h.0 ∙ at) less)
    before_first x xs w v at above less (inr h) = all_any (λ y. (key y ≡ subject v) × P y v) (λ y. order (key x) (key y)
        ≡ Less) xs above
        (λ y up g. not_less (subject w) (total.trans (subject w) (subject v) (subject w)
        (subst (λ a. order a (subject v) ≡ Less) at (subst (λ b. order (key x) b ≡ Less) g.0 up)) less)) h

    or_rest : (x : X) (xs : List X) (v : V) → ((v : V) → key x ≡ subject v → P x v → New v) → (Gives xs v → New v)
        → (key x ≡ subject v) × P x v ⊎ Gives xs v → New v
    or_rest x xs v kept rest (inl h) = kept v h.0 h.1
    or_rest x xs v kept rest (inr h) = rest h

    step : (x : X) (xs : List X) (one rest : Option V) → AllByRecursion (λ y. order (key x) (key y) ≡ Less) xs
        → OneLost x one → FirstLost xs rest → FirstLost (x ∷ xs) (or_else one rest)
    step x xs None None above h r = λ v. or_rest x xs v h (r v)
    step x xs None (Some w) above h r = (inr r.0, r.1, λ v less. or_rest x xs v h (r.2 v less))
    step x xs (Some w) rest above h r =
        (inl (h.0, h.1), h.2, λ v less g. absurd (before_first x xs w v h.0 above less g))

    pub first_lost : (f : X → Option V) (xs : List X) → Rise order key xs → AllByRecursion (λ x. OneLost x (f x)) xs
        → FirstLost xs (first_of_each f xs)
    first_lost f [] rise all = λ v h. absurd h
    first_lost f (x ∷ xs) rise all = step x xs (f x) (first_of_each f xs) rise.0 all.0 (first_lost f xs rise.1 all.1)
