-- What is known to be or not to be.
use Rattle.std.proofs.Common.{◌≡◌, ℕ, zero, suc, Bool, true, false, List, [], ◌∷◌, refl, sym, ap, ◌∙◌, subst, arith}
use Rattle.std.proofs.Common.{Contains, inl, inr, ◌⊎◌, Some}
use Rattle.std.specs.Prelude.{slice_get}
use Rattle.std.specs.Bool.{Decides}
use Rattle.std.proofs.lemmas.Option.{same_Some}
use Rattle.cedar_data.proofs.Lists.{contains_first, contains_later}
use Rattle.cedar_names.specs.Definitions.{same_name}
use Rattle.cedar_names.proofs.Defined.{equal_names, name_itself}
use Rattle.laws_build.proofs.Existence.Reached.{first_or_later}

-- it is, or it is not
abbrev pub Known : Type 0 → Type 0
Known P = P ⊎ (P → ⊥)

abbrev pub told : {P : Type 0} → Known P → Bool
told (inl p) = true
told (inr none) = false

pub told_decides : {P : Type 0} (k : Known P) → Decides (told k) P
told_decides (inl p) = (λ e. p, λ q. refl)
told_decides (inr none) = (λ e. absurd (let f : false ≡ true = e in cc), λ q. absurd (none q))

pub known_alike : {P Q : Type 0} → (P → Q) → (Q → P) → Known P → Known Q
known_alike on back (inl p) = inl (on p)
known_alike on back (inr none) = inr (λ q. none (back q))

pub known_both : {P Q : Type 0} → Known P → Known Q → Known (P × Q)
known_both (inl p) (inl q) = inl (p, q)
known_both (inl p) (inr none) = inr (λ b. none b.1)
known_both (inr none) q = inr (λ b. none b.0)

-- whether one of a list is so
pub known_among : {X : Type 0} (P : X → Type 0) → ((x : X) → Known (P x)) → (xs : List X)
    → Known ((x : X) × Contains xs x × P x)
known_among P known [] = inr (λ e. omega (arith, e.1.1))
known_among P known (x ∷ xs) = go (known x) (known_among P known xs)
  where
    go : Known (P x) → Known ((y : _) × Contains xs y × P y) → Known ((y : _) × Contains (x ∷ xs) y × P y)
    go (inl p) more = inl (x, contains_first x xs, p)
    go (inr fails) (inl e) = inl (e.0, contains_later x xs e.0 e.1, e.2)
    go (inr fails) (inr none) = inr (λ (y, c, p). elim (first_or_later x xs y c) [
      | inl same ↦ fails (subst P (sym same) p)
      | inr there ↦ none (y, there, p)
    ])

-- whether one at some place of a list is so
pub known_at : {X : Type 0} (P : X → Type 0) → ((x : X) → Known (P x)) → (xs : List X)
    → Known ((x : X) × (k : ℕ) × (slice_get xs k ≡ Some x) × P x)
known_at {X} P known [] = inr (λ (x, k, at, p). nowhere x k at)
  where
    nowhere : (x : X) (k : ℕ) → slice_get {X = X} [] k ≡ Some x → ⊥
    nowhere x zero at = cc
    nowhere x (suc k) at = cc
known_at {X} P known (x ∷ xs) = go (known x) (known_at P known xs)
  where
    none_at : (P x → ⊥) → (((y : X) × (k : ℕ) × (slice_get xs k ≡ Some y) × P y) → ⊥) → (y : X) (k : ℕ)
        → slice_get (x ∷ xs) k ≡ Some y → P y → ⊥
    none_at fails none y zero at p = fails (subst P (sym (same_Some x y at)) p)
    none_at fails none y (suc k) at p = none (y, k, at, p)

    go : Known (P x) → Known ((y : X) × (k : ℕ) × (slice_get xs k ≡ Some y) × P y)
        → Known ((y : X) × (k : ℕ) × (slice_get (x ∷ xs) k ≡ Some y) × P y)
    go (inl p) more = inl (x, 0, refl, p)
    go (inr fails) (inl e) = inl (e.0, suc e.1, e.2, e.3)
    go (inr fails) (inr none) = inr (λ (y, k, at, p). none_at fails none y k at p)

-- whether two names are one
pub known_name : (a b : List (List ℕ)) → Known (a ≡ b)
known_name a b = go (same_name a b) refl
  where
    go : (t : Bool) → same_name a b ≡ t → Known (a ≡ b)
    go true is = inl (equal_names a b is)
    go false is = inr (λ same. (
        let yes : same_name a b ≡ true = ap (same_name a) (sym same) ∙ name_itself a in
        let e : false ≡ true = sym is ∙ yes in cc))

-- what a test decides is known
pub known_by : {P : Type 0} (b : Bool) → Decides b P → Known P
known_by true d = inl (d.0 refl)
known_by false d = inr (λ p. let e : false ≡ true = d.1 p in cc)
