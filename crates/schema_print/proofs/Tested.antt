-- Tests of lists, and of what a visitor takes.
use Rattle.std.proofs.Common.{◌≡◌, ◌↔◌, Bool, true, false, not, ◌&&◌, ◌||◌, List, [], ◌∷◌, ◌++◌, map, cond, filter}
use Rattle.std.proofs.Common.{refl, sym, ap, ◌∙◌, inl, inr, subst}
use Rattle.std.specs.List.{flat_map, list_all, list_any, AllByRecursion, FoldsTo}
use Rattle.std.proofs.lemmas.Bool.{and_from, and_parts}
use Rattle.schema_json_walk.specs.Visits.{StopsAmong}

-- what a visitor that stays as it is takes
module _ {S P : Type 0} (Passes : S → P → Type 0) where
  abbrev Takes : S → P → S → Type 0
  Takes before part after = (after ≡ before) × Passes before part

  pub all_taken : (s t : S) (ps : List P) → FoldsTo Takes s ps t → AllByRecursion (Passes s) ps
  all_taken s t [] h = tt
  all_taken s t (p ∷ ps) (j, (same, passes), more) =
      (passes, all_taken s t ps (subst (λ j. FoldsTo Takes j ps t) same more))

  pub one_refused : {E : Type 0} (s : S) (ps : List P) (e : E)
      → StopsAmong Takes (λ before part refusal. Passes before part → ⊥) s ps e → AllByRecursion (Passes s) ps → ⊥
  one_refused s [] e h all = h
  one_refused s (p ∷ ps) e (inl refused) (here, more) = refused here
  one_refused {E} s (p ∷ ps) e (inr (j, (same, passes), later)) (here, more) =
      one_refused s ps e
      (subst (λ j. StopsAmong Takes (λ before part (refusal : E). Passes before part → ⊥) j ps e) same later) more

and_in_turn : (a b c d : Bool) → ((a && b) && (c && d)) ≡ ((a && c) && (b && d))
and_in_turn true b true d = refl
and_in_turn true true false d = refl
and_in_turn true false false d = refl
and_in_turn false b c d = refl

-- what one test after another tells
pub and_passed : (first second x y all : Bool) → first ≡ true → first ≡ x → second ≡ y → all ≡ (x && y) → second ≡ all
and_passed first second x y all h e k whole = k ∙ sym (whole ∙ ap (λ b. b && y) (sym e ∙ h))

-- two tests of each item
module _ {A : Type 0} where
  pub all_are_both : (p q : A → Bool) (xs : List A)
      → list_all (λ x. p x && q x) xs ≡ (list_all p xs && list_all q xs)
  all_are_both p q [] = refl
  all_are_both p q (x ∷ xs) =
      ap (λ b. (p x && q x) && b) (all_are_both p q xs) ∙ and_in_turn (p x) (q x) (list_all p xs) (list_all q xs)

  -- two tests pass of each item exactly where each of them does
  pub both_of_all : (p q : A → Bool) (xs : List A)
      → (list_all (λ x. p x && q x) xs ≡ true) ↔ ((list_all p xs ≡ true) × (list_all q xs ≡ true))
  both_of_all p q xs = (
    λ h. and_parts (list_all p xs) (list_all q xs) (sym (all_are_both p q xs) ∙ h),
    λ (h, k). all_are_both p q xs ∙ and_from (list_all p xs) (list_all q xs) h k,
  )

-- no item
abbrev pub none : {A : Type 0} → List A → Bool
none [] = true
none (x ∷ xs) = false

pub none_is : {A : Type 0} (xs : List A) → (none xs ≡ true) ↔ (xs ≡ [])
none_is [] = (λ h. refl, λ h. refl)
none_is (x ∷ xs) = (λ h. cc, λ h. cc)

pub none_joined : {A : Type 0} (xs ys : List A) → none (xs ++ ys) ≡ (none xs && none ys)
none_joined [] ys = refl
none_joined (x ∷ xs) ys = refl

pub none_given : {A B : Type 0} (give : A → List B) (xs : List A)
    → none (flat_map give xs) ≡ list_all (λ x. none (give x)) xs
none_given give [] = refl
none_given give (x ∷ xs) =
    none_joined (give x) (flat_map give xs) ∙ ap (λ b. none (give x) && b) (none_given give xs)

pub none_filtered : {A B : Type 0} (see : A → B) (test : A → Bool) (xs : List A)
    → none (map see (filter test xs)) ≡ list_all (λ x. not (test x)) xs
none_filtered see test [] = refl
none_filtered see test (x ∷ xs) = go (none_filtered see test xs) (test x)
  where
    go : none (map see (filter test xs)) ≡ list_all (λ x. not (test x)) xs → (b : Bool)
        → none (map see (cond b (x ∷ filter test xs) (filter test xs))) ≡ (not b && list_all (λ x. not (test x)) xs)
    go more true = refl
    go more false = more

pub none_passes : {A : Type 0} (test : A → Bool) (xs : List A)
    → not (list_any test xs) ≡ list_all (λ x. not (test x)) xs
none_passes test [] = refl
none_passes test (x ∷ xs) = go (none_passes test xs) (test x)
  where
    go : not (list_any test xs) ≡ list_all (λ x. not (test x)) xs → (b : Bool)
        → not (b || list_any test xs) ≡ (not b && list_all (λ x. not (test x)) xs)
    go more true = refl
    go more false = more
