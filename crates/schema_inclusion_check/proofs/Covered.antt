-- Types of actions, and the ids under them.
use Rattle.std.proofs.Common.{◌≡◌, ℕ, zero, suc, ◌+◌, ◌<◌, Bool, true, false, cond, ◌||◌, List, [], ◌∷◌, ◌++◌, map}
use Rattle.std.proofs.Common.{length}
use Rattle.std.proofs.Common.{take, get_or, refl, sym, ap, ◌∙◌, subst, add-one, arith}
use Rattle.std.specs.List.{list_any}
use Rattle.std.proofs.lemmas.List.{map-append}
use Rattle.cedar_names.specs.Definitions.{same_name}
use Rattle.cedar_names.specs.Meaning.{ActionMeaning}
use Rattle.schema_inclusion_values.specs.Ids.{action_ids}
use Rattle.schema_inclusion_types.proofs.Ties.{names_decide}
use Rattle.schema_inclusion_check.specs.Rows.{CoverTypes}

pub take_next : {A : Type 0} (xs : List A) (i : ℕ) (d : A) → i < length xs → d ≡ get_or xs i d
    → take (i + 1) xs ≡ take i xs ++ d ∷ []
take_next xs i d h e = rw add-one (by xs i h e)
  where
    by : {A : Type 0} {d : A} (xs : List A) (i : ℕ) → i < length xs → d ≡ get_or xs i d
        → take (suc i) xs ≡ take i xs ++ d ∷ []
    by [] i h e = absurd (omega arith)
    by (x ∷ xs) zero h e = ap (λ y. y ∷ []) (sym e)
    by (x ∷ xs) (suc i) h e = ap (λ l. x ∷ l) (by xs i (omega arith) e)

any_behind : {A : Type 0} (p : A → Bool) (xs : List A) (x : A) → list_any p (xs ++ x ∷ []) ≡ (list_any p xs || p x)
any_behind p [] x = by (p x)
  where
    by : (b : Bool) → (b || false) ≡ b
    by true = refl
    by false = refl
any_behind p (y ∷ xs) x = by (p y) (any_behind p xs x)
  where
    by : (b : Bool) → list_any p (xs ++ x ∷ []) ≡ (list_any p xs || p x)
        → (b || list_any p (xs ++ x ∷ [])) ≡ ((b || list_any p xs) || p x)
    by true h = refl
    by false h = h

none_left : (a b : Bool) → (a || b) ≡ false → a ≡ false
none_left true b h = absurd (cc)
none_left false b h = refl

no_ids_next : (n : List (List ℕ)) (xs : List ActionMeaning) (a : ActionMeaning) → action_ids n xs ≡ []
    → same_name a.ty n ≡ false → action_ids n (xs ++ a ∷ []) ≡ []
no_ids_next n [] a none other = ap (λ b. cond b (a.id ∷ []) []) other
no_ids_next n (x ∷ xs) a none other = by (same_name x.ty n) none (no_ids_next n xs a)
  where
    by : (b : Bool) → cond b (x.id ∷ action_ids n xs) (action_ids n xs) ≡ []
        → (action_ids n xs ≡ [] → same_name a.ty n ≡ false → action_ids n (xs ++ a ∷ []) ≡ [])
        → cond b (x.id ∷ action_ids n (xs ++ a ∷ [])) (action_ids n (xs ++ a ∷ [])) ≡ []
    by true none rest = absurd (cc)
    by false none rest = rest none other

-- one action more, whose type is among them
pub cover_next : (types more : List (List (List ℕ))) (xs : List ActionMeaning) (a : ActionMeaning)
    → CoverTypes types xs
    → ((n : List (List ℕ)) → list_any (same_name n) more ≡ false → list_any (same_name n) types ≡ false)
    → list_any (same_name a.ty) more ≡ true → CoverTypes more (xs ++ a ∷ [])
cover_next types more xs a covers kept there n none = no_ids_next n xs a (covers n (kept n none)) (by
    (same_name a.ty n) refl)
  where
    by : (b : Bool) → same_name a.ty n ≡ b → b ≡ false
    by true same = absurd (
        let one : list_any (same_name n) more ≡ true =
        subst (λ m. list_any (same_name m) more ≡ true) ((names_decide a.ty n).0 same) there in
        let no : true ≡ false = sym one ∙ none in cc)
    by false same = refl

-- what is not among more is not among them
pub kept_behind : (types : List (List (List ℕ))) (ty n : List (List ℕ))
    → list_any (same_name n) (types ++ ty ∷ []) ≡ false → list_any (same_name n) types ≡ false
kept_behind types ty n h = none_left (list_any (same_name n) types) (same_name n ty)
    (sym (any_behind (same_name n) types ty) ∙ h)

or_so : (a b : Bool) → b ≡ true → (a || b) ≡ true
or_so true b h = refl
or_so false b h = h

pub there_behind : (types : List (List (List ℕ))) (ty : List (List ℕ))
    → list_any (same_name ty) (types ++ ty ∷ []) ≡ true
there_behind types ty = any_behind (same_name ty) types ty
    ∙ or_so (list_any (same_name ty) types) (same_name ty ty) ((names_decide ty ty).1 refl)
