-- What each of a list gives, item by item.
use Rattle.std.proofs.Common.{◌≡◌, ℕ, suc, ◌+◌, ◌<◌, ◌≤◌, List, [], ◌∷◌, ◌++◌, map, length, get_or, take, drop}
use Rattle.std.proofs.Common.{refl, sym, ap, ◌∙◌, subst, append-nil, add-one}
use Rattle.std.proofs.Common.{Result, Ok, Err}
use Rattle.std.specs.Result.{IsErrAnd, IfErr}
use Rattle.std.specs.Map.{keys_of}
use Rattle.std.proofs.Math.Seq.{take-suc}
use Rattle.std.proofs.lemmas.List.{map-append, take_all}
use Rattle.std.proofs.lemmas.Grind.{flat_map-append}
use Rattle.std.specs.List.{flat_map}
use Rattle.schema_json_walk.proofs.Visiting.{parted}
use Rattle.schema_resolve_errors.specs.declared.resolve_error.ResolveError.{ResolveError}
use Rattle.schema_resolve_errors.specs.declared.resolve_error.ResolveError.TheVariants.{TypeNotDefined}
use Rattle.schema_resolve_errors.specs.declared.resolve_error.ResolveError.TheVariants.{ActionNotDefined, Memory}
use Rattle.schema_resolve_targets.specs.Undefined.{Undefined}
use Rattle.schema_resolve.specs.Faults.{NamesFirst}

-- the first of the front, and the first behind where the front has none
pub front_first : (us vs : List Undefined) (e : ResolveError) → NamesFirst us e → NamesFirst (us ++ vs) e
front_first us vs Memory h = tt
front_first [] vs (TypeNotDefined e) h = absurd h
front_first [] vs (ActionNotDefined e) h = absurd h
front_first (u ∷ us) vs (TypeNotDefined e) h = h
front_first (u ∷ us) vs (ActionNotDefined e) h = h

pub behind_first : (us vs : List Undefined) (e : ResolveError) → us ≡ [] → NamesFirst vs e → NamesFirst (us ++ vs) e
behind_first us vs e none h = subst (λ l. NamesFirst (l ++ vs) e) (sym none) h

pub both_none : {A : Type 0} (us vs : List A) → us ≡ [] → vs ≡ [] → us ++ vs ≡ []
both_none us vs p q = ap (λ l. l ++ vs) p ∙ q

module _ {A U : Type 0} (u : A → List U) where
  -- one more
  pub each_more : (xs : List A) (i : ℕ) (d : A) → i < length xs → d ≡ get_or xs i d → flat_map u (take i xs) ≡ []
      → u d ≡ [] → flat_map u (take (i + 1) xs) ≡ []
  each_more xs i d h e none here =
      rw (add-one, take-suc xs i d h, flat_map-append u (take i xs) (get_or xs i d ∷ []))
      (both_none (flat_map u (take i xs)) (u (get_or xs i d) ++ []) none
      (append-nil (u (get_or xs i d)) ∙ ap u (sym e) ∙ here))

  -- all
  pub each_all : (xs : List A) (i : ℕ) → length xs ≤ i → flat_map u (take i xs) ≡ [] → flat_map u xs ≡ []
  each_all xs i h none = ap (flat_map u) (sym (take_all i xs h)) ∙ none

-- the first of an item, where those before it give none
pub each_first : {A : Type 0} (u : A → List Undefined) (xs : List A) (i : ℕ) (d : A) (e : ResolveError)
    → i < length xs → d ≡ get_or xs i d → flat_map u (take i xs) ≡ [] → NamesFirst (u d) e
    → NamesFirst (flat_map u xs) e
each_first u xs i d e h at none here =
    subst (λ l. NamesFirst l e) (parted u xs i d h at)
    (behind_first (flat_map u (take i xs)) (u d ++ flat_map u (drop (suc i) xs)) e none
    (front_first (u d) (flat_map u (drop (suc i) xs)) e here))

module _ {A B : Type 0} (h : A → B) where
  -- one more
  pub map_more : (xs : List A) (i : ℕ) (d : A) → i < length xs → d ≡ get_or xs i d
      → map h (take (i + 1) xs) ≡ map h (take i xs) ++ h d ∷ []
  map_more xs i d l e = rw (add-one, take-suc xs i d l, map-append) (ap (λ x. map h (take i xs) ++ h x ∷ []) (sym e))

  -- all
  pub map_all : (xs : List A) (i : ℕ) → length xs ≤ i → map h (take i xs) ≡ map h xs
  map_all xs i l = ap (map h) (take_all i xs l)

-- what `?` hands on
pub refused : {T : Type 0} (r : Result T ResolveError) (e : ResolveError) (us : List Undefined)
    → IsErrAnd r (λ y. y ≡ e) → NamesFirst us e → IfErr r (NamesFirst us)
refused (Ok x) e us h k = tt
refused (Err y) e us h k = subst (NamesFirst us) (sym h) k

-- keys stay where each entry keeps its own
pub keys_kept : {K A B : Type 0} (h : K × A → K × B) → ((e : K × A) → (h e).0 ≡ e.0) → (es : List (K × A))
    → keys_of (map h es) ≡ keys_of es
keys_kept h same [] = refl
keys_kept h same (e ∷ es) = λ i. same e i ∷ keys_kept h same es i
