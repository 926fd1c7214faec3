-- Parts taken one after another, and where a visitor stops among them.
use Rattle.std.proofs.Common.{◌≡◌, inl, inr, ℕ, ◌+◌, ◌<◌, List, [], ◌∷◌, ◌++◌, length, get_or, take, drop}
use Rattle.std.proofs.Common.{suc, zero, sym, ap, ◌∙◌, subst, append_assoc, append-nil, add-one, arith}
use Rattle.std.proofs.Common.{Result, Ok, Err}
use Rattle.std.proofs.Math.Seq.{take-suc}
use Rattle.std.proofs.lemmas.Grind.{flat_map-append}
use Rattle.std.specs.List.{FoldsTo, flat_map}
use Rattle.std.specs.Result.{IsErrAnd, IfErr, OnOk}
use Rattle.schema_json_walk.specs.Visits.{StopsAmong}

-- what is before an item, what the item gives, and what is behind it
pub parted : {A P : Type 0} (f : A → List P) (xs : List A) (i : ℕ) (d : A) → i < length xs → d ≡ get_or xs i d
    → flat_map f (take i xs) ++ (f d ++ flat_map f (drop (suc i) xs)) ≡ flat_map f xs
parted f [] i d h e = absurd (omega arith)
parted f (x ∷ xs) zero d h e = ap (λ a. f a ++ flat_map f xs) e
parted f (x ∷ xs) (suc i) d h e =
    append_assoc (f x) (flat_map f (take i xs)) (f d ++ flat_map f (drop (suc i) xs))
    ∙ ap (λ l. f x ++ l) (parted f xs i d (omega arith) e)

module _ {S P : Type 0} (R : S → P → S → Type 0) where
  pub folds_then : (a b : List P) (s j t : S) → FoldsTo R s a j → FoldsTo R j b t → FoldsTo R s (a ++ b) t
  folds_then [] b s j t h k = subst (λ x. FoldsTo R x b t) (sym h) k
  folds_then (p ∷ ps) b s j t h k = (h.0, h.1, folds_then ps b h.0 j t h.2 k)

  module _ {A : Type 0} (f : A → List P) where
    pub each_taken : (xs : List A) (i : ℕ) (d : A) (s j t : S) → i < length xs → d ≡ get_or xs i d
        → FoldsTo R s (flat_map f (take i xs)) j → FoldsTo R j (f d) t → FoldsTo R s (flat_map f (take (i + 1) xs)) t
    each_taken xs i d s j t l e h k =
        let same : f (get_or xs i d) ++ [] ≡ f d = append-nil (f (get_or xs i d)) ∙ ap f (sym e) in
        rw (add-one, take-suc xs i d l, flat_map-append f (take i xs) (get_or xs i d ∷ []))
        (folds_then (flat_map f (take i xs)) (f (get_or xs i d) ++ []) s j t h
        (subst (λ x. FoldsTo R j x t) (sym same) k))

  module _ {E : Type 0} (Q : S → P → E → Type 0) where
    pub stops_front : (a b : List P) (s : S) (e : E) → StopsAmong R Q s a e → StopsAmong R Q s (a ++ b) e
    stops_front [] b s e h = absurd h
    stops_front (p ∷ ps) b s e (inl h) = inl h
    stops_front (p ∷ ps) b s e (inr k) = inr (k.0, k.1, stops_front ps b k.0 e k.2)

    pub stops_behind : (a b : List P) (s j : S) (e : E) → FoldsTo R s a j → StopsAmong R Q j b e
        → StopsAmong R Q s (a ++ b) e
    stops_behind [] b s j e h k = subst (λ x. StopsAmong R Q x b e) (sym h) k
    stops_behind (p ∷ ps) b s j e h k = inr (h.0, h.1, stops_behind ps b h.0 j e h.2 k)

    module _ {A : Type 0} (f : A → List P) where
      -- the first of an item that stops it, where those before it are taken
      pub each_stops : (xs : List A) (i : ℕ) (d : A) (s j : S) (e : E) → i < length xs → d ≡ get_or xs i d
          → FoldsTo R s (flat_map f (take i xs)) j → StopsAmong R Q j (f d) e → StopsAmong R Q s (flat_map f xs) e
      each_stops xs i d s j e l at h k =
          subst (λ x. StopsAmong R Q s x e) (parted f xs i d l at)
          (stops_behind (flat_map f (take i xs)) (f d ++ flat_map f (drop (suc i) xs)) s j e h
          (stops_front (f d) (flat_map f (drop (suc i) xs)) j e k))

-- what calls hand on
module _ {S P E T : Type 0} (R : S → P → S → Type 0) (Q : S → P → E → Type 0) (a b : List P) (r : Result T E) where
  pub ok_then : (s j t : S) → FoldsTo R s a j → OnOk r (FoldsTo R j b t) → OnOk r (FoldsTo R s (a ++ b) t)
  ok_then s j t h k = go r k
    where
      go : (x : Result T E) → OnOk x (FoldsTo R j b t) → OnOk x (FoldsTo R s (a ++ b) t)
      go (Ok x) l = folds_then R a b s j t h l
      go (Err e) l = l

  pub err_behind : (s j : S) → FoldsTo R s a j → IfErr r (StopsAmong R Q j b) → IfErr r (StopsAmong R Q s (a ++ b))
  err_behind s j h k = go r k
    where
      go : (x : Result T E) → IfErr x (StopsAmong R Q j b) → IfErr x (StopsAmong R Q s (a ++ b))
      go (Ok x) l = l
      go (Err e) l = stops_behind R Q a b s j e h l

  pub err_front : (s : S) (e : E) → IsErrAnd r (λ y. y ≡ e) → StopsAmong R Q s a e → IfErr r (StopsAmong R Q s (a ++ b))
  err_front s e h k = go r h
    where
      go : (x : Result T E) → IsErrAnd x (λ y. y ≡ e) → IfErr x (StopsAmong R Q s (a ++ b))
      go (Ok x) l = tt
      go (Err y) l = stops_front R Q a b s y (subst (StopsAmong R Q s a) (sym l) k)

-- what `?` hands on
pub handed : {T E : Type 0} (W : E → Type 0) (r : Result T E) (e : E) → IsErrAnd r (λ y. y ≡ e) → W e → IfErr r W
handed W (Ok x) e h k = tt
handed W (Err y) e h k = subst W (sym h) k
