-- What is among names is among them in order, and the other way round.
use Rattle.std.proofs.Common.{◌≡◌, ℕ, List, [], ◌∷◌, inl, inr, refl, subst}
use Rattle.std.specs.Prelude.{◌⊎◌}
use Rattle.std.specs.BTreeSet.{insert_key}
use Rattle.std.specs.declared.cmp.Ordering.{Ordering}
use Rattle.std.specs.declared.cmp.Ordering.TheVariants.{Less, Equal, Greater}
use Rattle.std.specs.Ordering.{match_ordering}
use Rattle.std.specs.Cmp.Lexicographic.{slice_cmp}
use Rattle.cedar_data.specs.Text.{text_cmp}
use Rattle.cedar_data.proofs.Orders.{then_equal, text_exact, texts_exact}
use Rattle.cedar_names.specs.CanonicalText.{in_order}
use Rattle.schema_build_types.specs.Content.{actions_cmp}
use Rattle.schema_inclusion_values.specs.Ids.{AnyOf}
use Rattle.schema_inclusion_check.specs.Ordered.{actions_once}

module _ {K : Type 0} (C : K → K → Ordering) (exact : (a b : K) → C a b ≡ Equal → a ≡ b) (P : K → Type 0) where
  put_in : (k : K) (ks : List K) → P k ⊎ AnyOf P ks → AnyOf P (insert_key C ks k)
  put_in k [] h = h
  put_in k (x ∷ xs) h = by (put_in k xs) (C k x) refl h
    where
      by : (P k ⊎ AnyOf P xs → AnyOf P (insert_key C xs k)) → (o : Ordering) → C k x ≡ o
          → P k ⊎ (P x ⊎ AnyOf P xs)
          → AnyOf P (match_ordering o (k ∷ x ∷ xs) (x ∷ xs) (x ∷ insert_key C xs k))
      by more Less e h = h
      by more Equal e (inl p) = inl (subst P (exact k x e) p)
      by more Equal e (inr h) = h
      by more Greater e (inl p) = inr (more (inl p))
      by more Greater e (inr (inl p)) = inl p
      by more Greater e (inr (inr h)) = inr (more (inr h))

  get_out : (k : K) (ks : List K) → AnyOf P (insert_key C ks k) → P k ⊎ AnyOf P ks
  get_out k [] h = h
  get_out k (x ∷ xs) h = by (get_out k xs) (C k x) h
    where
      later : P k ⊎ AnyOf P xs → P k ⊎ (P x ⊎ AnyOf P xs)
      later (inl p) = inl p
      later (inr h) = inr (inr h)

      by : (AnyOf P (insert_key C xs k) → P k ⊎ AnyOf P xs) → (o : Ordering)
          → AnyOf P (match_ordering o (k ∷ x ∷ xs) (x ∷ xs) (x ∷ insert_key C xs k))
          → P k ⊎ (P x ⊎ AnyOf P xs)
      by more Less h = h
      by more Equal h = inr h
      by more Greater (inl p) = inr (inl p)
      by more Greater (inr h) = later (more h)

pub names_in : (P : List (List ℕ) → Type 0) (ns : List (List (List ℕ))) → AnyOf P ns → AnyOf P (in_order ns)
names_in P [] h = h
names_in P (n ∷ ns) (inl p) = put_in (slice_cmp text_cmp) texts_exact P n (in_order ns) (inl p)
names_in P (n ∷ ns) (inr h) = put_in (slice_cmp text_cmp) texts_exact P n (in_order ns) (inr (names_in P ns h))

pub names_out : (P : List (List ℕ) → Type 0) (ns : List (List (List ℕ))) → AnyOf P (in_order ns) → AnyOf P ns
names_out P [] h = h
names_out P (n ∷ ns) h = by (names_out P ns) (get_out (slice_cmp text_cmp) texts_exact P n (in_order ns) h)
  where
    by : (AnyOf P (in_order ns) → AnyOf P ns) → P n ⊎ AnyOf P (in_order ns) → P n ⊎ AnyOf P ns
    by more (inl p) = inl p
    by more (inr h) = inr (more h)

abbrev Action : Type 0
Action = List (List ℕ) × List ℕ

actions_exact : (a b : Action) → actions_cmp a b ≡ Equal → a ≡ b
actions_exact a b e =
    let both = then_equal (slice_cmp text_cmp a.0 b.0) (text_cmp a.1 b.1) e in
    λ i. (texts_exact a.0 b.0 both.0 i, text_exact a.1 b.1 both.1 i)

pub actions_in : (P : Action → Type 0) (xs : List Action) → AnyOf P xs → AnyOf P (actions_once xs)
actions_in P [] h = h
actions_in P (a ∷ xs) (inl p) = put_in actions_cmp actions_exact P a (actions_once xs) (inl p)
actions_in P (a ∷ xs) (inr h) = put_in actions_cmp actions_exact P a (actions_once xs) (inr (actions_in P xs h))

pub actions_out : (P : Action → Type 0) (xs : List Action) → AnyOf P (actions_once xs) → AnyOf P xs
actions_out P [] h = h
actions_out P (a ∷ xs) h = by (actions_out P xs) (get_out actions_cmp actions_exact P a (actions_once xs) h)
  where
    by : (AnyOf P (actions_once xs) → AnyOf P xs) → P a ⊎ AnyOf P (actions_once xs) → P a ⊎ AnyOf P xs
    by more (inl p) = inl p
    by more (inr h) = inr (more h)
