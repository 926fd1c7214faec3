-- The entries of an object and the items of a list, written one after another.
use Rattle.std.proofs.Common.{◌≡◌, ℕ, ◌+◌, ◌<◌, ◌≤◌, Bool, true, List, [], ◌∷◌, ◌++◌, length, get_or, drop, map}
use Rattle.std.proofs.Common.{sym, ap, ◌∙◌, append_assoc}
use Rattle.std.proofs.lemmas.List.{drop_more, drop_all}
use Rattle.json.specs.Print.{quoted}
use Rattle.serde_json.specs.Data.{Data}
use Rattle.serde_json.specs.View.{items_of}
use Rattle.serde_json.specs.Written.{comma_if, compact_text, items_text, members_text}
use Rattle.schema_json_text.specs.Members.{members_in_order}

regroup : (now c q t r : List ℕ)
    → ((now ++ (c ++ (q ++ 58 ∷ []))) ++ t) ++ r ≡ now ++ (c ++ (q ++ 58 ∷ (t ++ r)))
regroup now c q t r = simp append_assoc

regroup_item : (now c t r : List ℕ) → ((now ++ c) ++ t) ++ r ≡ now ++ (c ++ (t ++ r))
regroup_item now c t r = simp append_assoc

-- a bracket that opens
pub opened : (old new rest : List ℕ) (b : ℕ) → new ≡ old ++ b ∷ [] → new ++ rest ≡ old ++ b ∷ rest
opened old new rest b e = ap (λ t. t ++ rest) e ∙ append_assoc old (b ∷ []) rest

module _ {X : Type 0} (f : X → List ℕ × Data) (es : List X) (i : ℕ) (x : X) (later : Bool) (now all : List ℕ) where
  -- one entry more
  pub entry_step : (name key new : List ℕ) → i < length es → x ≡ get_or es i x → name ≡ (f x).0
      → key ≡ now ++ (comma_if later ++ (quoted name ++ 58 ∷ [])) → new ≡ key ++ compact_text (f x).1
      → now ++ members_text later (members_in_order (map f (drop i es))) ≡ all
      → new ++ members_text true (members_in_order (map f (drop (i + 1) es))) ≡ all
  entry_step name key new h is named k n e =
      let here : drop i es ≡ x ∷ drop (i + 1) es = drop_more es i x h ∙ ap (λ y. y ∷ drop (i + 1) es) (sym is) in
      let rest = members_text true (members_in_order (map f (drop (i + 1) es))) in
      ap (λ s. s ++ rest) (n ∙ ap (λ s. s ++ compact_text (f x).1)
      (k ∙ ap (λ s. now ++ (comma_if later ++ (quoted s ++ 58 ∷ []))) named))
      ∙ regroup now (comma_if later) (quoted (f x).0) (compact_text (f x).1) rest
      ∙ sym (ap (λ d. now ++ members_text later (members_in_order (map f d))) here) ∙ e

module _ {X : Type 0} (f : X → List ℕ × Data) (es : List X) (i : ℕ) (later : Bool) (now all : List ℕ) where
  -- all entries
  pub entries_end : (new : List ℕ) → length es ≤ i → new ≡ now ++ 125 ∷ []
      → now ++ members_text later (members_in_order (map f (drop i es))) ≡ all → new ≡ all
  entries_end new h n e = n ∙ sym (ap (λ d. now ++ members_text later (members_in_order (map f d))) (drop_all i es h))
      ∙ e

module _ (later : Bool) (now all : List ℕ) where
  -- the next item
  pub item_next : (d : Data) (ds : List Data) (comma new : List ℕ) → comma ≡ now ++ comma_if later
      → new ≡ comma ++ compact_text d → now ++ items_text later (items_of (d ∷ ds)) ≡ all
      → new ++ items_text true (items_of ds) ≡ all
  item_next d ds comma new k n e =
      ap (λ s. s ++ items_text true (items_of ds)) (n ∙ ap (λ s. s ++ compact_text d) k)
      ∙ regroup_item now (comma_if later) (compact_text d) (items_text true (items_of ds)) ∙ e

module _ {X : Type 0} (f : X → Data) (xs : List X) (i : ℕ) (x : X) (later : Bool) (now all : List ℕ) where
  -- one item more
  pub item_step : (comma new : List ℕ) → i < length xs → x ≡ get_or xs i x → comma ≡ now ++ comma_if later
      → new ≡ comma ++ compact_text (f x) → now ++ items_text later (items_of (map f (drop i xs))) ≡ all
      → new ++ items_text true (items_of (map f (drop (i + 1) xs))) ≡ all
  item_step comma new h is k n e =
      let here : drop i xs ≡ x ∷ drop (i + 1) xs = drop_more xs i x h ∙ ap (λ y. y ∷ drop (i + 1) xs) (sym is) in
      item_next later now all (f x) (map f (drop (i + 1) xs)) comma new k n
      (sym (ap (λ d. now ++ items_text later (items_of (map f d))) here) ∙ e)

module _ {X : Type 0} (f : X → Data) (xs : List X) (later : Bool) (now all : List ℕ) where
  -- no item is left
  pub items_over : (new : List ℕ) → xs ≡ [] → new ≡ now ++ 93 ∷ [] → now ++ items_text later (items_of (map f xs)) ≡ all
      → new ≡ all
  items_over new none n e = n ∙ sym (ap (λ d. now ++ items_text later (items_of (map f d))) none) ∙ e

module _ {X : Type 0} (f : X → Data) (xs : List X) (i : ℕ) (later : Bool) (now all : List ℕ) where
  -- all items
  pub items_end : (new : List ℕ) → length xs ≤ i → new ≡ now ++ 93 ∷ []
      → now ++ items_text later (items_of (map f (drop i xs))) ≡ all → new ≡ all
  items_end new h n e = items_over f (drop i xs) later now all new (drop_all i xs h) n e
