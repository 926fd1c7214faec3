-- Rows of texts, and lists that are sorted, each item once.
use Rattle.std.proofs.Common.{◌≡◌, ℕ, ◌+◌, ◌-◌, suc, ◌<◌, Bool, true, false, List, [], ◌∷◌, ◌++◌, codes, map, length}
use Rattle.std.proofs.Common.{drop, drop-cons, get_or, add-one, refl, ap, sym, ◌∙◌, append_assoc, arith, ◌==◌}
use Rattle.std.specs.declared.cmp.Ordering.{Ordering}
use Rattle.std.specs.declared.cmp.Ordering.TheVariants.{Less, Equal, Greater}
use Rattle.std.specs.Ordering.{match_ordering, ordering_then}
use Rattle.std.specs.BTreeSet.{insert_key}
use Rattle.std.specs.Cmp.Lexicographic.{slice_cmp}
use Rattle.std.proofs.lemmas.List.{append-nil}
use Rattle.std.proofs.lemmas.Bool.{eqb-true}
use Rattle.std.proofs.Common.{String, string_bytes}
use denote.Ref.{Bor}
use Rattle.cedar_data.specs.Text.{text_cmp}
use Rattle.cedar_data.specs.Rows.{joined_by, separator_where, row_behind}
use Rattle.cedar_data.proofs.Lists.{map-map}
use Rattle.cedar_identifiers.specs.Names.{components_of, name_text}
use Rattle.cedar_identifiers.specs.declared.id.Id.{Id}
use Rattle.cedar_identifiers.specs.declared.name.Name.{Name}
use Rattle.cedar_identifiers.proofs.Ordered.{ids_cmp}
use Rattle.cedar_names.specs.CanonicalText.{in_order, list_text, parents_text, action_name_text}
use Rattle.cedar_names.specs.Definitions.{action_of}
use Rattle.cedar_names.specs.declared.entity_uid.EntityUID.{EntityUID}
use Rattle.schema_build_types.specs.Content.{names_content, actions_in_order, actions_cmp}
use Rattle.schema_build_text.specs.Growing.{Leaves}
use Rattle.schema_build_text.specs.Readings.{first_name}
use Rattle.schema_build_text.specs.Rows.{sorted_once}

pub dropped_all : {A : Type 0} (xs : List A) → drop (length xs) xs ≡ []
dropped_all [] = refl
dropped_all (x ∷ xs) = dropped_all xs

-- what is left is what is to be written
pub begun_as : {Z : Type 0} (a : String Z) (left all : List ℕ) → left ≡ all → Leaves a a left all
begun_as a left all e = record { meets = ap (λ t. string_bytes a ++ t) e }

-- the item at a place, and those behind it
pub dropped : {A : Type 0} (xs : List A) (i : ℕ) (d : A) → i < length xs → d ≡ get_or xs i d
    → drop i xs ≡ d ∷ drop (i + 1) xs
dropped xs i d h e = rw (add-one, drop-cons xs i d) (ap (λ x. x ∷ drop (suc i) xs) (sym e))

-- one more text, and those after it
pub row_step : {A : Type 0} (f : A → List ℕ) (separator : List ℕ) (b : Bool) (xs : List A) (i : ℕ) (d : A)
    → i < length xs
    → d ≡ get_or xs i d
    → row_behind separator b (map f (drop i xs)) ≡ (separator_where separator b ++ f d)
    ++ row_behind separator true (map f (drop (i + 1) xs))
row_step f separator b xs i d h e =
    ap (λ ys. row_behind separator b (map f ys)) (dropped xs i d h e)
    ∙ sym (append_assoc (separator_where separator b) (f d) (row_behind separator true (map f (drop (i + 1) xs))))

pub row_front : {A : Type 0} (f : A → List ℕ) (separator : List ℕ) (b : Bool) (xs ys : List A) (d : A) → xs ≡ d ∷ ys
    → row_behind separator b (map f xs) ≡ (separator_where separator b ++ f d) ++ row_behind separator true (map f ys)
row_front f separator b xs ys d e =
    ap (λ l. row_behind separator b (map f l)) e
    ∙ sym (append_assoc (separator_where separator b) (f d) (row_behind separator true (map f ys)))

pub joined_row : (separator : List ℕ) (ts : List (List ℕ)) → row_behind separator false ts ≡ joined_by separator ts
joined_row separator [] = refl
joined_row separator (t ∷ []) = append-nil t
joined_row separator (t ∷ u ∷ ts) = ap (λ x. t ++ (separator ++ x)) (joined_row separator (u ∷ ts))

module _ {A B : Type 0} (f : A → B) (C : A → A → Ordering) (D : B → B → Ordering)
    (same : (x y : A) → C x y ≡ D (f x) (f y)) where
  chosen : (o : Ordering) (xs ys zs : List A)
      → map f (match_ordering o xs ys zs) ≡ match_ordering o (map f xs) (map f ys) (map f zs)
  chosen Less xs ys zs = refl
  chosen Equal xs ys zs = refl
  chosen Greater xs ys zs = refl

  pub insert_map : (ks : List A) (k : A) → map f (insert_key C ks k) ≡ insert_key D (map f ks) (f k)
  insert_map [] k = refl
  insert_map (x ∷ xs) k =
      chosen (C k x) (k ∷ x ∷ xs) (x ∷ xs) (x ∷ insert_key C xs k)
      ∙ ap (λ o. match_ordering o (f k ∷ f x ∷ map f xs) (f x ∷ map f xs) (f x ∷ map f (insert_key C xs k))) (same k x)
      ∙ ap (λ l. match_ordering (D (f k) (f x)) (f k ∷ f x ∷ map f xs) (f x ∷ map f xs) (f x ∷ l)) (insert_map xs k)

  pub sorted_map : (xs : List A) → map f (sorted_once C xs) ≡ sorted_once D (map f xs)
  sorted_map [] = refl
  sorted_map (x ∷ xs) = insert_map (sorted_once C xs) x ∙ ap (λ l. insert_key D l (f x)) (sorted_map xs)

pub in_order_is : (ns : List (List (List ℕ))) → in_order ns ≡ sorted_once (slice_cmp text_cmp) ns
in_order_is [] = refl
in_order_is (n ∷ ns) = ap (λ l. insert_key (slice_cmp text_cmp) l n) (in_order_is ns)

pub actions_in_order_is : (us : List EntityUID) → actions_in_order us ≡ sorted_once actions_cmp (map action_of us)
actions_in_order_is [] = refl
actions_in_order_is (a ∷ us) = ap (λ l. insert_key actions_cmp l (action_of a)) (actions_in_order_is us)

-- names that are sorted by their order
pub names_sorted : (C : Name → Name → Ordering)
    → ((x y : Name) → C x y ≡ slice_cmp text_cmp (components_of x.name) (components_of y.name)) → (names : List Name)
    → map (λ n. components_of n.name) (sorted_once C names) ≡ names_content names
names_sorted C same names =
    sorted_map (λ n. components_of n.name) C (slice_cmp text_cmp) same names
    ∙ sym (in_order_is (map (λ n. components_of n.name) names))

pub names_shown : (C : Name → Name → Ordering)
    → ((x y : Name) → C x y ≡ slice_cmp text_cmp (components_of x.name) (components_of y.name)) → (names : List Name)
    → map (λ n. name_text (components_of n.name)) (sorted_once C names) ≡ map name_text (names_content names)
names_shown C same names =
    sym (map-map name_text (λ n. components_of n.name) (sorted_once C names))
    ∙ ap (map name_text) (names_sorted C same names)

-- and actions
pub actions_sorted : (C : EntityUID → EntityUID → Ordering)
    → ((x y : EntityUID) → C x y ≡ actions_cmp (action_of x) (action_of y)) → (actions : List EntityUID)
    → map action_of (sorted_once C actions) ≡ actions_in_order actions
actions_sorted C same actions = sorted_map action_of C actions_cmp same actions ∙ sym (actions_in_order_is actions)

pub actions_shown : (C : EntityUID → EntityUID → Ordering)
    → ((x y : EntityUID) → C x y ≡ actions_cmp (action_of x) (action_of y)) → (actions : List EntityUID)
    → map (λ a. action_name_text (action_of a)) (sorted_once C actions)
    ≡ map action_name_text (actions_in_order actions)
actions_shown C same actions =
    sym (map-map action_name_text action_of (sorted_once C actions))
    ∙ ap (map action_name_text) (actions_sorted C same actions)

-- the order of names is that of their components
pub names_go : (C : Id → Id → Ordering) → ((x y : Id) → C x y ≡ text_cmp x.text y.text) → (a b : Name)
    → ordering_then (text_cmp a.name.first.text b.name.first.text) (slice_cmp C a.name.others b.name.others)
    ≡ slice_cmp text_cmp (components_of a.name) (components_of b.name)
names_go C e a b = ap (ordering_then (text_cmp a.name.first.text b.name.first.text))
    (ids_cmp C e a.name.others b.name.others)

-- the first of names that are sorted, lent
pub least_shown : (C : Name → Name → Ordering)
    → ((x y : Name) → C x y ≡ slice_cmp text_cmp (components_of x.name) (components_of y.name)) → (names : List Name)
    → (lent : List (Bor Name)) (keys rest : List (Bor (Bor Name))) (k : Bor (Bor Name)) → map (λ n. n.now) lent ≡ names
    → map (λ x. x.now) keys ≡ sorted_once (λ x y. C x.now y.now) lent → keys ≡ k ∷ rest
    → name_text (components_of k.now.now.name) ≡ name_text (first_name (names_content names))
least_shown C same names lent keys rest k e f h =
    let all : map (λ (n : Name). components_of n.name)
    (map (λ (x : Bor Name). x.now) (map (λ (x : Bor (Bor Name)). x.now) keys)) ≡ names_content names =
    ap (λ l. map (λ (n : Name). components_of n.name) (map (λ (x : Bor Name). x.now) l)) f
    ∙ (ap (map (λ (n : Name). components_of n.name))
    (sorted_map (λ (x : Bor Name). x.now) (λ x y. C x.now y.now) C (λ x y. refl) lent ∙ ap (sorted_once C) e)
    ∙ names_sorted C same names) in
    ap (λ l. name_text (first_name
    (map (λ (n : Name). components_of n.name)
    (map (λ (x : Bor Name). x.now) (map (λ (x : Bor (Bor Name)). x.now) l))))) (sym h)
    ∙ ap (λ l. name_text (first_name l)) all

pub none_shown : (C : Name → Name → Ordering)
    → ((x y : Name) → C x y ≡ slice_cmp text_cmp (components_of x.name) (components_of y.name)) → (names : List Name)
    → (lent : List (Bor Name)) (keys : List (Bor (Bor Name))) → map (λ n. n.now) lent ≡ names
    → map (λ x. x.now) keys ≡ sorted_once (λ x y. C x.now y.now) lent → keys ≡ []
    → [] ≡ name_text (first_name (names_content names))
none_shown C same names lent keys e f h =
    let all : map (λ (n : Name). components_of n.name)
    (map (λ (x : Bor Name). x.now) (map (λ (x : Bor (Bor Name)). x.now) keys)) ≡ names_content names =
    ap (λ l. map (λ (n : Name). components_of n.name) (map (λ (x : Bor Name). x.now) l)) f
    ∙ (ap (map (λ (n : Name). components_of n.name))
    (sorted_map (λ (x : Bor Name). x.now) (λ x y. C x.now y.now) C (λ x y. refl) lent ∙ ap (sorted_once C) e)
    ∙ names_sorted C same names) in
    ap (λ l. name_text (first_name
    (map (λ (n : Name). components_of n.name)
    (map (λ (x : Bor Name). x.now) (map (λ (x : Bor (Bor Name)). x.now) l))))) (sym h)
    ∙ ap (λ l. name_text (first_name l)) all

-- nothing is left where no item is
pub none_left : {A : Type 0} (xs : List A) → (0 < length xs → false ≡ true) → xs ≡ []
none_left [] f = refl
none_left (x ∷ xs) f = absurd (let no = f (omega arith) in cc)

-- items that rise are sorted, each once
module _ {A : Type 0} (C : A → A → Ordering) where
  pub last_rises : (xs : List A) → sorted_once C (drop (length xs - 1) xs) ≡ drop (length xs - 1) xs
  last_rises [] = refl
  last_rises (x ∷ []) = refl
  last_rises (x ∷ y ∷ xs) =
      let less : length (x ∷ y ∷ xs) - 1 ≡ suc (length (y ∷ xs) - 1) = omega arith in
      rw less (last_rises (y ∷ xs))

  -- one more item, before those that are sorted
  pub sorted_more : (xs : List A) (i j : ℕ) (x : A) → j ≡ i + 1 → i < length xs → x ≡ get_or xs i x
      → insert_key C (sorted_once C (drop j xs)) x ≡ sorted_once C (drop i xs)
  sorted_more xs i j x n h e =
      ap (λ k. insert_key C (sorted_once C (drop k xs)) x) n ∙ sym (ap (sorted_once C) (dropped xs i x h e))

pub no_items : {A : Type 0} (xs : List A) → (length xs == 0) ≡ true → xs ≡ []
no_items [] h = refl
no_items (x ∷ xs) h = absurd (omega (arith, eqb-true (length (x ∷ xs)) 0 h))

pub no_parents : {A : Type 0} (f : A → List ℕ) (C : A → A → Ordering) (xs : List A) → (length xs == 0) ≡ true
    → [] ≡ parents_text (map f (sorted_once C xs))
no_parents f C xs h = sym (ap (λ l. parents_text (map f (sorted_once C l))) (no_items xs h))

-- what is inserted into, is not empty
inserted : {A : Type 0} (C : A → A → Ordering) (P : List A → Type 0) → ((y : A) (ys : List A) → P (y ∷ ys))
    → (ks : List A) (k : A)
    → P (insert_key C ks k)
inserted C P p [] k = p k []
inserted C P p (x ∷ xs) k = by (C k x)
  where
    by : (o : Ordering) → P (match_ordering o (k ∷ x ∷ xs) (x ∷ xs) (x ∷ insert_key C xs k))
    by Less = p k (x ∷ xs)
    by Equal = p x xs
    by Greater = p x (insert_key C xs k)

pub some_sorted : {A : Type 0} (C : A → A → Ordering) (P : List A → Type 0) → ((y : A) (ys : List A) → P (y ∷ ys))
    → (xs : List A)
    → (length xs == 0) ≡ false → P (sorted_once C xs)
some_sorted C P p [] h = absurd (cc)
some_sorted C P p (x ∷ xs) h = inserted C P p (sorted_once C xs) x

pub some_parents : {A : Type 0} (f : A → List ℕ) (C : A → A → Ordering) (xs : List A) → (length xs == 0) ≡ false
    → codes " in " ++ list_text (map f (sorted_once C xs)) ≡ parents_text (map f (sorted_once C xs))
some_parents f C xs h = some_sorted C (λ l. codes " in " ++ list_text (map f l) ≡ parents_text (map f l))
    (λ y ys. refl) xs h
