-- Names and actions that the order does not tell apart.
use Rattle.std.proofs.Common.{◌≡◌, ℕ, ◌+◌, ◌<◌, Bool, true, false, ◌&&◌, ◌||◌, List, [], ◌∷◌, ◌++◌, length, get_or}
use Rattle.std.proofs.Common.{take, map, refl, sym, ap, ◌∙◌, inl, inr}
use Rattle.std.specs.Prelude.{◌⊎◌}
use Rattle.std.specs.declared.cmp.Ordering.TheVariants.{Equal}
use Rattle.std.specs.Ordering.{is_eq}
use Rattle.std.specs.Cmp.{first_so, second_so}
use Rattle.std.specs.Cmp.Lexicographic.{slice_cmp, lists_ties}
use Rattle.std.specs.Cmp.Derive.Mapped.{pointwise-map}
use Rattle.std.specs.Str.{bytes_eq, encode_utf8_all}
use Rattle.std.specs.List.{list_any, insert}
use Rattle.std.proofs.lemmas.Bool.{cases_Bool, and_from}
use Rattle.std.proofs.lemmas.List.{map-append}
use Rattle.std.proofs.lemmas.List.Folds.{list_any-append, list_any_more, list_any_at}
use Rattle.std.proofs.lemmas.Slice.Eq.{bytes_eq-Decides}
use Rattle.std.proofs.lemmas.Map.Text.{is_eq-slice_cmp}
use Rattle.cedar_data.specs.Text.{text_cmp}
use Rattle.cedar_data.proofs.Lists.{list_any-map}
use Rattle.cedar_data.proofs.Orders.{is_eq_turned, is_eq_then}
use Rattle.cedar_identifiers.specs.Names.{components_of, texts_of}
use Rattle.cedar_identifiers.specs.declared.id.Id.{Id}
use Rattle.cedar_identifiers.specs.declared.internal_name.InternalName.{InternalName}
use Rattle.cedar_identifiers.proofs.Ids.{id_bytes}
use Rattle.cedar_names.specs.Definitions.{same_name, among, action_of, same_action, among_actions}
use Rattle.cedar_names.specs.Orders.{id_text_order, ids_of, ids_behind, names_in_order, ActionKey, action_key}
use Rattle.cedar_names.specs.Orders.{keys_in_order, uids_in_order, ids_total, keys_total}
use Rattle.cedar_names.specs.Rising.{PassesAlike}
use Rattle.cedar_names.specs.declared.entity_uid.EntityUID.{EntityUID}
use Rattle.cedar_names.proofs.Risen.{put_in}

alike_map : {K N : Type 0} (h : K → N) (f : N → Bool) (p : K → Bool) → ((k : K) → p k ≡ f (h k)) → (ks : List K)
    → list_any p ks ≡ list_any f (map h ks)
alike_map h f p same [] = refl
alike_map h f p same (k ∷ ks) = λ i. same k i || alike_map h f p same ks i

or_true : (a b : Bool) → a ≡ true → a ≡ (a || b)
or_true true b h = refl
or_true false b h = cc

or_false : (a b : Bool) → b ≡ false → a ≡ (a || b)
or_false true b h = refl
or_false false b h = sym h

same_ids : (i j : Id) → bytes_eq i.text j.text ≡ is_eq (id_text_order i j)
same_ids i j = sym (λ k. bytes_eq (id_bytes i.text i.word k) (id_bytes j.text j.word k))
    ∙ sym (is_eq-slice_cmp (encode_utf8_all i.text) (encode_utf8_all j.text))

pub same_lists : (xs ys : List Id) → is_eq (slice_cmp id_text_order xs ys) ≡ same_name (texts_of xs) (texts_of ys)
same_lists xs ys = sym (pointwise-map (λ i. i.text) bytes_eq xs ys ∙ lists_ties id_text_order same_ids xs ys)

same_keys : (a b : ActionKey) → is_eq (keys_in_order a b) ≡ same_action (texts_of a.0, a.1) (texts_of b.0, b.1)
same_keys a b = is_eq_then (slice_cmp id_text_order a.0 b.0) (text_cmp a.1 b.1)
    ∙ (λ i. same_lists a.0 b.0 i && is_eq-slice_cmp (encode_utf8_all a.1) (encode_utf8_all b.1) i)

-- what a search among names, or among actions, tells
pub name_sought : (q : List Id) (ks : List InternalName)
    → list_any (λ x. is_eq (slice_cmp id_text_order (ids_of x) q)) ks ≡ among (map components_of ks) (texts_of q)
name_sought q ks = alike_map components_of (same_name (texts_of q)) (λ x. is_eq (slice_cmp id_text_order (ids_of x) q))
    (λ x. is_eq_turned ids_total (ids_of x) q ∙ same_lists q (ids_of x)) ks

pub action_sought : (q : ActionKey) (ks : List EntityUID)
    → list_any (λ x. is_eq (keys_in_order (action_key x) q)) ks ≡ among_actions (map action_of ks) (texts_of q.0, q.1)
action_sought q ks = alike_map action_of (same_action (texts_of q.0, q.1))
    (λ x. is_eq (keys_in_order (action_key x) q))
    (λ x. is_eq_turned keys_total (action_key x) q ∙ same_keys q (action_key x)) ks

pub texts_behind : (namespace : InternalName) (last : Id)
    → texts_of (ids_behind namespace last) ≡ components_of namespace ++ last.text ∷ []
texts_behind namespace last = ap (λ texts. namespace.first.text ∷ texts)
    (map-append (λ (i : Id). i.text) namespace.others (last ∷ []))

-- names that are the same are equal
pub equal_names : (a b : List (List ℕ)) → same_name a b ≡ true → a ≡ b
equal_names [] [] h = refl
equal_names [] (y ∷ ys) h = cc
equal_names (x ∷ xs) [] h = cc
equal_names (x ∷ xs) (y ∷ ys) h =
    λ i. (bytes_eq-Decides x y).0 (first_so (bytes_eq x y) (same_name xs ys) h) i ∷ equal_names xs ys
    (second_so (bytes_eq x y) (same_name xs ys) h) i

pub name_itself : (n : List (List ℕ)) → same_name n n ≡ true
name_itself [] = refl
name_itself (x ∷ xs) =
    and_from (bytes_eq x x) (same_name xs xs) ((bytes_eq-Decides x x).1 refl) (name_itself xs)

same_to_name : (n a b : List (List ℕ)) → same_name a b ≡ true → same_name n a ≡ same_name n b
same_to_name n a b h = ap (same_name n) (equal_names a b h)

abbrev ids_alike : List (List ℕ) × List ℕ → List (List ℕ) × List ℕ → Type 0
ids_alike a b = (a.0 ≡ b.0) × (encode_utf8_all a.1 ≡ encode_utf8_all b.1)

equal_actions : (a b : List (List ℕ) × List ℕ) → same_action a b ≡ true → ids_alike a b
equal_actions a b h = (
  equal_names a.0 b.0 (first_so (same_name a.0 b.0) (bytes_eq (encode_utf8_all a.1) (encode_utf8_all b.1)) h),
  (bytes_eq-Decides (encode_utf8_all a.1) (encode_utf8_all b.1)).0
      (second_so (same_name a.0 b.0) (bytes_eq (encode_utf8_all a.1) (encode_utf8_all b.1)) h),
)

same_to_action : (n a b : List (List ℕ) × List ℕ) → same_action a b ≡ true → same_action n a ≡ same_action n b
same_to_action n a b h = let e = equal_actions a b h in
    λ i. same_name n.0 (e.0 i) && bytes_eq (encode_utf8_all n.1) (e.1 i)

from_same_action : (a b : List (List ℕ) × List ℕ) (xs : List (List (List ℕ) × List ℕ)) → same_action a b ≡ true
    → among_actions xs a ≡ among_actions xs b
from_same_action a b [] h = refl
from_same_action a b (x ∷ xs) h =
    let e = equal_actions a b h in
    λ i. (same_name (e.0 i) x.0 && bytes_eq (e.1 i) (encode_utf8_all x.1)) || from_same_action a b xs h i

-- a name, or an action, that is there already
pub name_there : (old : List (List (List ℕ))) (name : List (List ℕ)) → among old name ≡ true → (n : List (List ℕ))
    → among old n ≡ (among old n || same_name n name)
name_there old name there n = go (cases_Bool (same_name n name))
  where
    go : (same_name n name ≡ true) ⊎ (same_name n name ≡ false) → among old n ≡ (among old n || same_name n name)
    go (inl e) = or_true (among old n) (same_name n name) (ap (among old) (equal_names n name e) ∙ there)
    go (inr e) = or_false (among old n) (same_name n name) e

pub action_there : (old : List (List (List ℕ) × List ℕ)) (action : List (List ℕ) × List ℕ)
    → among_actions old action ≡ true → (n : List (List ℕ) × List ℕ)
    → among_actions old n ≡ (among_actions old n || same_action n action)
action_there old action there n = go (cases_Bool (same_action n action))
  where
    go : (same_action n action ≡ true) ⊎ (same_action n action ≡ false)
        → among_actions old n ≡ (among_actions old n || same_action n action)
    go (inl e) = or_true (among_actions old n) (same_action n action) (from_same_action n action old e ∙ there)
    go (inr e) = or_false (among_actions old n) (same_action n action) e

-- a name that the order does not tell from one of these
pub name_at : (ks : List InternalName) (i : ℕ) (k name : InternalName) → i < length ks → k ≡ get_or ks i k
    → names_in_order k name ≡ Equal → among (map components_of ks) (components_of name) ≡ true
name_at ks i k name h at e =
    sym (name_sought (ids_of name) ks)
    ∙ list_any_at (λ x. is_eq (names_in_order x name)) ks i k h
    (ap (λ x. is_eq (names_in_order x name)) (sym at) ∙ ap is_eq e)

pub name_put_in : (ks : List InternalName) (at : ℕ) (k : InternalName) (n : List (List ℕ))
    → among (map components_of (insert ks at k)) n ≡ (among (map components_of ks) n || same_name n (components_of k))
name_put_in ks at k n =
    list_any-map (same_name n) components_of (insert ks at k) ∙ put_in (λ x. same_name n (components_of x)) ks at k
    ∙ ap (λ b. b || same_name n (components_of k)) (sym (list_any-map (same_name n) components_of ks))

pub action_put_in : (ks : List EntityUID) (at : ℕ) (k : EntityUID) (n : List (List ℕ) × List ℕ)
    → among_actions (map action_of (insert ks at k)) n
    ≡ (among_actions (map action_of ks) n || same_action n (action_of k))
action_put_in ks at k n =
    list_any-map (same_action n) action_of (insert ks at k) ∙ put_in (λ x. same_action n (action_of x)) ks at k
    ∙ ap (λ b. b || same_action n (action_of k)) (sym (list_any-map (same_action n) action_of ks))

-- sorted names, and actions, are those that they were before
pub names_sorted : (old new : List InternalName) → PassesAlike names_in_order old new → (n : List (List ℕ))
    → among (map components_of new) n ≡ among (map components_of old) n
names_sorted old new same n =
    list_any-map (same_name n) components_of new
    ∙ same (λ x. same_name n (components_of x))
    (λ x y e. same_to_name n (components_of x) (components_of y) (sym (same_lists (ids_of x) (ids_of y)) ∙ e))
    ∙ sym (list_any-map (same_name n) components_of old)

pub actions_sorted : (old new : List EntityUID) → PassesAlike uids_in_order old new → (n : List (List ℕ) × List ℕ)
    → among_actions (map action_of new) n ≡ among_actions (map action_of old) n
actions_sorted old new same n =
    list_any-map (same_action n) action_of new
    ∙ same (λ x. same_action n (action_of x))
    (λ x y e. same_to_action n (action_of x) (action_of y) (sym (same_keys (action_key x) (action_key y)) ∙ e))
    ∙ sym (list_any-map (same_action n) action_of old)

-- some names, and behind them others
pub names_joined : (xs ys : List InternalName) (n : List (List ℕ))
    → among (map components_of (xs ++ ys)) n ≡ (among (map components_of xs) n || among (map components_of ys) n)
names_joined xs ys n = ap (list_any (same_name n)) (map-append components_of xs ys)
    ∙ list_any-append (same_name n) (map components_of xs) (map components_of ys)

-- the type of the next action
pub type_more : (actions : List EntityUID) (i : ℕ) (d : EntityUID) (n : List (List ℕ)) → i < length actions
    → d ≡ get_or actions i d
    → (among (map (λ a. a.0) (map action_of (take i actions))) n || same_name n (components_of d.ty.name))
    ≡ among (map (λ a. a.0) (map action_of (take (i + 1) actions))) n
type_more actions i d n h e =
    let test : EntityUID → Bool = λ a. same_name n (components_of a.ty.name) in
    let types : (l : List EntityUID)
    → among (map (λ a. a.0) (map action_of l)) n ≡ list_any test l =
    λ l. list_any-map (same_name n) (λ (a : List (List ℕ) × List ℕ). a.0) (map action_of l)
    ∙ list_any-map (λ a. same_name n a.0) action_of l in
    (λ k. types (take i actions) k || test (e k)) ∙ sym (list_any_more test actions i d h)
    ∙ sym (types (take (i + 1) actions))
