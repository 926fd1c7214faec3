-- Equality of names and of actions as it is derived, by their components.
use Rattle.std.proofs.Common.{◌≡◌, ◌↔◌, ℕ, Bool, true, false, cond, ◌&&◌, ◌||◌, List, [], ◌∷◌, map, Option, Some}
use Rattle.std.proofs.Common.{None, refl}
use Rattle.std.proofs.Common.{sym, ap, ◌∙◌}
use Rattle.std.specs.Borrow.{Bor}
use Rattle.std.specs.Cmp.Lexicographic.{pointwise}
use Rattle.std.specs.List.{list_any, find}
use Rattle.std.specs.Option.{option_map}
use Rattle.std.specs.Str.{bytes_eq, encode_utf8_all}
use Rattle.std.proofs.lemmas.Slice.Eq.{bytes_eq-Decides}
use Rattle.cedar_identifiers.specs.Names.{components_of}
use Rattle.cedar_identifiers.specs.declared.id.Id.{Id}
use Rattle.cedar_identifiers.specs.declared.internal_name.InternalName.{InternalName}
use Rattle.cedar_identifiers.proofs.Ordered.{same, texts_equal}
use Rattle.cedar_names.specs.Definitions.{same_name}
use Rattle.schema_inclusion_values.specs.Ids.{has_text, lost_choice}
use Rattle.schema_inclusion_types.proofs.Ties.{name_test, bytes_test, same_test}

module _ (E : Id → Id → Bool) (e : (x y : Id) → E x y ≡ same x.text y.text) where
  pub names_test : (a b : InternalName) → (same a.first.text b.first.text && pointwise E a.others b.others)
      ≡ same_name (components_of a) (components_of b)
  names_test a b =
      let all = texts_equal E e (a.first ∷ a.others) (b.first ∷ b.others) in
      ap (λ t. t && pointwise E a.others b.others) (sym (e a.first b.first))
      ∙ name_test (pointwise E (a.first ∷ a.others) (b.first ∷ b.others)) (components_of a) (components_of b) all

-- whether one is equal, by what the items stand for
pub any_seen : {A K : Type 0} (key : A → K) (eq : A → A → Bool) (test : K → K → Bool)
    → ((x y : A) → eq x y ≡ test (key x) (key y)) → (x : A) (ys : List A)
    → list_any (eq x) ys ≡ list_any (test (key x)) (map key ys)
any_seen key eq test tells x [] = refl
any_seen key eq test tells x (y ∷ ys) = λ i. tells x y i || any_seen key eq test tells x ys i

-- the first that is missing, by what the items stand for
pub missing_seen : {A K : Type 0} (key : A → K) (eq : A → A → Bool) (test : K → K → Bool)
    → ((x y : A) → eq x y ≡ test (key x) (key y)) → (xs ys : List A)
    → option_map key (find (λ a. cond (list_any (eq a) ys) false true) xs)
    ≡ find (λ a. cond (list_any (test a) (map key ys)) false true) (map key xs)
missing_seen key eq test tells [] ys = refl
missing_seen key eq test tells (x ∷ xs) ys =
    by (list_any (eq x) ys) refl (missing_seen key eq test tells xs ys)
  where
    by : (b : Bool) → list_any (eq x) ys ≡ b
        → option_map key (find (λ a. cond (list_any (eq a) ys) false true) xs)
        ≡ find (λ a. cond (list_any (test a) (map key ys)) false true) (map key xs)
        → option_map key (cond (cond (list_any (eq x) ys) false true) (Some x)
        (find (λ a. cond (list_any (eq a) ys) false true) xs))
        ≡ cond (cond (list_any (test (key x)) (map key ys)) false true) (Some (key x))
        (find (λ a. cond (list_any (test a) (map key ys)) false true) (map key xs))
    by true e rest =
        ap (λ b. option_map key (cond (cond b false true) (Some x) (find (λ a. cond (list_any
        (eq a) ys) false true) xs))) e
        ∙ (rest ∙ ap (λ b. cond (cond b false true) (Some (key x))
        (find (λ a. cond (list_any (test a) (map key ys)) false true) (map key xs)))
        (sym (sym (any_seen key eq test tells x ys) ∙ e)))
    by false e rest =
        ap (λ b. option_map key (cond (cond b false true) (Some x) (find (λ a. cond (list_any
        (eq a) ys) false true) xs))) e
        ∙ ap (λ b. cond (cond b false true) (Some (key x))
        (find (λ a. cond (list_any (test a) (map key ys)) false true) (map key xs)))
        (sym (sym (any_seen key eq test tells x ys) ∙ e))

bytes_back : (v w : List ℕ) → bytes_eq v w ≡ bytes_eq w v
bytes_back v w =
    let p = bytes_eq-Decides v w in
    let q = bytes_eq-Decides w v in
    same_test (bytes_eq v w) (bytes_eq w v) (λ h. q.1 (sym (p.0 h))) (λ h. p.1 (sym (q.0 h)))

any_text : (t : List ℕ) (cs : List (List ℕ)) → list_any (bytes_eq t) cs ≡ has_text cs t
any_text t [] = refl
any_text t (c ∷ cs) = λ i. bytes_back t c i || any_text t cs i

swapped : (b : Bool) (c : List ℕ) (o : Option (List ℕ)) → cond (cond b false true) (Some c) o ≡ cond b o (Some c)
swapped true c o = refl
swapped false c o = refl

pub missing_text : (old new : List (List ℕ))
    → find (λ a. cond (list_any (bytes_eq a) new) false true) old ≡ lost_choice old new
missing_text [] new = refl
missing_text (c ∷ old) new =
    (λ i. cond (cond (any_text c new i) false true) (Some c) (missing_text old new i))
    ∙ swapped (has_text new c) c (lost_choice old new)
