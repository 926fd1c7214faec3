-- The types of actions, by which actions there are.
use Rattle.std.proofs.Common.{◌≡◌, ℕ, Bool, true, false, List, [], ◌∷◌, map, refl, sym, ap, ◌∙◌, inl, inr}
use Rattle.std.specs.Prelude.{◌⊎◌}
use Rattle.std.specs.Str.{bytes_eq, encode_utf8_all}
use Rattle.std.specs.Cmp.{first_so}
use Rattle.std.proofs.lemmas.Bool.{or_cases, and_from, or_left, or_right}
use Rattle.std.proofs.lemmas.Slice.Eq.{bytes_eq-Decides}
use Rattle.cedar_names.specs.Definitions.{among, among_actions, same_name, same_action}
use Rattle.cedar_names.proofs.Defined.{equal_names, name_itself}

abbrev Action : Type 0
Action = List (List ℕ) × List ℕ

abbrev types_of : List (List (List ℕ) × List ℕ) → List (List (List ℕ))
types_of xs = map (λ a. a.0) xs

same_bool : (a b : Bool) → (a ≡ true → b ≡ true) → (b ≡ true → a ≡ true) → a ≡ b
same_bool true b f g = sym (f refl)
same_bool false true f g = g refl
same_bool false false f g = refl

action_itself : (a : Action) → same_action a a ≡ true
action_itself a = and_from (same_name a.0 a.0) (bytes_eq (encode_utf8_all a.1) (encode_utf8_all a.1))
    (name_itself a.0) ((bytes_eq-Decides (encode_utf8_all a.1) (encode_utf8_all a.1)).1 refl)

-- the type of an action that is there
type_there : (ys : List Action) (x : Action) → among_actions ys x ≡ true → among (types_of ys) x.0 ≡ true
type_there [] x h = cc
type_there (y ∷ ys) x h = go (type_there ys x) (or_cases (same_action x y) (among_actions ys x) h)
  where
    go : (among_actions ys x ≡ true → among (types_of ys) x.0 ≡ true)
        → (same_action x y ≡ true) ⊎ (among_actions ys x ≡ true) → among (types_of (y ∷ ys)) x.0 ≡ true
    go more (inl here) = or_left (same_name x.0 y.0) (among (types_of ys) x.0)
        (first_so (same_name x.0 y.0) (bytes_eq (encode_utf8_all x.1) (encode_utf8_all y.1)) here)
    go more (inr later) = or_right (same_name x.0 y.0) (among (types_of ys) x.0) (more later)

types_within : (xs ys : List Action) → ((a : Action) → among_actions xs a ≡ true → among_actions ys a ≡ true)
    → (n : List (List ℕ)) → among (types_of xs) n ≡ true → among (types_of ys) n ≡ true
types_within [] ys within n h = cc
types_within (x ∷ xs) ys within n h =
    go (types_within xs ys (λ a p. within a (or_right (same_action a x) (among_actions xs a) p)) n)
    (or_cases (same_name n x.0) (among (types_of xs) n) h)
  where
    go : (among (types_of xs) n ≡ true → among (types_of ys) n ≡ true)
        → (same_name n x.0 ≡ true) ⊎ (among (types_of xs) n ≡ true) → among (types_of ys) n ≡ true
    go more (inl here) = ap (among (types_of ys)) (equal_names n x.0 here)
        ∙ type_there ys x (within x (or_left (same_action x x) (among_actions xs x) (action_itself x)))
    go more (inr later) = more later

-- lists that hold the same actions hold the same types of actions
pub types_alike : (xs ys : List Action) → ((a : Action) → among_actions xs a ≡ among_actions ys a)
    → (n : List (List ℕ))
    → among (map (λ (a : List (List ℕ) × List ℕ). a.0) xs) n ≡ among (map (λ (a : List (List ℕ) × List ℕ). a.0) ys) n
types_alike xs ys same n =
    same_bool (among (types_of xs) n) (among (types_of ys) n)
    (types_within xs ys (λ a h. sym (same a) ∙ h) n)
    (types_within ys xs (λ a h. same a ∙ h) n)
