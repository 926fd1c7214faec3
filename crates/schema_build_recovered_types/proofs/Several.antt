-- One name, or several.
use Rattle.std.proofs.Common.{◌≡◌, ℕ, zero, suc, ◌<◌, List, [], ◌∷◌, map, length, get_or, All, refl, sym, ap, ◌∙◌}
use Rattle.std.proofs.Common.{arith}
use Rattle.std.proofs.Common.{subst, ◌≢◌, Bool, true, false, not}
use Rattle.std.specs.declared.cmp.Ordering.{Ordering}
use Rattle.std.specs.declared.cmp.Ordering.TheVariants.{Less, Equal, Greater}
use Rattle.std.specs.Ordering.{match_ordering}
use Rattle.std.specs.BTreeSet.{insert_key}
use Rattle.std.specs.Cmp.Lexicographic.{slice_cmp}
use Rattle.std.proofs.lemmas.Cmp.{tied_itself}
use Rattle.std.proofs.lemmas.List.Elements.{All-head, All-tail}
use Rattle.cedar_data.specs.Text.{text_cmp}
use Rattle.cedar_data.proofs.Orders.{texts_total, texts_exact}
use Rattle.cedar_identifiers.specs.Names.{components_of}
use Rattle.cedar_identifiers.specs.declared.name.Name.{Name}
use Rattle.schema_build_types.specs.Content.{names_content}
use Rattle.schema_build_text.specs.Rows.{sorted_once}
use Rattle.schema_build_text.proofs.Rowed.{in_order_is}
use Rattle.schema_build_recovered_types.specs.FirstLacks.{IsSeveral}

-- names with the same components are one
one_sorted : (n : List (List ℕ)) (xs : List Name) → All (λ x. components_of x.name ≡ n) xs
    → sorted_once (slice_cmp text_cmp) (n ∷ map (λ x. components_of x.name) xs) ≡ n ∷ []
one_sorted n [] a = refl
one_sorted n (x ∷ xs) a =
    ap (λ l. insert_key (slice_cmp text_cmp) l n)
    (ap (λ m. sorted_once (slice_cmp text_cmp) (m ∷ map (λ x. components_of x.name) xs))
    (All-head (λ x. components_of x.name ≡ n) x xs a)
    ∙ one_sorted n xs (All-tail (λ x. components_of x.name ≡ n) x xs a))
    ∙ ap (λ o. match_ordering o (n ∷ n ∷ []) (n ∷ []) (n ∷ n ∷ [])) (tied_itself texts_total n)

pub one_name : (names : List Name) (x : Name) (xs : List Name) → names ≡ x ∷ xs
    → All (λ y. components_of y.name ≡ components_of x.name) xs → names_content names ≡ components_of x.name ∷ []
one_name names x xs e a =
    ap names_content e
    ∙ (in_order_is (map (λ y. components_of y.name) (x ∷ xs)) ∙ one_sorted (components_of x.name) xs a)

-- names that are not told apart
pub told_same : (equal differ : Bool) → differ ≡ not equal → differ ≡ false → equal ≡ true
told_same true differ e h = refl
told_same false differ e h = absurd (cc)

-- each of these is that one
abbrev AllAre : List (List ℕ) → List (List (List ℕ)) → Type 0
AllAre y [] = Unit {0}
AllAre y (k ∷ ks) = (k ≡ y) × AllAre y ks

abbrev C : List (List ℕ) → List (List ℕ) → Ordering
C = slice_cmp text_cmp

never_empty : (ks : List (List (List ℕ))) (k : List (List ℕ)) → insert_key C ks k ≢ []
never_empty [] k e = cc
never_empty (z ∷ zs) k e = by (C k z) e
  where
    by : (o : Ordering) → match_ordering o (k ∷ z ∷ zs) (z ∷ zs) (z ∷ insert_key C zs k) ≢ []
    by Less h = cc
    by Equal h = cc
    by Greater h = cc

none_sorted : (ks : List (List (List ℕ))) → sorted_once C ks ≡ [] → ks ≡ []
none_sorted [] e = refl
none_sorted (k ∷ ks) e = absurd (never_empty (sorted_once C ks) k e)

singled : (ks : List (List (List ℕ))) (y : List (List ℕ)) → sorted_once C ks ≡ y ∷ [] → AllAre y ks
singled [] y e = tt
singled (k ∷ ks) y e = by (sorted_once C ks) refl e (λ h. singled ks y h)
  where
    at : (z : List (List ℕ)) (zs : List (List (List ℕ))) (o : Ordering) → C k z ≡ o
        → match_ordering o (k ∷ z ∷ zs) (z ∷ zs) (z ∷ insert_key C zs k) ≡ y ∷ []
        → (z ∷ zs ≡ y ∷ []) × (k ≡ y)
    at z zs Less h f = absurd (cc)
    at z zs Equal h f = let same : z ≡ y = cc in (f, texts_exact k z h ∙ same)
    at z zs Greater h f = let none : insert_key C zs k ≡ [] = cc in absurd (never_empty zs k none)

    by : (l : List (List (List ℕ))) → sorted_once C ks ≡ l → insert_key C l k ≡ y ∷ []
        → (sorted_once C ks ≡ y ∷ [] → AllAre y ks) → AllAre y (k ∷ ks)
    by [] is f more = let same : k ≡ y = cc in (same, subst (AllAre y) (sym (none_sorted ks is)) tt)
    by (z ∷ zs) is f more = let both = at z zs (C k z) refl f in (both.1, more (is ∙ both.0))

one_of : (y : List (List ℕ)) (xs : List Name) (i : ℕ) (d : Name) → i < length xs
    → AllAre y (map (λ x. components_of x.name) xs)
    → components_of (get_or xs i d).name ≡ y
one_of y [] i d h a = absurd (omega arith)
one_of y (x ∷ xs) zero d h a = a.0
one_of y (x ∷ xs) (suc i) d h a = one_of y xs i d (omega arith) a.1

-- a name that is not the first
pub several_names : (names : List Name) (x : Name) (xs : List Name) (i : ℕ) (d : Name) → names ≡ x ∷ xs → i < length xs
    → d ≡ get_or xs i d → components_of d.name ≢ components_of x.name → IsSeveral (names_content names)
several_names names x xs i d e h at differs =
    subst IsSeveral (sym (ap names_content e ∙ in_order_is (map (λ y. components_of y.name) (x ∷ xs))))
    (by (sorted_once C (components_of x.name ∷ map (λ y. components_of y.name) xs)) refl)
  where
    by : (l : List (List (List ℕ))) → sorted_once C (components_of x.name ∷ map (λ y. components_of y.name) xs) ≡ l
        → IsSeveral l
    by [] f = absurd (never_empty (sorted_once C (map (λ y. components_of y.name) xs)) (components_of x.name) f)
    by (y ∷ []) f =
        let all = singled (components_of x.name ∷ map (λ y. components_of y.name) xs) y f in
        absurd (differs (ap (λ n. components_of n.name) at ∙ (one_of y xs i d h all.1 ∙ sym all.0)))
    by (a ∷ b ∷ more) f = (a, b, more, refl)
