-- The first name that comes again, piece by piece, and that it is the one that the definition names.
use Rattle.std.proofs.Common.{◌≡◌, ℕ, ◌+◌, ◌<◌, Bool, true, false, cond, List, [], ◌∷◌, ◌++◌, Option, Some, None}
use Rattle.std.proofs.Common.{length, get_or, take, drop, map, All, Contains, Bor, refl, sym, ap, ◌∙◌, subst, arith}
use Rattle.std.proofs.Common.{Ordering, Less, suc, zero}
use Rattle.std.specs.Prelude.{◌||◌}
use Rattle.std.specs.List.{list_any, AllByRecursion}
use Rattle.std.specs.List.Sorted.{IsStrictlySortedBy}
use Rattle.std.specs.Ordering.{nat_cmp, is_eq, ordering_reverse}
use Rattle.std.specs.Str.{bytes_eq}
use Rattle.std.proofs.lemmas.List.{drop_more, take_more, map-append, get_or-map, length-map}
use Rattle.std.proofs.lemmas.Map.Keys.{sorted_from_all_adjacent}
use Rattle.std.proofs.lemmas.List.Elements.{All-nil, All-cons, All-contains, Contains-append_right}
use Rattle.std.proofs.lemmas.List.Folds.{Any-from_list_any}
use Rattle.std.proofs.lemmas.Map.Views.{list_any-from_Contains}
use Rattle.std.proofs.lemmas.Slice.Eq.{bytes_eq-Decides}
use Rattle.std.proofs.lemmas.Map.Text.{is_eq-slice_cmp}
use Rattle.std.specs.Cmp.Lexicographic.{slice_cmp, nat_list_cmp_total, nat_list_eq_equiv}
use Rattle.json.specs.Value.{value_view, items_view, members_view}
use Rattle.json.specs.declared.value.Value.{Value}
use Rattle.schema_json_keys.specs.Keys.{Key, keys_of, items_keys, members_keys, ComesAgain, FirstAgain}
use Rattle.schema_json_keys.specs.Computed.{comes_again, first_again}

-- ---- piece by piece

abbrev pub or_next : Option (List ℕ) → Option (List ℕ) → Option (List ℕ)
or_next None later = later
or_next (Some n) later = Some n

picks : (b : Bool) (n : List ℕ) (o p q : Option (List ℕ)) → q ≡ or_next o p
    → cond b (Some n) q ≡ or_next (cond b (Some n) o) p
picks true n o p q e = refl
picks false n o p q e = e

pub first_again-append : (xs ys : List Key) → first_again (xs ++ ys) ≡ or_next (first_again xs) (first_again ys)
first_again-append [] ys = refl
first_again-append (k ∷ xs) ys = picks (list_any (bytes_eq k.name) k.earlier) k.name _ _ _ (first_again-append xs ys)

abbrev pub names : {A : Type 0} → List (Bor (List ℕ) × Value A) → List (List ℕ)
names ms = map (λ m. m.0.now) ms

pub item_step : {A : Type 0} (xs : List (Value A)) (i : ℕ) (x : Value A) → i < length xs → x ≡ get_or xs i x
    → first_again (items_keys (items_view (drop i xs)))
    ≡ or_next (first_again (keys_of (value_view x))) (first_again (items_keys (items_view (drop (i + 1) xs))))
item_step xs i x h is =
    let here : drop i xs ≡ x ∷ drop (i + 1) xs = drop_more xs i x h ∙ ap (λ y. y ∷ drop (i + 1) xs) (sym is) in
    ap (λ d. first_again (items_keys (items_view d))) here
    ∙ first_again-append (keys_of (value_view x)) (items_keys (items_view (drop (i + 1) xs)))

pub member_step : {A : Type 0} (xs : List (Bor (List ℕ) × Value A)) (i : ℕ) (m : Bor (List ℕ) × Value A)
    → i < length xs → m ≡ get_or xs i m
    → first_again (members_keys (names (take i xs)) (members_view (drop i xs)))
    ≡ comes_again (record { name = m.0.now; earlier = names (take i xs) })
    (or_next (first_again (keys_of (value_view m.1)))
    (first_again (members_keys (names (take (i + 1) xs)) (members_view (drop (i + 1) xs)))))
member_step xs i m h is =
    let here : drop i xs ≡ m ∷ drop (i + 1) xs = drop_more xs i m h ∙ ap (λ y. y ∷ drop (i + 1) xs) (sym is) in
    let more : names (take (i + 1) xs) ≡ names (take i xs)
    ++ m.0.now ∷ [] = ap names (take_more xs i m h ∙ ap (λ y. take i xs ++ y ∷ []) (sym is))
    ∙ map-append _ (take i xs) (m ∷ []) in
    ap (λ d. first_again (members_keys (names (take i xs)) (members_view d))) here
    ∙ ap (comes_again (record { name = m.0.now; earlier = names (take i xs) }))
    (first_again-append (keys_of (value_view m.1))
    (members_keys (names (take i xs) ++ m.0.now ∷ []) (members_view (drop (i + 1) xs)))
    ∙ ap (λ ns. or_next (first_again (keys_of (value_view m.1)))
    (first_again (members_keys ns (members_view (drop (i + 1) xs))))) (sym more))

pub one_more_name : {A : Type 0} (xs : List (Bor (List ℕ) × Value A)) (i : ℕ) (m : Bor (List ℕ) × Value A)
    → i < length xs → m ≡ get_or xs i m
    → names (take (i + 1) xs) ≡ names (take i xs) ++ m.0.now ∷ []
one_more_name xs i m h is = ap names (take_more xs i m h ∙ ap (λ y. take i xs ++ y ∷ []) (sym is))
    ∙ map-append _ (take i xs) (m ∷ [])

pub comes_again-true : (k : Key) (o : Option (List ℕ)) → list_any (bytes_eq k.name) k.earlier ≡ true
    → comes_again k o ≡ Some k.name
comes_again-true k o e = ap (λ b. cond b (Some k.name) o) e

pub comes_again-false : (k : Key) (o : Option (List ℕ)) → list_any (bytes_eq k.name) k.earlier ≡ false
    → comes_again k o ≡ o
comes_again-false k o e = ap (λ b. cond b (Some k.name) o) e

-- ---- what is computed is what is defined

is_among : (n : List ℕ) (ns : List (List ℕ)) → list_any (bytes_eq n) ns ≡ true → Contains ns n
is_among n ns e =
    let found = Any-from_list_any (bytes_eq n) ns e in
    let same : n ≡ found.1 = (bytes_eq-Decides n found.1).0 found.4 in
    subst (Contains ns) (sym same) (found.0, found.2, found.3)

not_among : (n : List ℕ) (ns : List (List ℕ)) → list_any (bytes_eq n) ns ≡ false → ¬ Contains ns n
not_among n ns e there = let yes = list_any-from_Contains nat_list_eq_equiv n ns there in cc

abbrev Answers : List Key → Option (List ℕ) → Type 0
Answers ks None = All (λ k. ¬ ComesAgain k) ks
Answers ks (Some n) = FirstAgain ks n

one_more : (k : Key) (ks : List Key) → ¬ ComesAgain k → (o : Option (List ℕ)) → Answers ks o → Answers (k ∷ ks) o
one_more k ks not None all = All-cons (λ k. ¬ ComesAgain k) k ks not all
one_more k ks not (Some n) f =
    record {
      before = k ∷ f.before;
      again = f.again;
      after = f.after;
      stands = ap (λ l. k ∷ l) f.stands;
      first = All-cons (λ k. ¬ ComesAgain k) k f.before not f.first;
      comes_again = f.comes_again;
      named = f.named;
    }

by_test : (k : Key) (ks : List Key) (b : Bool) → list_any (bytes_eq k.name) k.earlier ≡ b → (o : Option (List ℕ))
    → Answers ks o → Answers (k ∷ ks) (cond b (Some k.name) o)
by_test k ks true e o rest = record {
  before = [];
  again = k;
  after = ks;
  stands = refl;
  first = All-nil (λ k. ¬ ComesAgain k);
  comes_again = is_among k.name k.earlier e;
  named = refl;
}
by_test k ks false e o rest = one_more k ks (not_among k.name k.earlier e) o rest

answers : (ks : List Key) → Answers ks (first_again ks)
answers [] = All-nil (λ k. ¬ ComesAgain k)
answers (k ∷ ks) = by_test k ks (list_any (bytes_eq k.name) k.earlier) refl (first_again ks) (answers ks)

pub FirstAgain-found : (ks : List Key) (n : List ℕ) → Some n ≡ first_again ks → FirstAgain ks n
FirstAgain-found ks n e = subst (Answers ks) (sym e) (answers ks)

pub FirstAgain-none : (ks : List Key) → None ≡ first_again ks → (n : List ℕ) → ¬ FirstAgain ks n
FirstAgain-none ks e n f =
    let all : All (λ k. ¬ ComesAgain k) ks = subst (Answers ks) (sym e) (answers ks) in
    let there : Contains ks f.again = subst (λ l. Contains l f.again) (sym f.stands)
    (Contains-append_right f.before (f.again ∷ f.after) f.again (0, omega arith, refl)) in
    All-contains (λ k. ¬ ComesAgain k) ks f.again all there f.comes_again

-- ---- keys that rise

abbrev pub order : List ℕ → List ℕ → Ordering
order = slice_cmp nat_cmp

-- what holds of each key holds of the one at a place
at_place : {A : Type 0} (P : List ℕ → Type 0) (xs : List (Bor (List ℕ) × Value A)) (i : ℕ)
    (m : Bor (List ℕ) × Value A) → AllByRecursion P (names xs) → i < length xs → m ≡ get_or xs i m → P m.0.now
at_place P [] i m all h is = let no : ⊥ = omega arith in absurd no
at_place P (x ∷ xs) zero m all h is = subst (λ n. P n.0.now) (sym is) all.0
at_place P (x ∷ xs) (suc i) m all h is = at_place P xs i m all.1 (omega arith) is

above : (a b : List ℕ) → order b a ≡ Less → bytes_eq a b ≡ false
above a b less = sym (is_eq-slice_cmp a b) ∙ ap is_eq (nat_list_cmp_total.antisymm a b ∙ ap ordering_reverse less)

-- none of them is among those before it
pub none_before : {A : Type 0} (xs : List (Bor (List ℕ) × Value A)) (i : ℕ) (m : Bor (List ℕ) × Value A)
    → IsStrictlySortedBy order (names xs) → i < length xs → m ≡ get_or xs i m
    → list_any (bytes_eq m.0.now) (names (take i xs)) ≡ false
unfolding IsStrictlySortedBy
none_before [] i m up h is = let no : ⊥ = omega arith in absurd no
none_before (x ∷ xs) zero m up h is = refl
none_before (x ∷ xs) (suc i) m up h is =
    ap (λ b. b || list_any (bytes_eq m.0.now) (names (take i xs)))
    (above m.0.now x.0.now (at_place (λ k. order x.0.now k ≡ Less) xs i m up.0 (omega arith) is))
    ∙ none_before xs i m up.1 (omega arith) is

-- each of which is less than the next
pub rising : {A : Type 0} (xs : List (Bor (List ℕ) × Value A))
    → ((k : ℕ) (d : Bor (List ℕ) × Value A) → k + 1 < length xs
    → order (get_or xs k d).0.now (get_or xs (k + 1) d).0.now ≡ Less)
    → IsStrictlySortedBy order (names xs)
unfolding IsStrictlySortedBy
rising [] h = tt
rising {A} (x ∷ xs) h = sorted_from_all_adjacent nat_list_cmp_total (names (x ∷ xs)) x.0.now (λ k lt. at k lt)
  where
    at : (k : ℕ) → k + 1 < length (names (x ∷ xs))
        → order (get_or (names (x ∷ xs)) k x.0.now) (get_or (names (x ∷ xs)) (k + 1) x.0.now) ≡ Less
    at k lt =
        let key : Bor (List ℕ) × Value A → List ℕ = λ m. m.0.now in
        let within : k + 1 < length (x ∷ xs) = omega (arith, lt, length-map (x ∷ xs) key) in
        subst (λ n. order n (get_or (names (x ∷ xs)) (k + 1) x.0.now) ≡ Less)
        (sym (get_or-map key (x ∷ xs) k x x.0.now (omega (arith, within))))
        (subst (λ n. order (get_or (x ∷ xs) k x).0.now n ≡ Less)
        (sym (get_or-map key (x ∷ xs) (k + 1) x x.0.now within)) (h k x within))
