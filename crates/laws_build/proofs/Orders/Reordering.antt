-- Lists in another order.
use Rattle.std.proofs.Common.{◌≡◌, Bool, true, false, cond, List, [], ◌∷◌, ◌++◌, map, filter, flat_map, Option, Some}
use Rattle.std.proofs.Common.{None, is_some, refl, sym, ap, ◌∙◌, subst, append_assoc, true≢false}
use Rattle.std.specs.Cmp.{IsTotalOrder}
use Rattle.std.specs.List.{AllByRecursion}
use Rattle.std.specs.Option.{option_or}
use Rattle.std.specs.Ordering.{is_eq}
use Rattle.std.specs.declared.cmp.Ordering.{Ordering}
use Rattle.cedar_data.specs.Maps.{last_at}
use Rattle.cedar_data.proofs.Orders.{is_eq_turned}
use Rattle.cedar_data.proofs.Every.{at_middle}
use Rattle.schema_convert_openings.specs.Repeats.{same_among, NoneRepeats}
use Rattle.laws_build.specs.Orders.Reordered.{IsReordered, nothing, behind, swapped, in_turn}

pub itself : {A : Type 0} (xs : List A) → IsReordered xs xs
itself [] = nothing
itself (x ∷ xs) = behind x (itself xs)

pub backwards : {A : Type 0} (xs ys : List A) → IsReordered xs ys → IsReordered ys xs
backwards xs ys nothing = nothing
backwards xs ys (behind x r) = behind x (backwards _ _ r)
backwards xs ys (swapped x y zs) = swapped y x zs
backwards xs ys (in_turn r q) = in_turn (backwards _ _ q) (backwards _ _ r)

pub put_behind : {A : Type 0} (zs xs ys : List A) → IsReordered xs ys → IsReordered (zs ++ xs) (zs ++ ys)
put_behind [] xs ys r = r
put_behind (z ∷ zs) xs ys r = behind z (put_behind zs xs ys r)

-- one item goes behind some
passed_by : {A : Type 0} (x : A) (ys zs : List A) → IsReordered (x ∷ (ys ++ zs)) (ys ++ x ∷ zs)
passed_by x [] zs = itself (x ∷ zs)
passed_by x (y ∷ ys) zs = in_turn (swapped x y (ys ++ zs)) (behind y (passed_by x ys zs))

-- some items go behind others
pub all_passed : {A : Type 0} (xs ys zs : List A) → IsReordered (xs ++ (ys ++ zs)) (ys ++ (xs ++ zs))
all_passed [] ys zs = itself (ys ++ zs)
all_passed (x ∷ xs) ys zs = in_turn (behind x (all_passed xs ys zs)) (passed_by x ys (xs ++ zs))

pub map_reordered : {A B : Type 0} (g : A → B) (xs ys : List A) → IsReordered xs ys → IsReordered (map g xs) (map g ys)
map_reordered g xs ys nothing = nothing
map_reordered g xs ys (behind x r) = behind (g x) (map_reordered g _ _ r)
map_reordered g xs ys (swapped x y zs) = swapped (g x) (g y) (map g zs)
map_reordered g xs ys (in_turn r q) = in_turn (map_reordered g _ _ r) (map_reordered g _ _ q)

pub flat_reordered : {A B : Type 0} (g : A → List B) (xs ys : List A) → IsReordered xs ys
    → IsReordered (flat_map g xs) (flat_map g ys)
flat_reordered g xs ys nothing = nothing
flat_reordered g xs ys (behind x r) = put_behind (g x) _ _ (flat_reordered g _ _ r)
flat_reordered g xs ys (swapped x y zs) = all_passed (g x) (g y) (flat_map g zs)
flat_reordered g xs ys (in_turn r q) = in_turn (flat_reordered g _ _ r) (flat_reordered g _ _ q)

pub filter_reordered : {A : Type 0} (p : A → Bool) (xs ys : List A) → IsReordered xs ys
    → IsReordered (filter p xs) (filter p ys)
filter_reordered p _ _ nothing = nothing
filter_reordered p _ _ (behind {xs} {ys} x r) = by_case (p x) (filter_reordered p xs ys r)
  where
    by_case : (b : Bool) → IsReordered (filter p xs) (filter p ys)
        → IsReordered (cond b (x ∷ filter p xs) (filter p xs)) (cond b (x ∷ filter p ys) (filter p ys))
    by_case true h = behind x h
    by_case false h = h
filter_reordered p _ _ (swapped x y zs) = by_cases (p x) (p y)
  where
    by_cases : (b c : Bool)
        → IsReordered
        (cond b (x ∷ cond c (y ∷ filter p zs) (filter p zs)) (cond c (y ∷ filter p zs) (filter p zs)))
        (cond c (y ∷ cond b (x ∷ filter p zs) (filter p zs)) (cond b (x ∷ filter p zs) (filter p zs)))
    by_cases true true = swapped x y (filter p zs)
    by_cases true false = itself (x ∷ filter p zs)
    by_cases false true = itself (y ∷ filter p zs)
    by_cases false false = itself (filter p zs)
filter_reordered p _ _ (in_turn {xs} {ys} {zs} r q) =
    in_turn (filter_reordered p xs ys r) (filter_reordered p ys zs q)

pub all_reordered : {A : Type 0} (P : A → Type 0) (xs ys : List A) → IsReordered xs ys → AllByRecursion P xs
    → AllByRecursion P ys
all_reordered P xs ys nothing h = tt
all_reordered P xs ys (behind x r) h = (h.0, all_reordered P _ _ r h.1)
all_reordered P xs ys (swapped x y zs) h = (h.1.0, (h.0, h.1.1))
all_reordered P xs ys (in_turn r q) h = all_reordered P _ _ q (all_reordered P _ _ r h)

-- of two that are not both there either may come first
either_first : {V : Type 0} (o : Option V) (b c : Bool) (v w : V) → (b ≡ true → c ≡ true → ⊥)
    → option_or (option_or o (cond c (Some w) None)) (cond b (Some v) None)
    ≡ option_or (option_or o (cond b (Some v) None)) (cond c (Some w) None)
either_first (Some u) b c v w h = refl
either_first None true true v w h = absurd (h refl refl)
either_first None true false v w h = refl
either_first None false true v w h = refl
either_first None false false v w h = refl

-- lists in which no item is the same as another
module _ {K : Type 0} (cmp : K → K → Ordering) where
  abbrev pub Differs : K → K → Type 0
  Differs x y = is_eq (cmp y x) ≡ false

  abbrev pub AreDistinct : List K → Type 0
  AreDistinct [] = Unit {0}
  AreDistinct (x ∷ xs) = AllByRecursion (Differs x) xs × AreDistinct xs

  none_first : (b : Bool) (x : K) (o : Option K) → cond b (Some x) o ≡ None → (b ≡ false) × (o ≡ None)
  none_first true x o e = absurd (true≢false (ap is_some e))
  none_first false x o e = (refl, e)

  heads_differ : (x : K) (front xs : List K) → NoneRepeats cmp (x ∷ (front ++ xs)) → AllByRecursion (Differs x) xs
  heads_differ x front [] h = tt
  heads_differ x front (y ∷ ys) h = (
    (none_first (is_eq (cmp y x)) x (same_among cmp y front) (h (x ∷ front) ys y refl)).0,
    heads_differ x (front ++ y ∷ []) ys
        (subst (λ l. NoneRepeats cmp (x ∷ l)) (sym (append_assoc front (y ∷ []) ys)) h),
  )

  pub distinct : (xs : List K) → NoneRepeats cmp xs → AreDistinct xs
  distinct [] h = tt
  distinct (x ∷ xs) h = (
    heads_differ x [] xs h,
    distinct xs
        (λ before after y e. (none_first (is_eq (cmp y x)) x (same_among cmp y before)
        (h (x ∷ before) after y (ap (λ l. x ∷ l) e))).1),
  )

  none_same : (before after : List K) (x : K) → AreDistinct (before ++ x ∷ after) → same_among cmp x before ≡ None
  none_same [] after x h = refl
  none_same (b ∷ before) after x h =
      ap (λ c. cond c (Some b) (same_among cmp x before)) (at_middle (Differs b) before x after h.0)
      ∙ none_same before after x h.1

  pub none_repeats : (xs : List K) → AreDistinct xs → NoneRepeats cmp xs
  none_repeats xs h before after x e = none_same before after x (subst AreDistinct e h)

  module _ (total : IsTotalOrder cmp) where
    turned : (x y : K) → Differs x y → Differs y x
    turned x y h = is_eq_turned total x y ∙ h

    pub distinct_reordered : (xs ys : List K) → IsReordered xs ys → AreDistinct xs → AreDistinct ys
    distinct_reordered xs ys nothing h = tt
    distinct_reordered xs ys (behind x r) h =
        (all_reordered (Differs x) _ _ r h.0, distinct_reordered _ _ r h.1)
    distinct_reordered xs ys (swapped x y zs) h = ((turned x y h.0.0, h.1.0), (h.0.1, h.1.1))
    distinct_reordered xs ys (in_turn r q) h = distinct_reordered _ _ q (distinct_reordered _ _ r h)

    pub repeats_reordered : (xs ys : List K) → IsReordered xs ys → NoneRepeats cmp xs → NoneRepeats cmp ys
    repeats_reordered xs ys r h = none_repeats ys (distinct_reordered xs ys r (distinct xs h))

    -- of distinct keys the order does not matter to what stands beside one
    module _ (test : K → Bool)
        (one : (x y : K) → test x ≡ true → test y ≡ true → is_eq (cmp y x) ≡ true) where
      not_both : (x y : K) → Differs x y → test x ≡ true → test y ≡ true → ⊥
      not_both x y d a b = true≢false (sym (one x y a b) ∙ d)

      pub last_reordered : {V : Type 0} (es fs : List (K × V)) → IsReordered es fs
          → AreDistinct (map (λ (e : K × V). e.0) es) → last_at test es ≡ last_at test fs
      last_reordered _ _ nothing h = refl
      last_reordered _ _ (behind e r) h =
          ap (λ o. option_or o (cond (test e.0) (Some e.1) None)) (last_reordered _ _ r h.1)
      last_reordered _ _ (swapped e f gs) h =
          either_first (last_at test gs) (test e.0) (test f.0) e.1 f.1 (not_both e.0 f.0 h.0.0)
      last_reordered {V} _ _ (in_turn {xs} {ys} {zs} r q) h =
          last_reordered xs ys r h
          ∙ last_reordered ys zs q
          (distinct_reordered (map (λ (e : K × V). e.0) xs) (map (λ (e : K × V). e.0) ys)
          (map_reordered (λ (e : K × V). e.0) xs ys r) h)
