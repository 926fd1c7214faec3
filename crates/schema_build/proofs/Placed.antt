-- Names at rising places of a list that rises.
use Rattle.std.proofs.Common.{◌≡◌, ℕ, ◌+◌, ◌<◌, List, [], ◌∷◌, ◌++◌, Vec, Ordering, Some, map, length, take, get_or}
use Rattle.std.proofs.Common.{zero, suc, arith, Contains, refl, sym, ap, ◌∙◌, subst}
use Rattle.std.specs.Prelude.{Option, IfSome, slice_get}
use Rattle.std.specs.declared.cmp.Ordering.TheVariants.{Less}
use Rattle.std.specs.Cmp.{IsTotalOrder}
use Rattle.std.specs.List.{AllByRecursion}
use Rattle.std.specs.List.Sorted.{IsStrictlySortedBy}
use Rattle.std.specs.Option.{option_map}
use Rattle.std.proofs.lemmas.Cmp.{ranked}
use Rattle.std.specs.Ordering.{nat_cmp}
use Rattle.std.proofs.lemmas.Map.Keys.{sorted_from_strictly_increasing}
use Rattle.std.specs.declared.alloc.Global.{Global}
use Rattle.std.proofs.lemmas.List.{map-append, take_more, length-map, get_or-map}
use Rattle.std.proofs.lemmas.Option.{slice_get-map, slice_get_read, same_Some}
use Rattle.std.proofs.lemmas.Slice.Zip.{AllZip-long, all_zipped_more}
use Rattle.cedar_data.proofs.Lists.{contains_map, contains_unmap, map-map}
use Rattle.schema_build_hierarchy.proofs.ParentRanks.{map_at}
use Rattle.schema_build_hierarchy.specs.Ancestors.{IsAncestorRow}
use Rattle.schema_build_hierarchy.proofs.Ranked.{less_at}
use Rattle.schema_build_items.specs.ActionKinds.{AreJust}
use Rattle.schema_build.specs.Assembly.{AreSharedOf, AreAt, AreAllAt}

-- what is seen of the names that stand at the places
pub seen_at : {A B : Type 0} (v : A → B) (names : List A) (places : List ℕ) (found : List A) → AreAt names places found
    → AreAt (map v names) places (map v found)
seen_at v names places found at =
    map-map Some v found ∙ sym (map-map (option_map v) Some found) ∙ ap (map (option_map v)) at
    ∙ map-map (option_map v) (slice_get names) places
    ∙ sym (λ i. map (λ k. slice_get-map v names k i) places)

-- one more of the places
pub one_more : {A B : Type 0} (name : B → A) (entries : List B) (places : List ℕ) (k : ℕ) (found grown : List A) (x : A)
    (e : B) → k < length places → get_or places k 0 < length entries
    → e ≡ get_or entries (get_or places k 0) e → x ≡ name e
    → grown ≡ found ++ x ∷ [] → AreAt (map name entries) (take k places) found
    → AreAt (map name entries) (take (k + 1) places) grown
one_more name entries places k found grown x e within inside is same more at =
    let r = get_or places k 0 in
    let stands : Some x ≡ slice_get (map name entries) r =
    ap Some same ∙ sym (map_at name entries r e (slice_get_read entries (length entries) r e refl inside is)) in
    ap (map Some) more ∙ map-append Some found (x ∷ []) ∙ (λ i. at i ++ stands i ∷ [])
    ∙ sym (map-append (slice_get (map name entries)) (take k places) (r ∷ []))
    ∙ sym (ap (map (slice_get (map name entries))) (take_more places k 0 within))

-- one more of the names, shared or not
pub one_more_shared : {A B : Type 0} (name : B → A) (entries : List B) (k : ℕ) (shared grown : List (Option A)) (e : B)
    (o : Option A) → k < length entries → e ≡ get_or entries k e → IfSome o (λ n. n ≡ name e)
    → grown ≡ shared ++ o ∷ [] → AreSharedOf (take k (map name entries)) shared
    → AreSharedOf (take (k + 1) (map name entries)) grown
one_more_shared name entries k shared grown e o within is same more all =
    let names = map name entries in
    let item : get_or names k (name e) ≡ name e = get_or-map name entries k e (name e) within ∙ ap name (sym is) in
    let whole : take (k + 1) names ≡ take k names ++ name e ∷ [] =
    take_more names k (name e) (omega (arith, within, length-map entries name))
    ∙ ap (λ z. take k names ++ z ∷ []) item in
    subst (λ l. AreSharedOf l grown) (sym whole)
    (subst (AreSharedOf (take k names ++ name e ∷ [])) (sym more)
    (all_zipped_more (λ n p. IfSome p (λ s. s ≡ n)) (take k names) shared (name e) o all same))

-- each place of a name is one of the shared names
pub shared_within : {A B : Type 0} (name : B → A) (entries : List B) (shared : List (Option A)) (k : ℕ)
    → AreSharedOf (map name entries) shared → k < length entries → k < length shared
shared_within name entries shared k all within =
    let long = AllZip-long (λ n p. IfSome p (λ s. s ≡ n)) (map name entries) shared all in
    omega (arith, long, length-map entries name)

-- the name at a place, as it is shared or not
pub shared_at : {A B : Type 0} (name : B → A) (entries : List B) (shared : List (Option A)) (k : ℕ) (e : B)
    (o : Option A) → AreSharedOf (map name entries) shared → k < length entries → e ≡ get_or entries k e
    → o ≡ get_or shared k o → IfSome o (λ n. n ≡ name e)
shared_at name [] shared k e o all within is so = absurd (omega arith)
shared_at name (x ∷ entries) [] k e o all within is so = absurd all
shared_at name (x ∷ entries) (s ∷ shared) zero e o all within is so =
    subst (λ p. IfSome p (λ n. n ≡ name e)) (sym so)
    (subst (λ y. IfSome s (λ n. n ≡ name y)) (sym is) all.0)
shared_at name (x ∷ entries) (s ∷ shared) (suc k) e o all within is so =
    shared_at name entries shared k e o all.1 (omega arith) is so

-- one more row of places
pub one_more_row : {A : Type 0} (names : List A) (rows : List (Vec ℕ Global)) (k : ℕ) (row : Vec ℕ Global)
    (lists grown : List (List A)) (found : List A) → k < length rows → row ≡ get_or rows k row
    → grown ≡ lists ++ found ∷ []
    → AreAt names row.items found → AreAllAt names (take k rows) lists → AreAllAt names (take (k + 1) rows) grown
one_more_row names rows k row lists grown found within is more at all =
    let longer = all_zipped_more (λ (w : Vec ℕ Global). AreAt names w.items) (take k rows) lists row found all at in
    let whole : take (k + 1) rows ≡ take k rows ++ row ∷ [] =
    take_more rows k row within ∙ (λ i. take k rows ++ sym is i ∷ []) in
    subst (λ l. AreAllAt names l grown) (sym whole) (subst (AreAllAt names (take k rows ++ row ∷ [])) (sym more) longer)

module _ {K : Type 0} (names : List K) where
  -- each of them stands at one of the places
  placed : (places : List ℕ) (found : List K) → AreAt names places found → (x : K) → Contains found x
      → (r : ℕ) × Contains places r × (slice_get names r ≡ Some x)
  placed places found at x c =
      contains_unmap (slice_get names) places (Some x)
      (subst (λ l. Contains l (Some x)) at (contains_map Some found x c))

  -- what stands at one of the places is one of them
  there : (places : List ℕ) (found : List K) → AreAt names places found → (r : ℕ) (x : K) → Contains places r
      → slice_get names r ≡ Some x → Contains found x
  there places found at r x c is =
      let seen = subst (λ l. Contains l (slice_get names r)) (sym at) (contains_map (slice_get names) places r c) in
      let (y, h, same) = contains_unmap Some found (slice_get names r) seen in
      subst (Contains found) (same_Some y x (same ∙ is)) h

  module _ {R : K → K → Ordering} (o : IsTotalOrder R) (up : IsStrictlySortedBy R names) where
    above : (x : K) (r : ℕ) (places : List ℕ) (found : List K) → slice_get names r ≡ Some x → AreAt names places found
        → AllByRecursion (λ s. r < s) places → AllByRecursion (λ y. R x y ≡ Less) found
    above x r [] [] is at later = tt
    above x r [] (y ∷ found) is at later = cc
    above x r (s ∷ places) [] is at later = cc
    above x r (s ∷ places) (y ∷ found) is at later = (
      less_at o names up r s x y is (let h : Some y ≡ slice_get names s = cc in sym h) later.0,
      above x r places found is (cc) later.1,
    )

    later_all : (r : ℕ) (places : List ℕ) → AllByRecursion (λ s. nat_cmp r s ≡ Less) places
        → AllByRecursion (λ s. r < s) places
    later_all r [] h = tt
    later_all r (s ∷ places) h = (ranked r s Less (sym h.0), later_all r places h.1)

    rising : (places : List ℕ) (found : List K) → IsStrictlySortedBy nat_cmp places → AreAt names places found
        → IsStrictlySortedBy R found
    unfolding IsStrictlySortedBy
    rising [] [] increasing at = tt
    rising [] (x ∷ found) increasing at = cc
    rising (r ∷ places) [] increasing at = cc
    rising (r ∷ places) (x ∷ found) increasing at = (
      above x r places found (let h : Some x ≡ slice_get names r = cc in sym h) (cc) (later_all r places increasing.0),
      rising places found increasing.1 (cc),
    )

    -- the names at the places of a row are just the ancestors
    pub are_just : (ancestor : K → K → Type 0) (a : K) (row : List ℕ) (found : List K)
        → IsAncestorRow ancestor names a row
        → AreAt names row found → AreJust R (ancestor a) found
    are_just ancestor a row found is at = record {
      rising = rising row found (sorted_from_strictly_increasing row is.rising) at;
      just = λ b. (
        (λ c.
            let (r, h, stands) = placed row found at b c in
            let (d, same, above) = is.sound r h in
            subst (ancestor a) (same_Some d b (sym same ∙ stands)) above),
        (λ e.
            let (r, stands, h) = is.whole b e in
            there row found at r b h stands),
      );
    }
