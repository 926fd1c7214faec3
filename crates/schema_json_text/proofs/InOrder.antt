-- Entries whose keys rise, put among no members: they stand in their order.
use Rattle.std.proofs.Common.{◌≡◌, ℕ, List, [], ◌∷◌, map, sym, ap, ◌∙◌}
use Rattle.std.specs.Prelude.{⊤}
use Rattle.std.specs.List.{AllByRecursion}
use Rattle.std.specs.List.Sorted.{IsStrictlySortedBy}
use Rattle.std.specs.Ordering.{nat_cmp}
use Rattle.std.specs.Cmp.Lexicographic.{slice_cmp}
use Rattle.std.specs.declared.cmp.Ordering.{Ordering}
use Rattle.std.specs.declared.cmp.Ordering.TheVariants.{Less}
use Rattle.serde_json.specs.Data.{Data, Members, no_members, member}
use Rattle.schema_json_values.specs.TypeValues.{put_all}
use Rattle.schema_json_values.proofs.Followed.{followed, followed_once, followed_by_none, Before, put_last, before_more}
use Rattle.schema_json_text.specs.Members.{members_in_order}

module _ {X : Type 0} (f : X → List ℕ × Data) where
  -- each key is below those after it
  abbrev pub Rises : List X → Type 0
  Rises [] = ⊤
  Rises (x ∷ xs) = AllByRecursion (λ y. slice_cmp nat_cmp (f x).0 (f y).0 ≡ Less) xs × Rises xs

  abbrev AllBehind : Members → List X → Type 0
  AllBehind ms xs = AllByRecursion (λ x. Before ms (f x).0) xs

  behind_more : (ms : Members) (x : X) (xs : List X) → Before ms (f x).0 → AllBehind ms xs
      → AllByRecursion (λ y. slice_cmp nat_cmp (f x).0 (f y).0 ≡ Less) xs
      → AllBehind (followed ms (member (f x).0 (f x).1 no_members)) xs
  behind_more ms x [] b a h = tt
  behind_more ms x (y ∷ ys) b a h = (
    before_more ms (f x).0 (f y).0 (f x).1 b h.0,
    behind_more ms x ys b a.1 h.1,
  )

  all_last : (xs : List X) (ms : Members) → Rises xs → AllBehind ms xs
      → put_all (map f xs) ms ≡ followed ms (members_in_order (map f xs))
  all_last [] ms r a = sym (followed_by_none ms)
  all_last (x ∷ xs) ms r a =
      let more = followed ms (member (f x).0 (f x).1 no_members) in
      ap (put_all (map f xs)) (put_last ms (f x).0 (f x).1 a.0)
      ∙ all_last xs more r.1 (behind_more ms x xs a.0 a.1 r.0)
      ∙ followed_once ms (members_in_order (map f xs)) (f x).0 (f x).1

  none_behind : (xs : List X) → AllBehind no_members xs
  none_behind [] = tt
  none_behind (x ∷ xs) = (tt, none_behind xs)

  -- put one after another they stand in their order
  pub put_in_order : (xs : List X) → Rises xs → put_all (map f xs) no_members ≡ members_in_order (map f xs)
  put_in_order xs r = all_last xs no_members r (none_behind xs)

  all_rise : {K : Type 0} (R : K → K → Ordering) (h : X → K)
      → ((x y : X) → R (h x) (h y) ≡ Less → slice_cmp nat_cmp (f x).0 (f y).0 ≡ Less) → (x : X) (xs : List X)
      → AllByRecursion (λ k. R (h x) k ≡ Less) (map h xs)
      → AllByRecursion (λ y. slice_cmp nat_cmp (f x).0 (f y).0 ≡ Less) xs
  all_rise R h less x [] a = tt
  all_rise R h less x (y ∷ ys) a = (less x y a.0, all_rise R h less x ys a.1)

  -- keys that rise by an order that their bytes keep
  pub rises_from : {K : Type 0} (R : K → K → Ordering) (h : X → K)
      → ((x y : X) → R (h x) (h y) ≡ Less → slice_cmp nat_cmp (f x).0 (f y).0 ≡ Less) → (xs : List X)
      → IsStrictlySortedBy R (map h xs) → Rises xs
  unfolding IsStrictlySortedBy
  rises_from R h less [] s = tt
  rises_from R h less (x ∷ xs) s = (all_rise R h less x xs s.0, rises_from R h less xs s.1)
