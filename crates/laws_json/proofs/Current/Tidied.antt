-- JSON values without a number in which the keys of each object rise.
use Rattle.std.proofs.Common.{◌≡◌, ℕ, Bool, true, false, List, refl, ap, ◌∙◌}
use Rattle.std.specs.Prelude.{◌||◌}
use Rattle.std.specs.Ordering.{match_ordering, nat_cmp, ordering_reverse}
use Rattle.std.specs.Cmp.Lexicographic.{slice_cmp}
use Rattle.std.specs.declared.cmp.Ordering.{Ordering}
use Rattle.std.specs.declared.cmp.Ordering.TheVariants.{Less, Equal, Greater}
use Rattle.std.proofs.lemmas.Cmp.{nat_list_cmp_total}
use Rattle.std.proofs.lemmas.Bool.{or_from, or_parts}
use Rattle.serde_json.specs.Data.{Data, null, boolean, number, string, array, object, Items, no_items, item}
use Rattle.serde_json.specs.Data.{Members, no_members, member, put}
use Rattle.serde_json.specs.Written.{has_float, items_have_float, members_have_float}

abbrev pub is_not_less : Ordering → Bool
is_not_less Less = false
is_not_less Equal = true
is_not_less Greater = true

-- whether the key does not come before the first of these members
abbrev pub not_above : List ℕ → Members → Bool
not_above k no_members = false
not_above k (member l e ms) = is_not_less (slice_cmp nat_cmp k l)

-- whether some number stands in the value, or some key behind one that it does not come after
abbrev mutual
  pub untidy : Data → Bool
  untidy null = false
  untidy (boolean b) = false
  untidy (number n) = true
  untidy (string s) = false
  untidy (array ds) = items_untidy ds
  untidy (object ms) = members_untidy ms

  pub items_untidy : Items → Bool
  items_untidy no_items = false
  items_untidy (item d ds) = untidy d || items_untidy ds

  pub members_untidy : Members → Bool
  members_untidy no_members = false
  members_untidy (member k d ms) = untidy d || (not_above k ms || members_untidy ms)

-- a key that comes before the first of the members, and before what is put among them, comes before all
above_put : (l k : List ℕ) (d : Data) (ms : Members) → slice_cmp nat_cmp l k ≡ Less → not_above l ms ≡ false
    → not_above l (put k d ms) ≡ false
above_put l k d no_members less above = ap is_not_less less
above_put l k d (member m e ms) less above = by (slice_cmp nat_cmp k m)
  where
    by : (o : Ordering) → not_above l (match_ordering o (member k d (member m e ms)) (member m d ms) (member m e
        (put k d ms))) ≡ false
    by Less = ap is_not_less less
    by Equal = above
    by Greater = above

put_at : (o : Ordering) (k l : List ℕ) (d e : Data) (ms : Members) → slice_cmp nat_cmp k l ≡ o → untidy d ≡ false
    → members_untidy (member l e ms) ≡ false → members_untidy (put k d ms) ≡ false
    → members_untidy (match_ordering o (member k d (member l e ms)) (member l d ms) (member l e (put k d ms))) ≡ false
put_at Less k l d e ms is h w later =
    or_from (untidy d) _ h (or_from (not_above k (member l e ms)) _ (ap is_not_less is) w)
put_at Equal k l d e ms is h w later =
    or_from (untidy d) _ h (or_parts (untidy e) (not_above l ms || members_untidy ms) w).1
put_at Greater k l d e ms is h w later =
    let rest = (or_parts (untidy e) (not_above l ms || members_untidy ms) w).1 in
    let less : slice_cmp nat_cmp l k ≡ Less = nat_list_cmp_total.antisymm l k ∙ ap ordering_reverse is in
    or_from (untidy e) _ (or_parts (untidy e) (not_above l ms || members_untidy ms) w).0
    (or_from (not_above l (put k d ms)) _
    (above_put l k d ms less (or_parts (not_above l ms) (members_untidy ms) rest).0) later)

-- what is put among members leaves them tidy
pub put_tidy : (k : List ℕ) (d : Data) (ms : Members) → untidy d ≡ false → members_untidy ms ≡ false
    → members_untidy (put k d ms) ≡ false
put_tidy k d no_members h w = or_from (untidy d) false h refl
put_tidy k d (member l e ms) h w =
    put_at (slice_cmp nat_cmp k l) k l d e ms refl h w
    (put_tidy k d ms h (or_parts (not_above l ms) (members_untidy ms)
    (or_parts (untidy e) (not_above l ms || members_untidy ms) w).1).1)

-- a tidy value has no float
mutual
  pub whole : (d : Data) → untidy d ≡ false → has_float d ≡ false
  whole null h = refl
  whole (boolean b) h = refl
  whole (number n) h = absurd (cc)
  whole (string s) h = refl
  whole (array ds) h = items_whole ds h
  whole (object ms) h = members_whole ms h

  items_whole : (ds : Items) → items_untidy ds ≡ false → items_have_float ds ≡ false
  items_whole no_items h = refl
  items_whole (item d ds) h =
      or_from (has_float d) (items_have_float ds) (whole d (or_parts (untidy d) (items_untidy ds) h).0)
      (items_whole ds (or_parts (untidy d) (items_untidy ds) h).1)

  members_whole : (ms : Members) → members_untidy ms ≡ false → members_have_float ms ≡ false
  members_whole no_members h = refl
  members_whole (member k d ms) h =
      let rest = (or_parts (untidy d) (not_above k ms || members_untidy ms) h).1 in
      or_from (has_float d) (members_have_float ms)
      (whole d (or_parts (untidy d) (not_above k ms || members_untidy ms) h).0)
      (members_whole ms (or_parts (not_above k ms) (members_untidy ms) rest).1)
