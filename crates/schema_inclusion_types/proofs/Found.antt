-- Attributes whose names rise, and what stands at a name.
use Rattle.std.proofs.Common.{◌≡◌, ℕ, zero, suc, ◌+◌, ◌<◌, ◌≤◌, Bool, true, false, cond, ◌&&◌, ◌||◌, List, [], ◌∷◌}
use Rattle.std.proofs.Common.{length, get_or, take, drop, Option, Some, None, refl, sym, ap, ◌∙◌, subst, arith}
use Rattle.std.specs.Prelude.{slice_index_or}
use Rattle.std.specs.declared.cmp.Ordering.{Ordering}
use Rattle.std.specs.declared.cmp.Ordering.TheVariants.{Less, Equal, Greater}
use Rattle.std.specs.Ordering.{is_eq}
use Rattle.std.specs.BTreeMap.{is_at}
use Rattle.std.specs.List.{AllByRecursion}
use Rattle.std.specs.List.Sorted.{IsStrictlySortedBy}
use Rattle.std.specs.Map.{lookup, keys_of}
use Rattle.std.specs.Option.{option_map}
use Rattle.std.specs.Str.{bytes_eq}
use Rattle.std.proofs.lemmas.Slice.Eq.{bytes_eq-Decides}
use Rattle.std.proofs.lemmas.Map.Keys.{Less-from_sorted}
use Rattle.std.proofs.lemmas.Map.Entries.{length-keys_of}
use Rattle.std.proofs.lemmas.List.{get_or-map}
use Rattle.cedar_data.specs.Halving.{IsGap}
use Rattle.cedar_data.specs.Text.{text_cmp}
use Rattle.cedar_data.proofs.Orders.{is_eq_turned, equal_from, text_total, text_exact}
use Rattle.cedar_names.specs.Meaning.{PlainType, Attributes, no_more, attribute}
use Rattle.schema_build_types.specs.declared.types.Type.{«Type»}
use Rattle.schema_build_text.proofs.Rowed.{dropped}
use Rattle.schema_inclusion_values.specs.Checks.{some_value, some_entries, entries_with, is_required, all_required}
use Rattle.schema_inclusion_values.specs.Checks.{lost_at, lost_value, lost_fields, or_more}
use Rattle.schema_inclusion_values.specs.Values.{Text, Name, Val, Rec, Entries, no_entries, entry}
use Rattle.schema_inclusion_types.specs.Entries.{some_onto, entries_at}
use Rattle.schema_inclusion_types.specs.Kinds.{Attrs, plain, plain_attrs, AreSorted}
use Rattle.schema_inclusion_types.specs.LostAttributes.{is_marked, lost_to}
use Rattle.schema_inclusion_types.proofs.Ties.{texts_tie}

-- ---- names that rise

above_first : (a : List ℕ × («Type» × Bool)) (xs : Attrs) → AreSorted (a ∷ xs)
    → AllByRecursion (λ y. text_cmp a.0 y ≡ Less) (keys_of xs)
unfolding IsStrictlySortedBy
above_first a xs up = up.0

rest_sorted : (a : List ℕ × («Type» × Bool)) (xs : Attrs) → AreSorted (a ∷ xs) → AreSorted xs
unfolding IsStrictlySortedBy
rest_sorted a xs up = up.1

key_at : (P : List ℕ → Type 0) (xs : Attrs) (i : ℕ) (d : List ℕ × («Type» × Bool)) → AllByRecursion P (keys_of xs)
    → i < length xs → P (get_or xs i d).0
key_at P [] i d all h = absurd (omega arith)
key_at P (a ∷ xs) zero d all h = all.0
key_at P (a ∷ xs) (suc i) d all h = key_at P xs i d all.1 (omega arith)

-- a lesser name is another
other_name : (m n : List ℕ) → text_cmp m n ≡ Less → bytes_eq m n ≡ false
other_name m n h = sym (texts_tie m n) ∙ ap is_eq h

other_back : (m n : List ℕ) → text_cmp m n ≡ Less → bytes_eq n m ≡ false
other_back m n h = sym (texts_tie n m) ∙ (is_eq_turned text_total n m ∙ ap is_eq h)

same_itself : (n : List ℕ) → bytes_eq n n ≡ true
same_itself n = (bytes_eq-Decides n n).1 refl

-- the names before next are below those from at on
abbrev pub AllBelow : Attrs → Attrs → ℕ → ℕ → Type 0
AllBelow xs bs next at = (k : ℕ) (d : List ℕ × («Type» × Bool)) (j : ℕ) (e : List ℕ × («Type» × Bool)) → k < next
    → at ≤ j → j < length bs → text_cmp (slice_index_or xs k d).0 (slice_index_or bs j e).0 ≡ Less

pub below_at_first : (xs bs : Attrs) → AllBelow xs bs 0 0
below_at_first xs bs k d j e h = absurd (omega arith)

-- so the place is one for the name that stands there
pub gap_at : (xs bs : Attrs) (next at : ℕ) (b : List ℕ × («Type» × Bool)) → AllBelow xs bs next at → at < length bs
    → b ≡ get_or bs at b → IsGap text_cmp b.0 xs next (length xs)
gap_at xs bs next at b all h e = record {
  in_range = omega arith;
  below = λ k d lt. ap (λ x. text_cmp (slice_index_or xs k d).0 x.0) e ∙ all k d at b lt (omega arith) h;
  above = λ k d ge lt. absurd (omega arith);
}

later : (bs : Attrs) (i j : ℕ) (e : List ℕ × («Type» × Bool)) → AreSorted bs → i < j → j < length bs
    → text_cmp (get_or bs i e).0 (get_or bs j e).0 ≡ Less
later bs i j e up lt h =
    let at_i : get_or (keys_of bs) i e.0 ≡ (get_or bs i e).0 = get_or-map (λ b. b.0) bs i e e.0 (omega arith) in
    let at_j : get_or (keys_of bs) j e.0 ≡ (get_or bs j e).0 = get_or-map (λ b. b.0) bs j e e.0 h in
    let low : text_cmp (get_or (keys_of bs) i e.0) (get_or (keys_of bs) j e.0)
    ≡ Less = Less-from_sorted text_cmp (keys_of bs) i j e.0 up lt (omega (arith, length-keys_of bs)) in
    ap (λ k. text_cmp k (get_or bs j e).0) (sym at_i)
    ∙ (ap (λ k. text_cmp (get_or (keys_of bs) i e.0) k) (sym at_j) ∙ low)

pub default_at : (bs : Attrs) (i : ℕ) (d e : List ℕ × («Type» × Bool)) → i < length bs → get_or bs i d ≡ get_or bs i e
default_at [] i d e h = absurd (omega arith)
default_at (b ∷ bs) zero d e h = refl
default_at (b ∷ bs) (suc i) d e h = default_at bs i d e (omega arith)

-- and for those behind it
pub below_behind : (xs bs : Attrs) (place at : ℕ) (b : List ℕ × («Type» × Bool)) → AreSorted bs → at < length bs
    → b ≡ get_or bs at b → IsGap text_cmp b.0 xs place (length xs) → AllBelow xs bs place (at + 1)
below_behind xs bs place at b up h e gap k d j f lt ge within =
    text_total.trans (slice_index_or xs k d).0 b.0 (slice_index_or bs j f).0 (gap.below k d lt)
    (ap (λ x. text_cmp x.0 (get_or bs j f).0) (e ∙ default_at bs at b f h) ∙ later bs at j f up (omega arith) within)

pub below_later : (xs bs : Attrs) (next at : ℕ) → AllBelow xs bs next at → AllBelow xs bs next (at + 1)
below_later xs bs next at all k d j e lt ge within = all k d j e lt (omega arith) within

-- ---- what stands at a name

module _ (id_of : Name → Text) (lost : Name → Option Text) (t : PlainType) (n : List ℕ) where
  chosen : (b : Bool) (a : «Type» × Bool) (o : Option («Type» × Bool))
      → cond b (lost_value id_of lost t (plain a.0)) (lost_to id_of lost t o)
      ≡ lost_to id_of lost t (cond b (Some a) o)
  chosen true a o = refl
  chosen false a o = refl

  pub lost_looked : (xs : Attrs) → lost_at id_of lost (lost_value id_of lost t) (some_value id_of t) n (plain_attrs xs)
      ≡ lost_to id_of lost t (lookup (is_at (text_cmp n)) xs)
  lost_looked [] = refl
  lost_looked (a ∷ xs) =
      (λ i. cond (sym (texts_tie n a.0) i) (lost_value id_of lost t (plain a.1.0)) (lost_looked xs i))
      ∙ chosen (is_at (text_cmp n) a.0) a.1 (lookup (is_at (text_cmp n)) xs)

none_required : (n : List ℕ) (xs : Attrs) → AllByRecursion (λ y. text_cmp n y ≡ Less) (keys_of xs)
    → is_required n (plain_attrs xs) ≡ false
none_required n [] h = refl
none_required n (a ∷ xs) h =
    ap (λ b. (b && a.1.1) || is_required n (plain_attrs xs)) (other_back n a.0 h.0) ∙ none_required n xs h.1

or_nothing : (r b : Bool) → b ≡ false → (r || b) ≡ r
or_nothing true b h = refl
or_nothing false b h = h

pub required_looked : (n : List ℕ) (xs : Attrs) → AreSorted xs
    → is_required n (plain_attrs xs) ≡ is_marked (lookup (is_at (text_cmp n)) xs)
required_looked n [] up = refl
required_looked n (a ∷ xs) up = by (is_at (text_cmp n) a.0) refl (required_looked n xs (rest_sorted a xs up))
  where
    found : (b : Bool) → is_at (text_cmp n) a.0 ≡ b → bytes_eq a.0 n ≡ b
    found b e = sym (texts_tie a.0 n) ∙ (is_eq_turned text_total a.0 n ∙ e)

    by : (b : Bool) → is_at (text_cmp n) a.0 ≡ b
        → is_required n (plain_attrs xs) ≡ is_marked (lookup (is_at (text_cmp n)) xs)
        → ((bytes_eq a.0 n && a.1.1) || is_required n (plain_attrs xs))
        ≡ is_marked (cond (is_at (text_cmp n) a.0) (Some a.1) (lookup (is_at (text_cmp n)) xs))
    by true e rest =
        let same : n ≡ a.0 = text_exact n a.0 (equal_from (text_cmp n a.0) e) in
        ap (λ b. (b && a.1.1) || is_required n (plain_attrs xs)) (found true e)
        ∙ (or_nothing a.1.1 (is_required n (plain_attrs xs))
        (none_required n xs (subst (λ m. AllByRecursion (λ y. text_cmp m y ≡ Less) (keys_of xs)) (sym same)
        (above_first a xs up)))
        ∙ ap (λ b. is_marked (cond b (Some a.1) (lookup (is_at (text_cmp n)) xs))) (sym e))
    by false e rest =
        ap (λ b. (b && a.1.1) || is_required n (plain_attrs xs)) (found false e)
        ∙ (rest ∙ ap (λ b. is_marked (cond b (Some a.1) (lookup (is_at (text_cmp n)) xs))) (sym e))

-- items at one place are one
pub same_item : (xs : Attrs) (at : ℕ) (d e : List ℕ × («Type» × Bool)) → at < length xs → d ≡ get_or xs at d
    → e ≡ get_or xs at e → d ≡ e
same_item xs at d e h p q = p ∙ (default_at xs at d e h ∙ sym q)

-- one required attribute, and those behind it
pub all_step : (os : Attributes) (xs : Attrs) (at : ℕ) (d : List ℕ × («Type» × Bool)) → at < length xs
    → d ≡ get_or xs at d → (r : Bool) → d.1.1 ≡ r
    → all_required os (plain_attrs (drop at xs))
    ≡ cond r (cond (is_required d.0 os) (all_required os (plain_attrs (drop (at + 1) xs))) false)
    (all_required os (plain_attrs (drop (at + 1) xs)))
all_step os xs at d h e r same =
    let behind = all_required os (plain_attrs (drop (at + 1) xs)) in
    ap (λ l. all_required os (plain_attrs l)) (dropped xs at d h e)
    ∙ ap (λ b. cond b (cond (is_required d.0 os) behind false) behind) same

-- ---- the attribute at a place with a value, and the required ones

module _ (id_of : Name → Text) (v : Val) where
  nowhere : (n : List ℕ) (xs : Attrs) → AllByRecursion (λ y. text_cmp n y ≡ Less) (keys_of xs)
      → entries_with id_of n v (plain_attrs xs) ≡ some_entries id_of (plain_attrs xs)
  nowhere n [] h = refl
  nowhere n (a ∷ xs) h =
      let rest = nowhere n xs h.1 in
      (λ i. cond (other_back n a.0 h.0 i) (entry a.0 v (entries_with id_of n v (plain_attrs xs)))
      (cond a.1.1 (entry a.0 (some_value id_of (plain a.1.0)) (entries_with id_of n v (plain_attrs xs)))
      (entries_with id_of n v (plain_attrs xs))))
      ∙ ap (λ es. cond a.1.1 (entry a.0 (some_value id_of (plain a.1.0)) es) es) rest

  one_before : (a : List ℕ × («Type» × Bool)) (before behind : Attrs)
      → cond a.1.1 (entry a.0 (some_value id_of (plain a.1.0)) (entries_at id_of before behind v))
      (entries_at id_of before behind v) ≡ entries_at id_of (a ∷ before) behind v
  one_before a before [] = refl
  one_before a before (b ∷ behind) = refl

  pub entries_split : (xs : Attrs) (at : ℕ) (d : List ℕ × («Type» × Bool)) → AreSorted xs → at < length xs
      → d ≡ get_or xs at d → entries_with id_of d.0 v (plain_attrs xs)
      ≡ entries_at id_of (take at xs) (drop at xs) v
  entries_split [] at d up h e = absurd (omega arith)
  entries_split (a ∷ xs) zero d up h e =
      ap (λ x. entries_with id_of x.0 v (plain_attrs (a ∷ xs))) e
      ∙ ((λ i. cond (same_itself a.0 i) (entry a.0 v (entries_with id_of a.0 v (plain_attrs xs)))
      (cond a.1.1 (entry a.0 (some_value id_of (plain a.1.0)) (entries_with id_of a.0 v (plain_attrs xs)))
      (entries_with id_of a.0 v (plain_attrs xs))))
      ∙ ap (entry a.0 v) (nowhere a.0 xs (above_first a xs up)))
  entries_split (a ∷ xs) (suc at) d up h e =
      let less : text_cmp a.0 d.0
      ≡ Less = ap (λ x. text_cmp a.0 x.0) e ∙ key_at (λ y. text_cmp a.0 y ≡ Less) xs at d (above_first a xs up)
      (omega arith) in
      (λ i. cond (other_name a.0 d.0 less i) (entry a.0 v (entries_with id_of d.0 v (plain_attrs xs)))
      (cond a.1.1 (entry a.0 (some_value id_of (plain a.1.0)) (entries_with id_of d.0 v (plain_attrs xs)))
      (entries_with id_of d.0 v (plain_attrs xs))))
      ∙ (ap (λ es. cond a.1.1 (entry a.0 (some_value id_of (plain a.1.0)) es) es)
      (entries_split xs at d (rest_sorted a xs up) (omega arith) e)
      ∙ one_before a (take at xs) (drop at xs))

-- ---- one attribute that is looked for, and those behind it

module _ (id_of : Name → Text) (lost : Name → Option Text) (all : Attributes) (news : Attrs) where
  pub fields_step : (olds : Attrs) (at : ℕ) (d : List ℕ × («Type» × Bool)) → at < length olds
      → d ≡ get_or olds at d → lost_fields id_of lost all (plain_attrs (drop at olds)) (plain_attrs news)
      ≡ or_more id_of lost (option_map (λ v. Rec (entries_with id_of d.0 v all))
      (lost_to id_of lost (plain d.1.0) (lookup (is_at (text_cmp d.0)) news)))
      (lost_fields id_of lost all (plain_attrs (drop (at + 1) olds)) (plain_attrs news))
  fields_step olds at d h e =
      let behind = lost_fields id_of lost all (plain_attrs (drop (at + 1) olds)) (plain_attrs news) in
      ap (λ l. lost_fields id_of lost all (plain_attrs l) (plain_attrs news)) (dropped olds at d h e)
      ∙ ap (λ o. or_more id_of lost (option_map (λ v. Rec (entries_with id_of d.0 v all)) o) behind)
      (lost_looked id_of lost (plain d.1.0) d.0 news)
