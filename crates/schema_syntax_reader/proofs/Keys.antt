-- Annotations that go into a tree, one after another.
use Rattle.std.proofs.Common.{◌≡◌, ℕ, zero, suc, ◌<◌, true, false, List, [], ◌∷◌, ◌++◌, length, get_or, map, Option}
use Rattle.std.proofs.Common.{Some, None, refl, sym, ap, ◌∙◌, subst, append_assoc, arith}
use Rattle.std.specs.declared.cmp.Ordering.{Ordering}
use Rattle.std.specs.declared.cmp.Ordering.TheVariants.{Less, Equal, Greater}
use Rattle.std.specs.Ordering.{is_eq, match_ordering}
use Rattle.std.specs.Option.{option_map}
use Rattle.std.specs.BTreeMap.{insert_entry, is_at}
use Rattle.std.specs.Map.{lookup}
use Rattle.std.specs.List.{All, AllPairs, AllByRecursion, Contains}
use Rattle.std.specs.List.Sorted.{IsPermutation}
use Rattle.std.specs.Str.{encode_utf8_all}
use Rattle.std.proofs.lemmas.List.{map-append}
use Rattle.std.proofs.lemmas.List.Elements.{All-from_recursion, recursion_from_All}
use Rattle.std.proofs.lemmas.List.Quantifiers.{all_pairs_push}
use Rattle.std.proofs.lemmas.List.Sorted.{IsPermutation-refl, IsPermutation-sym, IsPermutation-cons}
use Rattle.std.proofs.lemmas.List.Sorted.{IsPermutation-trans, IsPermutation-middle, IsPermutation-push_more}
use Rattle.std.proofs.lemmas.List.Sorted.{All-permutation, Contains-permutation}
use Rattle.std.proofs.lemmas.Map.{NonePasses, none_passes_from_lookup}
use Rattle.std.proofs.lemmas.Map.Views.{Contains-from_lookup}
use Rattle.std.proofs.lemmas.Map.Text.{is_eq-slice_cmp}
use Rattle.std.proofs.lemmas.Slice.Eq.{bytes_eq-Decides}
use Rattle.cedar_data.specs.Text.{text_cmp}
use Rattle.cedar_data.proofs.Ascii.{word_bytes}
use Rattle.cedar_data.proofs.Every.{all_unmapped}
use Rattle.cedar_identifiers.specs.declared.any_id.AnyId.{AnyId}
use Rattle.cedar_identifiers.proofs.Same.{any_id_same}
use Rattle.schema_syntax_errors.specs.declared.user_error.UserError.TheVariants.{DuplicateAnnotations}
use Rattle.schema_syntax_reader.specs.declared.annotations.Kept.{Kept}
use Rattle.schema_syntax_reader.specs.Deduplicated.{Placed, placed_key, key_place, HaveOtherKeys, IsTwice}
use Rattle.schema_syntax_reader.specs.Collected.{entry_of, HasRead}

-- the order of keys
abbrev pub key_cmp : AnyId → AnyId → Ordering
key_cmp a b = text_cmp a.text b.text

-- keys that tie are the same
key_same : (a b : AnyId) → is_eq (key_cmp a b) ≡ true → a ≡ b
key_same a b h =
    let e : encode_utf8_all a.text
    ≡ encode_utf8_all b.text = (bytes_eq-Decides (encode_utf8_all a.text) (encode_utf8_all b.text)).0
    (sym (is_eq-slice_cmp (encode_utf8_all a.text) (encode_utf8_all b.text)) ∙ h) in
    any_id_same a b (sym (word_bytes a.text a.word) ∙ (e ∙ word_bytes b.text b.word))

key_ties : (a : AnyId) → is_eq (key_cmp a a) ≡ true
key_ties a = is_eq-slice_cmp (encode_utf8_all a.text) (encode_utf8_all a.text)
    ∙ (bytes_eq-Decides (encode_utf8_all a.text) (encode_utf8_all a.text)).1 refl

other_key : (a p : Placed) → is_eq (key_cmp (placed_key a) (placed_key p)) ≡ false → HaveOtherKeys p a
other_key a p h = λ e. let f : false ≡ true = sym h
    ∙ (ap (λ k. is_eq (key_cmp (placed_key a) k)) e ∙ key_ties (placed_key a)) in cc

-- a new key goes among the entries
insert_by : {K X : Type 0} (R : K → K → Ordering) (k : K) (v : X) (e : K × X) (es : List (K × X)) (o : Ordering)
    → is_eq o ≡ false → IsPermutation ((k, v) ∷ es) (insert_entry R es k v)
    → IsPermutation ((k, v) ∷ e ∷ es) (match_ordering o ((k, v) ∷ e ∷ es) ((e.0, v) ∷ es) (e ∷ insert_entry R es k v))
insert_by R k v e es Less h below = IsPermutation-refl ((k, v) ∷ e ∷ es)
insert_by R k v e es Equal h below = cc
insert_by R k v e es Greater h below =
    IsPermutation-trans ((k, v) ∷ e ∷ es) (e ∷ (k, v) ∷ es) (e ∷ insert_entry R es k v)
    (IsPermutation-sym (e ∷ (k, v) ∷ es) ((k, v) ∷ e ∷ es) (IsPermutation-middle (e ∷ []) (k, v) es))
    (IsPermutation-cons e ((k, v) ∷ es) (insert_entry R es k v) below)

insert_new : {K X : Type 0} (R : K → K → Ordering) (k : K) (v : X) (es : List (K × X)) → NonePasses (is_at (R k)) es
    → IsPermutation ((k, v) ∷ es) (insert_entry R es k v)
insert_new R k v [] h = IsPermutation-refl ((k, v) ∷ [])
insert_new R k v (e ∷ es) h = insert_by R k v e es (R k e.0) h.0 (insert_new R k v es h.1)

-- what a list contains stands between two parts
split_map : {A B : Type 0} (f : A → B) (y : B) (xs : List A) (k : ℕ) → k < length (map f xs)
    → get_or (map f xs) k y ≡ y → (front : List A) × (x : A) × (back : List A) × (xs ≡ front ++ x ∷ back) × (f x ≡ y)
split_map f y [] k lt e = absurd (omega arith)
split_map f y (x ∷ xs) zero lt e = ([], x, xs, refl, e)
split_map f y (x ∷ xs) (suc k) lt e =
    let r = split_map f y xs k (omega arith) e in (x ∷ r.0, r.1, r.2, ap (λ l. x ∷ l) r.3, r.4)

pub has_more : (all left after : List Placed) (a : Placed) (entries entries' : List (AnyId × Kept))
    → HasRead all left entries → left ≡ a ∷ after → lookup (is_at (key_cmp (placed_key a))) entries ≡ None
    → entries' ≡ insert_entry key_cmp entries (placed_key a) (entry_of a).1 → HasRead all after entries'
has_more all left after a entries entries' h e none into =
    let free : NonePasses (is_at (key_cmp (placed_key a))) entries = none_passes_from_lookup
    (is_at (key_cmp (placed_key a))) entries none in
    let pushed : IsPermutation (map entry_of h.front ++ entry_of a ∷ [])
    (insert_entry key_cmp entries (placed_key a) (entry_of a).1) =
    IsPermutation-push_more (map entry_of h.front) entries
    (insert_entry key_cmp entries (placed_key a) (entry_of a).1) (entry_of a) h.same
    (insert_new key_cmp (placed_key a) (entry_of a).1 entries free) in
    let Other : AnyId × Kept → Type 0 = λ x. is_eq (key_cmp (placed_key a) x.0) ≡ false in
    let others : AllByRecursion Other (map entry_of h.front) =
    recursion_from_All Other (map entry_of h.front)
    (All-permutation Other entries (map entry_of h.front) (IsPermutation-sym (map entry_of h.front) entries h.same)
    (All-from_recursion Other entries free)) in
    let apart : All (λ p. is_eq (key_cmp (placed_key a) (placed_key p)) ≡ false) h.front = All-from_recursion
    (λ p. is_eq (key_cmp (placed_key a) (placed_key p)) ≡ false) h.front (all_unmapped Other entry_of h.front others) in
    record {
      front = h.front ++ a ∷ [];
      split = h.split ∙ (ap (λ l. h.front ++ l) e ∙ sym (append_assoc h.front (a ∷ []) after));
      same = subst (λ l. IsPermutation l entries') (sym (map-append entry_of h.front (a ∷ [])))
          (subst (λ l. IsPermutation (map entry_of h.front ++ entry_of a ∷ []) l) (sym into) pushed);
      apart = all_pairs_push HaveOtherKeys h.front a h.apart
          (λ k d lt. other_key a (get_or h.front k d) (apart k d lt));
    }

again_by : (a old : Placed) (kept : Kept) → entry_of old ≡ (placed_key a, kept) → placed_key a ≡ placed_key old
again_by a old kept e = λ i. (sym e i).0

told_by : (a old : Placed) (kept : Kept) → entry_of old ≡ (placed_key a, kept)
    → DuplicateAnnotations (placed_key a) (record { node = tt; loc = kept.place })
    (record { node = tt; loc = key_place a })
    ≡ DuplicateAnnotations (placed_key a) (record { node = tt; loc = key_place old })
    (record { node = tt; loc = key_place a })
told_by a old kept e = λ i. DuplicateAnnotations (placed_key a) (record { node = tt; loc = (sym e i).1.place })
    (record { node = tt; loc = key_place a })

split_by : (all front after : List Placed) (a : Placed) (before : List Placed) (old : Placed) (middle : List Placed)
    → all ≡ front ++ a ∷ after → front ≡ before ++ old ∷ middle → all ≡ (before ++ old ∷ middle) ++ a ∷ after
split_by all front after a before old middle e f = e ∙ ap (λ l. l ++ a ∷ after) f

apart_by : (front before : List Placed) (old : Placed) (middle : List Placed) → front ≡ before ++ old ∷ middle
    → AllPairs HaveOtherKeys front → AllPairs HaveOtherKeys (before ++ old ∷ middle)
apart_by front before old middle f h = subst (AllPairs HaveOtherKeys) f h

pub has_twice : (all left after : List Placed) (a : Placed) (entries : List (AnyId × Kept)) (kept : Kept)
    → HasRead all left entries → left ≡ a ∷ after → lookup (is_at (key_cmp (placed_key a))) entries ≡ Some kept
    → IsTwice all (DuplicateAnnotations (placed_key a) (record { node = tt; loc = kept.place })
    (record { node = tt; loc = key_place a }))
has_twice all left after a entries kept h e found =
    let there : Contains entries (placed_key a, kept) = Contains-from_lookup {eq = λ x y. is_eq (key_cmp x y)}
    key_same (placed_key a) kept entries found in
    let c : Contains (map entry_of h.front) (placed_key a, kept) = Contains-permutation entries (map entry_of h.front)
    (placed_key a, kept) (IsPermutation-sym (map entry_of h.front) entries h.same) there in
    let r = split_map entry_of (placed_key a, kept) h.front c.0 c.1 c.2 in
    record {
      front = r.0;
      old = r.1;
      middle = r.2;
      new = a;
      back = after;
      split = split_by all h.front after a r.0 r.1 r.2 (h.split ∙ ap (λ l. h.front ++ l) e) r.3;
      apart = apart_by h.front r.0 r.1 r.2 r.3 h.apart;
      again = again_by a r.1 kept r.4;
      told = told_by a r.1 kept r.4;
    }

-- what was found of a look-up's place
pub found_place : (o : Option Kept) (loc : _) → Some loc ≡ option_map (λ (kept : Kept). kept.place) o
    → (kept : Kept) × (o ≡ Some kept) × (kept.place ≡ loc)
found_place None loc e = cc
found_place (Some kept) loc e = (kept, refl, cc)

pub found_none : (o : Option Kept) → None ≡ option_map (λ (kept : Kept). kept.place) o → o ≡ None
found_none None e = refl
found_none (Some kept) e = cc
