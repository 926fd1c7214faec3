-- Notes by rising keys: each is found at its key.
use Rattle.std.proofs.Common.{◌≡◌, ℕ, true, false, cond, List, [], ◌∷◌, map, length, Option, Some, refl, sym, ap}
use Rattle.std.proofs.Common.{◌∙◌, subst, append-nil}
use Rattle.std.specs.declared.cmp.Ordering.TheVariants.{Less}
use Rattle.std.specs.Ordering.{is_eq}
use Rattle.std.specs.Map.{keys_of, lookup}
use Rattle.std.specs.List.{AllPairs, AllByRecursion}
use Rattle.std.specs.List.Sorted.{IsStrictlySortedBy, IsPermutation}
use Rattle.std.specs.Str.{encode_utf8_all, bytes_eq}
use Rattle.std.proofs.lemmas.List.{length-map}
use Rattle.std.proofs.lemmas.List.Elements.{All-from_recursion, recursion_from_All}
use Rattle.std.proofs.lemmas.List.Sorted.{IsPermutation-sym, IsPermutation-map, All-permutation, length_permutation}
use Rattle.std.proofs.lemmas.Map.Text.{is_eq-slice_cmp}
use Rattle.std.proofs.lemmas.Slice.Eq.{bytes_eq-Decides}
use Rattle.std.proofs.lemmas.Bool.{false_from_ne_true}
use Rattle.cedar_data.specs.Text.{text_cmp}
use Rattle.cedar_data.proofs.Every.{all_unmapped}
use Rattle.cedar_identifiers.specs.declared.any_id.AnyId.{AnyId}
use Rattle.schema_syntax_reader.specs.declared.annotations.Kept.{Kept}
use Rattle.schema_syntax_reader.specs.Leaves.{Notes}
use Rattle.schema_syntax_reader.specs.Deduplicated.{Placed, placed_key, value_of, note_of, HaveOtherKeys, AreKept}
use Rattle.schema_syntax_reader.specs.Collected.{entry_of, note_of_entry, HasRead}
use Rattle.schema_syntax_reader.proofs.Keys.{key_cmp}

-- the places aside, the keys stay
pub same_keys : (es : List (AnyId × Kept)) → keys_of (map note_of_entry es) ≡ keys_of es
same_keys [] = refl
same_keys (e ∷ es) = ap (λ l. e.0 ∷ l) (same_keys es)

below_texts : (k : AnyId) (ns : Notes) → AllByRecursion (λ y. key_cmp k y ≡ Less) (keys_of ns)
    → AllByRecursion (λ y. text_cmp k.text y ≡ Less) (map (λ note. note.0.text) ns)
below_texts k [] h = tt
below_texts k (n ∷ ns) h = (h.0, below_texts k ns h.1)

-- keys that rise have texts that rise
pub rising_texts : (ns : Notes) → IsStrictlySortedBy key_cmp (keys_of ns)
    → IsStrictlySortedBy text_cmp (map (λ note. note.0.text) ns)
unfolding IsStrictlySortedBy
rising_texts [] h = tt
rising_texts (n ∷ ns) h = (below_texts n.0 ns h.0, rising_texts ns h.1)

notes_of_entries : (ps : List Placed) → map note_of_entry (map entry_of ps) ≡ map note_of ps
notes_of_entries [] = refl
notes_of_entries (p ∷ ps) = ap (λ l. note_of p ∷ l) (notes_of_entries ps)

-- what a tree without places keeps
pub kept : (all : List Placed) (entries : List (AnyId × Kept)) (notes : Notes) → HasRead all [] entries
    → notes ≡ map note_of_entry entries → IsStrictlySortedBy text_cmp (map (λ note. note.0.text) notes)
    → AreKept all notes
kept all entries notes h e rising =
    let whole : all ≡ h.front = h.split ∙ append-nil h.front in
    record {
      apart = subst (λ l. AllPairs HaveOtherKeys l) (sym whole) h.apart;
      same = subst (λ l. IsPermutation (map note_of l) notes) (sym whole)
          (subst (λ l. IsPermutation (map note_of h.front) l) (sym e)
          (subst (λ l. IsPermutation l (map note_of_entry entries)) (notes_of_entries h.front)
          (IsPermutation-map note_of_entry (map entry_of h.front) entries h.same)));
      rising = rising;
    }

-- the note is found at the text of its key
abbrev IsFound : Notes → AnyId × Option (List ℕ) → Type 0
IsFound notes n = lookup (λ key. bytes_eq key.text n.0.text) notes ≡ Some n.1

same_bytes : (w : List ℕ) → bytes_eq w w ≡ true
same_bytes w = (bytes_eq-Decides w w).1 refl

-- texts of which one is below the other differ
below_other : (v w : List ℕ) → text_cmp v w ≡ Less → bytes_eq v w ≡ true → ⊥
below_other v w h e =
    let same : v ≡ w = (bytes_eq-Decides v w).0 e in
    let tie : is_eq (text_cmp v w) ≡ true = is_eq-slice_cmp (encode_utf8_all v) (encode_utf8_all w)
    ∙ (bytes_eq-Decides (encode_utf8_all v) (encode_utf8_all w)).1 (ap encode_utf8_all same) in
    let no : false ≡ true = sym (ap is_eq h) ∙ tie in
    cc

found_behind : (n : AnyId × Option (List ℕ)) (all ns : Notes)
    → AllByRecursion (λ y. text_cmp n.0.text y ≡ Less) (map (λ note. note.0.text) ns)
    → AllByRecursion (IsFound all) ns → AllByRecursion (IsFound (n ∷ all)) ns
found_behind n all [] below h = tt
found_behind n all (m ∷ ms) below h = (
  ap (λ b. cond b (Some n.1) (lookup (λ key. bytes_eq key.text m.0.text) all))
      (false_from_ne_true (bytes_eq n.0.text m.0.text) (below_other n.0.text m.0.text below.0))
      ∙ h.0,
  found_behind n all ms below.1 h.1,
)

each_found : (ns : Notes) → IsStrictlySortedBy text_cmp (map (λ note. note.0.text) ns)
    → AllByRecursion (IsFound ns) ns
unfolding IsStrictlySortedBy
each_found [] h = tt
each_found (n ∷ ns) h = (
  ap (λ b. cond b (Some n.1) (lookup (λ key. bytes_eq key.text n.0.text) ns))
      (same_bytes n.0.text),
  found_behind n ns ns h.0 (each_found ns h.1),
)

-- what is kept is found
pub kept_found : (ps : List Placed) (notes : Notes) → AreKept ps notes
    → AllByRecursion (λ p. lookup (λ key. bytes_eq key.text (placed_key p).text) notes ≡ Some (value_of p)) ps
kept_found ps notes h =
    all_unmapped (IsFound notes) note_of ps
    (recursion_from_All (IsFound notes) (map note_of ps)
    (All-permutation (IsFound notes) notes (map note_of ps) (IsPermutation-sym (map note_of ps) notes h.same)
    (All-from_recursion (IsFound notes) notes (each_found notes h.rising))))

pub kept_as_many : (ps : List Placed) (notes : Notes) → AreKept ps notes → length notes ≡ length ps
kept_as_many ps notes h = length_permutation (map note_of ps) notes h.same ∙ length-map ps note_of
