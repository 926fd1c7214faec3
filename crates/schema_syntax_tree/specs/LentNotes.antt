-- Lent annotations as lists of their entries, and that their order agrees with their equality.
use Rattle.std.specs.Prelude.{◌≡◌, ◌++◌, true, ℕ, nat_eq, List, Option, Some, None, refl, flat_map}
use Rattle.std.specs.Hash as fed
use Rattle.std.specs.Hash.{Alike, items_Alike, and-Alike, on_Alike}
use Rattle.std.proofs.Common.{ap, sym}
use mathlib.Core.Bool.{true≢false}
use Rattle.std.proofs.lemmas.Bool.Decides.{Decides-eqb}
use Rattle.std.proofs.lemmas.Slice.Eq.{slice_eq-Decides}
use Rattle.std.specs.Cmp.{both_tied}
use Rattle.std.specs.Cmp.Lexicographic.{pointwise, slice_cmp, lists_ties, texts_ties}
use Rattle.std.specs.Option.{option_eq, option_cmp}
use Rattle.std.specs.Ordering.{nat_cmp, on, eq_by_cmp, is_eq}
use Rattle.std.specs.Str.{encode_utf8_all}
use Rattle.cedar_data.specs.Text.{text_cmp}
use Rattle.cedar_identifiers.specs.declared.annotations.Annotations.{Annotations}
use Rattle.schema_syntax_tree.specs.LentWords.{LentNote, note_key, note_value, any_id_utf8, note_eq, note_cmp}
use Rattle.schema_syntax_tree.specs.Lent.{fed_alike}

-- the entries of annotations
abbrev pub notes_of : Annotations → List LentNote
notes_of annotations = annotations.0

value_tie : (x y : Option (List ℕ))
    → option_eq (on encode_utf8_all (pointwise nat_eq)) x y ≡ is_eq (option_cmp text_cmp x y)
value_tie None None = refl
value_tie None (Some y) = refl
value_tie (Some x) None = refl
value_tie (Some x) (Some y) = texts_ties (encode_utf8_all x) (encode_utf8_all y)

note_tie : (p q : LentNote) → note_eq p q ≡ eq_by_cmp note_cmp p q
note_tie p q =
    both_tied _ _ (on any_id_utf8 (slice_cmp nat_cmp) p.0 q.0) (option_cmp text_cmp p.1 q.1)
    (texts_ties (any_id_utf8 p.0) (any_id_utf8 q.0)) (value_tie p.1 q.1)

-- two lists of annotations are equal exactly where their order puts neither before the other
pub ties_of_notes : (xs ys : List LentNote) → pointwise note_eq xs ys ≡ eq_by_cmp (slice_cmp note_cmp) xs ys
ties_of_notes = lists_ties note_cmp note_tie

-- what a note feeds a hasher
abbrev pub note_fed : LentNote → List (List ℕ)
note_fed p = fed.str (any_id_utf8 p.0) ++ fed.option (flat_map fed.char) p.1

words_fed : Alike (on any_id_utf8 (pointwise nat_eq)) (λ id. fed.str (any_id_utf8 id))
words_fed = record {
  fed = λ x y same. ap fed.str
      ((slice_eq-Decides Decides-eqb (any_id_utf8 x) (any_id_utf8 y) (pointwise nat_eq (any_id_utf8 x) (any_id_utf8 y))
      refl).0 same);
}

values_fed : (x y : Option (List ℕ)) → option_eq (on encode_utf8_all (pointwise nat_eq)) x y ≡ true
    → fed.option (flat_map fed.char) x ≡ fed.option (flat_map fed.char) y
values_fed None None same = refl
values_fed None (Some y) same = absurd (true≢false (sym same))
values_fed (Some x) None same = absurd (true≢false (sym same))
values_fed (Some x) (Some y) same = ap (λ writes. fed.option (λ w. w) (Some writes)) (fed_alike x y same)

-- lists of annotations that are equal feed a hasher alike
pub notes_fed_alike : (xs ys : List LentNote) → pointwise note_eq xs ys ≡ true
    → fed.slice note_fed xs ≡ fed.slice note_fed ys
notes_fed_alike = (items_Alike
    (and-Alike (on_Alike note_key words_fed) (on_Alike note_value (record { fed = values_fed })))).fed
