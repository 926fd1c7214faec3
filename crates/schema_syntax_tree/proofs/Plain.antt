-- A word stands for itself.
use Rattle.std.specs.Prelude.{◌≡◌, ℕ, true, List, [], ◌∷◌}
use Rattle.std.specs.List.{list_all}
use Rattle.std.specs.Cmp.{first_so, second_so}
use Rattle.std.proofs.Common.{ap, ◌∙◌, sym, refl, arith, inl, ◌≢◌}
use Rattle.std.proofs.lemmas.Bool.Decides.{nat_tests}
use Rattle.std.proofs.lemmas.Str.{encode_ascii}
use Rattle.cedar_data.specs.Words.{is_word_start, is_word_part, is_word}
use Rattle.cedar_data.proofs.Ascii.{part_ascii, start_part}
use Rattle.schema_syntax_tokens.specs.Escapes.{Unescapes}
use Rattle.cedar_identifiers.specs.Words.{is_id}
use Rattle.cedar_identifiers.proofs.Ids.{id_is_word}

no_backslash : (b : ℕ) → is_word_part b ≡ true → b ≢ 92
no_backslash b h e = let f : is_word_part 92 ≡ true = ap is_word_part (sym e) ∙ h in grind (arith, nat_tests)

parts_stand : (w : List ℕ) → list_all is_word_part w ≡ true → Unescapes w w
parts_stand [] h = refl
parts_stand (b ∷ bs) h =
    let part : is_word_part b ≡ true = first_so (is_word_part b) (list_all is_word_part bs) h in (
      b ∷ [],
      bs,
      refl,
      inl (sym (encode_ascii b (part_ascii b part)), no_backslash b part),
      parts_stand bs
          (second_so (is_word_part b) (list_all is_word_part bs) h),
    )

pub word_stands : (w : List ℕ) → is_word w ≡ true → Unescapes w w
word_stands [] h = refl
word_stands (b ∷ bs) h =
    let part : is_word_part b ≡ true = start_part b (first_so (is_word_start b) (list_all is_word_part bs) h) in (
      b ∷ [],
      bs,
      refl,
      inl (sym (encode_ascii b (part_ascii b part)), no_backslash b part),
      parts_stand bs
          (second_so (is_word_start b) (list_all is_word_part bs) h),
    )

pub id_stands : (w : List ℕ) → is_id w ≡ true → Unescapes w w
id_stands w h = word_stands w (id_is_word w h)
