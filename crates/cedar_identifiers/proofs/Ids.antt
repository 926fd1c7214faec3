-- Words that may stand in names.
use Rattle.std.proofs.Common.{◌≡◌, ℕ, true, false, not, List, refl, sym, ap, ◌∙◌, inl, inr}
use Rattle.std.specs.Cmp.{first_so}
use Rattle.std.specs.Str.{encode_utf8_all, all_scalars}
use Rattle.std.proofs.lemmas.Bool.{cases_Bool}
use Rattle.std.proofs.lemmas.Str.{chars-encodes, chars-IsAscii}
use Rattle.cedar_data.specs.Words.{is_word}
use Rattle.cedar_data.proofs.Ascii.{word_ascii, word_bytes}
use Rattle.cedar_identifiers.specs.Words.{is_reserved, is_id}

pub id_is_word : (w : List ℕ) → is_id w ≡ true → is_word w ≡ true
id_is_word w h = first_so (is_word w) (not (is_reserved w)) h

pub id_from_word : (w : List ℕ) → is_word w ≡ true → is_reserved w ≡ false → is_id w ≡ true
id_from_word w h k = rw (h, k) refl

-- the bytes of a word that may stand in a name are its characters
pub id_bytes : (w : List ℕ) → is_id w ≡ true → encode_utf8_all w ≡ w
id_bytes w h = word_bytes w (id_is_word w h)

-- whether a text is one can be told by its bytes
pub id_by_bytes : (w : List ℕ) → all_scalars w ≡ true → is_id (encode_utf8_all w) ≡ is_id w
id_by_bytes w s =
    elim (cases_Bool (is_id w)) [
      | inl h ↦ ap is_id (id_bytes w h)
      | inr h ↦
          elim (cases_Bool (is_id (encode_utf8_all w))) [
            | inl k ↦
                let same : encode_utf8_all w ≡ w = sym (chars-IsAscii (encode_utf8_all w)
                (word_ascii (encode_utf8_all w) (id_is_word (encode_utf8_all w) k))) ∙ chars-encodes w s in
                ap is_id same
            | inr k ↦ k ∙ sym h
          ]
    ]
