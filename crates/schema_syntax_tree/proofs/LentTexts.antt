-- Words are ASCII, so their bytes are their characters.
use Rattle.std.specs.Prelude.{◌≡◌, ℕ, true, nat_eq, List, refl}
use Rattle.std.specs.Bool.{Decides}
use Rattle.std.specs.Cmp.Lexicographic.{pointwise}
use Rattle.std.proofs.Common.{ap}
use Rattle.std.proofs.lemmas.Bool.Decides.{Decides-eqb, same_from_decides}
use Rattle.std.proofs.lemmas.Slice.Eq.{slice_eq-Decides}
use Rattle.std.specs.Str.{chars, encode_utf8_all}
use Rattle.std.proofs.lemmas.Str.{chars-IsAscii, encodes_same}
use Rattle.cedar_data.specs.Words.{is_word}
use Rattle.cedar_data.proofs.Ascii.{word_ascii, word_bytes}
use Rattle.cedar_identifiers.specs.Words.{is_id}
use Rattle.cedar_identifiers.specs.declared.any_id.AnyId.{AnyId}
use Rattle.cedar_identifiers.proofs.Ids.{id_is_word}

pub id_chars : (w : List ℕ) → is_id w ≡ true → chars w ≡ w
id_chars w h = chars-IsAscii w (word_ascii w (id_is_word w h))

-- texts are told apart by their bytes as by their characters
pub same_tests : (v w : List ℕ) → pointwise nat_eq v w ≡ pointwise nat_eq (encode_utf8_all v) (encode_utf8_all w)
same_tests v w =
    let characters = slice_eq-Decides Decides-eqb v w (pointwise nat_eq v w) refl in
    let bytes = slice_eq-Decides Decides-eqb (encode_utf8_all v) (encode_utf8_all w)
    (pointwise nat_eq (encode_utf8_all v) (encode_utf8_all w)) refl in
    let same : Decides (pointwise nat_eq (encode_utf8_all v) (encode_utf8_all w))
    (v ≡ w) = (λ h. encodes_same v w (bytes.0 h), λ e. bytes.1 (ap encode_utf8_all e)) in
    same_from_decides _ _ characters same

pub word_chars : (w : List ℕ) → is_word w ≡ true → chars w ≡ w
word_chars w h = chars-IsAscii w (word_ascii w h)

pub any_id_bytes : (id : AnyId) → encode_utf8_all id.text ≡ id.text
any_id_bytes id = word_bytes id.text id.word
