-- A text is compared with an ASCII one by bytes or by characters alike.
use Rattle.std.proofs.Common.{◌≡◌, ℕ, true, List, sym, ap, ◌∙◌}
use Rattle.std.specs.Char.{is_ascii}
use Rattle.std.specs.Cmp.{both_ways}
use Rattle.std.specs.List.{list_all}
use Rattle.std.specs.Str.{bytes_eq, encode_utf8_all}
use Rattle.std.proofs.lemmas.Slice.Eq.{bytes_eq-Decides}
use Rattle.schema_syntax_errors.specs.SameFaults.{encodes_injective}
use Rattle.cedar_data.proofs.Ascii.{encodes-from_test}

pub same_text : (text ascii : List ℕ) → list_all is_ascii ascii ≡ true
    → bytes_eq (encode_utf8_all text) ascii ≡ bytes_eq text ascii
same_text text ascii h =
    both_ways (bytes_eq (encode_utf8_all text) ascii) (bytes_eq text ascii)
    (λ e. (bytes_eq-Decides text ascii).1
    (encodes_injective text ascii ((bytes_eq-Decides (encode_utf8_all text) ascii).0 e
    ∙ sym (encodes-from_test ascii h))))
    (λ e. (bytes_eq-Decides (encode_utf8_all text) ascii).1
    (ap encode_utf8_all ((bytes_eq-Decides text ascii).0 e) ∙ encodes-from_test ascii h))
