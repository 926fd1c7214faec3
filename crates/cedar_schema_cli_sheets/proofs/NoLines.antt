-- The lines of a text without a byte.
use Rattle.std.proofs.Common.{◌≡◌, ◌≤◌, ◌<◌, ap, ℕ, List, [], ◌∷◌, length, slice_index, arith}
use Rattle.schema_report.specs.Lines.{TextLines, AreLineStarts}
use Rattle.cedar_schema_cli_sheets.specs.Sheets.{no_lines}

none_at : (n : ℕ) → n ≤ 0 → n ≡ 0
none_at n le = omega arith

one_start : (starts : List ℕ) → length starts ≡ 1 → ((line : ℕ) → line < length starts → slice_index starts line ≤ 0)
    → starts ≡ 0 ∷ []
one_start [] is each = absurd (omega (arith, is))
one_start (s ∷ []) is each = ap (λ n. n ∷ []) (none_at s (each 0 (omega arith)))
one_start (s ∷ t ∷ rest) is each = absurd (omega (arith, is))

pub lines_of_nothing : (lines : TextLines) → lines.text ≡ [] → AreLineStarts [] lines.starts → lines ≡ no_lines
lines_of_nothing lines text starts =
    let one = one_start lines.starts starts.all (λ line within. (starts.each line within).within) in
    λ i. record { text = text i; starts = one i }
