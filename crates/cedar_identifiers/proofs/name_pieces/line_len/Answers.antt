use Rattle.std.proofs.Common.{◌≡◌, ℕ, false, refl, sym, arith}
use Rattle.std.proofs.lemmas.List.Sums.{prefix_len_is}
use Rattle.cedar_data.specs.Words.{is_in_line}
use Rattle.cedar_identifiers.proofs.name_pieces.line_len.Goals as goal
use Rattle.cedar_identifiers.proofs.name_pieces.line_len.Goals.{then-byte-eq10-via-then-byte-eq10}
use Rattle.cedar_identifiers.proofs.name_pieces.line_len.Goals.{then-byte-eq10-via-else-byte-eq10+then-byte-eq13}

lf_ends : (b : ℕ) → b ≡ 10 → is_in_line b ≡ false
lf_ends b e = rw e refl

cr_ends : (b : ℕ) → b ≡ 13 → is_in_line b ≡ false
cr_ends b e = rw e refl

pub returns-then-byte-eq10 : goal.returns-then-byte-eq10
returns-then-byte-eq10 c =
    sym (prefix_len_is is_in_line c.args.bytes.now c.loop-i.i 0 (omega arith) c.loop-i.invariant
    (λ _. elim c.then-byte-eq10.branch [
      | then-byte-eq10-via-then-byte-eq10 w ↦ lf_ends _ w.if-byte-eq10.true
      | then-byte-eq10-via-else-byte-eq10+then-byte-eq13 w ↦ cr_ends _ w.if-byte-eq13.true
    ]))

pub returns : goal.returns
returns c = sym (prefix_len_is is_in_line c.args.bytes.now _ 0 (omega arith)
    (λ k h. c.loop-i.invariant k (omega (arith, h))) (λ h. absurd (omega (arith, h))))
