use Rattle.std.proofs.Common.{◌≡◌, arith, decimal, sym, ◌∙◌, ap}
use Rattle.std.proofs.lemmas.Fmt.{parse-decimal}
use Rattle.std.proofs.lemmas.Slice.Eq.{bytes_eq-Decides}
use Rattle.cedar_schema_core.proofs.command.size_of.Goals as goal
use Rattle.cedar_schema_core.proofs.command.size_of.Goals.{else-size-ge1-via-then-size-ge1+then-size-le-MAX_SIZE+else-is_decimal}
use Rattle.cedar_schema_core.proofs.command.size_of.Goals.{else-size-ge1-via-then-size-ge1+else-size-le-MAX_SIZE}
use Rattle.cedar_schema_core.proofs.command.size_of.Goals.{else-size-ge1-via-else-size-ge1}

pub returns-in_default : goal.returns-in_default
returns-in_default c = λ size some small said.
    let read = parse-decimal 32 size _ _ (omega arith) (omega arith) said c.parse.ensures.value.0 in cc

pub returns : goal.returns
returns c = λ size some small said.
    let read = parse-decimal 32 size _ _ (omega arith) (omega arith) said c.parse.ensures.value.0 in
    let same : c.in-Ok.size ≡ size = cc in
    elim c.else-size-ge1.branch [
      | else-size-ge1-via-then-size-ge1+then-size-le-MAX_SIZE+else-is_decimal w ↦
          let equal = (bytes_eq-Decides (decimal c.in-Ok.size) c.args.word.now).1 (ap decimal same ∙ sym said) in cc
      | else-size-ge1-via-then-size-ge1+else-size-le-MAX_SIZE w ↦ grind arith
      | else-size-ge1-via-else-size-ge1 w ↦ grind arith
    ]
