use Rattle.std.proofs.Common.{ℕ, arith, length-append}
use Rattle.std.proofs.lemmas.List.{length-take}
use Rattle.cedar_io.proofs.TakenBytes.{took_more, had_longer}
use Rattle.cedar_io.proofs.input.read_input.Goals as goal

pub returns-then-is_err-clause-taken : goal.returns-then-is_err-clause-taken
returns-then-is_err-clause-taken g c =
    let t = c.in-Ok.ensures.took in
    let more = took_more _ _ _ _ _ c.loop-piece.invariant.took t in
    let n = c.in-Ok.ensures.count in
    (_, simp (length-append, length-take) (omega (arith, length-take {A = ℕ}, c.in-Ok.ensures.count)), more)

pub returns-clause-too_long : goal.returns-clause-too_long
returns-clause-too_long g c = λ e. had_longer _ _ _ _ c.loop-piece.invariant.took (omega arith)
