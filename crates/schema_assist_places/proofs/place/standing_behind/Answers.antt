use Rattle.std.proofs.Common.{◌<◌, ◌≤◌, length, map, arith}
use Rattle.std.proofs.lemmas.List.{length-map}
use Rattle.schema_syntax_grammar.proofs.Faults.{expected, fault}
use Rattle.schema_assist_places.proofs.Placed.{placed}
use Rattle.schema_assist_places.proofs.place.standing_behind.Goals as goal

pub returns-then-walked-tokens-clause-fault : goal.returns-then-walked-tokens-clause-fault
returns-then-walked-tokens-clause-fault g c =
    let kinds = map g.T.HasKind.kind_of c.args.tokens.now in
    let lt : c.in_ok-walked.walked.front.read < length kinds = rw length-map c.if-walked-tokens.true in (
      lt,
      fault kinds _ _ _ c.in_ok-walked.ensures.within c.in_ok-walked.ensures.stack c.in_ok-walked.ensures.stops
          (λ n. absurd (omega (arith, n, lt))) c.in_ok-expected.ensures,
    )

pub returns-clause-expected : goal.returns-clause-expected
returns-clause-expected g c =
    let kinds = map g.T.HasKind.kind_of c.args.tokens.now in
    let ge : length kinds ≤ c.in_ok-walked.walked.front.read = rw length-map c.if-walked-tokens.false in
    expected kinds _ _ _ c.in_ok-walked.ensures.within ge c.in_ok-walked.ensures.stack c.in_ok-expected.ensures

pub returns-clause-place : goal.returns-clause-place
returns-clause-place g c = placed g.T.HasKind.kind_of c.args.tokens.now c.in_ok-walked.walked.front.read _ _
    c.if-walked-tokens.false c.in_ok-walked.ensures.stack c.in_ok-walked.ensures.space _
    (rw c.deref.ensures.value at c.place_on-place.ensures)
