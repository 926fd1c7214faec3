use Rattle.std.proofs.Common.{arith}
use Rattle.std.proofs.lemmas.Grind.{common_steps, elements}
use Rattle.schema_syntax_grammar.proofs.Faults.{further_of, none_past}
use Rattle.schema_assist_places.proofs.Walk.{space_further}
use Rattle.schema_assist_places.proofs.place.walk_tokens.Goals as goal

pub loop-i-preserved : goal.loop-i-preserved
loop-i-preserved g c = (
  further_of g.T.HasKind.kind_of _ _ _ _ _ c.loop-i-test.true c.index-tokens-i.is c.loop-i.invariant.0
      (rw c.kind-kind.ensures at (rw c.if-not-branch.false at c.in_ok-advance.ensures.step)),
  (let h = space_further g.T.HasKind.kind_of c.args.tokens.now c.loop-i.i _ _ c.loop-i-test.true
      c.index-tokens-i.is c.loop-i.invariant.0 c.loop-i.space c.loop-i.invariant.1 in
      rw (c.space_after-next.ensures, c.taken.ensures, c.deref.ensures.value, c.kind-kind.ensures) h),
)

pub returns-clause-stops : goal.returns-clause-stops
returns-clause-stops g c = λ k e. none_past g.T.HasKind.kind_of c.args.tokens.now k _ e

pub returns-clause-within : goal.returns-clause-within
returns-clause-within g c = grind (arith, common_steps)

pub returns-then-not-branch-clause-stops : goal.returns-then-not-branch-clause-stops
returns-then-not-branch-clause-stops g c = grind (arith, elements)

pub returns-then-not-branch-clause-within : goal.returns-then-not-branch-clause-within
returns-then-not-branch-clause-within g c = grind (arith, common_steps)
