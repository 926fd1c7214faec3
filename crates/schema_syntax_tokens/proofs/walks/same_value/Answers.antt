use Rattle.schema_syntax_tokens.specs.Values.{Begins, NoPiece}
use Rattle.schema_syntax_tokens.proofs.Gone.{AreLeft-both, AreLeft-first, AreLeft-second, AreLeft-differ, AreLeft-more}
use Rattle.schema_syntax_tokens.proofs.walks.same_value.Goals as goal

pub returns-then-first-second : goal.returns-then-first-second
returns-then-first-second c =
    let a : Begins c.loop-first.one.now c.in-Some-Some.first c.in-Some-Some.after.now = rw c.in-Some-Some.is-0 at
    c.next_piece-first.ensures.cases in
    let b : Begins c.loop-first.other.now c.in-Some-Some.second c.in-Some-Some.behind.now = rw c.in-Some-Some.is-1 at
    c.next_piece-second.ensures.cases in
    AreLeft-differ c.args.left.now c.args.right.now c.loop-first.one.now c.loop-first.other.now
    c.in-Some-Some.after.now c.in-Some-Some.behind.now c.in-Some-Some.first c.in-Some-Some.second
    c.loop-first.invariant.2 a b c.if-first-second.true

pub loop-first-preserved : goal.loop-first-preserved
loop-first-preserved c =
    let a : Begins c.loop-first.one.now c.in-Some-Some.first c.in-Some-Some.after.now = rw c.in-Some-Some.is-0 at
    c.next_piece-first.ensures.cases in
    let b : Begins c.loop-first.other.now c.in-Some-Some.second c.in-Some-Some.behind.now = rw c.in-Some-Some.is-1 at
    c.next_piece-second.ensures.cases in (
      rw c.in-Some-Some.is-0 at c.next_piece-first.ensures.text,
      rw c.in-Some-Some.is-1 at
          c.next_piece-second.ensures.text,
      AreLeft-more c.args.left.now c.args.right.now c.loop-first.one.now
          c.loop-first.other.now c.in-Some-Some.after.now c.in-Some-Some.behind.now c.in-Some-Some.first
          c.in-Some-Some.second c.loop-first.invariant.2 a b c.if-first-second.false,
    )

pub returns-in-Some-None : goal.returns-in-Some-None
returns-in-Some-None c =
    let b : NoPiece c.loop-first.other.now = rw c.in-Some-None.is-1 at c.next_piece-second.ensures.cases in
    AreLeft-first c.args.left.now c.args.right.now c.loop-first.one.now c.loop-first.other.now _ _
    c.loop-first.invariant.2 (rw c.in-Some-None.is-0 at c.next_piece-first.ensures.cases) b

pub returns-in-None-None : goal.returns-in-None-None
returns-in-None-None c =
    let a : NoPiece c.loop-first.one.now = rw c.in-None-None.is-0 at c.next_piece-first.ensures.cases in
    let b : NoPiece c.loop-first.other.now = rw c.in-None-None.is-1 at c.next_piece-second.ensures.cases in
    AreLeft-both c.args.left.now c.args.right.now c.loop-first.one.now c.loop-first.other.now
    c.loop-first.invariant.2 a b

pub returns-in-None-Some : goal.returns-in-None-Some
returns-in-None-Some c =
    let a : NoPiece c.loop-first.one.now = rw c.in-None-Some.is-0 at c.next_piece-first.ensures.cases in
    let b : Begins c.loop-first.other.now c.in-None-Some.field-0-1.0 c.in-None-Some.field-0-1.1.now = rw
    c.in-None-Some.is-1 at c.next_piece-second.ensures.cases in
    AreLeft-second c.args.left.now c.args.right.now c.loop-first.one.now c.loop-first.other.now
    c.in-None-Some.field-0-1.1.now c.in-None-Some.field-0-1.0 c.loop-first.invariant.2 a b
