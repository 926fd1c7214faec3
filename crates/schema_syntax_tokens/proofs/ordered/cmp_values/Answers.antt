use Rattle.std.proofs.Common.{sym, ◌∙◌}
use Rattle.schema_syntax_tokens.specs.Values.{Begins, NoPiece}
use Rattle.schema_syntax_tokens.proofs.Sorted.{AreOrdered-both, AreOrdered-first, AreOrdered-second, AreOrdered-less}
use Rattle.schema_syntax_tokens.proofs.Sorted.{AreOrdered-greater, AreOrdered-more}
use Rattle.schema_syntax_tokens.proofs.ordered.cmp_values.Goals as goal

pub returns-in-Less : goal.returns-in-Less
returns-in-Less c =
    let a : Begins c.loop-first.one.now c.in-Some-Some.first c.in-Some-Some.after.now = rw c.in-Some-Some.is-0 at
    c.next_piece-first.ensures.cases in
    let b : Begins c.loop-first.other.now c.in-Some-Some.second c.in-Some-Some.behind.now = rw c.in-Some-Some.is-1 at
    c.next_piece-second.ensures.cases in
    AreOrdered-less c.args.left.now c.args.right.now c.loop-first.one.now c.loop-first.other.now
    c.in-Some-Some.after.now c.in-Some-Some.behind.now c.in-Some-Some.first c.in-Some-Some.second
    c.loop-first.invariant.2 a b (sym c.cmp_chars.ensures ∙ c.in-Less.is)

pub returns-in-Greater : goal.returns-in-Greater
returns-in-Greater c =
    let a : Begins c.loop-first.one.now c.in-Some-Some.first c.in-Some-Some.after.now = rw c.in-Some-Some.is-0 at
    c.next_piece-first.ensures.cases in
    let b : Begins c.loop-first.other.now c.in-Some-Some.second c.in-Some-Some.behind.now = rw c.in-Some-Some.is-1 at
    c.next_piece-second.ensures.cases in
    AreOrdered-greater c.args.left.now c.args.right.now c.loop-first.one.now c.loop-first.other.now
    c.in-Some-Some.after.now c.in-Some-Some.behind.now c.in-Some-Some.first c.in-Some-Some.second
    c.loop-first.invariant.2 a b (sym c.cmp_chars.ensures ∙ c.in-Greater.is)

pub loop-first-preserved : goal.loop-first-preserved
loop-first-preserved c =
    let a : Begins c.loop-first.one.now c.in-Some-Some.first c.in-Some-Some.after.now = rw c.in-Some-Some.is-0 at
    c.next_piece-first.ensures.cases in
    let b : Begins c.loop-first.other.now c.in-Some-Some.second c.in-Some-Some.behind.now = rw c.in-Some-Some.is-1 at
    c.next_piece-second.ensures.cases in (
      rw c.in-Some-Some.is-0 at c.next_piece-first.ensures.text,
      rw c.in-Some-Some.is-1 at
          c.next_piece-second.ensures.text,
      AreOrdered-more c.args.left.now c.args.right.now c.loop-first.one.now
          c.loop-first.other.now c.in-Some-Some.after.now c.in-Some-Some.behind.now c.in-Some-Some.first
          c.in-Some-Some.second c.loop-first.invariant.2 a b (sym c.cmp_chars.ensures ∙ c.in-Equal.is),
    )

pub returns-in-Some-None : goal.returns-in-Some-None
returns-in-Some-None c =
    let b : NoPiece c.loop-first.other.now = rw c.in-Some-None.is-1 at c.next_piece-second.ensures.cases in
    AreOrdered-first c.args.left.now c.args.right.now c.loop-first.one.now c.loop-first.other.now _ _
    c.loop-first.invariant.2 (rw c.in-Some-None.is-0 at c.next_piece-first.ensures.cases) b

pub returns-in-None-None : goal.returns-in-None-None
returns-in-None-None c =
    let a : NoPiece c.loop-first.one.now = rw c.in-None-None.is-0 at c.next_piece-first.ensures.cases in
    let b : NoPiece c.loop-first.other.now = rw c.in-None-None.is-1 at c.next_piece-second.ensures.cases in
    AreOrdered-both c.args.left.now c.args.right.now c.loop-first.one.now c.loop-first.other.now
    c.loop-first.invariant.2 a b

pub returns-in-None-Some : goal.returns-in-None-Some
returns-in-None-Some c =
    let a : NoPiece c.loop-first.one.now = rw c.in-None-Some.is-0 at c.next_piece-first.ensures.cases in
    let b : Begins c.loop-first.other.now c.in-None-Some.field-0-1.0 c.in-None-Some.field-0-1.1.now = rw
    c.in-None-Some.is-1 at c.next_piece-second.ensures.cases in
    AreOrdered-second c.args.left.now c.args.right.now c.loop-first.one.now c.loop-first.other.now
    c.in-None-Some.field-0-1.1.now c.in-None-Some.field-0-1.0 c.loop-first.invariant.2 a b
