use Rattle.std.proofs.lemmas.Grind.{common_steps}
use Rattle.std.proofs.Common.{arith}
use Rattle.schema_syntax_reader.proofs.ReadSteps.{read_more, read_stopped}
use Rattle.schema_syntax_reader.proofs.notes.read_notes.Goals as goal

pub push_reserved-requires : goal.push_reserved-requires
push_reserved-requires c =
    omega (arith, c.loop-note-test.true, c.loop-note.invariant.1, c.loop-note.invariant.2)

pub loop-note-preserved : goal.loop-note-preserved
loop-note-preserved c =
    let so_far = c.loop-note.invariant in
    let push = c.push_reserved.ensures in (
      read_more c.args.text.now c.args.list.now c.loop-note.note-index c.note-item.result c.loop-note.notes.items
          c.push_reserved.new.self.items c.in_ok-read.read c.in_ok-read.fault c.loop-note-test.true c.note-item.is
          so_far.0 c.in_ok-read.ensures c.in_default.is push.items,
      omega (arith, so_far.1, push.len),
      omega (arith, so_far.2, push.capacity),
    )

pub returns-in-Some : goal.returns-in-Some
returns-in-Some c =
    read_stopped c.args.text.now c.args.list.now c.loop-note.note-index c.note-item.result c.loop-note.notes.items
    c.push_reserved.new.self.items c.in_ok-read.read c.in_ok-read.fault c.in-Some.fault c.loop-note-test.true
    c.note-item.is c.loop-note.invariant.0 c.in_ok-read.ensures c.in-Some.is c.push_reserved.ensures.items

pub returns : goal.returns
returns c = grind (arith, common_steps)
