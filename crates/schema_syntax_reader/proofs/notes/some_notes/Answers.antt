use Rattle.std.proofs.Common.{ap, sym, subst}
use Rattle.schema_syntax_reader.specs.Leaves.{AreNotes}
use Rattle.schema_syntax_reader.specs.Sites.{annotations}
use Rattle.schema_syntax_reader.specs.Stops.{IsFaultOf}
use Rattle.schema_syntax_reader.proofs.NoteFaults.{none_at, are_notes, twice_stops, escape_stops}
use Rattle.schema_syntax_reader.proofs.notes.some_notes.Goals as goal

pub returns-in-Err-User-clause-fault : goal.returns-in-Err-User-clause-fault
returns-in-Err-User-clause-fault c =
    subst (IsFaultOf c.args.text.now (annotations c.args.list.now)) (sym c.in_ok-new-in-Err-User.ensures)
    (twice_stops c.args.text.now c.args.list.now c.in_ok-read.read.notes.items c.in_ok-read.read.fault
    c.in-Err-User.fault c.requires.rise c.in_ok-read.ensures
    (rw c.in-Err-User.field-0-is at c.in-Err-User.ensures.twice))

pub returns-in-Some-clause-fault : goal.returns-in-Some-clause-fault
returns-in-Some-clause-fault c =
    escape_stops c.args.text.now c.args.list.now c.in_ok-read.read.notes.items c.in-Some.fault
    c.in-Ok.annotated.annotations.0 c.requires.rise (rw c.in-Some.is at c.in_ok-read.ensures) c.in-Ok.ensures.kept

pub returns-clause-notes : goal.returns-clause-notes
returns-clause-notes c =
    subst (λ notes. AreNotes c.args.text.now c.args.list.now notes.0) (sym (ap (λ r. r.1) c.into_parts.ensures))
    (are_notes c.args.text.now c.args.list.now c.in_ok-read.read.notes.items
    c.in-Ok.annotated.annotations.0 (rw c.in-None.is at c.in_ok-read.ensures) c.in-Ok.ensures.kept)

pub returns-clause-lawful : goal.returns-clause-lawful
returns-clause-lawful c = none_at c.args.text.now c.args.list.now c.in_ok-read.read.notes.items
    c.in-Ok.annotated.annotations.0 (rw c.in-None.is at c.in_ok-read.ensures) c.in-Ok.ensures.kept
