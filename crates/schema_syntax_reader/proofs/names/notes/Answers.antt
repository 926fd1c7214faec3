use Rattle.std.proofs.Common.{◌≡◌, [], sym, ◌∙◌, subst}
use Rattle.schema_syntax_reader.specs.Leaves.{AreNotes}
use Rattle.schema_syntax_reader.specs.Placed.{NoSiteFault}
use Rattle.schema_syntax_reader.specs.Sites.{annotations}
use Rattle.schema_syntax_reader.proofs.Chosen.{is_nothing}
use Rattle.schema_syntax_reader.proofs.Fits.{notes_sub, notes_placed}
use Rattle.schema_syntax_reader.proofs.NameReads.{reads_site}
use Rattle.schema_syntax_reader.proofs.NoteFaults.{no_note, nothing_at}
use Rattle.schema_syntax_reader.proofs.Readings.{no_fault_at}
use Rattle.schema_syntax_reader.proofs.Rising.{sub_rise}
use Rattle.schema_syntax_reader.proofs.names.notes.Goals as goal

pub returns-then-is_empty : goal.returns-then-is_empty
returns-then-is_empty c =
    let none : c.args.list.now ≡ [] = is_nothing c.args.list.now (sym c.is_empty.ensures ∙ c.if-is_empty.true) in (
      subst (λ notes. AreNotes c.args.text.now c.args.list.now notes.0) (sym c.new.ensures)
          (subst (λ l. AreNotes c.args.text.now l []) (sym none) (no_note c.args.text.now)),
      no_fault_at c.args.text.now (annotations c.args.list.now)
          (subst (λ l. NoSiteFault c.args.text.now (annotations l)) (sym none) (nothing_at c.args.text.now)),
    )

pub some_notes-requires-clause-placed : goal.some_notes-requires-clause-placed
some_notes-requires-clause-placed c = notes_placed c.args.text.now c.requires.1 c.requires.2.placed

pub some_notes-requires-clause-rise : goal.some_notes-requires-clause-rise
some_notes-requires-clause-rise c = sub_rise (notes_sub c.args.text.now c.requires.1) c.requires.2.rise

pub returns : goal.returns
returns c =
    reads_site c.args.text.now (annotations c.args.list.now) _ c.some_notes.result c.some_notes.ensures.notes
    c.some_notes.ensures.lawful c.some_notes.ensures.fault
