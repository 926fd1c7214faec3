use Rattle.schema_layout_pieces.proofs.Fixed.{written_plain, written_kept}
use Rattle.schema_layout_pieces.proofs.laws.written_is_laid_out.Goals as goal

pub returns-clause-plain : goal.returns-clause-plain
returns-clause-plain c = written_plain

pub returns-clause-kept : goal.returns-clause-kept
returns-clause-kept c = written_kept
