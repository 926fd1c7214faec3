use Rattle.std.proofs.Common.{subst, sym}
use Rattle.schema_syntax_parser.specs.Syntax.{IsType}
use Rattle.schema_syntax_reader.specs.Placed.{IsScanned}
use Rattle.schema_syntax_reader.proofs.Scanned.{TagsParts, tags_parts}
use Rattle.schema_syntax_reader.proofs.types.tags.Goals as goal

pub ty-requires : goal.ty-requires
ty-requires c =
    subst (IsScanned IsType c.args.text.now) (sym c.into_inner.ensures)
    (subst (TagsParts c.args.text.now) c.in-Some.is (tags_parts c.args.text.now c.args.raw c.requires))
