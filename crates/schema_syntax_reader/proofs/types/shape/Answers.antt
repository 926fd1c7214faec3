use Rattle.std.proofs.Common.{subst}
use Rattle.schema_syntax_reader.proofs.Scanned.{ShapeParts, shape_parts}
use Rattle.schema_syntax_reader.proofs.types.shape.Goals as goal

pub attrs-requires : goal.attrs-requires
attrs-requires c = subst (ShapeParts c.args.text.now) c.in-Some.is
    (shape_parts c.args.text.now c.args.raw c.requires)
