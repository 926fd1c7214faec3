use Rattle.std.proofs.Common.{sym, subst}
use Rattle.schema_syntax_reader.specs.Sites.{applies_sites}
use Rattle.schema_syntax_reader.specs.Readings.{Reads}
use Rattle.schema_syntax_reader.specs.Trees.{AppliesOf}
use Rattle.schema_syntax_reader.proofs.Scanned.{applies_parts, AppliesParts}
use Rattle.schema_syntax_reader.proofs.actions.applies.Goals as goal

pub members-requires : goal.members-requires
members-requires c = subst (AppliesParts c.args.text.now) c.in-Some.is
    (applies_parts c.args.text.now c.args.raw c.requires)

pub returns-in-Some : goal.returns-in-Some
returns-in-Some c =
    subst (λ r. Reads c.args.text.now (applies_sites r) (AppliesOf c.args.text.now r) c.members.result)
    (sym c.in-Some.is) c.members.ensures
