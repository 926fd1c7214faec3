use Rattle.std.proofs.Common.{ap}
use Rattle.schema_syntax_tokens.specs.Laid.{laid}
use Rattle.schema_print.proofs.Grouped.{groups_laid_out}
use Rattle.schema_print.proofs.laws.fragments_are_laid_out.Goals as goal

pub returns : goal.returns
returns g c = λ closing groups h. ap laid (groups_laid_out g.N.NameText.components closing c.args.fragment.now groups h)
