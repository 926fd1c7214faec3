use Rattle.std.proofs.Common.{ap, sym, ◌∙◌}
use Rattle.std.proofs.lemmas.Str.{chars-nil}
use Rattle.std.specs.Str.{chars}
use Rattle.schema_report.specs.TokenHelps.{help_on}
use Rattle.schema_report.proofs.token_helps.help_on.Goals as goal

pub returns-in-None : goal.returns-in-None
returns-in-None c = sym (ap help_on (ap chars c.in-None.ensures ∙ chars-nil))
