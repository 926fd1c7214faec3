use Rattle.std.proofs.Common.{ap, sym, ◌∙◌}
use Rattle.std.proofs.lemmas.Str.{chars-nil}
use Rattle.std.specs.Str.{chars}
use Rattle.schema_report.specs.TokenHelps.{begins_with_star}
use Rattle.schema_report.proofs.token_helps.begins_with_star.Goals as goal

pub returns-in-None : goal.returns-in-None
returns-in-None c = sym (ap begins_with_star (ap chars c.in-None.ensures ∙ chars-nil))
