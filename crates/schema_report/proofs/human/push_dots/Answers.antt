use Rattle.std.proofs.Common.{◌++◌, ap, sym, ◌∙◌}
use Rattle.std.proofs.lemmas.List.{append-nil}
use Rattle.std.proofs.lemmas.Str.{chars-nil}
use Rattle.std.specs.Str.{chars}
use Rattle.schema_report.specs.Human.{dots}
use Rattle.schema_report.proofs.human.push_dots.Goals as goal

pub returns-in-None : goal.returns-in-None
returns-in-None c =
    sym (append-nil c.args.out.now)
    ∙ ap (λ cs. c.args.out.now ++ dots cs) (sym (ap chars c.in-None.ensures ∙ chars-nil))
