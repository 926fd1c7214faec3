use Rattle.std.proofs.Common.{◌++◌, ap, ◌∙◌}
use Rattle.std.proofs.lemmas.Result.{on_ok_weaker}
use Rattle.std.proofs.lemmas.Str.{chars-encodes}
use Rattle.std.specs.List.{flat_map}
use Rattle.std.specs.Str.{chars}
use Rattle.schema_report.specs.Escapes.{written_for}
use Rattle.schema_report.proofs.escape.push_text.Goals as goal

pub returns : goal.returns
returns c = on_ok_weaker c.push_escaped.result
    (λ e. e ∙ ap (λ cs. c.args.out.now ++ flat_map (written_for c.args.escape) cs)
    (ap chars c.as_str.ensures.bytes ∙ chars-encodes c.args.text.now c.as_str.ensures.characters))
    c.push_escaped.ensures
