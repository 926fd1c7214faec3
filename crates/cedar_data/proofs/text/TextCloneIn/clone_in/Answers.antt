use Rattle.std.proofs.Common.{◌∙◌, ap}
use Rattle.std.specs.Str.{chars}
use Rattle.std.proofs.lemmas.Result.{IfOk-weaker}
use Rattle.std.proofs.lemmas.Str.{chars-encodes}
use Rattle.cedar_data.proofs.text.TextCloneIn.clone_in.Goals as goal

pub returns-in-Long : goal.returns-in-Long
returns-in-Long c = IfOk-weaker c.from_str.result _ _
    (λ t h. h ∙ (ap chars c.as_str.ensures.bytes ∙ chars-encodes c.args.self.now c.as_str.ensures.characters))
    c.from_str.ensures
