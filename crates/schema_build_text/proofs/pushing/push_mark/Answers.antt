use Rattle.std.proofs.Common.{Bool, [], codes, if◌then◌else◌, ap, sym}
use Rattle.std.proofs.lemmas.Result.{on_ok_weaker}
use Rattle.schema_build_text.specs.Growing.{adds_nothing, so}
use Rattle.schema_build_text.proofs.pushing.push_mark.Goals as goal

pub returns-then-required : goal.returns-then-required
returns-then-required c = so (adds_nothing c.args.text.now)
    (ap (λ (r : Bool). if r then [] else codes "?") (sym c.if-required.true))

pub returns-else-required : goal.returns-else-required
returns-else-required c = on_ok_weaker c.push.result
    (λ e. so e (ap (λ (r : Bool). if r then [] else codes "?") (sym c.if-required.false))) c.push.ensures
