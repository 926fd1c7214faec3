use Rattle.std.proofs.Common.{ap, sym, ◌∙◌}
use Rattle.std.proofs.lemmas.Result.{on_ok_weaker}
use Rattle.schema_build_text.specs.Growing.{then, so}
use Rattle.schema_build_text.specs.Items.{opening}
use Rattle.schema_build_text.proofs.Named.{front_of}
use Rattle.schema_build_text.proofs.names.push_opening.Goals as goal

pub returns-in_ok-push_path-in-Some : goal.returns-in_ok-push_path-in-Some
returns-in_ok-push_path-in-Some c =
    on_ok_weaker c.push-in-Some.result (λ e.
    so (then c.in_ok-push-in-Some.ensures (then c.in_ok-push_path-in-Some.ensures e))
    (sym (ap opening (front_of c.args.name.now c.in-Some.front.now c.in-Some.field-0-0.now
    (sym c.as_slice.ensures ∙ c.in-Some.ensures.cases.0))))) c.push-in-Some.ensures
