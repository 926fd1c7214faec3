use Rattle.std.proofs.Common.{sym, ◌∙◌}
use Rattle.std.proofs.lemmas.Result.{on_ok_weaker}
use Rattle.schema_build_text.specs.Growing.{so}
use Rattle.schema_build_text.proofs.Named.{last_of}
use Rattle.schema_build_text.proofs.names.push_basename.Goals as goal

pub returns-in-Some : goal.returns-in-Some
returns-in-Some c =
    on_ok_weaker c.push.result (λ e. so (so e c.as_str.ensures)
    (last_of c.args.name.now c.in-Some.field-0-1.now c.in-Some.last.now
    (sym c.as_slice.ensures ∙ c.in-Some.ensures.cases.0))) c.push.ensures
