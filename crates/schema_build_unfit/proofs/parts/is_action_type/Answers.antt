use Rattle.std.proofs.Common.{sym, ap, codes, ◌∙◌}
use Rattle.std.specs.Str.{bytes_eq}
use Rattle.schema_build_text.proofs.Named.{last_of}
use Rattle.schema_build_unfit.proofs.parts.is_action_type.Goals as goal

pub returns-in-Some : goal.returns-in-Some
returns-in-Some c =
    let last = last_of c.args.name.now.name c.in-Some.field-0-1.now c.in-Some.last.now
    (sym c.as_slice.ensures ∙ c.in-Some.ensures.cases.0) in
    c.same_bytes.ensures ∙ ap (λ t. bytes_eq t (codes "Action")) (c.as_str.ensures ∙ last)
