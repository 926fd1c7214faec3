use Rattle.std.proofs.Common.{length, ap, sym, ◌∙◌}
use Rattle.schema_build_text.proofs.Named.{front_of, front_alone}
use Rattle.schema_build_recovered.specs.Places.{words_of}
use Rattle.schema_build_recovered.proofs.names.namespace_of.Goals.{in-None, in-Some}
use Rattle.schema_build_recovered.proofs.names.namespace_of.Goals as goal

pub returns : goal.returns
returns c = elim c.match-split_last.branch [
  | in-None w ↦
      ap (λ r. words_of r.0) w.result-is
      ∙ sym (front_alone c.args.name.now.name (ap length (sym c.as_slice.ensures) ∙ w.in-None.ensures.cases))
  | in-Some w ↦
      ap (λ r. words_of r.0) w.result-is
      ∙ sym (front_of c.args.name.now.name w.in-Some.front.now w.in-Some.field-0-0.now
      (sym c.as_slice.ensures ∙ w.in-Some.ensures.cases.0))
]
