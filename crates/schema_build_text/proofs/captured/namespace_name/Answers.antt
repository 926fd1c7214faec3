use Rattle.std.proofs.lemmas.Grind.{common_steps}
use Rattle.std.proofs.Common.{◌∷◌, sym, ◌∙◌, arith}
use Rattle.std.proofs.lemmas.List.{take_all}
use Rattle.cedar_identifiers.specs.Names.{texts_of}
use Rattle.schema_build_text.proofs.Named.{front_of}
use Rattle.schema_build_text.proofs.Parts.{namespace_free}
use Rattle.schema_build_text.proofs.captured.namespace_name.Goals as goal

pub invariant_of-result : goal.invariant_of-result
invariant_of-result c = record {
  unreserved = namespace_free c.args.name.now.name c.in-Some.front.now c.in-Some.field-0-0.now
      (sym c.as_slice.ensures ∙ c.in-Some.ensures.cases.0) c.args.name.now.unreserved c.in_ok-first-in-Some.first
      c.loop-id.others c.in_ok-first-in-Some.ensures
      (c.loop-id.invariant ∙ take_all c.loop-id.id-index c.in-Some.front.now (omega (arith, c.loop-id-test.false)));
}

pub returns-in_ok-first-in-Some : goal.returns-in_ok-first-in-Some
returns-in_ok-first-in-Some c =
    let others = c.loop-id.invariant
    ∙ take_all c.loop-id.id-index c.in-Some.front.now (omega (arith, c.loop-id-test.false)) in
    (λ i. texts_of (c.in_ok-first-in-Some.ensures i ∷ others i))
    ∙ sym (front_of c.args.name.now.name c.in-Some.front.now c.in-Some.field-0-0.now
    (sym c.as_slice.ensures ∙ c.in-Some.ensures.cases.0))

pub loop-id-preserved : goal.loop-id-preserved
loop-id-preserved c = grind (arith, common_steps)

pub returns-in-None : goal.returns-in-None
returns-in-None c = grind (arith, common_steps)
