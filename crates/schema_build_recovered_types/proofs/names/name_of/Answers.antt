use Rattle.std.proofs.Common.{◌∷◌, refl, ◌∙◌, arith}
use Rattle.std.proofs.lemmas.List.{take_all}
use Rattle.cedar_identifiers.specs.Names.{texts_of}
use Rattle.schema_build_recovered_types.proofs.names.name_of.Goals as goal

pub returns : goal.returns
returns c =
    let others = c.from_vec-others.ensures ∙ c.loop-id.invariant
    ∙ take_all c.loop-id.id-index c.args.others.now (omega (arith, c.loop-id-test.false)) in
    ((λ i. texts_of (c.in_ok-first.ensures i ∷ others i)), refl)
