use Rattle.std.proofs.Common.{◌≡◌, true, false, not, ap, sym, ◌∙◌, subst, All, arith}
use Rattle.std.proofs.lemmas.List.{take_all}
use Rattle.std.proofs.lemmas.List.Elements.{All-more}
use Rattle.cedar_identifiers.specs.Names.{components_of}
use Rattle.schema_build_recovered_types.proofs.Several.{one_name, several_names, told_same}
use Rattle.schema_build_recovered_types.proofs.types.only_name.Goals as goal

pub returns-then-ne : goal.returns-then-ne
returns-then-ne c =
    several_names c.args.names.now c.parts.result.0.now c.parts.result.1.now c.loop-name.name-index c.name-item.result
    c.parts.ensures c.loop-name-test.true c.name-item.is
    (λ e. let no : false ≡ true = sym (c.ne.ensures ∙ ap not (c.declared_names_go_by_components.ensures.equal.1 e))
    ∙ c.if-ne.true in cc)

pub loop-name-preserved : goal.loop-name-preserved
loop-name-preserved c =
    All-more (λ y. components_of y.name ≡ components_of c.parts.result.0.now.name) c.parts.result.1.now
    c.loop-name.name-index c.name-item.result c.loop-name-test.true c.loop-name.invariant
    (subst (λ y. components_of y.name ≡ components_of c.parts.result.0.now.name) c.name-item.is
    (c.declared_names_go_by_components.ensures.equal.0 (told_same _ c.ne.result c.ne.ensures c.if-ne.false)))

pub returns : goal.returns
returns c =
    one_name c.args.names.now c.parts.result.0.now c.parts.result.1.now c.parts.ensures
    (subst (All (λ y. components_of y.name ≡ components_of c.parts.result.0.now.name))
    (take_all c.loop-name.name-index c.parts.result.1.now (omega (arith, c.loop-name-test.false)))
    c.loop-name.invariant)
