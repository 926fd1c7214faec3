use Rattle.std.proofs.Common.{◌≡◌, [], arith, subst, All}
use Rattle.std.proofs.lemmas.List.{take_all}
use Rattle.std.proofs.lemmas.List.Elements.{All-more}
use Rattle.schema_build_types.specs.Content.{entity_content}
use Rattle.schema_build_types.specs.Lacks.{entity_lacks}
use Rattle.schema_build_recovered.proofs.whole.entity_types_are_whole.Goals as goal

pub loop-entry-preserved : goal.loop-entry-preserved
loop-entry-preserved c =
    All-more (λ e. entity_lacks (entity_content e)
    ≡ []) c.args.entities.now c.loop-entry.entry-index c.entry-item.result
    c.loop-entry-test.true c.loop-entry.invariant
    (subst (λ e. entity_lacks (entity_content e) ≡ []) c.entry-item.is
    (c.is_whole_entity_type.ensures c.if-not-is_whole_entity_type.false))

pub returns : goal.returns
returns c h =
    subst (All (λ e. entity_lacks (entity_content e) ≡ []))
    (take_all c.loop-entry.entry-index c.args.entities.now
    (omega (arith, c.loop-entry-test.false))) c.loop-entry.invariant
