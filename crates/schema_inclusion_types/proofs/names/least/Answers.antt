use Rattle.std.proofs.Common.{◌≡◌, ◌+◌, ◌-◌, ◌∷◌, Some, drop, map, ap, sym, ◌∙◌, arith}
use Rattle.cedar_identifiers.specs.Names.{components_of}
use Rattle.schema_build_types.specs.Content.{names_content}
use Rattle.schema_build_text.proofs.Rowed.{dropped}
use Rattle.schema_inclusion_types.specs.Least.{lesser, least}
use Rattle.schema_inclusion_types.proofs.LeastNames.{least_more}
use Rattle.schema_inclusion_types.proofs.names.least.Goals as goal

pub loop-left-preserved : goal.loop-left-preserved
loop-left-preserved c =
    let names = c.args.names.now in
    let left = c.loop-left.left in
    let x = c.index-names-left.result in
    let more : (left - 1) + 1 ≡ left = omega (arith, c.loop-left-test.true) in
    let split : drop (left - 1) names ≡ x ∷ drop left names =
    dropped names (left - 1) x (omega (arith, c.loop-left.invariant.within, c.loop-left-test.true))
    c.index-names-left.is ∙ ap (λ k. x ∷ drop k names) more in
    record {
      within = omega (arith, c.loop-left.invariant.within);
      found = ap Some (c.lesser.ensures ∙ ap (lesser (components_of x.name)) c.loop-left.invariant.found)
          ∙ (sym (least_more (components_of x.name) (names_content (drop left names)))
          ∙ ap (λ l. least (names_content l)) (sym split));
    }
