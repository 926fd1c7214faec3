use Rattle.std.proofs.Common.{◌≡◌, map, drop, ap, ◌∙◌, arith}
use Rattle.std.proofs.lemmas.Grind.{common_steps}
use Rattle.schema_build_text.specs.Beside.{captured_before}
use Rattle.schema_build_text.specs.Captured.{first_item}
use Rattle.schema_build_text.specs.Items.{item_content}
use Rattle.schema_build_text.proofs.Besides.{walk_captured}
use Rattle.schema_build_text.proofs.captured.first_captured_item.Goals as goal

pub returns : goal.returns
returns c =
    let items = c.args.items.now in
    let none : c.loop-left.left ≡ 0 = omega (arith, c.loop-left-test.false) in
    λ s same. c.loop-left.invariant.2
    ∙ (ap (λ k. first_item (captured_before (map item_content (drop k items)))) none
    ∙ (ap (λ l. first_item (captured_before l)) same ∙ ap first_item (walk_captured s)))

pub loop-left-preserved : goal.loop-left-preserved
loop-left-preserved c = grind (arith, common_steps)
