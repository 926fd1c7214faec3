use Rattle.std.proofs.Common.{◌≡◌, Some, ap, sym, ◌∙◌}
use Rattle.std.specs.Option.{option_copied, option_map}
use Rattle.std.proofs.lemmas.Result.{IfOk-weaker}
use Rattle.schema_build_text.specs.Captured.{captured_items, first_item}
use Rattle.schema_build_text.specs.Items.{item_content}
use Rattle.schema_build_text.proofs.Besides.{about_first, captured_named}
use Rattle.schema_build_text.proofs.captured.first_captured_of.Goals as goal

pub returns-in-Some : goal.returns-in-Some
returns-in-Some c =
    let x = item_content c.in-Some.item.now in
    IfOk-weaker c.capture.result _ _
    (λ found told s same. let first : Some x
    ≡ first_item (captured_items s) = sym (ap (λ r. option_map item_content (option_copied r)) c.in-Some.is)
    ∙ c.first_captured_item.ensures s same in
    about_first found x (captured_items s) first (captured_named s x first) told)
    c.capture.ensures
