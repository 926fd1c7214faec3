use Rattle.std.proofs.Common.{◌==◌, ◌&&◌, Some, length, ap, sym, ◌∙◌}
use Rattle.std.specs.Option.{option_copied}
use Rattle.std.proofs.lemmas.Bool.{and_right}
use mathlib.Core.Bool.{and-true}
use Rattle.cedar_identifiers.specs.Names.{components_of}
use Rattle.cedar_names.specs.CanonicalText.{namespace}
use Rattle.schema_build_text.specs.Beside.{is_beside, is_captured_by}
use Rattle.schema_build_text.specs.Captured.{item_holds}
use Rattle.schema_build_text.specs.Items.{item_content, namespace_behind}
use Rattle.schema_build_text.specs.Walk.{namespace_of}
use Rattle.schema_build_text.proofs.Besides.{beside_nothing, told_beside}
use Rattle.schema_build_text.proofs.captured.is_captured.Goals as goal

pub returns-in-None : goal.returns-in-None
returns-in-None c =
    let x = item_content c.args.item.now in
    sym
    (ap (λ a. is_captured_by (namespace_behind (option_copied a)) x) c.in-None.is
    ∙ ap (λ b. b && item_holds x) (beside_nothing (namespace_of x)))

pub returns-then-item_holds : goal.returns-then-item_holds
returns-then-item_holds c =
    let x = item_content c.args.item.now in
    let near = c.are_together.result in
    sym
    (ap (λ a. is_captured_by (namespace_behind (option_copied a)) x) c.in-Some.is
    ∙ (told_beside x c.name_of-name.result.now (namespace (components_of c.in-Some.action.now)) near
    c.name_of-name.ensures (ap (λ l. length l == 0) (sym c.as_slice.ensures)
    ∙ (sym c.is_empty.ensures ∙ c.if-is_empty.false)) c.are_together.ensures
    ∙ (ap (λ b. near && b) (sym c.item_holds.ensures ∙ c.if-item_holds.true) ∙ and-true near)))

pub returns-else-item_holds : goal.returns-else-item_holds
returns-else-item_holds c =
    let x = item_content c.args.item.now in
    let first = namespace_behind (Some c.in-Some.action.now) in
    c.if-item_holds.false
    ∙ sym
    (ap (λ a. is_captured_by (namespace_behind (option_copied a)) x) c.in-Some.is
    ∙ and_right (is_beside first (namespace_of x)) (item_holds x) (sym c.item_holds.ensures ∙ c.if-item_holds.false))
