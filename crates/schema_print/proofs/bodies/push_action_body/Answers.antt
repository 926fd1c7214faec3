use Rattle.std.proofs.Common.{◌≡◌, false}
use Rattle.std.proofs.lemmas.Result.{on_ok_weaker}
use Rattle.laws_written.specs.PrintedDecls.{parents_pieces, ref_pieces}
use Rattle.schema_print_text.specs.Growing.{then, so}
use Rattle.schema_print.specs.PrintedFragments.{printed_parents}
use Rattle.schema_print.proofs.Spelled.{applied_shown}
use Rattle.schema_print.proofs.bodies.push_action_body.Goals as goal

pub returns-in-Some : goal.returns-in-Some
returns-in-Some g c =
    let names = g.N.NameText.components in
    let a = c.args.action.now in
    let ext : a.external ≡ false = c.if-action.false in
    on_ok_weaker c.push_targets.result
    (λ e. so (then c.in_ok-push_action_parents.ensures e)
    (applied_shown names c.args.base a.external a.applies_to c.in-Some.spec
    (parents_pieces ref_pieces (printed_parents names a.member_of)) ext c.in-Some.is))
    c.push_targets.ensures
