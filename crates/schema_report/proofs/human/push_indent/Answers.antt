use Rattle.std.proofs.Common.{◌++◌, codes, ap, ◌∙◌}
use Rattle.std.proofs.lemmas.Result.{on_ok_weaker}
use Rattle.schema_report.specs.Human.{space_row, framed, room_for, skipped}
use Rattle.schema_report.proofs.Chains.{step}
use Rattle.schema_report.proofs.human.push_indent.Goals as goal

pub returns : goal.returns
returns c =
    let colour = c.args.frame.colour in
    let gutter = c.args.frame.gutter in
    let place = c.args.place.now in
    let r4 = space_row c.args.room in
    let r3 = room_for (skipped place) ++ r4 in
    let r2 = framed colour (codes " | ") ++ r3 in
    on_ok_weaker c.push_repeated-2.result (λ e. step c.args.out.now (space_row gutter) r2 c.in_ok-push_repeated.ensures
    (step c.push_repeated.new.out (framed colour (codes " | ")) r3 c.in_ok-push_framed.ensures
    (step c.push_framed.new.out (room_for (skipped place)) r4 (c.in_ok-push_room_for.ensures ∙ ap (λ n.
    c.push_framed.new.out ++ room_for n) c.skipped.ensures) e))) c.push_repeated-2.ensures
