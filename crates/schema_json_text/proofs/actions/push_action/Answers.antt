use Rattle.std.proofs.Common.{string_bytes}
use Rattle.std.proofs.lemmas.Result.{on_ok_weaker}
use Rattle.schema_json_text.proofs.EntityTexts.{action_written}
use Rattle.schema_json_text.proofs.actions.push_action.Goals as goal

pub returns : goal.returns
returns g c =
    let old = string_bytes c.args.out.now in
    on_ok_weaker c.push_char-2.result
    (λ e. action_written g.N.NameText.components c.args.action.now c.in_ok-later.later c.in_ok-later-2.later
    c.in_ok-later-3.later c.in_ok-later-4.later c.in_ok-_later._later old (string_bytes c.push_char.new.out)
    (string_bytes c.push_first_annotations.new.out) (string_bytes c.push_applies_to.new.out)
    (string_bytes c.push_attribute_names.new.out) (string_bytes c.push_external.new.out)
    (string_bytes c.push_parents.new.out) (string_bytes c.push_char-2.new.out) c.in_ok-push_char.ensures
    c.in_ok-later.ensures c.in_ok-later-2.ensures c.in_ok-later-3.ensures c.in_ok-later-4.ensures
    c.in_ok-_later.ensures e)
    c.push_char-2.ensures
