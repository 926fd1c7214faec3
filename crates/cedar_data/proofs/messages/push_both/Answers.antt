use Rattle.std.proofs.Common.{◌≡◌, ap, ◌∙◌, ◌++◌, append_assoc}
use Rattle.cedar_data.proofs.Ascii.{chars-from_test}
use Rattle.cedar_data.proofs.messages.push_both.Goals as goal

pub returns : goal.returns
returns c =
    let after : c.push_str.new.self ≡ c.push_text.new.self ++ c.args.after.now = c.in_ok-push_str.ensures.ok
    ∙ ap (λ x. c.push_text.new.self ++ x) (chars-from_test c.args.after.now c.requires) in
    let assoc = append_assoc c.args.whole.now c.args.text.now c.args.after.now in
    cc c.in_ok-push_text.ensures.ok
