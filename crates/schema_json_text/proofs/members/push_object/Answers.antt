use Rattle.std.proofs.Common.{◌++◌, ◌∷◌, map, string_bytes, false}
use Rattle.std.proofs.lemmas.Result.{on_ok_weaker}
use Rattle.serde_json.specs.Written.{members_text}
use Rattle.schema_json_text.specs.Members.{members_in_order}
use Rattle.schema_json_text.proofs.Loops.{opened, entry_step, entries_end}
use Rattle.schema_json_text.proofs.members.push_object.Goals as goal

pub loop-member-init : goal.loop-member-init
loop-member-init g c = opened (string_bytes c.args.out.now) (string_bytes c.push_char.new.out) _ 123
    c.in_ok-push_char.ensures

pub loop-member-preserved : goal.loop-member-preserved
loop-member-preserved g c =
    let f = g.M.Member.entry in
    let es = c.args.members.now in
    entry_step f es c.loop-member.member-index c.member-item.result c.loop-member.later (string_bytes c.loop-member.out)
    (string_bytes c.args.out.now ++ 123 ∷ members_text false (members_in_order (map f es))) c.key.result.now
    (string_bytes c.push_key.new.out) (string_bytes c.push_value.new.out) c.loop-member-test.true c.member-item.is
    c.key.ensures c.in_ok-push_key.ensures c.in_ok-push_value.ensures c.loop-member.invariant

pub returns : goal.returns
returns g c =
    let f = g.M.Member.entry in
    let es = c.args.members.now in
    on_ok_weaker c.push_char-2.result
    (λ e. entries_end f es c.loop-member.member-index c.loop-member.later (string_bytes c.loop-member.out)
    (string_bytes c.args.out.now ++ 123 ∷ members_text false (members_in_order (map f es)))
    (string_bytes c.push_char-2.new.out)
    c.loop-member-test.false e c.loop-member.invariant)
    c.push_char-2.ensures
