use Rattle.std.proofs.Common.{◌≡◌, ◌++◌, ◌∷◌, false, drop, map, string_bytes}
use Rattle.serde_json.specs.Written.{members_text}
use Rattle.schema_json_text.specs.Members.{members_in_order}
use Rattle.schema_json_text.proofs.members.push_object.Given as goal

abbrev pub invariant-loop-member : goal.invariant-loop-member
invariant-loop-member g l =
    let entry = g.M.Member.entry in
    string_bytes l.out ++ members_text l.later (members_in_order (map entry (drop l.member-index l.members)))
    ≡ string_bytes l.fn.out ++ 123 ∷ members_text false (members_in_order (map entry l.members))
