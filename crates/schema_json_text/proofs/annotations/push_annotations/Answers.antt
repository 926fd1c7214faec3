use Rattle.std.proofs.Common.{subst, codes, string_bytes, false}
use Rattle.std.proofs.lemmas.Result.{on_ok_weaker}
use Rattle.schema_json_text.specs.Members.{annotations_value, AddsMember}
use Rattle.schema_json_text.proofs.Slots.{ahead_some, ahead_none}
use Rattle.schema_json_text.proofs.annotations.push_annotations.Goals as goal

pub returns-then-there : goal.returns-then-there
returns-then-there c =
    let o = annotations_value c.args.annotations.now.0 in
    let old = string_bytes c.args.out.now in
    let mid = string_bytes c.push_first_annotations.new.out in
    on_ok_weaker c.push_char.result
    (λ e. ahead_some (codes "annotations") o old mid (string_bytes c.push_char.new.out)
    (subst (AddsMember false (codes "annotations") o old mid) c.if-there.true c.in_ok-there.ensures) e)
    c.push_char.ensures

pub returns : goal.returns
returns c =
    let o = annotations_value c.args.annotations.now.0 in
    let old = string_bytes c.args.out.now in
    let mid = string_bytes c.push_first_annotations.new.out in
    ahead_none (codes "annotations") o old mid
    (subst (AddsMember false (codes "annotations") o old mid) c.if-there.false c.in_ok-there.ensures)
