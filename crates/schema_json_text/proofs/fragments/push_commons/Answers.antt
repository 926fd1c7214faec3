use Rattle.std.proofs.Common.{◌<◌, ◌≤◌, ◌++◌, ap, sym, ◌∙◌, length, map, append-nil, codes, string_bytes, arith}
use Rattle.std.proofs.lemmas.Result.{on_ok_weaker}
use Rattle.schema_json_values.specs.TypeValues.{object_of}
use Rattle.schema_json_values.specs.FragmentValues.{common_entry}
use Rattle.schema_json_text.specs.Members.{ahead, object_value}
use Rattle.schema_json_text.proofs.Slots.{ahead_whole}
use Rattle.schema_json_text.proofs.Presence.{bare_key, key_commons, object_none, object_some}
use Rattle.schema_json_text.proofs.fragments.push_commons.Goals as goal

pub returns-then-entries-eq0 : goal.returns-then-entries-eq0
returns-then-entries-eq0 g c =
    let f = common_entry g.N.NameText.components in
    let es = c.args.entries.now in
    let old = string_bytes c.args.out.now in
    let none : length es ≤ 0 = omega (arith, c.if-entries-eq0.true) in
    sym (append-nil old) ∙ ap (λ o. old ++ ahead (codes "commonTypes") o) (sym (object_none f es none))

pub returns : goal.returns
returns g c =
    let f = common_entry g.N.NameText.components in
    let es = c.args.entries.now in
    let some : 0 < length es = omega (arith, c.if-entries-eq0.false) in
    on_ok_weaker c.push_char.result
    (λ e. ahead_whole (codes "commonTypes") (object_value (map f es)) (object_of (map f es))
    (string_bytes c.args.out.now) (string_bytes c.push.new.out) (string_bytes c.push_common_types.new.out)
    (string_bytes c.push_char.new.out) (bare_key (codes "commonTypes")) (object_some f es some) c.in_ok-push.ensures
    key_commons c.in_ok-push_common_types.ensures e)
    c.push_char.ensures
