use Rattle.std.proofs.Common.{◌<◌, ◌≤◌, length, map, codes, string_bytes, arith}
use Rattle.schema_json_values.specs.FragmentValues.{name_value, list_of}
use Rattle.schema_json_text.specs.Members.{list_value}
use Rattle.schema_json_text.proofs.Slots.{adds_none, adds_some}
use Rattle.schema_json_text.proofs.Presence.{bare_key, key_parents, list_none, list_some}
use Rattle.schema_json_text.proofs.entity_types.push_parents.Goals as goal

pub returns-then-parents-eq0 : goal.returns-then-parents-eq0
returns-then-parents-eq0 g c =
    let f = name_value g.N.NameText.components in
    let none : length c.args.parents.now ≤ 0 = omega (arith, c.if-parents-eq0.true) in
    adds_none c.args.later (codes "memberOfTypes") (list_value (map f c.args.parents.now))
    (string_bytes c.args.out.now) (list_none f c.args.parents.now none)

pub returns : goal.returns
returns g c =
    let f = name_value g.N.NameText.components in
    let parents = c.args.parents.now in
    let some : 0 < length parents = omega (arith, c.if-parents-eq0.false) in
    adds_some c.args.later (codes "memberOfTypes") (list_value (map f parents)) (list_of (map f parents))
    (string_bytes c.args.out.now) (string_bytes c.push_later.new.out) (string_bytes c.push_names.new.out)
    (bare_key (codes "memberOfTypes")) (list_some f parents some) c.in_ok-push_later.ensures key_parents
    c.in_ok-push_names.ensures
