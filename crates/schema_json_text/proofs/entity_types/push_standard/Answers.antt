use Rattle.std.proofs.Common.{map, codes, string_bytes, subst}
use Rattle.std.proofs.lemmas.Result.{on_ok_weaker}
use Rattle.schema_json_values.specs.FragmentValues.{name_value}
use Rattle.schema_json_text.specs.Members.{AddsMember, list_value}
use Rattle.schema_json_text.proofs.EntityTexts.{standard_written}
use Rattle.schema_json_text.proofs.entity_types.push_standard.Goals as goal

pub returns : goal.returns
returns g c =
    let names = g.N.NameText.components in
    let one = c.in_ok-later.later in
    let two = c.in_ok-later-2.later in
    let n1 = string_bytes c.push_external.new.out in
    let n2 = string_bytes c.push_parents.new.out in
    let parents = subst (λ ns. AddsMember one (codes "memberOfTypes")
    (list_value (map (name_value names) ns)) n1 n2 two)
    c.as_slice.ensures c.in_ok-later-2.ensures in
    on_ok_weaker c.push_char.result
    (λ e. standard_written c.args.later one two c.in_ok-later-3.later c.in_ok-_later._later c.args.later
    (string_bytes c.args.out.now) n1 n2 (string_bytes c.push_shape.new.out) (string_bytes c.push_tags.new.out)
    (string_bytes c.args.out.now) (string_bytes c.push_char.new.out) names c.args.external c.args.standard.now
    c.in_ok-later.ensures parents c.in_ok-later-3.ensures c.in_ok-_later.ensures e)
    c.push_char.ensures
