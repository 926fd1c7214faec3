use Rattle.std.proofs.Common.{◌++◌, ap, sym, ◌∙◌, true, codes, string_bytes}
use Rattle.std.proofs.lemmas.Result.{on_ok_weaker}
use Rattle.serde_json.specs.Written.{members_text}
use Rattle.schema_json.specs.declared.entity_type.EntityTypeKind.TheVariants.{Standard, Enum}
use Rattle.schema_json_values.specs.TypeValues.{with_flag}
use Rattle.schema_json_values.specs.FragmentValues.{kind_members}
use Rattle.schema_json_text.proofs.EntityTexts.{entity_written}
use Rattle.schema_json_text.proofs.entity_types.push_entity_type.Goals as goal

pub returns-in-Standard : goal.returns-in-Standard
returns-in-Standard g c =
    let names = g.N.NameText.components in
    let e = c.args.entity.now in
    let old = string_bytes c.args.out.now in
    let later = c.in_ok-later.later in
    let n2 = string_bytes c.push_first_annotations.new.out in
    on_ok_weaker c.push_standard.result
    (λ h. entity_written later later later later later later old (string_bytes c.push_char.new.out) n2 old old old
    (string_bytes c.push_standard.new.out) names e.annotations.0 e.external e.kind c.in_ok-push_char.ensures
    c.in_ok-later.ensures
    (h ∙ ap (λ k. n2 ++ members_text later (with_flag e.external (codes "external") true (kind_members names k)))
    (ap Standard c.get.ensures ∙ sym c.in-Standard.is)))
    c.push_standard.ensures

pub returns-in-Enum : goal.returns-in-Enum
returns-in-Enum g c =
    let names = g.N.NameText.components in
    let e = c.args.entity.now in
    let old = string_bytes c.args.out.now in
    let later = c.in_ok-later.later in
    let n2 = string_bytes c.push_first_annotations.new.out in
    on_ok_weaker c.push_enum.result
    (λ h. entity_written later later later later later later old (string_bytes c.push_char.new.out) n2 old old old
    (string_bytes c.push_enum.new.out) names e.annotations.0 e.external e.kind c.in_ok-push_char.ensures
    c.in_ok-later.ensures
    (h ∙ ap (λ k. n2 ++ members_text later (with_flag e.external (codes "external") true (kind_members names k)))
    (ap Enum c.get-in-Enum.ensures ∙ sym c.in-Enum.is)))
    c.push_enum.ensures
