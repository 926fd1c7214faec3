use Rattle.std.proofs.Common.{◌≡◌, true, false, Some, string_bytes, sym, ap, ◌∙◌, subst}
use Rattle.schema_json_shapes.specs.Seen.{table}
use Rattle.schema_json_shapes.specs.Tables.{is_field}
use Rattle.schema_json_shapes.proofs.FewMembers.{unknown_first, unknown_last, all_known}
use Rattle.schema_json_shapes.proofs.fields.unknown_at_end.Goals as goal

pub returns-then-not-is_field : goal.returns-then-not-is_field
returns-then-not-is_field c =
    let fs = table c.args.fields.now in
    let p = c.in-Some in
    let none : is_field fs (string_bytes p.first.now) ≡ false =
    subst (λ t. is_field fs t ≡ false) c.as_str-least.ensures.value
    (sym c.is_field.ensures ∙ c.if-not-is_field.true) in
    ap Some c.as_str-least.ensures.value
    ∙ unknown_first fs c.args.members.now.entries (p.first.now, p.field-0-1.now) p.ensures.first none

pub returns-then-not-is_field-2 : goal.returns-then-not-is_field-2
returns-then-not-is_field-2 c =
    let fs = table c.args.fields.now in
    let p = c.in-Some in
    let l = c.in-Some-last_key_value in
    let is : is_field fs (string_bytes p.first.now) ≡ true =
    subst (λ t. is_field fs t ≡ true) c.as_str-least.ensures.value
    (sym c.is_field.ensures ∙ c.if-not-is_field.false) in
    let none : is_field fs (string_bytes l.last.now) ≡ false =
    subst (λ t. is_field fs t ≡ false) c.as_str-greatest.ensures.value
    (sym c.is_field-2.ensures ∙ c.if-not-is_field-2.true) in
    ap Some c.as_str-greatest.ensures.value
    ∙ unknown_last fs c.args.members.now.entries (p.first.now, p.field-0-1.now) (l.last.now, l.field-0-1.now)
    c.requires p.ensures.first l.ensures.last is none

pub returns : goal.returns
returns c =
    let fs = table c.args.fields.now in
    let p = c.in-Some in
    let l = c.in-Some-last_key_value in
    let is : is_field fs (string_bytes p.first.now) ≡ true =
    subst (λ t. is_field fs t ≡ true) c.as_str-least.ensures.value
    (sym c.is_field.ensures ∙ c.if-not-is_field.false) in
    let other : is_field fs (string_bytes l.last.now) ≡ true =
    subst (λ t. is_field fs t ≡ true) c.as_str-greatest.ensures.value
    (sym c.is_field-2.ensures ∙ c.if-not-is_field-2.false) in
    all_known fs c.args.members.now.entries (p.first.now, p.field-0-1.now) (l.last.now, l.field-0-1.now) c.requires
    p.ensures.first l.ensures.last is other
