use Rattle.std.proofs.Common.{◌≡◌, true, false, string_bytes, sym, ◌∙◌, subst}
use Rattle.std.specs.Str.{bytes_eq}
use Rattle.schema_json_shapes.proofs.FewMembers.{found_first, found_last, none_of_two}
use Rattle.schema_json_shapes.proofs.fields.at_end.Goals as goal

pub returns-then-same_bytes : goal.returns-then-same_bytes
returns-then-same_bytes c =
    let name = c.args.name.now in
    let same : bytes_eq name (string_bytes c.in-Some.first.now) ≡ true =
    subst (λ t. bytes_eq name t ≡ true) c.as_str.ensures.value (sym c.same_bytes.ensures ∙ c.if-same_bytes.true) in
    found_first name c.args.members.now.entries (c.in-Some.first.now, c.in-Some.value.now) c.in-Some.ensures.first same

pub returns-then-same_bytes-2 : goal.returns-then-same_bytes-2
returns-then-same_bytes-2 c =
    let name = c.args.name.now in
    let l = c.in-Some-last_key_value in
    let apart : bytes_eq name (string_bytes c.in-Some.first.now) ≡ false =
    subst (λ t. bytes_eq name t ≡ false) c.as_str.ensures.value (sym c.same_bytes.ensures ∙ c.if-same_bytes.false) in
    let same : bytes_eq name (string_bytes l.last.now) ≡ true =
    subst (λ t. bytes_eq name t ≡ true) c.as_str-2.ensures.value
    (sym c.same_bytes-2.ensures ∙ c.if-same_bytes-2.true) in
    found_last name c.args.members.now.entries (c.in-Some.first.now, c.in-Some.value.now) (l.last.now, l.value.now)
    c.requires c.in-Some.ensures.first l.ensures.last apart same

pub returns : goal.returns
returns c =
    let name = c.args.name.now in
    let l = c.in-Some-last_key_value in
    let apart : bytes_eq name (string_bytes c.in-Some.first.now) ≡ false =
    subst (λ t. bytes_eq name t ≡ false) c.as_str.ensures.value (sym c.same_bytes.ensures ∙ c.if-same_bytes.false) in
    let other : bytes_eq name (string_bytes l.last.now) ≡ false =
    subst (λ t. bytes_eq name t ≡ false) c.as_str-2.ensures.value
    (sym c.same_bytes-2.ensures ∙ c.if-same_bytes-2.false) in
    none_of_two name c.args.members.now.entries (c.in-Some.first.now, c.in-Some.value.now) (l.last.now, l.value.now)
    c.requires c.in-Some.ensures.first l.ensures.last apart other
