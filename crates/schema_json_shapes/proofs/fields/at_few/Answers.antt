use Rattle.std.proofs.Common.{◌≡◌, true, false, string_bytes, sym, ap, ◌∙◌, subst}
use Rattle.std.specs.Str.{bytes_eq}
use Rattle.serde_json.specs.View.{view, members_view}
use Rattle.serde_json.specs.Find.{get_member}
use Rattle.schema_json_shapes.proofs.FewMembers.{found_here, found_later}
use Rattle.schema_json_shapes.proofs.fields.at_few.Goals as goal

pub returns-then-same_bytes : goal.returns-then-same_bytes
returns-then-same_bytes c =
    let name = c.args.name.now in
    let key = string_bytes c.in-Some.key.now in
    let same : bytes_eq name key ≡ true = subst (λ t. bytes_eq name t ≡ true) c.as_str.ensures.value
    (sym c.same_bytes.ensures ∙ c.if-same_bytes.true) in
    sym (found_here name key (view c.in-Some.value.now) (members_view c.next.new.self) same)
    ∙ sym (ap (λ entries. get_member name (members_view entries)) c.in-Some.ensures.steps) ∙ c.loop-key.invariant

pub loop-key-preserved : goal.loop-key-preserved
loop-key-preserved c =
    let name = c.args.name.now in
    let key = string_bytes c.in-Some.key.now in
    let apart : bytes_eq name key ≡ false = subst (λ t. bytes_eq name t ≡ false) c.as_str.ensures.value
    (sym c.same_bytes.ensures ∙ c.if-same_bytes.false) in
    sym (found_later name key (view c.in-Some.value.now) (members_view c.next.new.self) apart)
    ∙ sym (ap (λ entries. get_member name (members_view entries)) c.in-Some.ensures.steps) ∙ c.loop-key.invariant
