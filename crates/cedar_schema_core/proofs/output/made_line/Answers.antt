use Rattle.std.proofs.Common.{decimal, length, ap, ◌∙◌, subst}
use Rattle.std.specs.Str.{IsAscii}
use Rattle.cedar_schema_core.proofs.Lines.{made_bytes}
use Rattle.cedar_schema_core.proofs.output.made_line.Goals as goal

pub returns : goal.returns
returns c =
    let bytes = ap (λ t. decimal (length t)) c.as_str.ensures.bytes in
    made_bytes c.in_ok-line.line c.push_text.new.self c.push_text-2.new.self c.push_text-3.new.self
    c.in_ok-around.field-0
    c.in_ok-around-2.field-0 c.in_ok-types.types c.in_ok-actions.actions c.in_ok-written.written _ _ _ _
    c.in_ok-line.ensures.text c.in_ok-push_text.ensures.ok c.in_ok-around.ensures c.in_ok-types.ensures.text
    c.in_ok-push_text-2.ensures.ok c.in_ok-actions.ensures.text c.in_ok-push_text-3.ensures.ok c.in_ok-around-2.ensures
    (c.in_ok-written.ensures.text ∙ bytes) c.in_ok-line.ensures.ascii c.in_ok-types.ensures.ascii
    c.in_ok-actions.ensures.ascii (subst IsAscii bytes c.in_ok-written.ensures.ascii)
