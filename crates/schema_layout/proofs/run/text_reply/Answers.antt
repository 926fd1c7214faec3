use Rattle.std.proofs.Common.{◌≡◌, ap, sym, subst, []}
use Rattle.std.specs.Str.{encode_utf8_all}
use Rattle.schema_layout.specs.Plans.{IsLayoutAnswer, done, done_report, refused, refused_report}
use Rattle.schema_layout.proofs.Plans.{so}
use Rattle.schema_layout.proofs.run.text_reply.Goals as goal

pub returns-in-Ok : goal.returns-in-Ok
returns-in-Ok c =
    let out = encode_utf8_all c.in-Ok.out in
    let none : encode_utf8_all c.new.result ≡ [] = ap encode_utf8_all c.new.ensures in
    subst (IsLayoutAnswer c.args.text.now)
    (λ i. record { status = (done_report out).status; out = out; err = sym none i })
    (done out c.in-Ok.ensures.tree c.in-Ok.ensures.laid)

pub returns-in-Err-Syntax : goal.returns-in-Err-Syntax
returns-in-Err-Syntax c =
    so (IsLayoutAnswer c.args.text.now) c.refused_reply.result (refused_report c.in-Err-Syntax.errors)
    (refused c.in-Err-Syntax.errors (rw c.in-Err-Syntax.field-0-is at c.in-Err-Syntax.ensures.refused))
    c.refused_reply.ensures
