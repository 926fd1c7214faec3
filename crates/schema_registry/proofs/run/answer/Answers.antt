use Rattle.std.proofs.Common.{◌≡◌, ℕ, List, [], ap, sym, subst, MatchOption}
use Rattle.std.specs.Str.{encode_utf8_all}
use Rattle.cedar_messages.specs.Messages.{AreMessages}
use Rattle.schema_registry.specs.Replies.{AreAllReplies}
use Rattle.schema_registry.specs.Plans.{IsRegistryAnswer, done, done_report, cut_short, cut_short_report}
use Rattle.schema_registry.proofs.Plans.{so}
use Rattle.schema_registry.proofs.run.answer.Goals as goal

pub returns-in-Some : goal.returns-in-Some
returns-in-Some c =
    let table = c.args.table.now in
    let bytes = c.args.bytes.now in
    let all = subst (λ found. MatchOption found ((messages : List (List ℕ)) → AreMessages bytes messages → ⊥)
    (AreAllReplies c.in_ok-clone_in.field-0 bytes)) c.in-Some.is c.in_ok-out.ensures in
    let none : encode_utf8_all c.new.result ≡ [] = ap encode_utf8_all c.new.ensures in
    subst (IsRegistryAnswer table bytes)
    (λ i. record { status = (done_report c.in-Some.out).status; out = encode_utf8_all c.in-Some.out; err = sym none i })
    (done c.requires c.in-Some.out (subst (λ t. AreAllReplies t bytes c.in-Some.out) c.in_ok-clone_in.ensures all))

pub returns-in-None : goal.returns-in-None
returns-in-None c =
    let table = c.args.table.now in
    let bytes = c.args.bytes.now in
    let none = subst (λ found. MatchOption found ((messages : List (List ℕ)) → AreMessages bytes messages → ⊥)
    (AreAllReplies c.in_ok-clone_in.field-0 bytes)) c.in-None.is c.in_ok-out.ensures in
    so (IsRegistryAnswer table bytes) c.line.result cut_short_report (cut_short c.requires none) c.line.ensures
