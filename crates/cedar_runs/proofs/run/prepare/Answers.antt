use Rattle.std.proofs.Common.{refl, subst}
use Rattle.std.specs.Prelude.{map}
use Rattle.std.specs.String.{string_bytes}
use Rattle.std.proofs.lemmas.Result.{IfOk-weaker}
use Rattle.cedar_runs.specs.Reports.{report_of}
use Rattle.cedar_runs.specs.Runs.{AsksToRead, device, planned}
use Rattle.cedar_runs.proofs.Planned.{had_some, none_asked, is_asked, own_some, unread}
use Rattle.cedar_runs.proofs.run.prepare.Goals as goal

pub returns-in_default-clause-reported : goal.returns-in_default-clause-reported
returns-in_default-clause-reported g c =
    let words = map string_bytes c.args.words.now in
    let reads = AsksToRead g.P.Program.asks g.P.Program.reads words in
    let source = device g.S.Source.left g.S.Source.faults c.args.source.now c.args.source.now in
    let had = had_some (g.S.Source.left c.args.source.now) in
    let none = none_asked (g.P.Program.asks words) c.in_ok-command.field-0 c.in_default.is c.in_ok-command.ensures in
    IfOk-weaker c.usage_reply.result _ _
    (λ reply h. planned had.0 had.1 h
    (unread reads source (λ r. none r.0 r.1) refl (report_of reply).status) refl)
    (c.usage_reply.ensures words had.0 none)

pub own_reply-requires : goal.own_reply-requires
own_reply-requires g c =
    let words = map string_bytes c.args.words.now in
    record {
      asked = (
        words,
        is_asked (g.P.Program.asks words) c.in_ok-command.field-0 c.in-Some.command c.in-Some.is
            c.in_ok-command.ensures,
      );
    }

pub returns-in-Some-2-clause-reported : goal.returns-in-Some-2-clause-reported
returns-in-Some-2-clause-reported g c =
    let words = map string_bytes c.args.words.now in
    let reads = AsksToRead g.P.Program.asks g.P.Program.reads words in
    let source = device g.S.Source.left g.S.Source.faults c.args.source.now c.args.source.now in
    let had = had_some (g.S.Source.left c.args.source.now) in
    let asks = is_asked (g.P.Program.asks words) c.in_ok-command.field-0 c.in-Some.command c.in-Some.is
    c.in_ok-command.ensures in
    let own = own_some _ _ c.in_ok-reply.field-0 c.in-Some-2.reply c.in-Some-2.is c.in_ok-reply.ensures in
    planned had.0 had.1 (own.1 words had.0 asks)
    (unread reads source
    (λ r. own.0 (subst g.P.Program.reads (c.one_command.ensures words r.0 c.in-Some.command r.1 asks) r.2))
    refl (report_of c.in-Some-2.reply).status) refl
