use Rattle.std.proofs.Common.{◌++◌, ◌∷◌, [], ap, sym, ◌∙◌, subst}
use Rattle.std.specs.Prelude.{codes}
use Rattle.std.proofs.lemmas.List.{append-nil, append_assoc}
use Rattle.cedar_messages.specs.Messages as messages
use Rattle.cedar_messages.proofs.Framing.{behind, empty}
use Rattle.schema_registry.specs.Replies.{no_more, no_messages, next, AreAllReplies}
use Rattle.schema_registry.proofs.Noted.{noted}
use Rattle.schema_registry.proofs.replies.reply_all.Goals as goal

pub loop-left-preserved : goal.loop-left-preserved
loop-left-preserved c =
    let table = c.args.table in
    let k = c.loop-left.invariant.kept in
    let n = c.in_ok-push_reply.ensures in
    let message = c.in-Some.message.now in
    let left = c.loop-left.left.now in
    let after = c.in-Some.rest.now in
    let begins = c.in-Some.ensures in
    let line = n.0 ++ codes "\n" in
    let notes = noted (λ text other t m o h i. (c.canonical_texts_tell_meanings_apart.ensures text other t m o h i).0)
    table c.loop-left.registry k.0 k.1 message n.0 c.push_reply.new.registry n.1 in
    record {
      kept = (
        notes.seen_now,
        notes.keeps,
        λ rest all more are comes replies.
            subst (AreAllReplies table c.args.bytes.now)
            (sym (append_assoc c.loop-left.out line more) ∙ ap (λ o. o ++ more) (sym n.2))
            (k.2 (message ∷ rest) all (line ++ more) (messages.next left message after rest begins are)
            (notes.comes rest all comes) (next message n.0 rest more (notes.replies rest all comes) replies)),
      );
      back = λ all are. let b = c.loop-left.invariant.back all are in behind left message after b.0 begins b.1;
    }

pub returns : goal.returns
returns c =
    let k = c.loop-left.invariant.kept in
    subst (AreAllReplies c.args.table c.args.bytes.now) (append-nil c.loop-left.out)
    (k.2 [] k.0 [] (rw (empty c.loop-left.left.now c.is_empty.result c.is_empty.ensures c.loop-left-test.false)
    messages.none) (no_more k.0) no_messages)
