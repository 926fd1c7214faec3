use Rattle.std.proofs.Common.{[], subst, sym}
use Rattle.cedar_messages.specs.Messages.{BeginsWith}
use Rattle.cedar_messages.proofs.Framing.{one_beginning, empty, filled}
use Rattle.schema_inclusion.proofs.Two.{two_begin, two_messages_are}
use Rattle.schema_inclusion.proofs.run.two_messages.Goals as goal

pub returns-in_default : goal.returns-in_default
returns-in_default c = λ old new are.
    let b = two_begin c.args.bytes.now old new are in c.in_default.ensures old b.0 b.1

pub returns-in_default-first_message : goal.returns-in_default-first_message
returns-in_default-first_message c = λ old new are.
    let bytes = c.args.bytes.now in
    let b = two_begin bytes old new are in
    let same = (one_beginning bytes old b.0 c.in-Some.old.now c.in-Some.rest.now b.1 c.in-Some.ensures).1 in
    c.in_default-first_message.ensures new [] (subst (λ r. BeginsWith r new []) same b.2)

pub returns-then-is_empty : goal.returns-then-is_empty
returns-then-is_empty c = two_messages_are c.args.bytes.now c.in-Some.old.now c.in-Some.rest.now c.in-Some-first_message.new.now
    c.in-Some-first_message.rest.now c.in-Some.ensures c.in-Some-first_message.ensures
    (empty c.in-Some-first_message.rest.now c.is_empty.result c.is_empty.ensures c.if-is_empty.true)

pub returns-else-is_empty : goal.returns-else-is_empty
returns-else-is_empty c = λ old new are.
    let bytes = c.args.bytes.now in
    let b = two_begin bytes old new are in
    let same = (one_beginning bytes old b.0 c.in-Some.old.now c.in-Some.rest.now b.1 c.in-Some.ensures).1 in
    let k = subst (λ r. BeginsWith r new []) same b.2 in
    let rest = (one_beginning c.in-Some.rest.now new [] c.in-Some-first_message.new.now c.in-Some-first_message.rest.now k
    c.in-Some-first_message.ensures).1 in
    filled c.in-Some-first_message.rest.now c.is_empty.result c.is_empty.ensures c.if-is_empty.false (sym rest)
