use Rattle.std.proofs.Common.{subst}
use Rattle.schema_syntax_tokens.specs.TokenLists.{kinds_of}
use Rattle.schema_assist_places.specs.Behind.{IsStop}
use Rattle.schema_assist_places.specs.declared.place.Stopped.TheVariants.{Fault}
use Rattle.schema_assist_words.proofs.Placing.{token_fault, place_fault, reads_all}
use Rattle.schema_assist_words.proofs.text_before.standing_of.Goals as goal

pub returns-then-stop-start-clause-refused : goal.returns-then-stop-start-clause-refused
returns-then-stop-start-clause-refused c =
    place_fault c.args.head.now c.args.front.now c.args.start c.args.stop c.requires c.if-stop-start.true
    c.in-Ok.ensures.expected.0

pub returns-else-stop-start-clause-ok : goal.returns-else-stop-start-clause-ok
returns-else-stop-start-clause-ok c = (
  reads_all c.args.head.now c.args.front.now c.args.start c.args.stop c.requires c.if-stop-start.false,
  record {
    viable = c.in-Ok.ensures.expected.0;
    expected = c.in-Ok.ensures.expected.1;
    place = c.in-Ok.ensures.place;
  },
)

pub returns-in-Ok-token_error-clause-refused : goal.returns-in-Ok-token_error-clause-refused
returns-in-Ok-token_error-clause-refused c =
    let stop : IsStop (kinds_of c.args.front.now) (Fault c.in-Err-Fault.fault) =
    subst (λ x. IsStop (kinds_of c.args.front.now) x) c.in-Err-Fault.field-0-is c.in-Err-Fault.ensures.fault in
    token_fault c.args.head.now c.args.front.now c.args.start c.args.stop c.in-Err-Fault.fault.place
    c.in-Err-Fault.fault.expected.items c.in-Ok-token_error.error c.requires stop.1 c.in-Ok-token_error.ensures
