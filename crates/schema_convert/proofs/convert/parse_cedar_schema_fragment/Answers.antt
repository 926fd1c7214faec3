use Rattle.std.proofs.Common.{subst}
use Rattle.schema_syntax_reader.specs.LawfulTrees.{IsStopOf}
use Rattle.schema_syntax.specs.ParseAnswers.{AreTokensOf}
use Rattle.schema_convert.proofs.convert.parse_cedar_schema_fragment.Goals as goal

pub returns-in-Err-clause-refusal : goal.returns-in-Err-clause-refusal
returns-in-Err-clause-refusal c =
    c.syntax_errors.ensures c.args.src.now (c.refused.ensures c.args.src.now c.in-Err.ensures.fault)

pub returns-in-Err-fragment_at_once-clause-refusal : goal.returns-in-Err-fragment_at_once-clause-refusal
returns-in-Err-fragment_at_once-clause-refusal c =
    let are : AreTokensOf c.args.src.now c.in-Ok.tokens.items = record
    { scans = c.in-Ok.ensures.scans; sentence = c.in-Ok.ensures.sentence } in
    let stop : IsStopOf c.args.src.now c.in-Ok.tokens.items c.in-Err-fragment_at_once.why =
    subst (λ ts. IsStopOf c.args.src.now ts c.in-Err-fragment_at_once.why) c.as_slice.ensures.value
    c.in-Err-fragment_at_once.ensures.fault in
    c.syntax_errors-in-Err-fragment_at_once.ensures c.args.src.now
    (c.stopped.ensures c.args.src.now c.in-Ok.tokens.items are stop)
