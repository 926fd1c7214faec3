use Rattle.std.proofs.Common.{◌≡◌, get_or, false, subst, arith}
use Rattle.std.proofs.lemmas.List.{take_all}
use Rattle.std.proofs.lemmas.List.Elements.{All-more}
use Rattle.json.specs.Run.{is_stop}
use Rattle.schema_json_quotes.specs.Escapes.{NoneJsonEscaped}
use Rattle.schema_json_quotes.proofs.quotes.next_escape.Goals as goal

pub loop-at-preserved : goal.loop-at-preserved
loop-at-preserved c =
    let plain : is_stop (get_or c.args.rest.now c.loop-at.at 0) ≡ false = c.in_default.ensures in
    All-more (λ b. is_stop b ≡ false) c.args.rest.now c.loop-at.at 0 c.loop-at-test.true c.loop-at.invariant plain

pub returns : goal.returns
returns c = subst (λ t. NoneJsonEscaped t) (take_all c.loop-at.at c.args.rest.now (omega arith)) c.loop-at.invariant
