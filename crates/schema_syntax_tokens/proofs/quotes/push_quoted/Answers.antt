use Rattle.std.proofs.Common.{length, sym, ap}
use Rattle.schema_syntax_tokens.proofs.quotes.push_quoted.Goals as goal

-- what was written stands behind the old text
pub returns-in-Err-clause-err : goal.returns-in-Err-clause-err
returns-in-Err-clause-err c =
    let front = c.in-Err.ensures.err in
    c.truncate.ensures c.args.text.now (front.1.0, front.1.1, ap length (sym c.as_str-len.ensures.bytes))
