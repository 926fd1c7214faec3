use Rattle.schema_syntax.specs.ParseAnswers.{AreTokensOf}
use Rattle.schema_syntax.proofs.schema_parser.parse_tokens.Goals as goal

pub returns-in-Err-clause-fault : goal.returns-in-Err-clause-fault
returns-in-Err-clause-fault c =
    let are : AreTokensOf c.args.text.now c.args.tokens.items = record
    { scans = c.requires.scans; sentence = c.requires.sentence } in
    c.stopped.ensures c.args.text.now c.args.tokens.items are c.in-Err.ensures.fault

pub returns-in-Ok-clause-tree : goal.returns-in-Ok-clause-tree
returns-in-Ok-clause-tree c =
    let are : AreTokensOf c.args.text.now c.args.tokens.items = record
    { scans = c.requires.scans; sentence = c.requires.sentence } in
    record { tokens = c.args.tokens.items; are = are; tree = c.in-Ok.ensures.tree }
