use Rattle.schema_syntax.proofs.schema_parser.parse_schema.Goals as goal

pub returns-in-Err-clause-fault : goal.returns-in-Err-clause-fault
returns-in-Err-clause-fault c = c.refused.ensures c.args.text.now c.in-Err.ensures.fault
