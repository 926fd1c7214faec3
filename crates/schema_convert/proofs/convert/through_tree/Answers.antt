use Rattle.schema_convert.proofs.convert.through_tree.Goals as goal

pub returns-in-Err-clause-refusal : goal.returns-in-Err-clause-refusal
returns-in-Err-clause-refusal c = c.syntax_errors.ensures c.args.src.now c.in-Err.ensures.fault
