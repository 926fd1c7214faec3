use Rattle.schema_syntax_tokens.proofs.Values.{value_or_bad}
use Rattle.schema_syntax_tree.proofs.src_str.SrcStr.new.Goals as goal

pub returns-in-Err : goal.returns-in-Err
returns-in-Err c value h = value_or_bad c.args.body.now value c.in-Err.field-0 h c.in-Err.ensures
