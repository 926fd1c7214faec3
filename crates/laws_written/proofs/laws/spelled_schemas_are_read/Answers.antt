use Rattle.laws_written.proofs.Decls.{read_schema}
use Rattle.laws_written.proofs.laws.spelled_schemas_are_read.Goals as goal

pub returns : goal.returns
returns c = λ source u w h ts s. read_schema source c.one_value.ensures.value_or_bad h ts s
