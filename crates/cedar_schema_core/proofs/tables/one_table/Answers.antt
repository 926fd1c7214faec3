use Rattle.cedar_schema_core.proofs.OneTable.{one_table_of_words}
use Rattle.cedar_schema_core.proofs.tables.one_table.Goals as goal

pub returns : goal.returns
returns c = one_table_of_words
