use Rattle.laws_written.proofs.Reading.{read_type}
use Rattle.laws_written.proofs.laws.spelled_types_are_read.Goals as goal

pub returns : goal.returns
returns c = λ source u t h ts s. read_type source c.one_value.ensures.value_or_bad h ts s
