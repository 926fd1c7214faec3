use Rattle.schema_convert_errors.proofs.error_texts.second_text.Goals as goal

pub returns-in-Principal : goal.returns-in-Principal
returns-in-Principal c = rw c.in-Principal.is c.around.ensures

pub returns-in-Resource : goal.returns-in-Resource
returns-in-Resource c = rw c.in-Resource.is c.around-in-Resource.ensures
