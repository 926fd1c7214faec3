use Rattle.std.proofs.Common.{◌⊎◌, inr, ℕ, List, Result, Ok, Err, OnErr}
use Rattle.std.specs.Prelude.{⊤}
use Rattle.cedar_files.proofs.system_files.SystemFilesFiles.put.Goals as goal

told : {A E : Type 0} (r : Result A E) → OnErr r ((List ℕ × ⊤) ⊎ ⊤)
told (Ok x) = tt
told (Err e) = inr tt

pub returns-clause-err : goal.returns-clause-err
returns-clause-err c = told c.map_err.result
