use Rattle.laws_build.proofs.Generated.Faultless.{faultless}
use Rattle.laws_build.proofs.Generated.Meant.{means_something}
use Rattle.laws_build.proofs.generated_texts.what_is_generated_means_something.Goals as goal

pub returns : goal.returns
returns c = record { faultless = faultless; means = means_something }
