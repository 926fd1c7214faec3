use Rattle.laws_build.proofs.Said.EntryMeans.{entity_means}
use Rattle.laws_build.proofs.said_meanings.kinds_said_of_meanings_mean_them.Goals as goal

pub returns : goal.returns
returns c = λ s ns x k e h m. entity_means s ns x k e h m
