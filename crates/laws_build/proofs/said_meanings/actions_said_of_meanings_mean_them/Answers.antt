use Rattle.laws_build.proofs.Said.EntryMeans.{action_means}
use Rattle.laws_build.proofs.said_meanings.actions_said_of_meanings_mean_them.Goals as goal

pub returns : goal.returns
returns c = λ t s ns x spec parents a h m. action_means t s ns x spec parents a h m
