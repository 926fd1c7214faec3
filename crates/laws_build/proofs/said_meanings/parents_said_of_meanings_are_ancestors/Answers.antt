use Rattle.laws_build.proofs.Said.Parents.{entity_parents_are, action_parents_are}
use Rattle.laws_build.proofs.said_meanings.parents_said_of_meanings_are_ancestors.Goals as goal

pub returns : goal.returns
returns c = record {
  entities = λ t ns x k e h p a. entity_parents_are t ns x k e h p a;
  actions = λ t ns x spec parents a h k. action_parents_are t ns x spec parents a h k;
}
