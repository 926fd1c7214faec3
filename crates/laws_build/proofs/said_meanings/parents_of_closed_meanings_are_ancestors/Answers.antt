use Rattle.schema_build_hierarchy.specs.Parents.{IsParent, IsActionParent}
use Rattle.laws_build.proofs.Said.Parents.{reaches_is}
use Rattle.laws_build.proofs.said_meanings.parents_of_closed_meanings_are_ancestors.Goals as goal

pub returns : goal.returns
returns c = record {
  entities = λ t declared closed a b. reaches_is (IsParent t declared) closed a b;
  actions = λ t declared closed a b. reaches_is (IsActionParent t declared) closed a b;
}
