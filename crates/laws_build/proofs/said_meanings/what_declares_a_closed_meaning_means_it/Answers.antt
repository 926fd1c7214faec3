use Rattle.schema_build_scope.specs.FragmentScope.{fragment_scope}
use Rattle.laws_build.proofs.Said.Faultless.{faultless}
use Rattle.laws_build.proofs.Said.Meant.{declared_once, fragment_means}
use Rattle.laws_build.proofs.said_meanings.what_declares_a_closed_meaning_means_it.Goals as goal

pub returns : goal.returns
returns c = record {
  means = λ g table m just closed. fragment_means table m closed g just;
  faultless = λ g table m just closed. faultless table m closed g just
      (c.types_stand_for_one.ensures (fragment_scope g table) (declared_once table m closed g just));
}
