use Rattle.laws_build.proofs.Said.Just.{declares_just}
use Rattle.laws_build.proofs.said_meanings.what_says_a_meaning_declares_it.Goals as goal

pub returns : goal.returns
returns c = λ g m says names. declares_just m (c.namespaces_of_meanings_are_written.ensures.of m)
    (c.namespaces_of_meanings_are_written.ensures.all m) names g says
