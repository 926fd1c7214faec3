use Rattle.std.proofs.Common.{ap}
use Rattle.cedar_identifiers.proofs.Same.{id_same}
use Rattle.cedar_identifiers.proofs.Ids.{id_is_word}
use Rattle.cedar_identifiers.proofs.Ordered.{same_words}
use Rattle.cedar_identifiers.proofs.laws.ids_go_by_text.Goals as goal

pub returns-clause-equal : goal.returns-clause-equal
returns-clause-equal c =
    let a = c.args.a.now in
    let b = c.args.b.now in
    let w = same_words a.text b.text (id_is_word a.text a.word) (id_is_word b.text b.word) in
    (λ h. id_same a b (w.0 h), λ e. w.1 (ap (λ x. x.text) e))
