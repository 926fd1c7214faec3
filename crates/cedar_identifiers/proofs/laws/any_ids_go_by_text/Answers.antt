use Rattle.std.proofs.Common.{ap}
use Rattle.cedar_identifiers.proofs.Same.{any_id_same}
use Rattle.cedar_identifiers.proofs.Ordered.{same_words}
use Rattle.cedar_identifiers.proofs.laws.any_ids_go_by_text.Goals as goal

pub returns-clause-equal : goal.returns-clause-equal
returns-clause-equal c =
    let a = c.args.a.now in
    let b = c.args.b.now in
    let w = same_words a.text b.text a.word b.word in
    (λ h. any_id_same a b (w.0 h), λ e. w.1 (ap (λ x. x.text) e))
