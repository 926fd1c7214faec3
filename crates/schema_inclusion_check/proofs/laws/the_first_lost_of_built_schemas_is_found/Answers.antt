use Rattle.std.proofs.Common.{◌≡◌, sym, ◌∙◌, subst}
use Rattle.schema_inclusion_values.specs.Admits.{IsInclusion}
use Rattle.schema_inclusion_values.specs.Lost.{lost}
use Rattle.schema_inclusion_values.specs.Settled.{IsSettled}
use Rattle.schema_inclusion_check.specs.Ordered.{meaning_in_order}
use Rattle.schema_inclusion_check.specs.Raw.{raw_meaning}
use Rattle.schema_inclusion_check.proofs.Admitted.{inclusion_in_order}
use Rattle.schema_inclusion_check.proofs.Reading.{raw_read}
use Rattle.schema_inclusion_check.proofs.Settling.{settled_as_it_stands}
use Rattle.schema_inclusion_check.proofs.laws.the_first_lost_of_built_schemas_is_found.Goals as goal

pub returns : goal.returns
returns c = λ es fs xs ys old new reads read so sn.
    let m = raw_meaning es xs in
    let n = raw_meaning fs ys in
    let p : meaning_in_order m ≡ old = sym (raw_read es xs) ∙ reads in
    let q : meaning_in_order n ≡ new = sym (raw_read fs ys) ∙ read in
    subst (λ k. IsInclusion old k (lost m n)) q
    (subst (λ k. IsInclusion k (meaning_in_order n) (lost m n)) p
    (inclusion_in_order m n (lost m n) (c.the_first_lost_is_found.ensures m n
    (settled_as_it_stands m (subst IsSettled (sym p) so)) (settled_as_it_stands n (subst IsSettled (sym q) sn)))))
