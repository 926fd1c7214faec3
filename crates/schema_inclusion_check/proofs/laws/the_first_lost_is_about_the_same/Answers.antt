use Rattle.std.proofs.Common.{◌≡◌, sym, ◌∙◌, subst}
use Rattle.std.specs.Option.{option_map}
use Rattle.schema_inclusion_values.specs.Admits.{IsInclusion}
use Rattle.schema_inclusion_values.specs.Lost.{lost}
use Rattle.schema_inclusion_values.specs.Settled.{IsSettled}
use Rattle.schema_inclusion_check.specs.Ordered.{meaning_in_order}
use Rattle.schema_inclusion_check.specs.Raw.{raw_meaning}
use Rattle.schema_inclusion_check.specs.Subjects.{subject}
use Rattle.schema_inclusion_check.proofs.Arranged.{about_the_same}
use Rattle.schema_inclusion_check.proofs.Reading.{raw_read}
use Rattle.schema_inclusion_check.proofs.laws.the_first_lost_is_about_the_same.Goals as goal

pub returns : goal.returns
returns c = λ es fs xs ys old new reads read so sn.
    let m = raw_meaning es xs in
    let n = raw_meaning fs ys in
    let p : meaning_in_order m ≡ old = sym (raw_read es xs) ∙ reads in
    let q : meaning_in_order n ≡ new = sym (raw_read fs ys) ∙ read in
    let found : IsInclusion old new (lost m n) =
    c.the_first_lost_of_built_schemas_is_found.ensures es fs xs ys old new reads read so sn in
    let chosen : IsInclusion old new (lost old new) = c.the_first_lost_is_found.ensures old new so sn in
    subst (λ k. option_map subject (lost m n) ≡ option_map subject (lost old k)) q
    (subst (λ k. option_map subject (lost m n) ≡ option_map subject (lost k (meaning_in_order n))) p
    (about_the_same m n
    (subst (λ k. IsInclusion k (meaning_in_order n) (lost m n)) (sym p)
    (subst (λ k. IsInclusion old k (lost m n)) (sym q) found))
    (subst (λ k. IsInclusion k (meaning_in_order n) (lost k (meaning_in_order n))) (sym p)
    (subst (λ k. IsInclusion old k (lost old k)) (sym q) chosen))))
