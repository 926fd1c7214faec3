use Rattle.std.proofs.Common.{◌∙◌, refl, sym, subst, inr}
use Rattle.schema_json_walk.specs.Walk.{fragment_parts}
use Rattle.schema_build_checks.specs.Refusing.{IsAboutFirst}
use Rattle.schema_build_checks.specs.WalkFaults.{unsupported, NamesFeature}
use Rattle.schema_build_checks.proofs.Stops.{none_given, first_at, about_first, nothing_first}
use Rattle.schema_build_checks.proofs.walk_faults.check_features.Goals as goal

pub returns-in-Ok-clause-ok : goal.returns-in-Ok-clause-ok
returns-in-Ok-clause-ok c = λ e h.
    nothing_first NamesFeature _
    (c.fragment_gives_what_its_parts_give.ensures (λ ns part. unsupported part)
    ∙ none_given (λ v e. unsupported e.1) _ _ (fragment_parts c.args.fragment.now) c.in-Ok.ensures.taken)
    e h

pub returns-in_ok-new-in-Err-First-clause-err : goal.returns-in_ok-new-in-Err-First-clause-err
returns-in_ok-new-in-Err-First-clause-err c =
    let parts = fragment_parts c.args.fragment.now in
    let feature = c.in-Err-First.feature in
    let told = c.in_ok-new-in-Err-First.field-0 in
    let first = first_at (λ v e. unsupported e.1) _ parts c.in-Err-First.field-0 feature c.in-Err-First.field-0-is
    c.in-Err-First.ensures.refused in
    inr (subst (λ l. IsAboutFirst NamesFeature l told)
    (sym (c.fragment_gives_what_its_parts_give.ensures (λ ns part. unsupported part)))
    (about_first NamesFeature _ feature told first (record { 0 = feature }, c.in_ok-new-in-Err-First.ensures, refl)))
