use Rattle.std.proofs.Common.{◌∙◌, sym, subst, inr}
use Rattle.schema_json_walk.specs.Walk.{fragment_parts}
use Rattle.schema_build_checks.specs.Refusing.{IsAboutFirst}
use Rattle.schema_build_checks.specs.WalkFaults.{unknown_extension, NamesExtension}
use Rattle.schema_build_checks.proofs.Stops.{none_given, first_at, about_first, nothing_first}
use Rattle.schema_build_checks.proofs.walk_faults.check_extension_types.Goals as goal

pub returns-in-Ok-clause-ok : goal.returns-in-Ok-clause-ok
returns-in-Ok-clause-ok c = λ e h.
    nothing_first NamesExtension _
    (c.fragment_gives_what_its_parts_give.ensures (λ ns part. unknown_extension c.args.table.now part)
    ∙ none_given (λ v e. unknown_extension v.table.now e.1) _ _ (fragment_parts c.args.fragment.now)
    c.in-Ok.ensures.taken)
    e h

pub returns-in_ok-unknown-in-Err-First-clause-err : goal.returns-in_ok-unknown-in-Err-First-clause-err
returns-in_ok-unknown-in-Err-First-clause-err c =
    let parts = fragment_parts c.args.fragment.now in
    let first = first_at (λ v e. unknown_extension v.table.now e.1) _ parts c.in-Err-First.field-0 c.in-Err-First.id
    c.in-Err-First.field-0-is c.in-Err-First.ensures.refused in
    let told = c.in_ok-unknown-in-Err-First.field-0 in
    inr (subst (λ l. IsAboutFirst NamesExtension l told)
    (sym (c.fragment_gives_what_its_parts_give.ensures (λ ns part. unknown_extension c.args.table.now part)))
    (about_first NamesExtension _ c.in-Err-First.id told first c.in_ok-unknown-in-Err-First.ensures))
