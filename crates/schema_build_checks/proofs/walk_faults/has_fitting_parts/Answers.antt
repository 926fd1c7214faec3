use Rattle.std.proofs.Common.{◌∙◌}
use Rattle.schema_json_walk.specs.Walk.{fragment_parts}
use Rattle.schema_build_checks.specs.Refusing.{GivenNothing}
use Rattle.schema_build_checks.specs.WalkFaults.{unknown_extension, unsupported, NamesExtension, NamesFeature}
use Rattle.schema_build_checks.proofs.Stops.{none_given, nothing_first, steps_weaker}
use Rattle.schema_build_checks.proofs.walk_faults.has_fitting_parts.Goals as goal

pub returns-in-Ok-clause-extensions : goal.returns-in-Ok-clause-extensions
returns-in-Ok-clause-extensions c = λ yes e h.
    nothing_first NamesExtension _
    (c.fragment_gives_what_its_parts_give.ensures (λ ns part. unknown_extension c.args.table.now part)
    ∙ none_given (λ v e. unknown_extension v.table.now e.1) _ _ (fragment_parts c.args.fragment.now)
    (steps_weaker _ (GivenNothing (λ v e. unknown_extension v.table.now e.1)) (λ s p t both. both.0) _ _
    (fragment_parts c.args.fragment.now) c.in-Ok.ensures.taken))
    e h

pub returns-in-Ok-clause-features : goal.returns-in-Ok-clause-features
returns-in-Ok-clause-features c = λ yes e h.
    nothing_first NamesFeature _
    (c.fragment_gives_what_its_parts_give-2.ensures (λ ns part. unsupported part)
    ∙ none_given (λ v e. unsupported e.1) _ _ (fragment_parts c.args.fragment.now)
    (steps_weaker _ (GivenNothing (λ v e. unsupported e.1)) (λ s p t both. (both.0.0, both.1)) _ _
    (fragment_parts c.args.fragment.now) c.in-Ok.ensures.taken))
    e h
