use Rattle.std.proofs.Common.{◌++◌, ap, sym, ◌∙◌}
use Rattle.std.specs.List.{flat_map}
use Rattle.schema_json_walk.proofs.ByParts.{fragment_by_parts}
use Rattle.schema_json_walk.specs.Walk.{fragment_parts}
use Rattle.schema_resolve_definitions.specs.Declarations.{name_of}
use Rattle.schema_resolve_definitions.specs.Tests.{tests_of}
use Rattle.schema_resolve_targets.specs.Gathered.{uids}
use Rattle.schema_resolve_targets.specs.ReferenceParts.{by_reference}
use Rattle.schema_resolve_targets.specs.Untargeted.{untargeted_in}
use Rattle.schema_resolve_targets.specs.Undefined.{types_among, actions_among}
use Rattle.schema_resolve_targets.proofs.Gathering.{gathers_all}
use Rattle.schema_resolve_targets.proofs.gather.gather_undefined.Goals as goal

pub returns-clause-types : goal.returns-clause-types
returns-clause-types c =
    let t = tests_of c.args.all_defs.now in
    let all = gathers_all (fragment_parts c.args.fragment.now) _ c.walk_fragment.new.visitor
    c.in_ok-walk_fragment.ensures.taken in
    all.types ∙ ap (λ l. l ++ types_among
    (flat_map (λ e. by_reference (untargeted_in t (name_of e.0)) e.1) (fragment_parts c.args.fragment.now)))
    c.new.ensures.items ∙ ap types_among
    (sym (fragment_by_parts (λ ns. by_reference (untargeted_in t (name_of ns))) c.args.fragment.now))

pub returns-clause-actions : goal.returns-clause-actions
returns-clause-actions c =
    let t = tests_of c.args.all_defs.now in
    let all = gathers_all (fragment_parts c.args.fragment.now) _ c.walk_fragment.new.visitor
    c.in_ok-walk_fragment.ensures.taken in
    all.actions ∙ ap (λ l. uids l ++ actions_among
    (flat_map (λ e. by_reference (untargeted_in t (name_of e.0)) e.1) (fragment_parts c.args.fragment.now)))
    c.new-2.ensures.items ∙ ap actions_among
    (sym (fragment_by_parts (λ ns. by_reference (untargeted_in t (name_of ns))) c.args.fragment.now))
