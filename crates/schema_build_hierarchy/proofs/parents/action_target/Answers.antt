use Rattle.std.proofs.Common.{sym, ap, ◌∙◌}
use Rattle.std.specs.Option.{option_map}
use Rattle.cedar_identifiers.specs.Candidates.{qualified}
use Rattle.cedar_identifiers.specs.declared.name.Name.{Name}
use Rattle.schema_json.specs.Actions.{written_type}
use Rattle.schema_resolve_definitions.specs.Declarations.{name_of}
use Rattle.schema_resolve_definitions.specs.Tests.{tests_of}
use Rattle.schema_resolve_targets.specs.Targets.{is_action}
use Rattle.schema_build_hierarchy.proofs.FirstCandidate.{own_told, plain_told}
use Rattle.schema_build_hierarchy.proofs.parents.action_target.Goals as goal

pub returns-in-Some : goal.returns-in-Some
returns-in-Some c =
    own_told (is_action (tests_of c.args.defs.now) c.args.id.now) (name_of c.args.ns.now) (written_type c.args.ty.now)
    c.in_ok-own.own
    (c.in_ok-own.ensures.name ∙ ap (λ n. qualified n c.in_ok-clone_in.field-0) c.name_of.ensures
    ∙ ap (qualified (name_of c.args.ns.now)) (c.in_ok-clone_in.ensures ∙ c.in_ok-plain.ensures))
    c.in-Some.own.name (ap (option_map (λ (n : Name). n.name)) (sym c.in-Some.is) ∙ c.as_action.ensures)

pub returns-in-None : goal.returns-in-None
returns-in-None c =
    c.as_action-in-None.ensures
    ∙ plain_told (is_action (tests_of c.args.defs.now) c.args.id.now) (name_of c.args.ns.now)
    (written_type c.args.ty.now) c.in_ok-own.own
    (c.in_ok-own.ensures.name ∙ ap (λ n. qualified n c.in_ok-clone_in.field-0) c.name_of.ensures
    ∙ ap (qualified (name_of c.args.ns.now)) (c.in_ok-clone_in.ensures ∙ c.in_ok-plain.ensures))
    (ap (option_map (λ (n : Name). n.name)) (sym c.in-None.is) ∙ c.as_action.ensures) c.in_ok-plain.plain
    c.in_ok-plain.ensures
