use Rattle.std.proofs.Common.{◌≡◌, Option, Some, None, map, ap, sym, ◌∙◌}
use Rattle.std.specs.Option.{option_copied, option_map}
use Rattle.cedar_names.specs.Definitions.{action_of}
use Rattle.cedar_names.specs.declared.entity_uid.EntityUID.{EntityUID}
use Rattle.schema_inclusion_values.specs.Admits.{Action, ActionIn, SchemaValue, an_action}
use Rattle.schema_inclusion_values.specs.Lost.{lost_member, same_key}
use Rattle.schema_inclusion_values.specs.Whole.{action_name}
use Rattle.schema_inclusion_check.specs.Parts.{action_meaning}
use Rattle.schema_inclusion_check.proofs.requests.lost_action_to.Goals as goal

abbrev below_it : Action → Action → ActionIn
below_it a b = record { action = a; ancestor = b }

abbrev found_below : Action → Option Action → Option SchemaValue
found_below a o = option_map an_action (option_map (below_it a) o)

pub returns-in-None : goal.returns-in-None
returns-in-None c = λ m n.
    let a = action_name (action_meaning c.args.old.now) in
    ap (λ r. found_below a (option_map action_of (option_copied r))) (sym c.in-None.is)
    ∙ ap (found_below a) (c.missing_action.ensures
    ∙ ap (lost_member same_key (map action_of c.args.old.now.ancestors.now)) (c.ancestors_of.ensures m n))

pub returns-in_ok-clone_in-in-Some-2 : goal.returns-in_ok-clone_in-in-Some-2
returns-in_ok-clone_in-in-Some-2 c = λ m n.
    let a = action_name (action_meaning c.args.old.now) in
    let action = c.in_ok-clone_in-in-Some.ensures in
    let ancestor = c.in_ok-clone_in-in-Some-2.ensures ∙ c.get.ensures in
    (λ k. Some (an_action (below_it (action_of (action k)) (action_of (ancestor k)))))
    ∙ (ap (λ r. found_below a (option_map action_of (option_copied r))) (sym c.in-Some.is)
    ∙ ap (found_below a) (c.missing_action.ensures
    ∙ ap (lost_member same_key (map action_of c.args.old.now.ancestors.now)) (c.ancestors_of.ensures m n)))
