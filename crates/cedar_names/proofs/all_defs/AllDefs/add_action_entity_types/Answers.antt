use Rattle.std.proofs.Common.{◌∙◌, ◌||◌, ap, map}
use Rattle.cedar_names.specs.Definitions.{among, action_of}
use Rattle.cedar_names.proofs.all_defs.AllDefs.add_action_entity_types.Goals as goal

pub returns-clause-entities : goal.returns-clause-entities
returns-clause-entities c = λ n.
    c.in_ok-add_names.ensures.added n
    ∙ (λ i. among (c.self.view_is i).entities n ||
    (c.in_ok-types.ensures n ∙ ap (λ l. among (map (λ a. a.0) (map action_of l)) n) c.as_slice.ensures.value
    ∙ ap (λ d. among (map (λ a. a.0) d.actions) n) c.self.view_is) i)
