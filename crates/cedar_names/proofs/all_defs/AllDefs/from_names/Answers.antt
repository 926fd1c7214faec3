use Rattle.cedar_names.proofs.Defined.{names_sorted, actions_sorted}
use Rattle.cedar_names.proofs.all_defs.AllDefs.from_names.Goals as goal

pub returns-clause-commons : goal.returns-clause-commons
returns-clause-commons c = names_sorted c.args.commons.items _ c.sort_once.ensures.same

pub returns-clause-entities : goal.returns-clause-entities
returns-clause-entities c = names_sorted c.args.entities.items _ c.sort_once-2.ensures.same

pub returns-clause-actions : goal.returns-clause-actions
returns-clause-actions c = actions_sorted c.args.actions.items _ c.sort_once-3.ensures.same
