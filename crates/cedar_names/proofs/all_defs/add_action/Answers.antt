use Rattle.std.proofs.Common.{sym, ◌∙◌, map, ap, subst}
use Rattle.cedar_names.specs.Definitions.{among_actions, action_of}
use Rattle.cedar_names.specs.Orders.{action_key, uids_total, keys_in_order}
use Rattle.cedar_names.specs.Searches.{StandsWithin}
use Rattle.cedar_names.proofs.Halved.{hit}
use Rattle.cedar_names.proofs.Risen.{stays_sorted}
use Rattle.cedar_names.proofs.Defined.{action_sought, action_there, action_put_in}
use Rattle.cedar_names.proofs.all_defs.add_action.Goals as goal

pub returns-in-Ok-clause-added : goal.returns-in-Ok-clause-added
returns-in-Ok-clause-added c =
    let uid = c.args.uid in
    let there = sym (action_sought (action_key uid) c.as_slice.result.now)
    ∙ hit (λ x. keys_in_order (action_key x) (action_key uid)) c.as_slice.result.now _ c.in-Ok.ensures.found in
    action_there _ _ (ap (λ l. among_actions (map action_of l) (action_of uid)) (sym c.as_slice.ensures.value) ∙ there)

pub returns-in_ok-insert-in-Err-clause-sorted : goal.returns-in_ok-insert-in-Err-clause-sorted
returns-in_ok-insert-in-Err-clause-sorted c =
    let within = subst (λ l. StandsWithin (λ x. keys_in_order (action_key x) (action_key c.args.uid)) l c.in-Err.at
    c.in-Err.at) c.as_slice.ensures.value c.in-Err.ensures.absent in
    rw c.in_ok-insert-in-Err.ensures.items
    (stays_sorted uids_total c.args.uid c.args.actions.now.items c.in-Err.at c.requires within.in_range within.below
    within.above)

pub returns-in_ok-insert-in-Err-clause-added : goal.returns-in_ok-insert-in-Err-clause-added
returns-in_ok-insert-in-Err-clause-added c = λ n.
    ap (λ l. among_actions (map action_of l) n) c.in_ok-insert-in-Err.ensures.items
    ∙ action_put_in c.args.actions.now.items c.in-Err.at c.args.uid n
