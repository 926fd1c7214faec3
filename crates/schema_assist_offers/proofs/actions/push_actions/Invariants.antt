use Rattle.std.proofs.Common.{◌≡◌, ℕ, ◌++◌, List, take}
use Rattle.std.specs.List.{flat_map}
use Rattle.schema_assist_offers.specs.Homes.{IsHome, question}
use Rattle.schema_assist_offers.specs.Spellings.{spelled_action}
use Rattle.schema_assist_offers.proofs.actions.push_actions.Given as goal

abbrev pub invariant-loop-id : goal.invariant-loop-id
invariant-loop-id l = (before : List (List ℕ)) → IsHome (question l.asked).ns (question l.asked).front before l.home
    → l.names.items ≡ l.initial.names.items
    ++ flat_map (λ e. spelled_action (question l.asked) before e.0) (take l.id-index l.id-items)
