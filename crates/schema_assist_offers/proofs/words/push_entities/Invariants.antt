use Rattle.std.proofs.Common.{◌≡◌, ℕ, ◌++◌, List, take}
use Rattle.std.specs.List.{flat_map}
use Rattle.schema_assist_offers.specs.Homes.{IsHome, question}
use Rattle.schema_assist_offers.specs.Spellings.{spelled}
use Rattle.schema_assist_offers.proofs.words.push_entities.Given as goal

abbrev pub invariant-loop-id : goal.invariant-loop-id
invariant-loop-id l = (before : List (List ℕ)) → IsHome (question l.asked).ns (question l.asked).front before l.home
    → l.names.items ≡ l.initial.names.items
    ++ flat_map (λ e. spelled (question l.asked) l.kind before e.0.id.text) (take l.id-index l.id-items)
