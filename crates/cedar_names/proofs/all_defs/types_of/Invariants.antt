use Rattle.std.proofs.Common.{◌≡◌, ℕ, List, map, take}
use Rattle.cedar_identifiers.specs.Names.{components_of}
use Rattle.cedar_names.specs.Definitions.{among, action_of}
use Rattle.cedar_names.proofs.all_defs.types_of.Given as goal

abbrev pub invariant-loop-action : goal.invariant-loop-action
invariant-loop-action l = (n : List (List ℕ))
    → among (map components_of l.types.items) n
    ≡ among (map (λ a. a.0) (map action_of (take l.action-index l.actions))) n
