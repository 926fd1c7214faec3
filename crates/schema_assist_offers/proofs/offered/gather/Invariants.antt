use Rattle.std.proofs.Common.{◌≡◌, take}
use Rattle.std.specs.List.{flat_map}
use Rattle.schema_assist_offers.specs.Homes.{question}
use Rattle.schema_resolve_lookup.specs.Sought.{namespace_words}
use Rattle.schema_assist_offers.specs.Spellings.{spelled_in}
use Rattle.schema_assist_offers.proofs.offered.gather.Given as goal

abbrev pub invariant-loop-ns : goal.invariant-loop-ns
invariant-loop-ns l = l.names.items
    ≡ flat_map (λ e. spelled_in (question l.asked) l.role (namespace_words e.0) e.1) (take l.ns-index l.ns-items)
