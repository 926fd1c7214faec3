use Rattle.std.proofs.Common.{◌≡◌, take, All}
use Rattle.cedar_identifiers.specs.Names.{components_of}
use Rattle.schema_build_recovered_types.proofs.types.only_name.Given as goal

abbrev pub invariant-loop-name : goal.invariant-loop-name
invariant-loop-name l = All (λ y. components_of y.name ≡ components_of l.first.name) (take l.name-index l.others)
