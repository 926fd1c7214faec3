use Rattle.cedar_identifiers.specs.Names.{components_of}
use Rattle.cedar_identifiers.proofs.Normal.{no_cedar}
use Rattle.cedar_identifiers.proofs.name.Name.from_normalized_str.Goals as goal

pub invariant_of-result : goal.invariant_of-result
invariant_of-result c = record
    { unreserved = no_cedar (components_of c.in_ok-name.name) c.in_ok-name.ensures.ok.allowed }
