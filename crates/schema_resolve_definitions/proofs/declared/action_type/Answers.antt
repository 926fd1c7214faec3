use Rattle.std.proofs.Common.{◌∙◌, ap}
use Rattle.cedar_identifiers.specs.Names.{components_of, has_cedar}
use Rattle.cedar_identifiers.specs.Candidates.{qualified}
use Rattle.schema_resolve_definitions.proofs.Types.{action_lawful}
use Rattle.schema_resolve_definitions.proofs.declared.action_type.Goals as goal

pub invariant_of-result : goal.invariant_of-result
invariant_of-result c = record {
  unreserved = ap (λ name. has_cedar (components_of name))
      (c.in_ok-name.ensures.name ∙ (λ k. qualified (c.name_of.ensures k) (c.in_ok-plain.ensures k)))
      ∙ action_lawful c.args.ns.now;
}
