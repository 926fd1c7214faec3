use Rattle.std.proofs.Common.{◌∙◌, sym}
use Rattle.cedar_identifiers.specs.Names.{components_of}
use Rattle.schema_inclusion_types.proofs.Ties.{name_test}
use Rattle.schema_inclusion_types.proofs.names.same_name.Goals as goal

pub returns : goal.returns
returns c =
    let law = c.declared_names_go_by_components.ensures.equal in
    name_test c.eq.result (components_of c.args.a.now.name) (components_of c.args.b.now.name)
    (λ h. law.0 (sym c.eq.ensures ∙ h), λ e. c.eq.ensures ∙ law.1 e)
