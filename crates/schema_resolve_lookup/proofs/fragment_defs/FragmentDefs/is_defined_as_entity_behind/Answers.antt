use Rattle.std.proofs.Common.{◌++◌, ◌∷◌, [], ap, ◌∙◌}
use Rattle.cedar_identifiers.specs.Names.{components_of}
use Rattle.cedar_names.specs.Definitions.{among}
use Rattle.schema_resolve_definitions.specs.Defined.{defined}
use Rattle.schema_resolve_definitions.specs.Tests.{tests_of}
use Rattle.schema_resolve_lookup.proofs.fragment_defs.FragmentDefs.is_defined_as_entity_behind.Goals as goal

pub returns : goal.returns
returns c =
    let table = c.self.inside.table.now in
    (c.is_entity_sought.ensures table
    ∙ ap (tests_of (defined c.self.inside.searched.fragment.now table)).is_entity c.behind.ensures)
    ∙ ap (λ d. among d.entities (components_of c.args.namespace.now ++ c.args.last.now.text ∷ [])) c.self.view_is
