use Rattle.std.proofs.Common.{refl, ap, ◌∙◌}
use Rattle.std.specs.Option.{option_map}
use Rattle.cedar_identifiers.specs.declared.name.Name.{Name}
use Rattle.cedar_names.specs.Orders.{names_in_order, id_text_order}
use Rattle.schema_build_text.proofs.Rowed.{names_go}
use Rattle.schema_inclusion_check.specs.Raw.{raw_entity}
use Rattle.schema_inclusion_explain.proofs.Keyed.{entity_sought}
use Rattle.schema_inclusion_explain.proofs.seek.find_entity.Goals as goal

pub returns : goal.returns
returns c =
    ap (option_map raw_entity) c.seek.ensures
    ∙ entity_sought (λ (x y : Name). names_in_order x.name y.name) (names_go id_text_order (λ x y. refl))
    c.args.name.now c.args.entities.now
