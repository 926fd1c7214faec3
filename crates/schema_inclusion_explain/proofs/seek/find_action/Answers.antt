use Rattle.std.proofs.Common.{refl, ap, ◌∙◌}
use Rattle.std.specs.Option.{option_map}
use Rattle.cedar_identifiers.specs.declared.name.Name.{Name}
use Rattle.cedar_names.specs.Orders.{names_in_order, uids_in_order, id_text_order}
use Rattle.schema_build_text.proofs.Rowed.{names_go}
use Rattle.schema_inclusion_check.specs.Raw.{raw_action}
use Rattle.schema_inclusion_explain.proofs.Keyed.{action_sought}
use Rattle.schema_inclusion_explain.proofs.seek.find_action.Goals as goal

pub returns : goal.returns
returns c =
    ap (option_map raw_action) c.seek.ensures
    ∙ action_sought (λ (x y : Name). names_in_order x.name y.name) (names_go id_text_order (λ x y. refl)) uids_in_order
    (λ x y. refl) c.args.uid.now c.args.actions.now
