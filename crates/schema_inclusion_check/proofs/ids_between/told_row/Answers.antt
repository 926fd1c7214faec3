use Rattle.std.proofs.Common.{refl, sym, ap, ◌∙◌, subst}
use Rattle.std.specs.Option.{option_map, option_copied}
use Rattle.std.proofs.lemmas.Result.{IfOk-weaker}
use Rattle.cedar_identifiers.specs.Names.{components_of}
use Rattle.cedar_identifiers.specs.declared.name.Name.{Name}
use Rattle.cedar_names.specs.Orders.{names_in_order, id_text_order}
use Rattle.schema_build_text.proofs.Rowed.{names_go}
use Rattle.schema_inclusion_values.specs.Ids.{first_id, lost_id, some_id, lost_of}
use Rattle.schema_inclusion_check.specs.Raw.{raw_entity, raw_meaning}
use Rattle.schema_inclusion_check.proofs.EntityIds.{raw_names_rise, all_found}
use Rattle.schema_inclusion_check.proofs.ids_between.told_row.Goals as goal

pub returns : goal.returns
returns c =
    let olds = c.args.old.now in
    let news = c.args.new.now in
    let ty = components_of c.args.name.now.name in
    let m = raw_meaning olds.entities.now olds.actions.now in
    let n = raw_meaning news.entities.now news.actions.now in
    let order = (λ (x y : Name). names_in_order x.name y.name) in
    let go = names_go id_text_order (λ x y. refl) in
    let old_ids = all_found m ty (option_map raw_entity (option_copied c.find_entity-own.result))
    (raw_names_rise order go olds.entities.now c.requires.old_entities) c.find_entity-own.ensures in
    let new_ids = all_found n ty (option_map raw_entity (option_copied c.find_entity-found.result))
    (raw_names_rise order go news.entities.now c.requires.new_entities) c.find_entity-found.ensures in
    IfOk-weaker c.row_between.result _ _
    (λ r h.
    let at = ap (λ (x : Name). components_of x.name) h.0 in (
      h.0,
      (
        h.1 ∙ (ap first_id old_ids ∙ ap (some_id m) (sym at)),
        h.2 ∙ ((λ k. lost_id (old_ids k) (new_ids k)) ∙ ap (lost_of m n) (sym at)),
      ),
    ))
    c.row_between.ensures
