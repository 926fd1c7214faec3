use Rattle.std.proofs.Common.{refl, subst, sym}
use Rattle.cedar_identifiers.specs.declared.name.Name.{Name}
use Rattle.cedar_names.specs.Orders.{names_in_order, id_text_order}
use Rattle.schema_build_text.proofs.Rowed.{names_go}
use Rattle.schema_inclusion_check.specs.Raw.{raw_meaning}
use Rattle.schema_inclusion_check.specs.Told.{IsTold}
use Rattle.schema_inclusion_check.proofs.Tabled.{told_by}
use Rattle.schema_inclusion_check.proofs.ids_between.told_ids.Goals as goal

pub returns : goal.returns
returns c =
    let olds = c.args.old.now in
    let news = c.args.new.now in
    let m = raw_meaning olds.entities.now olds.actions.now in
    let n = raw_meaning news.entities.now news.actions.now in
    subst (λ rows. IsTold rows m n) (sym c.in_ok-rows-2.ensures.entries)
    (told_by (λ (x y : Name). names_in_order x.name y.name) (names_go id_text_order (λ x y. refl)) m n
    c.in_ok-rows.rows.items c.in_ok-rows.ensures.rows c.in_ok-rows.ensures.entities c.in_ok-rows.ensures.actions)
