use Rattle.std.proofs.Common.{refl, sym, ap, ◌∙◌, subst}
use Rattle.std.specs.List.{AllZip}
use Rattle.std.specs.Ordering.{ordering_then}
use Rattle.cedar_data.specs.Text.{text_cmp}
use Rattle.cedar_names.specs.Definitions.{action_of}
use Rattle.schema_build_recovered.specs.Recovered.{IsRecoveredParent}
use Rattle.schema_build_recovered.proofs.Rows.{zip_seen}
use Rattle.schema_build_text.proofs.Rowed.{actions_sorted, names_go}
use Rattle.schema_build_recovered.proofs.Parents.{some_parents, no_parents}
use Rattle.schema_build_recovered.proofs.sets.parents.Goals as goal

pub returns-then-is_empty : goal.returns-then-is_empty
returns-then-is_empty c = no_parents _ c.args.actions.now (sym c.is_empty.ensures ∙ c.if-is_empty.true)

pub returns : goal.returns
returns c =
    let parents = c.in_ok-recovered_in_order.field-0 in
    some_parents c.args.actions.now parents (sym c.is_empty.ensures ∙ c.if-is_empty.false)
    (subst (λ us. AllZip IsRecoveredParent us parents)
    (actions_sorted _ (λ x y. ap (λ o. ordering_then o (text_cmp x.eid.0 y.eid.0)) (names_go _ (λ a b. refl) x.ty y.ty))
    c.args.actions.now)
    (zip_seen IsRecoveredParent action_of _ parents c.in_ok-recovered_in_order.ensures))
