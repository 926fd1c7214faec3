use Rattle.std.proofs.Common.{◌≡◌, ◌+◌, ◌++◌, ◌∷◌, [], true, false, drop, map, ap, sym, ◌∙◌}
use Rattle.std.proofs.Common.{append_assoc, append-nil, arith}
use Rattle.std.proofs.lemmas.List.{map-append}
use Rattle.cedar_identifiers.specs.Names.{components_of}
use Rattle.cedar_names.specs.Orders.{names_in_order}
use Rattle.schema_inclusion_values.specs.Ids.{action_ids}
use Rattle.schema_inclusion_check.specs.Raw.{raw_action}
use Rattle.schema_inclusion_check.specs.Told.{texts_now}
use Rattle.schema_inclusion_check.proofs.Keyed.{ids_step}
use Rattle.schema_inclusion_check.proofs.Typed.{ids_from, ids_until, type_tested}
use Rattle.std.specs.declared.cmp.Ordering.TheVariants.{Less, Equal}
use Rattle.schema_inclusion_check.proofs.ids_between.ids_of_type.Goals.{in-Less, in-Equal+in_ok-push-in-Equal}
use Rattle.schema_inclusion_check.proofs.ids_between.ids_of_type.Goals as goal

pub loop-at-init : goal.loop-at-init
loop-at-init c = record {
  within = c.first_of_type-at.ensures.within;
  found = ap (λ l. texts_now l ++ action_ids (components_of c.args.ty.now.name)
      (map raw_action (drop c.first_of_type-at.result c.args.actions.now))) c.new-ids.ensures.items
      ∙ ids_from c.args.actions.now c.first_of_type-at.result c.args.ty.now c.first_of_type-at.ensures.below;
}

pub returns-in-Greater : goal.returns-in-Greater
returns-in-Greater c =
    let n = components_of c.args.ty.now.name in
    let xs = c.args.actions.now in
    let i = c.loop-at.at in
    let d = c.index-actions-at.result in
    let key = ap (λ e. e.0) c.action.view_is in
    sym (append-nil (texts_now c.loop-at.ids.items))
    ∙ (ap (λ l. texts_now c.loop-at.ids.items ++ l) (sym (ids_until xs i d c.args.ty.now c.requires c.loop-at-test.true
    c.index-actions-at.is
    (ap (λ u. names_in_order u.ty.name c.args.ty.now.name) (sym key) ∙ (sym c.cmp.ensures ∙ c.in-Greater.is))))
    ∙ c.loop-at.invariant.found)

pub loop-at-preserved : goal.loop-at-preserved
loop-at-preserved c =
    let n = components_of c.args.ty.now.name in
    let xs = c.args.actions.now in
    let i = c.loop-at.at in
    let d = c.index-actions-at.result in
    let u = c.action.inside.uid in
    let key = ap (λ e. e.0) c.action.view_is in
    let ids = c.loop-at.ids.items in
    let behind = action_ids n (map raw_action (drop (i + 1) xs)) in
    record {
      within = omega arith;
      found = elim c.match-cmp.branch [
        | in-Less w ↦
            ap (λ v. texts_now v.items ++ behind) w.ids-is
            ∙ (ap (λ l. texts_now ids ++ l) (sym (ids_step n xs i d c.loop-at-test.true c.index-actions-at.is u key
            false (type_tested u c.args.ty.now Less (sym c.cmp.ensures ∙ w.in-Less.is))))
            ∙ c.loop-at.invariant.found)
        | in-Equal+in_ok-push-in-Equal w ↦
            ap (λ v. texts_now v.items ++ behind) w.ids-is
            ∙ (ap (λ l. texts_now l ++ behind) w.in_ok-push-in-Equal.ensures.items
            ∙ (ap (λ l. l ++ behind) (map-append (λ t. t.now) ids _)
            ∙ (append_assoc (texts_now ids) (u.eid.0 ∷ []) behind
            ∙ (ap (λ l. texts_now ids ++ l) (sym (ids_step n xs i d c.loop-at-test.true c.index-actions-at.is u key
            true (type_tested u c.args.ty.now Equal (sym c.cmp.ensures ∙ w.in-Equal.is))))
            ∙ c.loop-at.invariant.found))))
      ];
    }
