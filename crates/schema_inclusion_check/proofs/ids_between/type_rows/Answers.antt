use Rattle.std.proofs.Common.{◌≡◌, ◌+◌, ◌++◌, ◌∷◌, [], true, take, map, ap, sym, ◌∙◌, subst, arith}
use Rattle.std.proofs.lemmas.List.{map-append, take_all}
use Rattle.std.specs.List.{list_any, AllByRecursion}
use Rattle.cedar_identifiers.specs.Names.{components_of}
use Rattle.cedar_names.specs.Definitions.{same_name}
use Rattle.schema_inclusion_check.specs.Raw.{raw_entity, raw_action, raw_meaning}
use Rattle.schema_inclusion_check.specs.Rows.{row_names, CoverEntities, CoverTypes, IsRow}
use Rattle.schema_inclusion_check.proofs.Covered.{take_next, cover_next, kept_behind, there_behind}
use Rattle.schema_inclusion_check.proofs.Keyed.{uid_named}
use Rattle.schema_inclusion_check.proofs.Tabled.{rows_more}
use Rattle.schema_inclusion_check.proofs.ids_between.type_rows.Goals.{then-not-is_last+in_ok-row+in_ok-push}
use Rattle.schema_inclusion_check.proofs.ids_between.type_rows.Goals.{else-not-is_last}
use Rattle.schema_inclusion_check.proofs.ids_between.type_rows.Goals as goal

pub loop-action-preserved : goal.loop-action-preserved
loop-action-preserved c =
    let olds = c.args.old.now in
    let news = c.args.new.now in
    let xs = olds.actions.now in
    let i = c.loop-action.action-index in
    let d = c.action-item.result in
    let u = c.action.inside.uid in
    let ty = components_of u.ty.name in
    let rows = c.loop-action.rows.items in
    let names = row_names rows in
    let P = IsRow (raw_meaning olds.entities.now olds.actions.now) (raw_meaning news.entities.now news.actions.now) in
    let named : (raw_action d).ty ≡ ty = ap (λ a. a.0) (uid_named d u (ap (λ e. e.0) c.action.view_is)) in
    let before = map raw_action (take i xs) in
    let all : map raw_action (take (i + 1) xs) ≡ before ++ raw_action d ∷ [] =
    ap (map raw_action) (take_next xs i d c.loop-action-test.true c.action-item.is)
    ∙ map-append raw_action (take i xs) (d ∷ []) in
    elim c.if-not-is_last.branch [
      | then-not-is_last+in_ok-row+in_ok-push w ↦
          (let row = w.in_ok-row.row in
          let items = ap (λ v. v.items) w.rows-is ∙ w.in_ok-push.ensures.items in
          let more : row_names (rows ++ row ∷ []) ≡ names ++ ty ∷ [] =
          map-append (λ r. components_of r.0.name) rows (row ∷ [])
          ∙ ap (λ x. names ++ components_of x.name ∷ []) w.in_ok-row.ensures.0 in
          record {
            rows = subst (AllByRecursion P) (sym items)
                (rows_more P rows row c.loop-action.invariant.rows w.in_ok-row.ensures.1);
            entities = subst (λ l. CoverEntities (row_names l) (map raw_entity olds.entities.now)) (sym items)
                (subst (λ ns. CoverEntities ns (map raw_entity olds.entities.now)) (sym more)
                (λ n h. c.loop-action.invariant.entities n (kept_behind names ty n h)));
            actions = subst (λ l. CoverTypes (row_names l) (map raw_action (take (i + 1) xs))) (sym items)
                (subst (λ ns. CoverTypes ns (map raw_action (take (i + 1) xs))) (sym more)
                (subst (CoverTypes (names ++ ty ∷ [])) (sym all)
                (cover_next names (names ++ ty ∷ []) before (raw_action d) c.loop-action.invariant.actions
                (λ n h. kept_behind names ty n h)
                (subst (λ t. list_any (same_name t) (names ++ ty ∷ []) ≡ true) (sym named)
                (there_behind names ty)))));
          })
      | else-not-is_last w ↦
          (let items = ap (λ v. v.items) w.rows-is in
          record {
            rows = subst (AllByRecursion P) (sym items) c.loop-action.invariant.rows;
            entities = subst (λ l. CoverEntities (row_names l) (map raw_entity olds.entities.now)) (sym items)
                c.loop-action.invariant.entities;
            actions = subst (λ l. CoverTypes (row_names l) (map raw_action (take (i + 1) xs))) (sym items)
                (subst (CoverTypes names) (sym all)
                (cover_next names names before (raw_action d) c.loop-action.invariant.actions (λ n h. h)
                (subst (λ t. list_any (same_name t) names ≡ true) (sym named)
                (subst (λ l. list_any (same_name ty) (row_names l) ≡ true) c.as_slice.ensures.value
                (c.is_last.ensures w.if-not-is_last.false)))));
          })
    ]
