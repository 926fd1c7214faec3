use Rattle.std.proofs.Common.{◌≡◌, ◌+◌, ◌++◌, ◌∷◌, [], true, take, map, ap, sym, ◌∙◌, subst, arith}
use Rattle.std.proofs.lemmas.List.{map-append, take_all}
use Rattle.std.specs.List.{list_any, AllByRecursion}
use Rattle.cedar_identifiers.specs.Names.{components_of}
use Rattle.cedar_names.specs.Definitions.{same_name}
use Rattle.schema_inclusion_check.specs.Raw.{raw_entity, raw_meaning}
use Rattle.schema_inclusion_check.specs.Rows.{row_names, CoverEntities, IsRow}
use Rattle.schema_inclusion_check.proofs.Covered.{take_next, kept_behind, there_behind}
use Rattle.schema_inclusion_check.proofs.Keyed.{entity_named}
use Rattle.schema_inclusion_check.proofs.Tabled.{rows_more, cover_entity}
use Rattle.schema_inclusion_check.proofs.ids_between.entity_rows.Goals as goal

pub loop-entry-preserved : goal.loop-entry-preserved
loop-entry-preserved c =
    let olds = c.args.old.now in
    let news = c.args.new.now in
    let xs = olds.entities.now in
    let i = c.loop-entry.entry-index in
    let d = c.entry-item.result in
    let name = c.entry.inside.name in
    let n = components_of name.name in
    let rows = c.loop-entry.rows.items in
    let row = c.in_ok-row.row in
    let names = row_names rows in
    let P = IsRow (raw_meaning olds.entities.now olds.actions.now) (raw_meaning news.entities.now news.actions.now) in
    let named : (raw_entity d).name ≡ n = entity_named d
    ∙ ap (λ x. components_of x.name) (sym (ap (λ e. e.0) c.entry.view_is)) in
    let more : row_names (rows ++ row ∷ []) ≡ names ++ n ∷ [] =
    map-append (λ r. components_of r.0.name) rows (row ∷ [])
    ∙ ap (λ x. names ++ components_of x.name ∷ []) c.in_ok-row.ensures.0 in
    let all : map raw_entity (take (i + 1) xs) ≡ map raw_entity (take i xs) ++ raw_entity d ∷ [] =
    ap (map raw_entity) (take_next xs i d c.loop-entry-test.true c.entry-item.is)
    ∙ map-append raw_entity (take i xs) (d ∷ []) in
    record {
      rows = subst (AllByRecursion P) (sym c.in_ok-push.ensures.items)
          (rows_more P rows row c.loop-entry.invariant.rows c.in_ok-row.ensures.1);
      cover = subst (λ l. CoverEntities (row_names l) (map raw_entity (take (i + 1) xs)))
          (sym c.in_ok-push.ensures.items)
          (subst (λ ns. CoverEntities ns (map raw_entity (take (i + 1) xs))) (sym more)
          (subst (CoverEntities (names ++ n ∷ [])) (sym all)
          (cover_entity names (names ++ n ∷ []) (map raw_entity (take i xs)) (raw_entity d)
          c.loop-entry.invariant.cover (λ k h. kept_behind names n k h)
          (subst (λ t. list_any (same_name t) (names ++ n ∷ []) ≡ true) (sym named) (there_behind names n)))));
    }
