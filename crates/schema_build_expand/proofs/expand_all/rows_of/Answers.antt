use Rattle.std.proofs.Common.{◌≡◌, ◌∷◌, ◌++◌, [], ℕ, length, Vec, Some, refl, sym, ap, ◌∙◌, subst, arith}
use Rattle.std.specs.Prelude.{slice_get}
use Rattle.std.proofs.lemmas.List.{length-append}
use Rattle.std.proofs.lemmas.Option.{slice_get_read, same_Some}
use Rattle.schema_json_walk.specs.Walk.{parts}
use Rattle.schema_build_graph.proofs.Rows.{each_push}
use Rattle.schema_build_expand.specs.Ranks.{AreMeantRanks}
use Rattle.schema_build_expand.proofs.expand_all.rows_of.Goals as goal

pub loop-names-preserved : goal.loop-names-preserved
loop-names-preserved g c =
    let l = c.loop-names in
    let it = c.loop-names-item.result in
    let i = l.names-index in
    let at : slice_get c.args.commons.now i ≡ Some it =
    slice_get_read c.args.commons.now (length c.args.commons.now) i it refl c.loop-names-test.true
    c.loop-names-item.is in
    let info = c.requires.1.1 i it at in
    let row = c.in_ok-row.row in
    let made : AreMeantRanks g.s (g.R.Meanings.place it.0) (parts it.1.now) row.items =
    subst (λ s. AreMeantRanks s (g.R.Meanings.place it.0) (parts it.1.now) row.items) info.0 c.in_ok-row.ensures in
    let long : length c.push.new.self.items ≡ length (l.rows.items ++ row ∷ []) =
    ap length c.in_ok-push.ensures.items in
    record {
      same = omega (arith, long, length-append l.rows.items (row ∷ []), l.invariant.same);
      each = each_push
          (λ k (row : Vec ℕ _). (o : _) → slice_get c.args.commons.now k ≡ Some o → AreMeantRanks g.s
          (g.R.Meanings.place o.0) (parts o.1.now) row.items)
          l.rows.items c.push.new.self.items row i l.invariant.same c.in_ok-push.ensures.items l.invariant.each
          (λ o here. subst (λ o. AreMeantRanks g.s (g.R.Meanings.place o.0) (parts o.1.now) row.items)
          (same_Some it o (sym at ∙ here)) made);
    }
