use Rattle.std.proofs.lemmas.Grind.{common_steps}
use Rattle.std.proofs.Common.{◌≡◌, ◌<◌, map, length, sym, ap, ◌∙◌, subst, inl, inr, arith, Some, None, All}
use Rattle.std.proofs.Common.{get_or, true, false}
use Rattle.std.specs.Prelude.{slice_get}
use Rattle.std.specs.List.Sorted.{IsStrictlyIncreasing}
use Rattle.std.proofs.lemmas.Bool.{cases_lt}
use Rattle.std.proofs.lemmas.List.{length-map}
use Rattle.std.proofs.lemmas.Option.{slice_get_within, same_Some}
use Rattle.cedar_identifiers.specs.Names.{components_of}
use Rattle.schema_build_graph.specs.Order.{IsLeastMarked}
use Rattle.schema_build_hierarchy.specs.Ancestors.{IsAncestorRow}
use Rattle.schema_build_hierarchy.specs.Declarations.{entity_name}
use Rattle.schema_build_hierarchy.specs.Entries.{entity_of}
use Rattle.schema_build_hierarchy.specs.Parents.{IsAncestor}
use Rattle.schema_build_hierarchy.specs.Rows.{IsUnderEnum}
use Rattle.schema_build_hierarchy.proofs.Above.{contains_at, at_contained}
use Rattle.schema_build_hierarchy.proofs.Cycles.{behind}
use Rattle.schema_build_hierarchy.proofs.EnumAbove.{names_of, by_name, read_at, row_read, in_range, within}
use Rattle.schema_build_hierarchy.proofs.EnumAbove.{none_above, least_above}
use Rattle.schema_build_hierarchy.proofs.ParentRanks.{at_map, map_at}
use Rattle.schema_build_hierarchy.proofs.external.check_external_types.Goals.{then-entries-rank+in_default}
use Rattle.schema_build_hierarchy.proofs.external.check_external_types.Goals.{else-entries-rank}
use Rattle.schema_build_hierarchy.proofs.external.check_external_types.Goals as goal

pub least_marked-requires-clause-rising : goal.least_marked-requires-clause-rising
least_marked-requires-clause-rising g c =
    let is = row_read g.g.0 g.g.1 c.args.entries.now c.requires.0 c.args.ancestors.now c.requires.1 c.loop-rank.rank
    c.index-entries-rank.result c.index-ancestors-rank.result
    c.loop-rank-test.true c.index-entries-rank.is c.index-ancestors-rank.is in
    subst IsStrictlyIncreasing (sym c.deref.ensures.value) is.rising

pub least_marked-requires-clause-range : goal.least_marked-requires-clause-range
least_marked-requires-clause-range g c =
    let entries = c.args.entries.now in
    let e = c.index-entries-rank.result in
    let row = c.index-ancestors-rank.result in
    let marks = c.deref-then-entries-rank.result.now in
    let is = row_read g.g.0 g.g.1 entries c.requires.0 c.args.ancestors.now c.requires.1 c.loop-rank.rank e row
    c.loop-rank-test.true c.index-entries-rank.is c.index-ancestors-rank.is in
    let marked = c.deref-then-entries-rank.ensures.value ∙ c.in_ok-marks.ensures in
    subst (All (λ v. v < length marks)) (sym c.deref.ensures.value)
    (in_range g.g.0 g.g.1 entries c.requires.0 marks marked (entity_of e) row.items is)

pub returns-in-Some-clause-err : goal.returns-in-Some-clause-err
returns-in-Some-clause-err g c =
    let entries = c.args.entries.now in
    let es = map entity_of entries in
    let marks = c.deref-then-entries-rank.result.now in
    let rank = c.loop-rank.rank in
    let above = c.in-Some.above in
    let held = c.requires.0 in
    let e = c.index-entries-rank.result in
    let again = c.index-entries-rank-in-Some.result in
    let f = c.index-entries-above.result in
    let row = c.index-ancestors-rank.result in
    let given = c.in_ok-external_under.field-0 in
    let lt = c.loop-rank-test.true in
    let at : slice_get entries rank ≡ Some e = read_at entries rank e lt c.index-entries-rank.is in
    let at_again : slice_get entries rank ≡ Some again =
    read_at entries rank again lt c.index-entries-rank-in-Some.is in
    let same : again ≡ e = same_Some again e (sym at_again ∙ at) in
    let is = row_read g.g.0 g.g.1 entries held c.args.ancestors.now c.requires.1 rank e row
    lt c.index-entries-rank.is c.index-ancestors-rank.is in
    let marked = c.deref-then-entries-rank.ensures.value ∙ c.in_ok-marks.ensures in
    let told_least = subst (IsLeastMarked c.deref.result.now marks) c.in-Some.is c.least_marked.ensures in
    let least : IsLeastMarked row.items marks (Some above) =
    subst (λ l. IsLeastMarked l marks (Some above)) c.deref.ensures.value told_least in
    let inside = within g.g.0 g.g.1 entries held marks marked (entity_of e) row.items is above least.0 in
    let f_at : slice_get entries above ≡ Some f = read_at entries above f inside c.index-entries-above.is in
    let names = components_of f.name.name in
    let told_under : IsUnderEnum (get_or entries rank again).name.name names given =
    subst (λ z. IsUnderEnum (get_or entries rank again).name.name (components_of z.name.name) given)
    (sym c.index-entries-above.is) c.in_ok-external_under.ensures in
    let told_again : IsUnderEnum again.name.name names given =
    subst (λ z. IsUnderEnum z.name.name names given) (sym c.index-entries-rank-in-Some.is) told_under in
    let told = subst (λ z. IsUnderEnum z.name.name names given) same told_again in
    let over = least_above g.g.0 g.g.1 entries held marks marked (entity_of e) row.items is above f least f_at in
    let here : slice_get es rank ≡ Some (entity_of e) = map_at entity_of entries rank e at in
    let external = ap (λ z. z.ty.now.external) c.index-entries-rank.is ∙ c.if-entries-rank.true in
    inr (
      entity_of e,
      entity_of f,
      told,
      record {
        among = (held.same (entity_of e)).1 (contains_at es rank (entity_of e) here);
        passes_too = (external, (entity_of f, over.among, over.passes_too));
        none_less = λ y cy py. (
            let (j, jy) = at_contained es y ((held.same y).0 cy) in
            elim (cases_lt j rank) [
              | inl before ↦ absurd (c.loop-rank.invariant j y before jy py)
              | inr after ↦ behind by_name es held.rising rank j (entity_of e) y after here jy
            ]);
      },
      over,
    )

pub loop-rank-preserved : goal.loop-rank-preserved
loop-rank-preserved g c = λ i d lt at under.
    let entries = c.args.entries.now in
    let rank = c.loop-rank.rank in
    let held = c.requires.0 in
    let e = c.index-entries-rank.result in
    let inside = c.loop-rank-test.true in
    let at_rank : slice_get entries rank ≡ Some e = read_at entries rank e inside c.index-entries-rank.is in
    elim (cases_lt i rank) [
      | inl before ↦ c.loop-rank.invariant i d before at under
      | inr after ↦
          let place : i ≡ rank = omega (arith, lt, after) in
          let (x, ix, same) = at_map entity_of entries i d at in
          let here : x ≡ e = same_Some x e (sym ix ∙ ap (slice_get entries) place ∙ at_rank) in
          elim c.if-entries-rank.branch [
            | then-entries-rank+in_default w ↦
                let row = w.index-ancestors-rank.result in
                let marks = w.deref-then-entries-rank.result.now in
                let marked = w.deref-then-entries-rank.ensures.value ∙ c.in_ok-marks.ensures in
                let is = row_read g.g.0 g.g.1 entries held c.args.ancestors.now c.requires.1 rank e row
                inside c.index-entries-rank.is w.index-ancestors-rank.is in
                let told = subst (IsLeastMarked w.deref.result.now marks) w.in_default.is w.least_marked.ensures in
                let none : IsLeastMarked row.items marks None =
                subst (λ l. IsLeastMarked l marks None) w.deref.ensures.value told in
                let seen : entity_of e ≡ d = ap entity_of (sym here) ∙ same in
                let E = IsAncestor g.g.0 g.g.1 in
                let its = subst (λ z. IsAncestorRow E (names_of entries) (entity_name z) row.items) seen is in
                let (p, cp, above) = under.1 in
                none_above g.g.0 g.g.1 entries held marks marked d row.items its none p cp above
            | else-entries-rank w ↦
                let off = ap (λ z. z.ty.now.external) c.index-entries-rank.is ∙ w.if-entries-rank.false in
                let no : e.ty.now.external ≡ false = off in
                let yes : e.ty.now.external ≡ true =
                ap (λ z. z.ty.now.external) (sym here) ∙ ap (λ z. z.ty.external) same ∙ under.0 in
                absurd (let bad : true ≡ false = sym yes ∙ no in cc)
          ]
    ]

pub returns-clause-ok : goal.returns-clause-ok
returns-clause-ok g c = λ e h.
    let entries = c.args.entries.now in
    let es = map entity_of entries in
    let (j, jy) = at_contained es h.0 ((c.requires.0.same h.0).0 h.3.among) in
    let short : j < length es = slice_get_within es j h.0 jy in
    let passed : j < c.loop-rank.rank = omega (arith, short, length-map entries entity_of, c.loop-rank-test.false) in
    c.loop-rank.invariant j h.0 passed jy h.3.passes_too

pub bounds-ancestors-rank : goal.bounds-ancestors-rank
bounds-ancestors-rank g c = grind (arith, common_steps)

pub bounds-entries-above : goal.bounds-entries-above
bounds-entries-above g c = grind (arith, common_steps)
