use Rattle.std.proofs.Common.{◌≡◌, ◌+◌, ◌<◌, ◌++◌, length, take, sym, ap, ◌∙◌, subst, All}
use Rattle.std.proofs.lemmas.List.{take_all}
use Rattle.schema_json_walk.specs.Walk.{parts}
use Rattle.schema_build_expand.specs.Ranks.{AreMeantRanks}
use Rattle.schema_build_expand.specs.Uses.{AreRanksAmong}
use Rattle.schema_build_expand.proofs.Used.{below_more, among_more}
use Rattle.schema_build_expand.proofs.expand_all.roots_of.Goals as goal

pub loop-names-preserved : goal.loop-names-preserved
loop-names-preserved g c =
    let l = c.loop-names in
    let it = c.loop-names-item.result in
    let uses = c.args.uses.now in
    let i = l.names-index in
    let row = c.in_ok-row.row.items in
    let lt : i < length uses = c.loop-names-test.true in
    let same : g.R.Meanings.scope it.0 ≡ g.s =
    subst (λ u. g.R.Meanings.scope u.0 ≡ g.s) (sym c.loop-names-item.is) (c.requires.1.1.1 i it lt) in
    let made : AreMeantRanks g.s (g.R.Meanings.place it.0) (parts it.1.now) row =
    subst (λ s. AreMeantRanks s (g.R.Meanings.place it.0) (parts it.1.now) row) same c.in_ok-row.ensures in
    let grown : c.extend_from_slice.new.self.items ≡ l.roots.items ++ row =
    c.in_ok-extend_from_slice.ensures.items ∙ ap (λ xs. l.roots.items ++ xs) c.deref.ensures.value in
    record {
      below = subst (All (λ k. k < length g.s.commons)) (sym grown)
          (below_more g.s g.R.Meanings.place uses it l.roots.items row made l.invariant.below);
      among = subst (AreRanksAmong g.s g.R.Meanings.place (take (i + 1) uses)) (sym grown)
          (among_more g.s g.R.Meanings.place uses it i l.roots.items row lt c.loop-names-item.is made
          l.invariant.among);
    }

pub returns-clause-whole : goal.returns-clause-whole
returns-clause-whole g c =
    subst (λ us. AreRanksAmong g.s g.R.Meanings.place us c.loop-names.roots.items)
    (take_all c.loop-names.names-index c.args.uses.now c.loop-names-test.false) c.loop-names.invariant.among
