use Rattle.std.proofs.Common.{◌≡◌, ◌+◌, ◌++◌, ◌∷◌, [], map, take, sym, ap, ◌∙◌, subst}
use Rattle.std.proofs.lemmas.List.{take_all, take_more}
use Rattle.schema_build_hierarchy.specs.Ranks.{AreRanksOf, IsRankOf}
use Rattle.schema_build_hierarchy.proofs.Ranked.{ranks_push, ranks_skip}
use Rattle.schema_build_hierarchy.proofs.ranks.ranks_of.Goals as goal
use Rattle.schema_build_hierarchy.proofs.ranks.ranks_of.Goals.{in-Some+in_ok-push-in-Some, in-None}

pub loop-name-preserved : goal.loop-name-preserved
loop-name-preserved g c =
    let o = g.met.K.Ord.total in
    let own = map (λ e. e.name) c.args.entries.now in
    let names = c.args.names.now in
    let i = c.loop-name.name-index in
    let x = c.name-item.result in
    let front : take (i + 1) names ≡ take i names ++ x ∷ [] = take_more names i x c.loop-name-test.true
    ∙ ap (λ z. take i names ++ z ∷ []) (sym c.name-item.is) in
    elim c.match-rank_of.branch [
      | in-Some+in_ok-push-in-Some w ↦
          subst (λ l. AreRanksOf g.K.Ord.cmp own l c.match-rank_of.row.items) (sym front)
          (ranks_push o own c.requires (take i names) c.loop-name.row.items c.match-rank_of.row.items x w.in-Some.rank
          c.loop-name.invariant
          (subst (IsRankOf g.K.Ord.cmp own x) w.in-Some.is c.rank_of.ensures)
          (ap (λ r. r.items) w.row-is ∙ w.in_ok-push-in-Some.ensures.items))
      | in-None w ↦
          subst (λ l. AreRanksOf g.K.Ord.cmp own l c.match-rank_of.row.items) (sym front)
          (subst (λ l. AreRanksOf g.K.Ord.cmp own (take i names ++ x ∷ []) l.items) (sym w.row-is)
          (ranks_skip o own c.requires (take i names) c.loop-name.row.items x c.loop-name.invariant
          (subst (IsRankOf g.K.Ord.cmp own x) w.in-None.is c.rank_of.ensures)))
    ]

pub returns : goal.returns
returns g c =
    let l = c.loop-name in
    let own = map (λ e. e.name) c.args.entries.now in
    subst (λ names. AreRanksOf g.K.Ord.cmp own names l.row.items)
    (take_all l.name-index c.args.names.now c.loop-name-test.false)
    l.invariant
