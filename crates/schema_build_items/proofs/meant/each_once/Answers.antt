use Rattle.std.proofs.Common.{sym, subst, All, Contains}
use Rattle.std.specs.List.Sorted.{IsStrictlySortedBy}
use Rattle.std.proofs.lemmas.List.Filters.{dedup_is}
use Rattle.std.proofs.lemmas.List.Kept.{IsStrictlySortedBy-dedup}
use Rattle.schema_build_hierarchy.specs.FirstUses.{HasAlike}
use Rattle.schema_build_hierarchy.proofs.Once.{once_kept, once_whole}
use Rattle.schema_build_items.proofs.meant.each_once.Goals as goal

pub returns : goal.returns
returns g c =
    let items = c.args.items.items in
    let sorted = c.sort_unstable.new.self.items in
    let E = g.T.PartialEq.eq in
    let o = g.met.T.Ord.total in
    let same = g.met.T.Ord.matches_eq in
    let is = dedup_is E sorted c.dedup.new.self.items c.dedup.ensures.filtered in
    record {
      sorted = subst (IsStrictlySortedBy g.T.Ord.cmp) (sym is)
          (IsStrictlySortedBy-dedup o same sorted c.sort_unstable.ensures.sorted);
      kept = subst (All (Contains items)) (sym is)
          (once_kept o E same items sorted c.sort_unstable.ensures.permutation);
      whole = subst (λ l. All (HasAlike g.T.Ord.cmp l) items) (sym is)
          (once_whole o E same items sorted c.sort_unstable.ensures.permutation);
    }
