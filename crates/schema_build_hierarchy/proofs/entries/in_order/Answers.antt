use Rattle.std.proofs.Common.{sym, subst, All, Contains, map, Bool}
use Rattle.std.specs.List.Sorted.{IsStrictlySortedBy}
use Rattle.std.proofs.lemmas.Cmp.{on_total}
use Rattle.std.proofs.lemmas.List.Elements.{All-contains_itself}
use Rattle.std.proofs.lemmas.List.Filters.{dedup_is}
use Rattle.std.proofs.lemmas.List.Kept.{IsStrictlySortedBy-dedup}
use Rattle.schema_build_hierarchy.specs.FirstUses.{HasAlike}
use Rattle.schema_build_hierarchy.specs.declared.entries.Entry.{Entry}
use Rattle.schema_build_hierarchy.proofs.Once.{once_kept, once_whole, alike_named}
use Rattle.schema_build_hierarchy.proofs.Ordered.{sorted_seen}
use Rattle.schema_build_hierarchy.proofs.Rising.{alike_itself}
use Rattle.schema_build_hierarchy.proofs.entries.in_order.Goals as goal

pub returns-then-names_rise : goal.returns-then-names_rise
returns-then-names_rise g c =
    let entries = c.args.entries.items in
    record {
      sorted = c.names_rise.ensures c.if-names_rise.true;
      kept = All-contains_itself entries;
      whole = alike_itself (λ (e : Entry _ _). e.name) g.met.K.Ord.total entries;
    }

pub returns : goal.returns
returns g c =
    let entries = c.args.entries.items in
    let sorted = c.sort_unstable.new.self.items in
    let E : Entry _ _ → Entry _ _ → Bool = λ a b. g.K.PartialEq.eq a.name b.name in
    let is = dedup_is E sorted c.dedup.new.self.items c.dedup.ensures.filtered in
    let o = on_total (λ (e : Entry _ _). e.name) g.met.K.Ord.total in
    let same = λ (a b : Entry _ _). g.met.K.Ord.matches_eq a.name b.name in
    record {
      sorted = subst (λ l. IsStrictlySortedBy g.K.Ord.cmp (map (λ e. e.name) l)) (sym is)
          (sorted_seen (λ e. e.name) g.K.Ord.cmp _
          (IsStrictlySortedBy-dedup o same sorted c.sort_unstable.ensures.sorted));
      kept = subst (All (Contains entries)) (sym is)
          (once_kept o E same entries sorted c.sort_unstable.ensures.permutation);
      whole = subst (λ l. All (λ e. HasAlike g.K.Ord.cmp (map (λ e. e.name) l) e.name) entries) (sym is)
          (alike_named (λ e. e.name) g.K.Ord.cmp _ entries
          (once_whole o E same entries sorted c.sort_unstable.ensures.permutation));
    }
