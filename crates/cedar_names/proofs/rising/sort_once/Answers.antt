use Rattle.std.proofs.Common.{sym, ap, subst, ◌∙◌}
use Rattle.std.specs.List.{list_any}
use Rattle.std.specs.List.Sorted.{IsStrictlySortedBy}
use Rattle.std.proofs.lemmas.List.Filters.{dedup_is}
use Rattle.std.proofs.lemmas.List.Kept.{IsStrictlySortedBy-dedup}
use Rattle.cedar_names.proofs.Risen.{kept, shuffled}
use Rattle.cedar_names.proofs.rising.sort_once.Goals as goal

pub returns : goal.returns
returns g c =
    let sorted = c.sort_unstable.new.self.items in
    let is = dedup_is g.T.PartialEq.eq sorted c.dedup.new.self.items c.dedup.ensures.filtered in
    record {
      sorted = subst (IsStrictlySortedBy g.T.Ord.cmp) (sym is)
          (IsStrictlySortedBy-dedup g.met.T.Ord.total g.met.T.Ord.matches_eq sorted c.sort_unstable.ensures.sorted);
      same = λ passes alike. ap (list_any passes) is
          ∙ kept g.T.PartialEq.eq passes (λ x y e. alike x y (sym (g.met.T.Ord.matches_eq x y) ∙ e)) sorted
          ∙ shuffled passes _ sorted c.sort_unstable.ensures.permutation;
    }
