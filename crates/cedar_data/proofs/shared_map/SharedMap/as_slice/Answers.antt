use Rattle.std.proofs.Common.{rules, sym, ap, ◌∙◌, subst}
use Rattle.std.specs.List.Sorted.{IsStrictlySortedBy}
use Rattle.std.specs.Map.{keys_of}
use Rattle.cedar_data.specs.Maps.{entries_or_none}
use Rattle.cedar_data.proofs.shared_map.SharedMap.as_slice.Goals as goal

pub returns-in-None-clause-sorted : goal.returns-in-None-clause-sorted
unfolding IsStrictlySortedBy
returns-in-None-clause-sorted g c =
    subst (λ es. IsStrictlySortedBy g.K.Ord.cmp (keys_of es)) (sym (ap entries_or_none c.in-None.is) ∙ c.self.view_is)
    (search rules)
