use Rattle.std.proofs.Common.{sym, ◌∙◌, subst, ap}
use Rattle.std.specs.Map.{lookup, keys_of}
use Rattle.std.specs.BTreeMap.{is_at}
use Rattle.std.specs.List.Sorted.{IsStrictlySortedBy}
use Rattle.cedar_data.proofs.Halving.{lookup_hit, lookup_miss}
use Rattle.cedar_data.proofs.map.Map.get.Goals as goal

pub returns-in-Ok : goal.returns-in-Ok
returns-in-Ok g c =
    let hit = c.in-Ok.ensures.found in
    let q = c.args.key.now in
    sym (lookup_hit g.met.K.Ord.total q c.as_slice-entries.result.now c.in-Ok.at c.index-entries-at.result
    (subst (λ es. IsStrictlySortedBy g.K.Ord.cmp (keys_of es)) (sym c.as_slice-entries.ensures.entries)
    c.as_slice-entries.ensures.sorted) hit.in_range (hit.equal c.index-entries-at.result))
    ∙ ap (lookup (is_at (g.K.Ord.cmp q))) c.as_slice-entries.ensures.entries

pub returns-in-Err : goal.returns-in-Err
returns-in-Err g c =
    let q = c.args.key.now in
    sym (lookup_miss g.met.K.Ord.total q c.as_slice-entries.result.now c.in-Err.field-0
    (subst (λ es. IsStrictlySortedBy g.K.Ord.cmp (keys_of es)) (sym c.as_slice-entries.ensures.entries)
    c.as_slice-entries.ensures.sorted) c.in-Err.ensures.absent)
    ∙ ap (lookup (is_at (g.K.Ord.cmp q))) c.as_slice-entries.ensures.entries
