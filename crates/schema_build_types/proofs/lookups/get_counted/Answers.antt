use Rattle.std.proofs.Common.{sym, map}
use Rattle.cedar_data.proofs.Halving.{lookup_miss}
use Rattle.schema_build_types.proofs.Paired.{found_paired}
use Rattle.schema_build_types.proofs.lookups.get_counted.Goals as goal

pub returns-in-Ok-clause-value : goal.returns-in-Ok-clause-value
returns-in-Ok-clause-value g c =
    found_paired g.E.Keyed.pair g.met.E.Key.Ord.total c.args.key.now c.args.entries.now c.in-Ok.at
    c.index-entries-at.result c.requires c.in-Ok.ensures.found c.index-entries-at.is c.value.result.now c.value.ensures

pub returns-in-Err-clause-value : goal.returns-in-Err-clause-value
returns-in-Err-clause-value g c =
    sym (lookup_miss g.met.E.Key.Ord.total c.args.key.now (map g.E.Keyed.pair c.args.entries.now)
    c.in-Err.field-0 c.requires c.in-Err.ensures.absent)
