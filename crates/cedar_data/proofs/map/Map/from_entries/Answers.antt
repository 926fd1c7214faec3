use Rattle.std.proofs.Common.{sym}
use Rattle.cedar_data.proofs.Rising.{map_of_rising, once}
use Rattle.cedar_data.proofs.map.Map.from_entries.Goals as goal

pub returns-then-keys_rise-clause-entries : goal.returns-then-keys_rise-clause-entries
returns-then-keys_rise-clause-entries g c =
    sym (map_of_rising g.K.Ord.cmp g.met.K.Ord.total c.args.entries.items (c.keys_rise.ensures c.if-keys_rise.true))

pub returns-then-keys_rise-clause-last : goal.returns-then-keys_rise-clause-last
returns-then-keys_rise-clause-last g c = λ key.
    once g.K.Ord.cmp g.met.K.Ord.total key c.args.entries.items (c.keys_rise.ensures c.if-keys_rise.true)
