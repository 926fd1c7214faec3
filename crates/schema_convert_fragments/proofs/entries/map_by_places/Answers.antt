use Rattle.std.proofs.Common.{sym, ◌∙◌}
use Rattle.cedar_data.proofs.Rising.{map_of_rising}
use Rattle.schema_convert_fragments.proofs.entries.map_by_places.Goals as goal

pub returns-then-entries_rise : goal.returns-then-entries_rise
returns-then-entries_rise g c =
    c.from_sorted_vec.ensures
    ∙ sym (map_of_rising g.K.Ord.cmp g.met.K.Ord.total c.args.entries.items
    (c.entries_rise.ensures c.if-entries_rise.true))
