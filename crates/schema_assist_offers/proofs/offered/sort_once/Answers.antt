use Rattle.std.proofs.lemmas.List.Filters.{dedup_is}
use Rattle.schema_assist_offers.proofs.Once.{same_text, rises_once, same_once}
use Rattle.schema_assist_offers.proofs.offered.sort_once.Goals as goal

pub returns : goal.returns
returns c =
    let old = c.args.names.now.items in
    let sorted = c.sort_unstable.new.self.items in
    let new = c.dedup.new.self.items in
    let is = dedup_is same_text sorted new c.dedup.ensures.filtered in
    record {
      rising = rises_once old sorted new c.sort_unstable.ensures.permutation is c.sort_unstable.ensures.sorted;
      same = same_once old sorted new c.sort_unstable.ensures.permutation is;
    }
