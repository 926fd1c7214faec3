use Rattle.std.specs.Option.{option_copied}
use Rattle.schema_assist_offers.specs.Spellings.{words_in}
use Rattle.schema_assist_offers.proofs.Gathered.{offered_answer}
use Rattle.schema_assist_offers.proofs.offered.offers.Goals as goal

pub returns-clause-offered : goal.returns-clause-offered
returns-clause-offered c =
    offered_answer c.args.known.now c.args.table.now c.args.role (words_in (option_copied c.args.ns)) c.args.front.now
    c.in_ok-defs.defs c.in_ok-names.names.items c.sort_once.new.names.items c.in_ok-defs.ensures c.in_ok-names.ensures
    c.sort_once.ensures.same
