use Rattle.std.proofs.Common.{arith}
use Rattle.std.proofs.lemmas.Grind.{common_steps}
use Rattle.schema_build_graph.proofs.Turns.{rooted}
use Rattle.schema_build_graph.proofs.search.Search.visit.Goals as goal

pub open-requires-clause-searched : goal.open-requires-clause-searched
open-requires-clause-searched c =
    let s = c.args.self.now in
    rooted c.args.graph.now s.states.items s.standing.items s.targets.items s.groups.items s.done.items c.args.root
    c.requires.root c.requires.idle c.requires.searched

pub returns-clause-idle : goal.returns-clause-idle
returns-clause-idle c = grind (arith, common_steps)
