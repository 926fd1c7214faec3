use Rattle.std.proofs.lemmas.Grind.{common_steps}
use Rattle.std.proofs.Common.{arith}
use Rattle.schema_build_graph.proofs.Turns.{taken}
use Rattle.schema_build_graph.proofs.search.Search.take_target.Goals as goal

pub returns-clause-searched : goal.returns-clause-searched
returns-clause-searched c =
    let s = c.args.self.now in
    taken c.args.graph.now s.states.items s.standing.items s.targets.items s.groups.items s.done.items
    c.requires.searched c.requires.last.0 c.args.group c.requires.last.1 c.requires.graph
    c.len-left.result c.index-target.result.now c.truncate.new.self.items
    (omega (arith, c.len-left.ensures, s.targets.ok.0)) c.requires.some c.index-target.ensures c.truncate.ensures.items

pub overflow_sub-left : goal.overflow_sub-left
overflow_sub-left c = grind (arith, common_steps)
