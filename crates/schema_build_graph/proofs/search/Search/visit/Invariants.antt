use Rattle.std.proofs.Common.{None}
use Rattle.schema_build_graph.specs.Search.{Keeps, AllSeen, IsSeen, weight_of}
use Rattle.schema_build_graph.proofs.search.Search.visit.Given as goal

abbrev pub invariant-loop-self : goal.invariant-loop-self
invariant-loop-self l = record {
  searched : Keeps l.graph l.self None;
  seen : AllSeen l.fn.self l.self;
  here : IsSeen l.self l.root;
}

abbrev pub decreases-loop-self : goal.decreases-loop-self
decreases-loop-self l = weight_of l.graph l.self
