use Rattle.std.proofs.Common.{◌≤◌, ◌≡◌, ◌+◌, ◌-◌, [], length, take}
use Rattle.cedar_io.specs.Outside.{Appends}
use Rattle.cedar_io.proofs.output.write_text.Given as goal

abbrev pub invariant-loop-at : goal.invariant-loop-at
invariant-loop-at g l = record {
  nothing : l.bytes ≡ [] → l.sink ≡ l.initial.sink;
  within : l.at ≤ length l.bytes;
  took : Appends (g.O.Sink.taken l.initial.sink) (take l.at l.bytes) (g.O.Sink.taken l.sink);
  later : g.O.Sink.faults l.initial.sink ≤ g.O.Sink.faults l.sink;
  steady : length l.bytes ≤ g.O.Sink.sure l.initial.sink → g.O.Sink.faults l.sink ≡ g.O.Sink.faults l.initial.sink;
  sure : length l.bytes ≤ g.O.Sink.sure l.initial.sink → length l.bytes ≤ g.O.Sink.sure l.sink + l.at;
}

abbrev pub decreases-loop-at : goal.decreases-loop-at
decreases-loop-at g l = length l.initial.bytes - l.at
