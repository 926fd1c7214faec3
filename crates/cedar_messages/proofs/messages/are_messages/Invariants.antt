use Rattle.std.proofs.Common.{ℕ, List, length}
use Rattle.cedar_messages.specs.Messages.{AreMessages}
use Rattle.cedar_messages.proofs.messages.are_messages.Given as goal

abbrev pub invariant-loop-left : goal.invariant-loop-left
invariant-loop-left l = record {
  back : (all : List (List ℕ)) → AreMessages l.bytes all
      → (messages : List (List ℕ)) × AreMessages l.left messages;
  front : (messages : List (List ℕ)) → AreMessages l.left messages
      → (all : List (List ℕ)) × AreMessages l.bytes all;
}

abbrev pub decreases-loop-left : goal.decreases-loop-left
decreases-loop-left l = length l.left
