use Rattle.std.proofs.Common.{◌++◌, ℕ, List, length}
use Rattle.cedar_messages.specs.Messages.{AreMessages}
use Rattle.cedar_names.specs.Meaning.{SchemaMeaning}
use Rattle.schema_registry.specs.Replies.{ComeTo, AreReplies, AreAllReplies}
use Rattle.schema_registry.proofs.Noted.{Keeps}
use Rattle.schema_registry.proofs.replies.reply_all.Given as goal

abbrev pub invariant-loop-left : goal.invariant-loop-left
invariant-loop-left l = record {
  kept : (seen : List SchemaMeaning) × Keeps l.fn.table l.registry seen
      × ((rest : List (List ℕ)) (all : List SchemaMeaning) (more : List ℕ) → AreMessages l.left rest
      → ComeTo l.fn.table seen rest all → AreReplies l.fn.table all rest more
      → AreAllReplies l.fn.table l.fn.bytes (l.out ++ more));
  back : (all : List (List ℕ)) → AreMessages l.fn.bytes all
      → (messages : List (List ℕ)) × AreMessages l.left messages;
}

abbrev pub decreases-loop-left : goal.decreases-loop-left
decreases-loop-left l = length l.left
