use Rattle.std.proofs.Common.{◌≤◌, length, drop}
use Rattle.schema_syntax_reader.proofs.ItemReads.{ReadItems}
use Rattle.schema_syntax_reader.proofs.lawful_tree.tree_of_tokens.Given as goal

abbrev pub invariant-loop-kept : goal.invariant-loop-kept
invariant-loop-kept l =
    (l.at ≤ length l.kept.items)
    × ReadItems l.text l.fn.tokens.items (drop l.at l.kept.items) l.namespaces.items

abbrev pub decreases-loop-kept : goal.decreases-loop-kept
decreases-loop-kept l = length (drop l.at l.kept.items)
