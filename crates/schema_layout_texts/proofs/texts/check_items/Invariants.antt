use Rattle.std.proofs.Common.{List, length}
use Rattle.schema_syntax_tree.specs.declared.annotated.Annotated.{Annotated}
use Rattle.schema_syntax_tree.specs.declared.namespace.Namespace.{Namespace}
use Rattle.schema_syntax_reader.proofs.ItemReads.{ReadItems}
use Rattle.schema_layout_texts.proofs.texts.check_items.Given as goal

abbrev pub invariant-loop-raw : goal.invariant-loop-raw
invariant-loop-raw l =
    (namespaces : List (Annotated Namespace)) × ReadItems l.text l.initial.rest l.rest namespaces

abbrev pub decreases-loop-raw : goal.decreases-loop-raw
decreases-loop-raw l = length l.rest
