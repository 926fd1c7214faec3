use Rattle.std.proofs.Common.{[], subst}
use Rattle.schema_syntax_reader.specs.Collected.{HasRead}
use Rattle.schema_syntax_reader.proofs.RisingNotes.{kept}
use Rattle.schema_syntax_reader.proofs.annotations.deduplicate_annotations.Goals as goal

pub returns-clause-kept : goal.returns-clause-kept
returns-clause-kept g c =
    kept c.args.annotations.items c.in_ok-tree.tree.entries c.in_ok-annotations.annotations.0
    (subst (λ l. HasRead l [] c.in_ok-tree.tree.entries) c.as_slice.ensures.value c.in_ok-tree.ensures.tree)
    c.in_ok-annotations.ensures.notes c.in_ok-annotations.ensures.rising
