use Rattle.std.proofs.Common.{subst}
use Rattle.schema_syntax_parser.specs.Syntax.{IsSyntax}
use Rattle.schema_syntax_reader.specs.Trees.{IsTreeOf}
use Rattle.laws_syntax.proofs.OneTree.Trees.{one_lawful_tree}
use Rattle.laws_syntax.proofs.trees.one_tree.Goals as goal

pub returns : goal.returns
returns c = λ text tree other h k.
    let tokens = (c.one_scan.ensures text h.tokens k.tokens _ _ h.are.scans k.are.scans).0 in
    let items = c.one_syntax.ensures k.tokens h.tree.items k.tree.items
    (subst (λ ts. IsSyntax ts h.tree.items) tokens h.tree.syntax) k.tree.syntax in
    one_lawful_tree c.one_value.ensures.value text k.tree.items tree other k.tree.lawful
    (subst (λ xs. IsTreeOf text xs tree) items h.tree.tree) k.tree.tree
