-- The tree of a type by the form of its syntax: so a tree is taken apart, since the variants of a recursive type are no
-- constructors.
use Rattle.std.specs.Prelude.{◌≡◌, ℕ, List}
use Rattle.cedar_data.specs.declared.node.Node.{Node}
use Rattle.schema_syntax_parser.specs.declared.syntax.TypeSyntax.{TypeSyntax}
use Rattle.schema_syntax_parser.specs.declared.syntax.TypeSyntax.TheOpen.{TypeSyntax-F}
use Rattle.schema_syntax_parser.specs.declared.syntax.AttrSyntax.{AttrSyntax}
use Rattle.schema_syntax_tree.specs.declared.path.Path.{Path}
use Rattle.schema_syntax_tree.specs.declared.types.Type.{«Type»}
use Rattle.schema_syntax_tree.specs.declared.types.Type.TheVariants as shape
use Rattle.schema_syntax_tree.specs.declared.types.AttrDecl.{AttrDecl}
use Rattle.schema_syntax_tree.specs.declared.annotated.Annotated.{Annotated}
use Rattle.schema_syntax_reader.specs.Trees as tree

module _ (source : List ℕ) where
  -- what the node of a type of this form holds
  abbrev pub ViewOfType : TypeSyntax-F TypeSyntax AttrSyntax → Node «Type» → Type 0
  ViewOfType (TypeSyntax-F.Path p) n = (q : Path) × (n.node ≡ shape.Ident q) × tree.IsPathOf source p q
  ViewOfType (TypeSyntax-F.Set t loc) n = (m : Node «Type») × (n.node ≡ shape.Set m) × tree.IsTypeOf source t m
  ViewOfType (TypeSyntax-F.Record xs loc) n =
      (ys : List (Node (Annotated AttrDecl))) × (n.node ≡ shape.Record ys) × tree.AreAttrsOf source xs ys
