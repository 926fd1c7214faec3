use Rattle.std.proofs.Common.{◌≡◌, ◌++◌, codes}
use Rattle.cedar_data.specs.Rows.{joined_by}
use Rattle.cedar_identifiers.specs.Names.{texts_of}
use Rattle.schema_syntax_tree.specs.Paths.{ids_left}
use Rattle.schema_syntax_tree.proofs.Joins.{behind}
use Rattle.schema_syntax_tree.proofs.path.Path.text.Given as goal

abbrev pub invariant-loop-id : goal.invariant-loop-id
invariant-loop-id l = l.text ++ behind (codes "::") (texts_of (ids_left l.id-iterator))
    ≡ joined_by (codes "::") (texts_of l.fn.self.ids)
