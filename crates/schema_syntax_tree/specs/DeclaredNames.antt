-- The names that a declaration gives.
use Rattle.std.specs.Prelude.{ℕ, List}
use Rattle.cedar_data.specs.declared.node.Node.{Node}
use Rattle.cedar_identifiers.specs.declared.id.Id.{Id}
use Rattle.schema_syntax_tree.specs.declared.entity_decl.EntityDecl.{EntityDecl}
use Rattle.schema_syntax_tree.specs.declared.entity_decl.EntityDecl.TheVariants.{Standard, Enum, External}
use Rattle.schema_syntax_tree.specs.declared.action_decl.ActionDecl.{ActionDecl}
use Rattle.schema_syntax_tree.specs.declared.action_decl.ActionDecl.TheVariants as action

-- the entity types, in the order of the text
abbrev pub entity_names : EntityDecl → List (Node Id)
entity_names (Standard decl) = decl.names
entity_names (Enum decl) = decl.names
entity_names (External decl) = decl.names

-- the actions, in the order of the text
abbrev pub action_names : ActionDecl → List (Node (List ℕ))
action_names (action.Defined decl) = decl.names
action_names (action.External decl) = decl.names
