-- The names that declarations give, by kind.
use Rattle.std.specs.Prelude.{ℕ, List, [], ◌∷◌}
use Rattle.std.specs.List.{flat_map}
use Rattle.std.specs.declared.cmp.Ordering.{Ordering}
use Rattle.cedar_data.specs.Text.{text_cmp}
use Rattle.cedar_data.specs.declared.node.Node.{Node}
use Rattle.cedar_identifiers.specs.declared.id.Id.{Id}
use Rattle.schema_syntax_tree.specs.DeclaredNames.{entity_names, action_names}
use Rattle.schema_syntax_tree.specs.declared.annotated.Annotated.{Annotated}
use Rattle.schema_syntax_tree.specs.declared.declaration.Declaration.{Declaration}
use Rattle.schema_syntax_tree.specs.declared.declaration.Declaration.TheVariants.{Entity, Action, Common}

-- the names of entity types, of actions and of a common type that a declaration gives
abbrev pub entities_of : Declaration → List (Node Id)
entities_of (Entity d) = entity_names d
entities_of (Action d) = []
entities_of (Common d) = []

abbrev pub actions_of : Declaration → List (Node (List ℕ))
actions_of (Entity d) = []
actions_of (Action d) = action_names d
actions_of (Common d) = []

abbrev pub commons_of : Declaration → List (Node Id)
commons_of (Entity d) = []
commons_of (Action d) = []
commons_of (Common d) = d.name ∷ []

-- the names that declarations give, in the order of the text
abbrev pub entity_names_in : List (Annotated (Node Declaration)) → List (Node Id)
entity_names_in decls = flat_map (λ d. entities_of d.item.node) decls

abbrev pub action_names_in : List (Annotated (Node Declaration)) → List (Node (List ℕ))
action_names_in decls = flat_map (λ d. actions_of d.item.node) decls

abbrev pub common_names_in : List (Annotated (Node Declaration)) → List (Node Id)
common_names_in decls = flat_map (λ d. commons_of d.item.node) decls

-- names go by their texts; no place is seen
abbrev pub id_cmp : Node Id → Node Id → Ordering
id_cmp a b = text_cmp a.node.text b.node.text

abbrev pub action_cmp : Node (List ℕ) → Node (List ℕ) → Ordering
action_cmp a b = text_cmp a.node b.node
