-- Paths as lists of ids.
use Rattle.std.specs.Prelude.{Bool, false, List, [], ◌∷◌, ◌++◌, Option, map}
use Rattle.std.specs.Option.{option_to_list}
use Rattle.cedar_data.specs.NonEmpty.{items_left}
use Rattle.cedar_data.specs.Span.{Span}
use Rattle.cedar_data.specs.declared.node.Node.{Node}
use Rattle.cedar_identifiers.specs.Words.{is_cedar}
use Rattle.cedar_identifiers.specs.declared.id.Id.{Id}
use Rattle.schema_syntax_tree.specs.declared.path.PathIter.{PathIter}
use Rattle.schema_syntax_tree.specs.declared.path.PathIntoIter.{PathIntoIter}

-- each of the ids at the same place
abbrev pub placed : Option Span → List Id → List (Node Id)
placed loc ids = map (λ id. record { node = id; loc = loc }) ids

-- a name in the namespace `__cedar`: two ids, of which the first is `__cedar`
abbrev pub is_in_cedar : List Id → Bool
is_in_cedar (namespace ∷ basename ∷ []) = is_cedar namespace.text
is_in_cedar ids = false

-- the ids that are still to come
abbrev pub ids_left : PathIter → List Id
ids_left it = items_left it.ids

-- the ids that are still to come, each with the path's place
abbrev pub nodes_left : PathIntoIter → List (Node Id)
nodes_left it = placed it.loc (option_to_list it.first ++ it.others.items)
