-- The namespaces of a tree, those of one name as one.
use Rattle.std.specs.Prelude.{◌≡◌, ℕ, Bool, false, not, List, [], ◌∷◌, ◌++◌, map, reverse, Option, Some, None}
use Rattle.std.specs.BTreeMap.{is_at}
use Rattle.std.specs.Cmp.Lexicographic.{slice_cmp}
use Rattle.std.specs.List.{filter, flat_map, list_any}
use Rattle.std.specs.Map.{lookup}
use Rattle.std.specs.Option.{option_cmp}
use Rattle.std.specs.Ordering.{is_eq}
use Rattle.std.specs.declared.cmp.Ordering.{Ordering}
use Rattle.cedar_data.specs.Maps.{map_of}
use Rattle.cedar_data.specs.declared.node.Node.{Node}
use Rattle.cedar_identifiers.specs.declared.annotations.Annotations.{Annotations}
use Rattle.cedar_identifiers.specs.declared.any_id.AnyId.{AnyId}
use Rattle.cedar_names.specs.Orders.{id_text_order}
use Rattle.schema_syntax_tree.specs.declared.annotated.Annotated.{Annotated}
use Rattle.schema_syntax_tree.specs.declared.declaration.Declaration.{Declaration}
use Rattle.schema_syntax_tree.specs.declared.namespace.Namespace.{Namespace}
use Rattle.schema_syntax_tree.specs.declared.path.Path.{Path}
use Rattle.schema_json.specs.Orders.{annotation_key_cmp}

-- the namespace alone, where it has a name
abbrev pub named_so : {X Y : Type 0} → Option X → Y → List Y
named_so None y = []
named_so (Some x) y = y ∷ []

abbrev pub unnamed_so : {X Y : Type 0} → Option X → List Y → List Y
unnamed_so None ys = ys
unnamed_so (Some x) ys = []

-- the namespaces that have a name, in order
abbrev pub named : List (Annotated Namespace) → List (Annotated Namespace)
named tree = flat_map (λ n. named_so n.item.name n) tree

-- the declarations that stand outside of every namespace, in order
abbrev pub outside : List (Annotated Namespace) → List (Annotated (Node Declaration))
outside tree = flat_map (λ n. unnamed_so n.item.name n.item.decls) tree

-- the items that are the same as none before them
abbrev pub first_of_each : {K : Type 0} → (K → K → Bool) → List K → List K
first_of_each same [] = []
first_of_each same (x ∷ xs) = x ∷ filter (λ y. not (same x y)) (first_of_each same xs)

-- paths go by the texts of their ids; no place is seen
abbrev pub path_cmp : Path → Path → Ordering
path_cmp a b = slice_cmp id_text_order a.ids b.ids

-- both open the namespace of one name
abbrev pub have_one_name : Annotated Namespace → Annotated Namespace → Bool
have_one_name a b = is_eq (option_cmp path_cmp a.item.name b.item.name)

-- the first opening of each name, in order
abbrev pub first_openings : List (Annotated Namespace) → List (Annotated Namespace)
first_openings namespaces = first_of_each have_one_name namespaces

-- all openings of the namespace's name, in order
abbrev pub openings_of : Annotated Namespace → List (Annotated Namespace) → List (Annotated Namespace)
openings_of n namespaces = filter (have_one_name n) namespaces

-- Each annotation key with its first value: the entries are put into the map from the last one to the first.
abbrev pub first_values : List (Annotated Namespace) → Annotations
first_values openings = record { 0 = map_of annotation_key_cmp (reverse (flat_map (λ n. n.annotations.0) openings)) }

-- The one namespace that these openings are, of which this is the first: its name and place, all declarations in order,
-- and each annotation key with its first value.
abbrev pub opened_as : Annotated Namespace → List (Annotated Namespace) → Annotated Namespace
opened_as first openings = record {
  item = record { name = first.item.name; decls = flat_map (λ n. n.item.decls) openings; loc = first.item.loc };
  annotations = first_values openings;
}

-- one namespace for each name, in the order of the first openings
abbrev pub joined_by_name : List (Annotated Namespace) → List (Annotated Namespace)
joined_by_name namespaces = map (λ n. opened_as n (openings_of n namespaces)) (first_openings namespaces)

-- the namespace without a name that holds these declarations, where there are any
abbrev pub empty_namespace : List (Annotated (Node Declaration)) → List (Annotated Namespace)
empty_namespace [] = []
empty_namespace (d ∷ ds) = record
    { item = record { name = None; decls = d ∷ ds; loc = None }; annotations = record { 0 = [] } } ∷ []

-- One namespace for each name, and behind them the one of all declarations outside of these, where there are any.
abbrev pub joined : List (Annotated Namespace) → List (Annotated Namespace)
joined tree = joined_by_name (named tree) ++ empty_namespace (outside tree)

-- the value at an annotation's key, which is none where the key stands alone
abbrev pub value_at_key : AnyId → Annotations → Option (Option (List ℕ))
value_at_key key annotations = lookup (is_at (annotation_key_cmp key)) annotations.0

-- no namespace has one name with one before it
abbrev pub HaveOwnNames : List (Annotated Namespace) → Type 0
HaveOwnNames namespaces =
    (before after : List (Annotated Namespace)) (n : Annotated Namespace)
    → namespaces ≡ before ++ n ∷ after → list_any (λ b. have_one_name b n) before ≡ false
