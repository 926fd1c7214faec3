-- How the code looks a name up: the words of the namespace that stands in it, and its last word.
use Rattle.std.specs.Prelude.{ℕ, Bool, true, false, ◌&&◌, List, [], ◌∷◌, ◌++◌, Option, Some, None}
use Rattle.std.specs.List.{list_any}
use Rattle.cedar_identifiers.specs.Names.{components_of, texts_of}
use Rattle.cedar_identifiers.specs.declared.id.Id.{Id}
use Rattle.cedar_identifiers.specs.declared.name.Name.{Name}
use Rattle.cedar_identifiers.specs.declared.name_text.NameText as named
use Rattle.cedar_names.specs.Definitions.{same_name}
use Rattle.cedar_names.specs.Orders.{ids_of}
use Rattle.schema_json.specs.declared.fragment.NamespaceDefinition.{NamespaceDefinition}
use Rattle.schema_json.specs.declared.fragment.Fragment.{Fragment}
use Rattle.schema_resolve_lookup.specs.declared.sought.Sought.{Sought}
use Rattle.schema_resolve_lookup.specs.declared.sought.Before.{Before}

-- the words of the namespace that stands in a name
abbrev pub words_before : Option Before → List (List ℕ)
words_before None = []
words_before (Some before) = before.first.now.text ∷ texts_of before.others.now

-- the words of the name that is sought
abbrev pub name_sought : Sought → List (List ℕ)
name_sought sought = words_before sought.namespace ++ sought.last.now.text ∷ []

-- the words of a declared namespace, of which the empty one has none
abbrev pub namespace_words : Option Name → List (List ℕ)
namespace_words None = []
namespace_words (Some ns) = components_of ns.name

-- namespaces are in the order of their words in turn
abbrev pub ids_before : Option Before → List Id
ids_before None = []
ids_before (Some before) = before.first.now ∷ before.others.now

abbrev pub namespace_ids : Option Name → List Id
namespace_ids None = []
namespace_ids (Some ns) = ids_of ns.name

-- there is an item
abbrev pub is_some_list : {A : Type 0} → List A → Bool
is_some_list [] = false
is_some_list (x ∷ xs) = true

-- a namespace of these words passes the test
abbrev pub passes_in : {N : Type 0} {G : named.Ghosts N} → Fragment N G → List (List ℕ)
    → (NamespaceDefinition N G → Bool) → Bool
passes_in f words test = list_any (λ e. same_name words (namespace_words e.0) && test e.1) f.0

-- there is one, and it passes the test
abbrev pub passes : {A : Type 0} → Option A → (A → Bool) → Bool
passes None test = false
passes (Some a) test = test a
