-- What is written of a meaning in a namespace.
use Rattle.std.specs.Prelude.{◌≡◌, ℕ, List, []}
use Rattle.std.specs.List.{Contains}
use Rattle.cedar_names.specs.CanonicalText.{namespaces}
use Rattle.cedar_names.specs.Meaning.{SchemaMeaning}
use Rattle.laws_written.specs.Meant.{items_of_meaning, name_or_none}
use Rattle.laws_translate.specs.FragmentsSay.{NamespaceName, WrittenNamespace}

-- the items of the meaning in the namespace of this name, without annotations
abbrev pub meant_in_namespace : SchemaMeaning → List (List ℕ) → WrittenNamespace
meant_in_namespace m name = record { notes = []; decls = items_of_meaning m name }

-- what is written is that of one of the meaning's namespaces, which has this name
pub record IsOfMeaning (m : SchemaMeaning) (q : NamespaceName) (w : WrittenNamespace) : Type 0 where
  pub name : List (List ℕ)
  pub among : Contains (namespaces m) name
  pub named : name_or_none name ≡ q
  pub is : w ≡ meant_in_namespace m name
