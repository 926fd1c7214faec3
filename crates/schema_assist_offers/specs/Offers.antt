-- Which names of a fragment may be written in a role, and how they are spelled there.
use Rattle.std.specs.Prelude.{◌≡◌, ℕ, ◌⊎◌, List, [], ◌∷◌, ◌++◌, map, find, Some, codes}
use Rattle.std.specs.List.{Contains}
use Rattle.std.specs.Str.{chars}
use Rattle.cedar_identifiers.specs.Names.{name_text}
use Rattle.cedar_identifiers.specs.declared.name_text.NameText as named
use Rattle.cedar_identifiers.specs.declared.raw_name.RawName.{RawName}
use Rattle.cedar_identifiers.specs.declared.reference_type.ReferenceType.{ReferenceType}
use Rattle.cedar_identifiers.specs.declared.reference_type.ReferenceType.TheVariants.{Common, Entity, CommonOrEntity}
use Rattle.cedar_names.specs.CanonicalText.{attribute_name}
use Rattle.cedar_names.specs.Definitions.{Definitions}
use Rattle.cedar_names.specs.declared.extension_table.ExtensionTable.{ExtensionTable}
use Rattle.schema_json.specs.AsWritten.{as_written}
use Rattle.schema_json.specs.declared.fragment.Fragment.{Fragment}
use Rattle.schema_resolve_definitions.specs.Declarations.{declared}
use Rattle.schema_resolve_definitions.specs.Defined.{defined}
use Rattle.schema_resolve_definitions.specs.Tests.{Tests, tests_of}
use Rattle.schema_resolve_targets.specs.Targets.{is_defined}
use Rattle.schema_assist_places.specs.declared.role.Role.{Role}
use Rattle.schema_assist_places.specs.declared.role.Role.TheVariants.{TypePath, EntityPath, ContextPath, ActionRef}

-- what a name of these words may stand for in a namespace of those, in the order in which that is tried: a word alone
-- stands behind the namespace, or by itself
abbrev pub candidates_in : List (List ℕ) → List (List ℕ) → List (List (List ℕ))
candidates_in ns (word ∷ []) = (ns ++ word ∷ []) ∷ (word ∷ []) ∷ []
candidates_in ns words = words ∷ []

-- the words mean the name in the namespace: it is the first candidate that is defined in the kind that is asked for
abbrev pub Means : Tests → ReferenceType → List (List ℕ) → List (List ℕ) → List (List ℕ) → Type 0
Means t kind ns words name = find (is_defined t kind) (candidates_in ns words) ≡ Some name

-- an action with this id and a type of this name is what a reference without a type means in the namespace
abbrev pub MeansAction : Tests → List (List ℕ) → List ℕ → List (List ℕ) → Type 0
MeansAction t ns id ty = find (λ name. t.is_action (name, id)) (candidates_in ns (codes "Action" ∷ [])) ≡ Some ty

-- How a name that ends in a word is spelled in a namespace: as the word alone, where that means the name there; else in
-- full, where that does.
pub data IsSpelledIn (t : Tests) (kind : ReferenceType) (ns before : List (List ℕ)) (word : List ℕ) : List ℕ
    → Type 0 where
  by_word : Means t kind ns (word ∷ []) (before ++ word ∷ []) → IsSpelledIn t kind ns before word word
  in_full : (Means t kind ns (word ∷ []) (before ++ word ∷ []) → ⊥)
      → Means t kind ns (before ++ word ∷ []) (before ++ word ∷ [])
      → IsSpelledIn t kind ns before word (name_text (before ++ word ∷ []))

-- the kind of definition that a path in a role asks for
abbrev pub kind_for : Role → ReferenceType
kind_for TypePath = CommonOrEntity
kind_for EntityPath = Entity
kind_for ContextPath = Common
kind_for ActionRef = Entity

-- A name is declared that may stand in a role: in a type, an entity type, a common type or the type of an action; among
-- entity types, an entity type; after `context`, a common type.
abbrev pub IsDeclaredFor : Role → Definitions → List (List ℕ) → Type 0
IsDeclaredFor TypePath d name =
    Contains d.entities name ⊎ (Contains d.commons name ⊎ Contains (map (λ a. a.0) d.actions) name)
IsDeclaredFor EntityPath d name = Contains d.entities name
IsDeclaredFor ContextPath d name = Contains d.commons name
IsDeclaredFor ActionRef d name = ⊥

module _ {N : Type 0} {G : named.Ghosts N} where
  -- the text spells a type that the fragment declares
  pub record OffersType (f : Fragment N G) (table : ExtensionTable) (role : Role) (ns : List (List ℕ)) (s : List ℕ)
      : Type 0 where
    pub before : List (List ℕ)
    pub word : List ℕ
    pub declared : IsDeclaredFor role (declared f) (before ++ word ∷ [])
    pub spelled : IsSpelledIn (tests_of (defined f table)) (kind_for role) ns before word s

  -- the text is the id of an action that the fragment declares: bare where an attribute's name is, else as a string
  pub record OffersAction (f : Fragment N G) (table : ExtensionTable) (ns : List (List ℕ)) (s : List ℕ) : Type 0 where
    pub ty : List (List ℕ)
    pub id : List ℕ
    pub declared : Contains (declared f).actions (ty, id)
    pub meant : MeansAction (tests_of (defined f table)) ns id ty
    pub spelled : s ≡ chars (attribute_name id)

  -- The text spells a name of the fragment that may be written in the role, inside a namespace of these words.
  abbrev pub offers : Fragment N G → ExtensionTable → Role → List (List ℕ) → List ℕ → Type 0
  offers f table ActionRef ns s = OffersAction f table ns s
  offers f table role ns s = OffersType f table role ns s

-- what is known: a fragment, with its names as they are written
abbrev pub Known : Type 0
Known = Fragment RawName as_written

-- the text begins with these characters
abbrev pub Completes : List ℕ → List ℕ → Type 0
Completes s front = (rest : List ℕ) × (s ≡ front ++ rest)
