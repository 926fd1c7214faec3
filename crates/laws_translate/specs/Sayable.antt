-- Which schemas, as they are written, can be translated.
use Rattle.std.specs.Prelude.{◌≡◌, ℕ, Bool, true, false, List, ◌∷◌, ◌++◌, Option, Some, None, find}
use Rattle.std.specs.List.{AllByRecursion, flat_map, list_any}
use Rattle.std.specs.Option.{option_eq, option_map}
use Rattle.cedar_data.specs.Text.{text_cmp}
use Rattle.cedar_identifiers.specs.Names.{has_cedar}
use Rattle.cedar_identifiers.specs.Words.{is_cedar}
use Rattle.schema_syntax_tree.specs.declared.pr.PR.{PR}
use Rattle.schema_syntax_tree.specs.declared.pr.PR.TheVariants.{Principal, Resource}
use Rattle.schema_json.specs.Keywords.{is_keyword_name}
use Rattle.schema_convert_faults.specs.Members.{is_same_role}
use Rattle.schema_convert_openings.specs.Repeats.{NoneRepeats}
use Rattle.laws_written.specs.Written.{WrittenMember, types, WrittenDecl, action, WrittenDeclared, WrittenItem}
use Rattle.laws_written.specs.PrintedDecls.{IsSome}
use Rattle.laws_translate.specs.DeclarationsSay.{role_and_types}
use Rattle.laws_translate.specs.FragmentsSay.{entities_of_decl, actions_of_decl, commons_of_decl, NamespaceName}
use Rattle.laws_translate.specs.FragmentsSay.{WrittenNamespace, written_in}

-- no component of a namespace's name is reserved
abbrev pub IsFreeNamespace : NamespaceName → Type 0
IsFreeNamespace None = Unit {0}
IsFreeNamespace (Some name) = has_cedar name ≡ false

-- principals or resources, and neither for a context
abbrev pub role_said : WrittenMember → Option PR
role_said m = option_map (λ p. p.0) (role_and_types m)

-- both say the principals, or the resources, or the context
abbrev pub says_alike : WrittenMember → WrittenMember → Bool
says_alike a b = option_eq is_same_role (role_said a) (role_said b)

abbrev pub has_role : PR → WrittenMember → Bool
has_role role m = option_eq is_same_role (Some role) (role_said m)

-- the member is no `[]` in place of principals or resources
abbrev pub IsFilledMember : WrittenMember → Type 0
IsFilledMember (types role paths) = IsSome paths
IsFilledMember _ = Unit {0}

-- No member says what one before it says, none is `[]`, and there are both principals and resources.
pub record AreLawfulMembers (members : List WrittenMember) : Type 0 where
  pub said_once : (before after : List WrittenMember) (m : WrittenMember) → members ≡ before ++ m ∷ after
      → find (says_alike m) before ≡ None
  pub filled : AllByRecursion IsFilledMember members
  pub principals : list_any (has_role Principal) members ≡ true
  pub resources : list_any (has_role Resource) members ≡ true

-- the members of a declaration of actions are lawful, where it has a block of them
abbrev pub HasLawfulMembers : Option (List WrittenMember) → Type 0
HasLawfulMembers None = Unit {0}
HasLawfulMembers (Some members) = AreLawfulMembers members

abbrev pub AppliesWell : WrittenDecl → Type 0
AppliesWell (action names refs members) = HasLawfulMembers members
AppliesWell _ = Unit {0}

-- a common type's name that is neither reserved nor one of the eight words
abbrev pub IsFreeCommonName : List ℕ → Type 0
IsFreeCommonName name = (is_cedar name ≡ false) × (is_keyword_name name ≡ false)

-- the names that declarations give, in the order of the text
abbrev pub names_written : (WrittenDecl → List (List ℕ)) → List WrittenDeclared → List (List ℕ)
names_written names_of decls = flat_map (λ d. names_of d.decl) decls

-- No name is reserved, none is declared twice in its kind, and each block is lawful.
pub record IsSayableNamespace (name : NamespaceName) (decls : List WrittenDeclared) : Type 0 where
  pub name_free : IsFreeNamespace name
  pub entities_once : NoneRepeats text_cmp (names_written entities_of_decl decls)
  pub actions_once : NoneRepeats text_cmp (names_written actions_of_decl decls)
  pub commons_once : NoneRepeats text_cmp (names_written commons_of_decl decls)
  pub entities_free : AllByRecursion (λ n. is_cedar n ≡ false) (names_written entities_of_decl decls)
  pub blocks : AllByRecursion (λ d. AppliesWell d.decl) decls
  pub commons_free : AllByRecursion IsFreeCommonName (names_written commons_of_decl decls)

-- Each namespace in which something is written can be translated.
abbrev pub IsSayable : List WrittenItem → Type 0
IsSayable items = (name : NamespaceName) (n : WrittenNamespace) → written_in items name ≡ Some n
    → IsSayableNamespace name n.decls
