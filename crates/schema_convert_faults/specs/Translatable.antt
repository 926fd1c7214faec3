-- Which trees can be translated.
use Rattle.std.specs.Prelude.{◌≡◌, ℕ, true, false, List, [], ◌∷◌, ◌++◌, Option, Some, None, find}
use Rattle.std.specs.List.{AllByRecursion, list_any}
use Rattle.cedar_data.specs.declared.node.Node.{Node}
use Rattle.cedar_identifiers.specs.Words.{is_cedar}
use Rattle.cedar_identifiers.specs.declared.id.Id.{Id}
use Rattle.schema_syntax_tree.specs.declared.action_decl.ActionDecl.TheVariants.{Defined, External}
use Rattle.schema_syntax_tree.specs.declared.annotated.Annotated.{Annotated}
use Rattle.schema_syntax_tree.specs.declared.app_decl.AppDecl.{AppDecl}
use Rattle.schema_syntax_tree.specs.declared.app_decl.AppDecl.TheVariants.{PR, Context}
use Rattle.schema_syntax_tree.specs.declared.declaration.Declaration.{Declaration}
use Rattle.schema_syntax_tree.specs.declared.declaration.Declaration.TheVariants.{Entity, Action, Common}
use Rattle.schema_syntax_tree.specs.declared.namespace.Namespace.{Namespace}
use Rattle.schema_syntax_tree.specs.declared.path.Path.{Path}
use Rattle.schema_syntax_tree.specs.declared.pr.PR.TheVariants.{Principal, Resource}
use Rattle.schema_json.specs.Keywords.{is_keyword_name}
use Rattle.schema_convert_faults.specs.Faults.{is_reserved_path}
use Rattle.schema_convert_openings.specs.Joined.{joined}
use Rattle.schema_convert_faults.specs.Members.{says_role, says_same}
use Rattle.schema_convert_faults.specs.NamesIn.{entity_names_in, action_names_in, common_names_in, id_cmp, action_cmp}
use Rattle.schema_convert_openings.specs.Repeats.{NoneRepeats}

-- the namespace has no name, or one that is not reserved
abbrev pub IsFreeName : Option Path → Type 0
IsFreeName None = Unit {0}
IsFreeName (Some path) = is_reserved_path path ≡ false

-- the member is no `[]` in place of principals or resources
abbrev pub IsFilled : AppDecl → Type 0
IsFilled (PR d) = (d.entity_tys ≡ None) → ⊥
IsFilled (Context c) = Unit {0}

-- No member says what one before it says, none is `[]`, and there are both principals and resources.
pub record IsLawfulBlock (members : List (Node AppDecl)) : Type 0 where
  pub said_once : (before after : List (Node AppDecl)) (m : Node AppDecl) → members ≡ before ++ m ∷ after
      → find (λ b. says_same m.node b.node) before ≡ None
  pub filled : AllByRecursion (λ m. IsFilled m.node) members
  pub principals : list_any (λ m. says_role Principal m.node) members ≡ true
  pub resources : list_any (λ m. says_role Resource m.node) members ≡ true

-- the block of a declaration of these actions is lawful, where it has one
abbrev pub HasLawfulBlock : Option (Node (List (Node AppDecl))) → List (Node (List ℕ)) → Type 0
HasLawfulBlock None names = Unit {0}
HasLawfulBlock (Some block) [] = Unit {0}
HasLawfulBlock (Some block) (name ∷ names) = IsLawfulBlock block.node

abbrev pub AppliesLawfully : Declaration → Type 0
AppliesLawfully (Entity d) = Unit {0}
AppliesLawfully (Action (Defined d)) = HasLawfulBlock d.app_decls d.names
AppliesLawfully (Action (External d)) = Unit {0}
AppliesLawfully (Common d) = Unit {0}

-- a common type's name that is neither reserved nor one of the eight words
abbrev pub IsFreeCommon : Node Id → Type 0
IsFreeCommon id = (is_cedar id.node.text ≡ false) × (is_keyword_name id.node.text ≡ false)

-- No name is reserved, none is declared twice in its kind, and each block is lawful.
pub record IsLawfulNamespace (n : Annotated Namespace) : Type 0 where
  pub name : IsFreeName n.item.name
  pub entities_once : NoneRepeats id_cmp (entity_names_in n.item.decls)
  pub actions_once : NoneRepeats action_cmp (action_names_in n.item.decls)
  pub commons_once : NoneRepeats id_cmp (common_names_in n.item.decls)
  pub entities_free : AllByRecursion (λ id. is_cedar id.node.text ≡ false) (entity_names_in n.item.decls)
  pub blocks : AllByRecursion (λ d. AppliesLawfully d.item.node) n.item.decls
  pub commons_free : AllByRecursion IsFreeCommon (common_names_in n.item.decls)

-- each of the joined namespaces is lawful
abbrev pub IsTranslatable : List (Annotated Namespace) → Type 0
IsTranslatable tree = AllByRecursion IsLawfulNamespace (joined tree)
