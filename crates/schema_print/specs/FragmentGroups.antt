-- Which groups of declarations a fragment is written as: those of a fragment whose printed shapes are records, and
-- whose contexts are records or names.
use Rattle.std.specs.Prelude.{◌≡◌, ℕ, Bool, true, false, List, [], ◌∷◌, ◌++◌, map, Option, Some, None}
use Rattle.std.specs.List.{AllZip}
use Rattle.std.specs.Option.{option_map}
use Rattle.cedar_identifiers.specs.Names.{components_of}
use Rattle.cedar_identifiers.specs.declared.name.Name.{Name}
use Rattle.cedar_identifiers.specs.declared.name_text.NameText as named
use Rattle.cedar_identifiers.specs.declared.unreserved_id.UnreservedId.{UnreservedId}
use Rattle.schema_json.specs.declared.common_type.CommonType.{CommonType}
use Rattle.schema_json.specs.declared.common_type.CommonTypeId.{CommonTypeId}
use Rattle.schema_json.specs.declared.entity_type.EntityType.{EntityType}
use Rattle.schema_json.specs.declared.entity_type.EntityTypeKind.{EntityTypeKind}
use Rattle.schema_json.specs.declared.entity_type.EntityTypeKind.TheVariants.{Standard, Enum}
use Rattle.schema_json.specs.declared.action_type.ActionType.{ActionType}
use Rattle.schema_json.specs.declared.action_type.ApplySpec.{ApplySpec}
use Rattle.schema_json.specs.declared.fragment.Fragment.{Fragment}
use Rattle.schema_json.specs.declared.fragment.NamespaceDefinition.{NamespaceDefinition}
use Rattle.schema_syntax_tree.specs.declared.pr.PR.TheVariants.{Principal, Resource}
use Rattle.laws_written.specs.Written.{WrittenType, WrittenAttributes, path, set, rec, WrittenRef, WrittenMember}
use Rattle.laws_written.specs.Written.{types, context_path, context_record, WrittenDecl, entity, enum}
use Rattle.laws_written.specs.Written.{external_entity, action, external_action, common, WrittenDeclared}
use Rattle.laws_written.specs.PrintedDecls.{Group}
use Rattle.schema_print_text.specs.PrintedTypes.{printed_name, printed_type}
use Rattle.schema_print.specs.PrintedFragments.{paths_of_names, printed_parents}

-- the name of a namespace as it is written
abbrev pub written_name : Option Name → Option (List (List ℕ))
written_name name = option_map (λ n. printed_name (components_of n.name)) name

-- the context is written so
abbrev pub ContextAs : WrittenType → WrittenMember → Type 0
ContextAs (rec xs) m = m ≡ context_record xs
ContextAs (path p) m = m ≡ context_path p
ContextAs (set t) m = ⊥

-- what an action applies to is written so
abbrev pub TargetsAs : List (List (List ℕ)) → List (List (List ℕ)) → WrittenType → Option (List WrittenMember) → Type 0
TargetsAs [] resources context ms = ms ≡ None
TargetsAs (p ∷ ps) [] context ms = ms ≡ None
TargetsAs (p ∷ ps) (r ∷ rs) context ms =
    (m : WrittenMember) × ContextAs context m
    × (ms ≡ Some (types Principal (p ∷ ps) ∷ types Resource (r ∷ rs) ∷ m ∷ []))

module _ {N : Type 0} (names : N → List (List ℕ)) where
  -- an entity type is written so
  abbrev pub KindAs : Bool → EntityTypeKind N → List ℕ → WrittenDecl → Type 0
  KindAs true (Standard e) name d = d ≡ external_entity (name ∷ []) (paths_of_names names e.member_of_types)
  KindAs true (Enum choices) name d = d ≡ external_entity (name ∷ []) []
  KindAs false (Enum choices) name d = d ≡ enum (name ∷ []) (map (λ c. c.0) choices)
  KindAs false (Standard e) name d =
      (xs : WrittenAttributes) × (printed_type names e.shape.0 ≡ rec xs)
      × (d ≡ entity (name ∷ []) (paths_of_names names e.member_of_types) xs (option_map (printed_type names) e.tags))

  abbrev pub EntityAs : UnreservedId × EntityType N → WrittenDeclared → Type 0
  EntityAs p d = (d.notes ≡ p.1.annotations.0) × KindAs p.1.external p.1.kind p.0.id.text d.decl

  -- a common type is written so
  abbrev pub CommonAs : CommonTypeId × CommonType N → WrittenDeclared → Type 0
  CommonAs p d = (d.notes ≡ p.1.annotations.0) × (d.decl ≡ common p.0.id.id.text (printed_type names p.1.ty))

  abbrev pub SpecAs : Option (ApplySpec N) → Option (List WrittenMember) → Type 0
  SpecAs None ms = ms ≡ None
  SpecAs (Some s) ms =
      TargetsAs (paths_of_names names s.principal_types) (paths_of_names names s.resource_types)
      (printed_type names s.context.0) ms

  -- what an action is written as, with these parents
  abbrev pub AppliedAs : Bool → Option (ApplySpec N) → List WrittenRef → List ℕ → WrittenDecl → Type 0
  AppliedAs true spec parents id d = d ≡ external_action (id ∷ []) parents
  AppliedAs false spec parents id d =
      (ms : Option (List WrittenMember)) × SpecAs spec ms × (d ≡ action (id ∷ []) parents ms)

  module _ {G : named.Ghosts N} where
    abbrev pub ActionAs : List ℕ × ActionType N G → WrittenDeclared → Type 0
    ActionAs p d =
        (d.notes ≡ p.1.annotations.0)
        × AppliedAs p.1.external p.1.applies_to (printed_parents names p.1.member_of) p.0 d.decl

    -- a namespace is written as these: the common types, the entity types and the actions
    pub record AreItemsOf (n : NamespaceDefinition N G) (ds : List WrittenDeclared) : Type 0 where
      pub commons : List WrittenDeclared
      pub entities : List WrittenDeclared
      pub actions : List WrittenDeclared
      pub of_commons : AllZip CommonAs n.common_types commons
      pub of_entities : AllZip EntityAs n.entity_types entities
      pub of_actions : AllZip ActionAs n.actions actions
      pub all : ds ≡ commons ++ (entities ++ actions)

    pub record IsGroupOf (p : Option Name × NamespaceDefinition N G) (g : Group) : Type 0 where
      pub notes : g.notes ≡ p.1.annotations.0
      pub name : g.name ≡ written_name p.0
      pub items : AreItemsOf p.1 g.decls

    -- the groups are those of the namespaces, in order
    abbrev pub AreGroupsOf : Fragment N G → List Group → Type 0
    AreGroupsOf f groups = AllZip IsGroupOf f.0 groups
