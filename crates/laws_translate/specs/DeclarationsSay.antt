-- What a declared entity type, action or common type of a fragment says, places aside.
use Rattle.std.specs.Prelude.{◌≡◌, ℕ, Bool, true, false, List, [], ◌∷◌, map, Option, Some, None}
use Rattle.std.specs.List.{filter_map}
use Rattle.std.specs.Option.{option_map, unwrap_or}
use Rattle.cedar_data.specs.Maps.{last_at}
use Rattle.cedar_data.specs.Span.{Span}
use Rattle.cedar_identifiers.specs.Names.{components_of}
use Rattle.cedar_identifiers.specs.declared.raw_name.RawName.{RawName}
use Rattle.schema_syntax_tree.specs.declared.pr.PR.{PR}
use Rattle.schema_syntax_tree.specs.declared.pr.PR.TheVariants.{Principal, Resource}
use Rattle.schema_json.specs.declared.types.Type.{«Type»}
use Rattle.schema_json.specs.declared.types.Type.TheVariants as shape
use Rattle.schema_json.specs.declared.action_type.ActionEntityUID.{ActionEntityUID}
use Rattle.schema_json.specs.declared.action_type.ActionType.{ActionType}
use Rattle.schema_json.specs.declared.action_type.ApplySpec.{ApplySpec}
use Rattle.schema_json.specs.declared.common_type.CommonType.{CommonType}
use Rattle.schema_json.specs.declared.entity_type.EntityType.{EntityType}
use Rattle.schema_json.specs.declared.entity_type.EntityTypeKind.{EntityTypeKind}
use Rattle.schema_json.specs.declared.entity_type.EntityTypeKind.TheVariants.{Standard, Enum}
use Rattle.schema_json.specs.AsWritten.{as_written}
use Rattle.laws_written.specs.Written.{WrittenType, no_more, rec, WrittenRef, WrittenMember, types, context_path}
use Rattle.laws_written.specs.Written.{context_record, WrittenDecl, entity, enum, external_entity, action}
use Rattle.laws_written.specs.Written.{external_action, common, WrittenDeclared}
use Rattle.schema_convert_faults.specs.Members.{is_same_role}
use Rattle.laws_translate.specs.TypesSay.{TypeSays}

-- the names as they were written
abbrev pub written_paths : List RawName → List (List (List ℕ))
written_paths names = map (λ n. components_of n.name) names

abbrev pub TagsSay : Option («Type» RawName) → Option WrittenType → Type 0
TagsSay None None = Unit {0}
TagsSay (Some s) (Some t) = TypeSays s t
TagsSay _ _ = ⊥

-- what stands for an entity type says its declaration; one of another schema has no attributes and no tags
abbrev pub KindSays : Bool → EntityTypeKind RawName → WrittenDecl → Type 0
KindSays external (Standard e) (entity names parents attributes tags) =
    (external ≡ false) × (written_paths e.member_of_types ≡ parents) × TypeSays e.shape.0 (rec attributes)
    × TagsSay e.tags tags
KindSays external (Standard e) (external_entity names parents) =
    (external ≡ true) × (written_paths e.member_of_types ≡ parents) × TypeSays e.shape.0 (rec no_more) × (e.tags ≡ None)
KindSays external (Enum ids) (enum names choices) = (external ≡ false) × (map (λ c. c.0) ids ≡ choices)
KindSays _ _ _ = ⊥

abbrev pub EntitySays : EntityType RawName → WrittenDeclared → Type 0
EntitySays e d = (e.annotations.0 ≡ d.notes) × KindSays e.external e.kind d.decl

abbrev pub CommonIs : «Type» RawName → WrittenDecl → Type 0
CommonIs s (common name t) = TypeSays s t
CommonIs _ _ = ⊥

abbrev pub CommonSays : CommonType RawName → WrittenDeclared → Type 0
CommonSays c d = (c.annotations.0 ≡ d.notes) × CommonIs c.ty d.decl

-- the types that a member says are principals, or are resources
abbrev pub role_and_types : WrittenMember → Option (PR × List (List (List ℕ)))
role_and_types (types role paths) = Some (role, paths)
role_and_types _ = None

-- the types that the last member of this role says, and none where there is no such member
abbrev pub types_in : PR → List WrittenMember → List (List (List ℕ))
types_in role members = unwrap_or (last_at (is_same_role role) (filter_map role_and_types members)) []

-- what the context is, where no member behind these says it
abbrev pub ContextOr : Type 0 → «Type» RawName → List WrittenMember → Type 0
ContextOr Else s [] = Else
ContextOr Else s (types role paths ∷ ms) = ContextOr Else s ms
ContextOr Else s (context_path p ∷ ms) =
    ContextOr
    ((name : RawName) × (loc : Option Span) × (s ≡ shape.CommonTypeRef name loc) × (components_of name.name ≡ p))
    s ms
ContextOr Else s (context_record xs ∷ ms) = ContextOr (TypeSays s (rec xs)) s ms

-- the context is what the last member that says one says, and the empty record where there is none
abbrev pub ContextSays : «Type» RawName → List WrittenMember → Type 0
ContextSays s members = ContextOr (TypeSays s (rec no_more)) s members

abbrev pub SpecSays : ApplySpec RawName → List WrittenMember → Type 0
SpecSays spec members =
    (written_paths spec.principal_types ≡ types_in Principal members)
    × (written_paths spec.resource_types ≡ types_in Resource members) × ContextSays spec.context.0 members

-- a block that is absent says no member
abbrev pub members_said : Option (List WrittenMember) → List WrittenMember
members_said None = []
members_said (Some members) = members

abbrev pub written_ref : ActionEntityUID RawName as_written → WrittenRef
written_ref r = record { ty = option_map (λ n. components_of n.name) r.ty; id = r.id }

-- the parents, which are there where some are written
abbrev pub ParentsSay : Option (List (ActionEntityUID RawName as_written)) → List WrittenRef → Type 0
ParentsSay None [] = Unit {0}
ParentsSay (Some parents) (r ∷ refs) = map written_ref parents ≡ r ∷ refs
ParentsSay _ _ = ⊥

-- what an action applies to says its declaration; one of another schema applies to nothing
abbrev pub AppliesSay : Bool → Option (ApplySpec RawName) → Option (List (ActionEntityUID RawName as_written))
    → WrittenDecl
    → Type 0
AppliesSay external (Some spec) parents (action names refs members) =
    (external ≡ false) × ParentsSay parents refs × SpecSays spec (members_said members)
AppliesSay external None parents (external_action names refs) = (external ≡ true) × ParentsSay parents refs
AppliesSay _ _ _ _ = ⊥

abbrev pub ActionSays : ActionType RawName as_written → WrittenDeclared → Type 0
ActionSays a d =
    (a.annotations.0 ≡ d.notes) × (a.attributes ≡ None) × AppliesSay a.external a.applies_to a.member_of d.decl
