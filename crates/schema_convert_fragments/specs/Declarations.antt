-- The declarations of a tree, in a fragment.
use Rattle.std.specs.Prelude.{◌≡◌, ℕ, Bool, true, false, List, [], ◌∷◌, map, Option, Some, None, option_map, refl}
use Rattle.std.specs.List.{filter_map}
use Rattle.cedar_data.specs.Span.{Span}
use Rattle.cedar_data.specs.declared.node.Node.{Node}
use Rattle.cedar_identifiers.specs.Words.{is_cedar}
use Rattle.cedar_identifiers.specs.declared.eid.Eid.{Eid}
use Rattle.cedar_identifiers.specs.declared.id.Id.{Id}
use Rattle.cedar_identifiers.specs.declared.unreserved_id.UnreservedId.{UnreservedId}
use Rattle.cedar_identifiers.specs.declared.annotations.Annotations.{Annotations}
use Rattle.cedar_identifiers.specs.declared.raw_name.RawName.{RawName}
use Rattle.schema_syntax_tree.specs.declared.path.Path.{Path}
use Rattle.schema_syntax_tree.specs.declared.annotated.Annotated.{Annotated}
use Rattle.schema_syntax_tree.specs.declared.types.AttrDecl.{AttrDecl}
use Rattle.schema_syntax_tree.specs.declared.entity_decl.EntityDecl.{EntityDecl}
use Rattle.schema_syntax_tree.specs.declared.entity_decl.EntityDecl.TheVariants as entity
use Rattle.schema_syntax_tree.specs.declared.action_decl.ActionDecl.{ActionDecl}
use Rattle.schema_syntax_tree.specs.declared.action_decl.ActionDecl.TheVariants as action
use Rattle.schema_syntax_tree.specs.declared.app_decl.AppDecl.{AppDecl}
use Rattle.schema_syntax_tree.specs.declared.app_decl.AppDecl.TheVariants as member
use Rattle.schema_syntax_tree.specs.declared.either.Either.{Either}
use Rattle.schema_syntax_tree.specs.declared.either.Either.TheVariants.{Left, Right}
use Rattle.schema_syntax_tree.specs.declared.pr.PR.{PR}
use Rattle.schema_syntax_tree.specs.declared.pr.PR.TheVariants.{Principal, Resource}
use Rattle.schema_syntax_tree.specs.declared.qual_name.QualName.{QualName}
use Rattle.schema_syntax_tree.specs.declared.types.Type.{«Type»}
use Rattle.schema_json.specs.declared.types.Type.{«Type» as Shape}
use Rattle.schema_json.specs.declared.types.Type.TheVariants as shape
use Rattle.schema_json.specs.declared.entity_type.AttributesOrContext.{AttributesOrContext}
use Rattle.schema_json.specs.declared.entity_type.EntityType.{EntityType}
use Rattle.schema_json.specs.declared.entity_type.EntityTypeKind.{EntityTypeKind}
use Rattle.schema_json.specs.declared.entity_type.EntityTypeKind.TheVariants.{Standard, Enum}
use Rattle.schema_json.specs.declared.action_type.ActionEntityUID.{ActionEntityUID}
use Rattle.schema_json.specs.declared.action_type.ActionType.{ActionType}
use Rattle.schema_json.specs.declared.action_type.ApplySpec.{ApplySpec}
use Rattle.schema_json.specs.AsWritten.{as_written}
use Rattle.schema_convert_types.specs.Names.{raw_name_of}
use Rattle.schema_convert_types.specs.Types.{record_type, record_of_attributes, type_of}

abbrev pub raw_names : List Path → List RawName
raw_names paths = map raw_name_of paths

-- no attribute, and no place
abbrev pub nothing : AttributesOrContext RawName
nothing = record { 0 = record_type [] None }

-- the ids of an enumeration
abbrev pub choices_of : List (Node (List ℕ)) → List Eid
choices_of choices = map (λ c. record { 0 = c.node }) choices

-- the type of the tags, where there are tags
abbrev pub tags_of : Option (Node «Type») → Option (Shape RawName)
tags_of tags = option_map type_of tags

abbrev pub entity_kind_of : EntityDecl → EntityTypeKind RawName
entity_kind_of (entity.Standard d) =
    Standard (record {
      member_of_types = raw_names d.member_of_types;
      shape = record { 0 = record_of_attributes d.attrs };
      tags = tags_of d.tags;
    })
entity_kind_of (entity.Enum d) = Enum (choices_of d.choices)
entity_kind_of (entity.External d) =
    Standard (record { member_of_types = raw_names d.member_of_types; shape = nothing; tags = None })

abbrev pub is_external : EntityDecl → Bool
is_external (entity.Standard d) = false
is_external (entity.Enum d) = false
is_external (entity.External d) = true

-- what each name of the declaration is declared as, with the declaration's annotations and place
abbrev pub entity_type_of : EntityDecl → Annotations → Option Span → EntityType RawName
entity_type_of d notes loc = record
    { kind = entity_kind_of d; external = is_external d; annotations = notes; loc = loc }

-- the types of a member, and none for `[]`
abbrev pub member_types : Option (List Path) → List RawName
member_types None = []
member_types (Some paths) = raw_names paths

abbrev pub context_of : Either Path (Node (List (Node (Annotated AttrDecl)))) → AttributesOrContext RawName
context_of (Left path) = record { 0 = shape.CommonTypeRef (raw_name_of path) path.loc }
context_of (Right attributes) = record { 0 = record_of_attributes attributes }

-- what an action is applied to, with this member too
abbrev pub with_types : PR → List RawName → ApplySpec RawName → ApplySpec RawName
with_types Principal types spec =
    record { resource_types = spec.resource_types; principal_types = types; context = spec.context }
with_types Resource types spec =
    record { resource_types = types; principal_types = spec.principal_types; context = spec.context }

abbrev pub with_member : AppDecl → ApplySpec RawName → ApplySpec RawName
with_member (member.PR d) spec = with_types d.kind.node (member_types d.entity_tys) spec
with_member (member.Context context) spec =
    record {
      resource_types = spec.resource_types;
      principal_types = spec.principal_types;
      context = context_of context;
    }

abbrev pub with_members : List (Node AppDecl) → ApplySpec RawName → ApplySpec RawName
with_members [] spec = spec
with_members (m ∷ ms) spec = with_members ms (with_member m.node spec)

-- no entity types, and the empty context
abbrev pub applied_to_nothing : ApplySpec RawName
applied_to_nothing = record { resource_types = []; principal_types = []; context = nothing }

abbrev pub apply_spec_of : Option (Node (List (Node AppDecl))) → ApplySpec RawName
apply_spec_of None = applied_to_nothing
apply_spec_of (Some block) = with_members block.node applied_to_nothing

-- an action's parent: its id, and its type, which is absent where a plain name was written
abbrev pub reference_of : Node QualName → ActionEntityUID RawName as_written
reference_of n = record { id = n.node.eid; ty = option_map raw_name_of n.node.path; typed = refl }

-- the parents, where some were written
abbrev pub references_of : Option (List (Node QualName)) → Option (List (ActionEntityUID RawName as_written))
references_of parents = option_map (map reference_of) parents

-- what each name of the declaration is declared as, with the declaration's annotations and place
abbrev pub action_type_of : ActionDecl → Annotations → Option Span → ActionType RawName as_written
action_type_of (action.Defined d) notes loc =
    record {
      attributes = None;
      applies_to = Some (apply_spec_of d.app_decls);
      member_of = references_of d.parents;
      external = false;
      annotations = notes;
      loc = loc;
    }
action_type_of (action.External d) notes loc =
    record {
      attributes = None;
      applies_to = None;
      member_of = references_of d.parents;
      external = true;
      annotations = notes;
      loc = loc;
    }

-- the word as one that may be declared, which `__cedar` is not
abbrev pub unreserved_so : (id : Id) (b : Bool) → is_cedar id.text ≡ b → Option UnreservedId
unreserved_so id true e = None
unreserved_so id false e = Some (record { id = id; unreserved = e })

abbrev pub unreserved : Id → Option UnreservedId
unreserved id = unreserved_so id (is_cedar id.text) refl

-- the names that may be declared
abbrev pub declarable : List (Node Id) → List UnreservedId
declarable names = filter_map (λ n. unreserved n.node) names

-- each of the names with the same beside it
abbrev pub each_with : {K X : Type 0} → X → List K → List (K × X)
each_with x names = map (λ name. (name, x)) names
