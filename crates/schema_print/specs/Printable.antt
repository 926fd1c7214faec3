-- Which fragments their texts say: the conditions, one by one, and all of them. Each part is one of the walk of the
-- fragment.
use Rattle.std.specs.Prelude.{◌≡◌, Bool, true, false, not, List, [], ◌∷◌, Option, Some, None}
use Rattle.std.specs.List.{AllByRecursion, list_all}
use Rattle.cedar_identifiers.specs.declared.annotations.Annotations.{Annotations}
use Rattle.cedar_identifiers.specs.declared.name.Name.{Name}
use Rattle.cedar_identifiers.specs.declared.name_text.NameText as named
use Rattle.cedar_identifiers.specs.declared.raw_name.RawName.{RawName}
use Rattle.cedar_identifiers.specs.declared.reference_type.ReferenceType.TheVariants.{CommonOrEntity}
use Rattle.cedar_names.specs.Tables.{table_has}
use Rattle.cedar_names.specs.declared.extension_table.ExtensionTable.{ExtensionTable}
use Rattle.schema_json.specs.Keywords.{is_keyword_name}
use Rattle.schema_json.specs.Shapes.{is_empty_type}
use Rattle.schema_json.specs.declared.action_type.ActionType.{ActionType}
use Rattle.schema_json.specs.declared.action_type.ApplySpec.{ApplySpec}
use Rattle.schema_json.specs.declared.fragment.Fragment.{Fragment}
use Rattle.schema_json.specs.declared.types.Type.{«Type», Type-F, out-Type}
use Rattle.schema_json.specs.declared.types.TypeVariant.{TypeVariant}
use Rattle.schema_json.specs.declared.types.RecordType.{RecordType}
use Rattle.schema_json.specs.declared.types.TypeOfAttribute.{TypeOfAttribute}
use Rattle.schema_json_walk.specs.Parts.{Part, type_reference, extension_type, open_record, action_attributes}
use Rattle.schema_json_walk.specs.Parts.{external_not_bare}
use Rattle.schema_json_walk.specs.Walk.{fragment_parts}
use Rattle.schema_resolve_definitions.specs.Declarations.{name_of}
use Rattle.schema_resolve_definitions.specs.Defined.{defined}
use Rattle.schema_resolve_definitions.specs.Tests.{Tests, tests_of}
use Rattle.schema_resolve_targets.specs.Meanings.{means}
use Rattle.schema_print.specs.Collisions.{collisions, shapeless, is_record_type}

-- a part that is no open record
abbrev pub IsClosedPart : Part RawName → Type 0
IsClosedPart open_record = ⊥
IsClosedPart _ = Unit {0}

-- a part that is no external item with more than such a one may have
abbrev pub IsBare : Part RawName → Type 0
IsBare external_not_bare = ⊥
IsBare _ = Unit {0}

-- a part that is no list of attributes of an action, not even an empty one
abbrev pub IsWithoutAttributes : Part RawName → Type 0
IsWithoutAttributes (action_attributes names) = ⊥
IsWithoutAttributes _ = Unit {0}

-- an extension type that the table has, or another part
abbrev pub IsInTable : ExtensionTable → Part RawName → Type 0
IsInTable table (extension_type id) = table_has table id.id.text ≡ true
IsInTable table _ = Unit {0}

-- A reference within a type means what its name means where it may be either kind of type, or another part. A context
-- that is itself a reference to a common type is another part.
abbrev pub IsMeantEitherWay : Tests → Option Name → Part RawName → Type 0
IsMeantEitherWay t ns (type_reference kind name) =
    means t (name_of ns) kind name ≡ means t (name_of ns) CommonOrEntity name
IsMeantEitherWay t ns _ = Unit {0}

module _ {N : Type 0} where
  abbrev is_record_or_common_outside : «Type» N → Type-F N («Type» N) (TypeVariant N) (RecordType N) (TypeOfAttribute N)
      → Bool
  is_record_or_common_outside context (Type-F.Variant ty loc) = is_record_type context
  is_record_or_common_outside context (Type-F.CommonTypeRef name loc) = true

  -- a record, or a reference to a common type
  abbrev pub is_record_or_common : «Type» N → Bool
  is_record_or_common context = is_record_or_common_outside context (out-Type N context)

  -- what an action applies to has such a context, where it is written
  abbrev pub has_printable_context : Option (ApplySpec N) → Bool
  has_printable_context None = true
  has_printable_context (Some spec) = is_record_or_common spec.context.0

  abbrev pub are_whole_targets : List N → List N → «Type» N → Bool
  are_whole_targets [] [] context = is_empty_type context
  are_whole_targets (p ∷ ps) (r ∷ rs) context = true
  are_whole_targets _ _ context = false

  -- what an action applies to has both principals and resources, or neither and the empty context
  abbrev pub has_whole_targets : Option (ApplySpec N) → Bool
  has_whole_targets None = true
  has_whole_targets (Some spec) = are_whole_targets spec.principal_types spec.resource_types spec.context.0

abbrev is_empty : {A : Type 0} → List A → Bool
is_empty [] = true
is_empty (x ∷ xs) = false

-- the empty namespace has no annotations
abbrev pub is_annotated_where_named : Option Name → Annotations → Bool
is_annotated_where_named None annotations = is_empty annotations.0
is_annotated_where_named (Some ns) annotations = true

module _ {G : named.Ghosts RawName} where
  -- each part of the fragment, with its namespace, is so
  abbrev pub IsOfEachPart : (Option Name → Part RawName → Type 0) → Fragment RawName G → Type 0
  IsOfEachPart P f = AllByRecursion (λ e. P e.0 e.1) (fragment_parts f)

  -- each action of the fragment passes
  abbrev pub of_each_action : (ActionType RawName G → Bool) → Fragment RawName G → Bool
  of_each_action test f = list_all (λ e. list_all (λ a. test a.1) e.1.actions) f.0

  -- The text of the fragment says it: every record is closed, external items are bare, shapes of entity types are
  -- records, contexts are records or references to common types, an action applies to principals and resources or to
  -- nothing, no action has attributes, the empty namespace has no annotations, no named namespace has a name as a
  -- common type and as an entity type, no common type has one of the eight words as its name, extension types are in
  -- the table, and references mean what their names mean where they may be either kind of type.
  pub record IsPrintable (f : Fragment RawName G) (table : ExtensionTable) : Type 0 where
    pub closed : IsOfEachPart (λ ns. IsClosedPart) f
    pub bare : IsOfEachPart (λ ns. IsBare) f
    pub shapes : shapeless f ≡ []
    pub contexts : of_each_action (λ a. has_printable_context a.applies_to) f ≡ true
    pub targets : of_each_action (λ a. has_whole_targets a.applies_to) f ≡ true
    pub attributes : IsOfEachPart (λ ns. IsWithoutAttributes) f
    pub annotations : list_all (λ e. is_annotated_where_named e.0 e.1.annotations) f.0 ≡ true
    pub names : collisions f ≡ []
    pub words : list_all (λ e. list_all (λ c. not (is_keyword_name c.0.id.id.text)) e.1.common_types) f.0 ≡ true
    pub extensions : IsOfEachPart (λ ns. IsInTable table) f
    pub references : IsOfEachPart (IsMeantEitherWay (tests_of (defined f table))) f
