-- Fragments whose lists are as those of a text are: attributes rise, an enum has a choice, and an action has both
-- principals and resources, or neither and no context.
use Rattle.std.specs.Prelude.{◌≡◌, ℕ, Bool, true, List, [], ◌∷◌, All, Option, Some, None}
use Rattle.std.specs.List.Sorted.{IsStrictlySortedBy}
use Rattle.std.specs.Map.{keys_of}
use Rattle.cedar_data.specs.Text.{text_cmp}
use Rattle.cedar_identifiers.specs.declared.name_text.NameText as named
use Rattle.cedar_identifiers.specs.declared.raw_name.RawName.{RawName}
use Rattle.cedar_identifiers.specs.declared.reference_type.ReferenceType.{ReferenceType}
use Rattle.laws_written.specs.PrintedDecls.{IsSome}
use Rattle.schema_json.specs.Shapes.{is_empty_type}
use Rattle.schema_json.specs.declared.action_type.ApplySpec.{ApplySpec}
use Rattle.schema_json.specs.declared.entity_type.EntityTypeKind.{EntityTypeKind}
use Rattle.schema_json.specs.declared.entity_type.EntityTypeKind.TheVariants.{Standard, Enum}
use Rattle.schema_json.specs.declared.fragment.Fragment.{Fragment}
use Rattle.schema_json.specs.declared.types.Type.{«Type»}
use Rattle.schema_json.specs.declared.types.TypeOfAttribute.{TypeOfAttribute, out-TypeOfAttribute}
use Rattle.schema_build_expand.specs.View.{View, boolean_layer, long_layer, string_layer, set_layer, record_layer}
use Rattle.schema_build_expand.specs.View.{reference_layer, extension_layer, view}

mutual
  -- the attributes of each record in the type rise by their names
  pub data Rises (N : Type 0) : «Type» N → Type 0 where
    rises_by_layer : (t : «Type» N) → LayerRises N (view t) → Rises N t

  -- a type of this outermost layer
  pub data LayerRises (N : Type 0) : View N → Type 0 where
    boolean_rises : LayerRises N boolean_layer
    long_rises : LayerRises N long_layer
    string_rises : LayerRises N string_layer
    set_rises : (element : «Type» N) → Rises N element → LayerRises N (set_layer element)
    record_rises : (more : Bool) (entries : List (List ℕ × TypeOfAttribute N))
        → IsStrictlySortedBy text_cmp (keys_of entries) → AllRise N entries → LayerRises N (record_layer more entries)
    reference_rises : (kind : ReferenceType) (name : N) → LayerRises N (reference_layer kind name)
    extension_rises : (word : List ℕ) → LayerRises N (extension_layer word)

  -- the types of attributes
  pub data AllRise (N : Type 0) : List (List ℕ × TypeOfAttribute N) → Type 0 where
    none_rise : AllRise N []
    next_rises : (name : List ℕ) (a : TypeOfAttribute N) (entries : List (List ℕ × TypeOfAttribute N))
        → Rises N (out-TypeOfAttribute N a).ty → AllRise N entries → AllRise N ((name, a) ∷ entries)

abbrev pub TagsRise : Option («Type» RawName) → Type 0
TagsRise None = Unit {0}
TagsRise (Some t) = Rises RawName t

-- the types of an entity type rise, and an enum has a choice
abbrev pub IsKindFormed : EntityTypeKind RawName → Type 0
IsKindFormed (Standard e) = Rises RawName e.shape.0 × TagsRise e.tags
IsKindFormed (Enum choices) = IsSome choices

-- principals and resources, or neither and an empty context
abbrev pub AreRolesFormed : List RawName → List RawName → «Type» RawName → Type 0
AreRolesFormed [] [] context = is_empty_type context ≡ true
AreRolesFormed (p ∷ ps) (r ∷ rs) context = Unit {0}
AreRolesFormed _ _ context = ⊥

-- what an action applies to, where that is written
abbrev pub IsSpecFormed : Option (ApplySpec RawName) → Type 0
IsSpecFormed None = Unit {0}
IsSpecFormed (Some d) = AreRolesFormed d.principal_types d.resource_types d.context.0 × Rises RawName d.context.0

module _ {G : named.Ghosts RawName} where
  -- attributes rise, each enum has a choice, and what an action applies to is principals and resources, or neither and
  -- an empty context
  pub record IsWellFormed (f : Fragment RawName G) : Type 0 where
    pub commons : All (λ e. All (λ c. Rises RawName c.1.ty) e.1.common_types) f.0
    pub entities : All (λ e. All (λ d. IsKindFormed d.1.kind) e.1.entity_types) f.0
    pub actions : All (λ e. All (λ a. IsSpecFormed a.1.applies_to) e.1.actions) f.0
