-- What a declared entity type means besides its name and its ancestors, and what is built for it.
use Rattle.std.specs.Prelude.{◌≡◌, ℕ, Bool, true, false, List, map, Option, Some, None}
use Rattle.cedar_identifiers.specs.declared.internal_name.InternalName.{InternalName}
use Rattle.cedar_identifiers.specs.declared.name.Name.{Name}
use Rattle.cedar_identifiers.specs.declared.name_text.NameText as named
use Rattle.cedar_identifiers.specs.declared.raw_name.RawName.{RawName}
use Rattle.cedar_names.specs.Meaning.{PlainType, Attributes, Rec, no_more}
use Rattle.cedar_names.specs.declared.extension_table.ExtensionTable.{ExtensionTable}
use Rattle.schema_json.specs.declared.entity_type.EntityTypeKind.{EntityTypeKind}
use Rattle.schema_json.specs.declared.entity_type.EntityTypeKind.TheVariants as written
use Rattle.schema_json.specs.declared.fragment.Fragment.{Fragment}
use Rattle.schema_json.specs.declared.types.Type.{«Type»}
use Rattle.schema_resolve_definitions.specs.Declarations.{name_of}
use Rattle.schema_build_types.specs.declared.types.Type.{«Type» as Built}
use Rattle.schema_build_types.specs.declared.entity_type.ValidatorEntityTypeKind.{ValidatorEntityTypeKind}
use Rattle.schema_build_types.specs.declared.entity_type.ValidatorEntityTypeKind.TheVariants as built
use Rattle.schema_build_types.specs.Standing.{IsBuilt, AreBuilt}
use Rattle.schema_build_expand.specs.Expands.{Expands}
use Rattle.schema_build_expand.specs.Scope.{Scope}
use Rattle.schema_build_scope.specs.Parts.{IsTypeReady}
use Rattle.schema_build_hierarchy.specs.Declarations.{DeclaredEntity}

-- the attributes, the tags and the choices of an entity type
pub record KindMeaning : Type 0 where
  pub attributes : Attributes
  pub tags : Option PlainType
  pub choices : Option (List (List ℕ))

-- what a type of tags stands for, where there are tags
abbrev pub TagsExpand : Scope RawName → Option InternalName → Option («Type» RawName) → Option PlainType → Type 0
TagsExpand s ns None tags = tags ≡ None
TagsExpand s ns (Some ty) tags = (p : PlainType) × (tags ≡ Some p) × Expands RawName s ns ty p

-- what is declared of an entity type means this: the shape stands for its attributes, and choices stand as written
abbrev pub IsKindMeaning : Scope RawName → Option InternalName → EntityTypeKind RawName → KindMeaning → Type 0
IsKindMeaning s ns (written.Standard d) m =
    Expands RawName s ns d.shape.0 (Rec m.attributes) × TagsExpand s ns d.tags m.tags × (m.choices ≡ None)
IsKindMeaning s ns (written.Enum choices) m =
    (m.attributes ≡ no_more) × (m.tags ≡ None) × (m.choices ≡ Some (map (λ c. c.0) choices))

-- the type of tags that is built, where there are tags
abbrev pub AreTagsBuilt : Option PlainType → Option Built → Type 0
AreTagsBuilt None tags = tags ≡ None
AreTagsBuilt (Some p) tags = (t : Built) × (tags ≡ Some t) × IsBuilt p t

-- what is built stands for the meaning of an entity type with this mark: one that another schema declares is bare, and
-- attributes are closed
abbrev pub KindStandsFor : ValidatorEntityTypeKind → Bool → KindMeaning → Type 0
KindStandsFor (built.Standard attributes more tags) external m =
    (external ≡ false) × (more ≡ false) × AreBuilt m.attributes attributes × AreTagsBuilt m.tags tags
    × (m.choices ≡ None)
KindStandsFor (built.Enum choices) external m =
    (external ≡ false) × (m.attributes ≡ no_more) × (m.tags ≡ None) × (m.choices ≡ Some (map (λ c. c.0) choices))
KindStandsFor built.External external m =
    (external ≡ true) × (m.attributes ≡ no_more) × (m.tags ≡ None) × (m.choices ≡ None)

-- what is built stands for what the declaration means
abbrev pub IsKindBuilt : Scope RawName → DeclaredEntity → ValidatorEntityTypeKind → Type 0
IsKindBuilt s d kind =
    (m : KindMeaning) × IsKindMeaning s (name_of d.ns) d.ty.kind m × KindStandsFor kind d.ty.external m

module _ {G : named.Ghosts RawName} where
  -- each part of the type of tags can be expanded, where there are tags
  abbrev pub AreTagsReady : Fragment RawName G → ExtensionTable → List (Option Built) → Option Name
      → Option («Type» RawName) → Type 0
  AreTagsReady f table done ns None = Unit {0}
  AreTagsReady f table done ns (Some ty) = IsTypeReady f table done ns ty

  -- each part of the shape and of the type of tags can be expanded
  abbrev pub IsKindReady : Fragment RawName G → ExtensionTable → List (Option Built) → Option Name
      → EntityTypeKind RawName → Type 0
  IsKindReady f table done ns (written.Standard d) = IsTypeReady f table done ns d.shape.0
      × AreTagsReady f table done ns d.tags
  IsKindReady f table done ns (written.Enum choices) = Unit {0}

-- what is built for the type of tags, where there are tags
abbrev pub TagsBuilt : Scope RawName → Option InternalName → Option («Type» RawName) → Option Built → Type 0
TagsBuilt s ns tags found = (p : Option PlainType) × TagsExpand s ns tags p × AreTagsBuilt p found

-- what is built stands for what is declared of an entity type of this schema
abbrev pub IsKindOf : Scope RawName → Option InternalName → EntityTypeKind RawName → ValidatorEntityTypeKind → Type 0
IsKindOf s ns kind built = (m : KindMeaning) × IsKindMeaning s ns kind m × KindStandsFor built false m
