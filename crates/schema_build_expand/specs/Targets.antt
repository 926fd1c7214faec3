-- What the search for an expansion knows: the target of a reference, and which common types are expanded.
use Rattle.std.specs.Prelude.{◌≡◌, ℕ, Bool, true, List, Option, Some, IsSome, slice_get}
use Rattle.std.specs.List.{AllZip}
use Rattle.cedar_data.specs.declared.loc.Loc.{Loc}
use Rattle.cedar_identifiers.specs.Names.{components_of}
use Rattle.cedar_identifiers.specs.declared.internal_name.InternalName.{InternalName}
use Rattle.cedar_identifiers.specs.declared.reference_type.ReferenceType.{ReferenceType}
use Rattle.cedar_identifiers.specs.declared.reference_type.ReferenceType.TheVariants.{Common, Entity}
use Rattle.cedar_names.specs.Meaning.{PlainType}
use Rattle.schema_json.specs.declared.types.Type.{«Type», Variant}
use Rattle.schema_json.specs.declared.types.TypeVariant.{TypeVariant}
use Rattle.schema_json.specs.declared.types.TypeOfAttribute.{TypeOfAttribute, out-TypeOfAttribute}
use Rattle.schema_json_walk.specs.Parts.{Part, type_reference, extension_type}
use Rattle.schema_build_types.specs.declared.types.Type as built
use Rattle.schema_build_types.specs.Standing.{IsBuilt}
use Rattle.schema_build_expand.specs.Scope.{Scope, DeclaredType, IsRanked, IsUndeclared, in_table, builtin}
use Rattle.schema_build_expand.specs.Expands.{Expands, LayerExpands}
use Rattle.schema_build_expand.specs.View.{reference_layer}
use Rattle.schema_build_expand.specs.declared.meanings.Target.{Target}
use Rattle.schema_build_expand.specs.declared.meanings.Target.TheVariants as target

module _ {N : Type 0} where
  -- a reference means the entity type of this name, the declared common type of this rank, or the builtin that this
  -- type is built for
  abbrev pub IsMeantTarget : Scope N → Option InternalName → ReferenceType → N → Target → Type 0
  IsMeantTarget s ns kind name (target.Entity e) = s.means ns kind name ≡ Some (components_of e.name, Entity)
  IsMeantTarget s ns kind name (target.Common k) = (full : List (List ℕ))
      × (s.means ns kind name ≡ Some (full, Common)) × IsRanked s full k
  IsMeantTarget s ns kind name (target.Builtin t) = (full : List (List ℕ)) × (p : PlainType)
      × (s.means ns kind name ≡ Some (full, Common)) × IsUndeclared s full × (builtin s full ≡ Some p) × IsBuilt p t

  -- the built type stands for what the type stands for
  abbrev pub ExpandsTo : Scope N → Option InternalName → «Type» N → built.«Type» → Type 0
  ExpandsTo s ns ty t = (p : PlainType) × Expands N s ns ty p × IsBuilt p t

  -- a type of this shape, at any place
  abbrev pub ShapeExpandsTo : Scope N → Option InternalName → TypeVariant N → built.«Type» → Type 0
  ShapeExpandsTo s ns shape t = (loc : Option Loc) → ExpandsTo s ns (Variant shape loc) t

  abbrev pub ReferenceExpandsTo : Scope N → Option InternalName → ReferenceType → N → built.«Type» → Type 0
  ReferenceExpandsTo s ns kind name t = (p : PlainType) × LayerExpands N s ns (reference_layer kind name) p
      × IsBuilt p t

  -- an attribute, with its name and whether it is required
  abbrev pub EntryExpandsTo : Scope N → Option InternalName
      → List ℕ × TypeOfAttribute N → List ℕ × (built.«Type» × Bool) → Type 0
  EntryExpandsTo s ns e t = (t.0 ≡ e.0) × (t.1.1 ≡ (out-TypeOfAttribute N e.1).required)
      × ExpandsTo s ns (out-TypeOfAttribute N e.1).ty t.1.0

  -- attributes, in order
  abbrev pub EntriesExpandTo : Scope N → Option InternalName
      → List (List ℕ × TypeOfAttribute N) → List (List ℕ × (built.«Type» × Bool)) → Type 0
  EntriesExpandTo s ns entries attrs = AllZip (EntryExpandsTo s ns) entries attrs

  -- what is kept of a rank is what its declaration stands for
  abbrev pub AreExpanded : Scope N → List (Option built.«Type») → Type 0
  AreExpanded s done = (k : ℕ) (t : built.«Type») → slice_get done k ≡ Some (Some t)
      → (d : DeclaredType N) × (slice_get s.commons k ≡ Some d) × ExpandsTo s d.place d.ty t

  -- the reference means something, and where that is declared it is expanded
  abbrev pub IsReferenceReady : Scope N → List (Option built.«Type») → Option InternalName → ReferenceType → N → Type 0
  IsReferenceReady s done ns kind name = IsSome (s.means ns kind name)
      × ((full : List (List ℕ)) (k : ℕ) → s.means ns kind name ≡ Some (full, Common) → IsRanked s full k
      → (t : built.«Type») × (slice_get done k ≡ Some (Some t)))

  -- a part that can be expanded: a reference that means something, expanded where that is declared, or an extension
  -- type of the table
  abbrev pub IsReady : Scope N → List (Option built.«Type») → Option InternalName → Part N → Type 0
  IsReady s done ns (type_reference kind name) = IsReferenceReady s done ns kind name
  IsReady s done ns (extension_type name) = in_table s name.id.text ≡ true
  IsReady s done ns _ = ⊥
