-- What the meaning of a fragment without fault keeps, whether or not a name in it is captured.
use Rattle.std.specs.Prelude.{◌≡◌, ◌⊎◌, Bool, true, false, List, [], ◌∷◌, map, Contains, Option, Some, None, ⊤}
use Rattle.std.specs.List.{AllByRecursion}
use Rattle.std.specs.List.Sorted.{IsStrictlySortedBy}
use Rattle.cedar_data.specs.Text.{text_cmp}
use Rattle.cedar_names.specs.Meaning.{PlainType, Attributes, no_more, attribute, EntityMeaning, ActionMeaning}
use Rattle.cedar_names.specs.Meaning.{SchemaMeaning}
use Rattle.schema_inclusion_values.specs.Values.{Text, Name}
use Rattle.schema_inclusion_values.specs.Ids.{IsNoEmptyEnum}
use Rattle.schema_inclusion_values.specs.Admits.{name_order, action_order}

-- the names of the attributes
abbrev pub names_of : Attributes → List Text
names_of no_more = []
names_of (attribute n r t fs) = n ∷ names_of fs

-- the attributes of each record in it rise
abbrev mutual
  pub IsOrdered : PlainType → Type 0
  IsOrdered (PlainType.Set t) = IsOrdered t
  IsOrdered (PlainType.Rec fs) = IsStrictlySortedBy text_cmp (names_of fs) × AreOrdered fs
  IsOrdered _ = ⊤

  pub AreOrdered : Attributes → Type 0
  AreOrdered no_more = ⊤
  AreOrdered (attribute n r t fs) = IsOrdered t × AreOrdered fs

module _ (m : SchemaMeaning) where
  -- the name is that of a declared entity type
  abbrev pub IsDeclared : Name → Type 0
  IsDeclared name = Contains (map (λ e. e.name) m.entities) name

  -- each entity type in it is declared, or is the type of an action
  abbrev mutual
    pub IsKnown : PlainType → Type 0
    IsKnown (PlainType.Set t) = IsKnown t
    IsKnown (PlainType.Rec fs) = AreKnown fs
    IsKnown (PlainType.Entity name) = IsDeclared name ⊎ Contains (map (λ a. a.ty) m.actions) name
    IsKnown _ = ⊤

    pub AreKnown : Attributes → Type 0
    AreKnown no_more = ⊤
    AreKnown (attribute n r t fs) = IsKnown t × AreKnown fs

  -- the type of the tags, where there are tags, is in order and known
  abbrev pub AreTagsKnown : Option PlainType → Type 0
  AreTagsKnown None = ⊤
  AreTagsKnown (Some t) = IsOrdered t × IsKnown t

-- an external entity type has nothing, and an enum nothing but its choices
abbrev pub HasItsParts : Bool → Option (List Text) → EntityMeaning → Type 0
HasItsParts true choices e = (e.attributes ≡ no_more) × (e.tags ≡ None) × (choices ≡ None)
HasItsParts false None e = ⊤
HasItsParts false (Some cs) e = (e.attributes ≡ no_more) × (e.tags ≡ None) × (e.ancestors ≡ [])

-- what an entity type of the meaning keeps
pub record IsSettledEntity (m : SchemaMeaning) (e : EntityMeaning) : Type 0 where
  pub parts : HasItsParts e.is_external e.choices e
  pub choices : IsNoEmptyEnum e.choices
  pub ancestors : AllByRecursion (IsDeclared m) e.ancestors
  pub ordered : IsOrdered (PlainType.Rec e.attributes)
  pub attributes : AreKnown m e.attributes
  pub tags : AreTagsKnown m e.tags

-- what an action of the meaning keeps
pub record IsSettledAction (m : SchemaMeaning) (a : ActionMeaning) : Type 0 where
  pub ordered : IsOrdered (PlainType.Rec a.context)
  pub context : AreKnown m a.context

-- names rise, and every entity type and action keeps what one of a fragment without fault does
pub record IsSettled (m : SchemaMeaning) : Type 0 where
  pub entities_rise : IsStrictlySortedBy name_order (map (λ e. e.name) m.entities)
  pub actions_rise : IsStrictlySortedBy action_order (map (λ a. (a.ty, a.id)) m.actions)
  pub entities : AllByRecursion (IsSettledEntity m) m.entities
  pub actions : AllByRecursion (IsSettledAction m) m.actions
