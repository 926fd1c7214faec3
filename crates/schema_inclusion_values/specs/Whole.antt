-- What the meaning of a fragment without fault keeps.
use Rattle.std.specs.Prelude.{◌≡◌, List, [], ◌∷◌, Option, Some, None, ⊤}
use Rattle.std.specs.List.{AllByRecursion}
use Rattle.std.specs.declared.cmp.Ordering.{Ordering}
use Rattle.std.specs.declared.cmp.Ordering.TheVariants.{Less}
use Rattle.cedar_names.specs.Meaning.{PlainType, Attributes, no_more, attribute, EntityMeaning, ActionMeaning}
use Rattle.cedar_names.specs.Meaning.{SchemaMeaning}
use Rattle.schema_inclusion_values.specs.Values.{Text, Name}
use Rattle.schema_inclusion_values.specs.Formed.{Distinct}
use Rattle.schema_inclusion_values.specs.Ids.{IsNamed, IsNoEmptyEnum}
use Rattle.schema_inclusion_values.specs.Admits.{Action, name_order, action_order}

abbrev pub Rise : {K : Type 0} → (K → K → Ordering) → {X : Type 0} → (X → K) → List X → Type 0
Rise order key [] = ⊤
Rise order key (x ∷ xs) = AllByRecursion (λ y. order (key x) (key y) ≡ Less) xs × Rise order key xs

-- each entity type in it is declared, or is the type of an action
module _ (m : SchemaMeaning) where
  abbrev mutual
    pub NamesAll : PlainType → Type 0
    NamesAll (PlainType.Entity name) = IsNamed m name
    NamesAll (PlainType.Set t) = NamesAll t
    NamesAll (PlainType.Rec fs) = NamesEach fs
    NamesAll _ = ⊤

    pub NamesEach : Attributes → Type 0
    NamesEach no_more = ⊤
    NamesEach (attribute n r t fs) = NamesAll t × NamesEach fs

  abbrev pub IsWholeType : PlainType → Type 0
  IsWholeType t = Distinct t × NamesAll t

  abbrev pub IsWholeTag : Option PlainType → Type 0
  IsWholeTag None = ⊤
  IsWholeTag (Some t) = IsWholeType t

-- an enum has nothing but its choices
abbrev pub HasParts : Option (List Text) → EntityMeaning → Type 0
HasParts None e = ⊤
HasParts (Some choices) e = (e.attributes ≡ no_more) × (e.tags ≡ None) × (e.ancestors ≡ [])

pub record IsWholeEntity (m : SchemaMeaning) (e : EntityMeaning) : Type 0 where
  pub parts : HasParts e.choices e
  pub choices : IsNoEmptyEnum e.choices
  pub ancestors : AllByRecursion (IsNamed m) e.ancestors
  pub attributes : IsWholeType m (PlainType.Rec e.attributes)
  pub tags : IsWholeTag m e.tags

abbrev pub IsWholeAction : SchemaMeaning → ActionMeaning → Type 0
IsWholeAction m a = IsWholeType m (PlainType.Rec a.context)

abbrev pub entity_name : EntityMeaning → Name
entity_name e = e.name

-- the type and the id of an action
abbrev pub action_name : ActionMeaning → Action
action_name a = (a.ty, a.id)

pub record IsWhole (m : SchemaMeaning) : Type 0 where
  pub entities_rise : Rise name_order entity_name m.entities
  pub actions_rise : Rise action_order action_name m.actions
  pub entities : AllByRecursion (IsWholeEntity m) m.entities
  pub actions : AllByRecursion (IsWholeAction m) m.actions
