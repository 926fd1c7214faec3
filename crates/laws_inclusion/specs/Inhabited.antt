-- Meanings in which each type has a value.
use Rattle.std.specs.Prelude.{Option, Some, None, ⊤}
use Rattle.std.specs.List.{AllByRecursion}
use Rattle.cedar_names.specs.Meaning.{PlainType, Attributes, no_more, attribute, SchemaMeaning}
use Rattle.schema_inclusion_values.specs.Values.{Val, Has}
use Rattle.schema_inclusion_values.specs.Ids.{Fits}

-- P holds of the type and of each type in it
module _ (P : PlainType → Type 0) where
  abbrev mutual
    pub Throughout : PlainType → Type 0
    Throughout (PlainType.Set t) = P (PlainType.Set t) × Throughout t
    Throughout (PlainType.Rec fs) = P (PlainType.Rec fs) × ThroughoutFields fs
    Throughout t = P t

    pub ThroughoutFields : Attributes → Type 0
    ThroughoutFields no_more = ⊤
    ThroughoutFields (attribute n r t fs) = Throughout t × ThroughoutFields fs

-- the type has a value in the meaning
abbrev pub HasValue : SchemaMeaning → PlainType → Type 0
HasValue m t = (v : Val) × Has (Fits m) t v

abbrev pub HaveValues : SchemaMeaning → Option PlainType → Type 0
HaveValues m None = ⊤
HaveValues m (Some t) = Throughout (HasValue m) t

-- so do all types in it: those of attributes, of tags and of contexts
abbrev pub HasValues : SchemaMeaning → Type 0
HasValues m = AllByRecursion (λ e. Throughout (HasValue m)
    (PlainType.Rec e.attributes) × HaveValues m e.tags) m.entities
    × AllByRecursion (λ a. Throughout (HasValue m) (PlainType.Rec a.context)) m.actions
