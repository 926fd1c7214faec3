-- A meaning whose names may be declared.
use Rattle.std.specs.Prelude.{◌≡◌, ℕ, true, false, List, codes, map, Option, None, Some}
use Rattle.std.specs.Cmp.Lexicographic.{slice_cmp}
use Rattle.std.specs.List.{AllByRecursion}
use Rattle.std.specs.List.Sorted.{IsStrictlySortedBy}
use Rattle.std.specs.Ordering.{ordering_then}
use Rattle.std.specs.declared.cmp.Ordering.{Ordering}
use Rattle.cedar_data.specs.Text.{text_cmp}
use Rattle.cedar_identifiers.specs.Names.{has_cedar}
use Rattle.cedar_identifiers.specs.Words.{is_id}
use Rattle.cedar_names.specs.CanonicalText.{basename}
use Rattle.cedar_names.specs.Meaning.{PlainType, Attributes, EntityMeaning, ActionMeaning, SchemaMeaning}
use Rattle.cedar_names.specs.Meaning as m
use Rattle.laws_written.specs.Printed.{IsProperPath}
use Rattle.laws_written.specs.PrintedDecls.{IsSome}

-- a name that has a component, and none that is reserved
abbrev pub IsOpenName : List (List ℕ) → Type 0
IsOpenName name = IsSome name × (has_cedar name ≡ false)

-- the type of the actions of a namespace
abbrev pub IsActionName : List (List ℕ) → Type 0
IsActionName ty = IsOpenName ty × (basename ty ≡ codes "Action")

-- actions by their types, and then by their ids
abbrev pub action_name_order : List (List ℕ) × List ℕ → List (List ℕ) × List ℕ → Ordering
action_name_order a b = ordering_then (slice_cmp text_cmp a.0 b.0) (text_cmp a.1 b.1)

-- The names rise, and none is reserved; the type of each action is the `Action` of a namespace.
pub record HasOpenNames (m : SchemaMeaning) : Type 0 where
  pub entities_rise : IsStrictlySortedBy (slice_cmp text_cmp) (map (λ e. e.name) m.entities)
  pub actions_rise : IsStrictlySortedBy action_name_order (map (λ a. (a.ty, a.id)) m.actions)
  pub entities : AllByRecursion (λ e. IsOpenName e.name) m.entities
  pub actions : AllByRecursion (λ a. IsActionName a.ty) m.actions

abbrev mutual
  -- each name in the type is made of words
  pub IsSpelledType : PlainType → Type 0
  IsSpelledType PlainType.Bool = Unit {0}
  IsSpelledType PlainType.Long = Unit {0}
  IsSpelledType PlainType.String = Unit {0}
  IsSpelledType (PlainType.Set t) = IsSpelledType t
  IsSpelledType (PlainType.Rec xs) = AreSpelledTypes xs
  IsSpelledType (PlainType.Entity name) = IsProperPath name
  IsSpelledType (PlainType.Ext name) = is_id name ≡ true

  pub AreSpelledTypes : Attributes → Type 0
  AreSpelledTypes m.no_more = Unit {0}
  AreSpelledTypes (m.attribute n r t xs) = IsSpelledType t × AreSpelledTypes xs

abbrev pub AreSpelledTags : Option PlainType → Type 0
AreSpelledTags None = Unit {0}
AreSpelledTags (Some t) = IsSpelledType t

-- an enum has a choice
abbrev pub HasChoice : Option (List (List ℕ)) → Type 0
HasChoice None = Unit {0}
HasChoice (Some choices) = IsSome choices

pub record IsSpelledEntity (e : EntityMeaning) : Type 0 where
  pub name : IsProperPath e.name
  pub ancestors : AllByRecursion IsProperPath e.ancestors
  pub attributes : AreSpelledTypes e.attributes
  pub tags : AreSpelledTags e.tags
  pub choices : HasChoice e.choices

pub record IsSpelledAction (a : ActionMeaning) : Type 0 where
  pub ty : IsProperPath a.ty
  pub ancestors : AllByRecursion (λ b. IsProperPath b.0) a.ancestors
  pub principals : AllByRecursion IsProperPath a.principals
  pub resources : AllByRecursion IsProperPath a.resources
  pub context : AreSpelledTypes a.context

-- Each name in the meaning is made of words, and each enum has a choice.
pub record IsOfWords (m : SchemaMeaning) : Type 0 where
  pub entities : AllByRecursion IsSpelledEntity m.entities
  pub actions : AllByRecursion IsSpelledAction m.actions
