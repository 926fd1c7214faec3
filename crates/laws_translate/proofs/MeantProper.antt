-- What is written of a meaning whose names are made of words may be printed.
use Rattle.std.proofs.Common.{ℕ, Bool, true, false, cond, List, [], ◌∷◌, ◌++◌, map, filter, Option, Some, None, refl}
use Rattle.std.specs.List.{AllByRecursion}
use Rattle.std.specs.List.Sorted.{IsStrictlySortedBy}
use Rattle.cedar_data.proofs.Every.{All-append}
use Rattle.cedar_names.specs.CanonicalText.{basename, namespace, namespaces}
use Rattle.cedar_names.specs.Meaning.{PlainType, Attributes, EntityMeaning, ActionMeaning, SchemaMeaning}
use Rattle.cedar_names.specs.Meaning as m
use Rattle.laws_written.specs.Meant.{type_of_meaning, attributes_of_meaning, tags_of_meaning, entity_as}
use Rattle.laws_written.specs.Meant.{ref_of_meaning, members_of_meaning, action_as, entity_of_meaning}
use Rattle.laws_written.specs.Meant.{action_of_meaning, name_or_none, group_of_meaning, groups_of_meaning}
use Rattle.laws_written.specs.Printed.{IsProperPath, IsProperType, AreProperAttributes, AreProperNotes}
use Rattle.laws_written.specs.PrintedDecls.{IsProperWord, IsProperOptional, IsProperRef, IsProperTags}
use Rattle.laws_written.specs.PrintedDecls.{AreProperMembers, IsProperDecl, IsProperDeclared, IsProperGroup}
use Rattle.laws_translate.specs.MeantNames.{IsSpelledType, AreSpelledTypes, AreSpelledTags, HasChoice, IsSpelledEntity}
use Rattle.laws_translate.specs.MeantNames.{IsSpelledAction, IsOfWords}
use Rattle.laws_translate.proofs.MeantSayable.{all_ordered}

abbrev Name : Type 0
Name = List (List ℕ)

no_notes : AreProperNotes []
unfolding IsStrictlySortedBy
no_notes = tt

mutual
  type_proper : (t : PlainType) → IsSpelledType t → IsProperType (type_of_meaning t)
  type_proper PlainType.Bool h = (refl, refl)
  type_proper PlainType.Long h = (refl, refl)
  type_proper PlainType.String h = (refl, refl)
  type_proper (PlainType.Set t) h = type_proper t h
  type_proper (PlainType.Rec xs) h = attributes_proper xs h
  type_proper (PlainType.Entity name) h = h
  type_proper (PlainType.Ext name) h = (refl, h)

  attributes_proper : (xs : Attributes) → AreSpelledTypes xs → AreProperAttributes (attributes_of_meaning xs)
  attributes_proper m.no_more h = tt
  attributes_proper (m.attribute n r t xs) h = (no_notes, type_proper t h.0, attributes_proper xs h.1)

tags_proper : (t : Option PlainType) → AreSpelledTags t → IsProperTags (tags_of_meaning t)
tags_proper None h = tt
tags_proper (Some t) h = type_proper t h

base_proper : (n : Name) → IsProperPath n → IsProperWord (basename n)
base_proper [] h = absurd h
base_proper (c ∷ []) h = h
base_proper (c ∷ d ∷ ds) h = base_proper (d ∷ ds) h.1

-- a namespace is made of words, or has no name
abbrev IsNamespace : Name → Type 0
IsNamespace n = IsProperOptional (name_or_none n)

space_proper : (n : Name) → IsProperPath n → IsNamespace (namespace n)
space_proper [] h = absurd h
space_proper (c ∷ []) h = tt
space_proper (c ∷ d ∷ []) h = h.0
space_proper (c ∷ d ∷ e ∷ es) h = (h.0, space_proper (d ∷ e ∷ es) h.1)

entity_proper : (x : Bool) (choices : Option (List (List ℕ))) (e : EntityMeaning) → HasChoice choices
    → IsSpelledEntity e → IsProperDecl (entity_as x choices e)
entity_proper true choices e c h = (tt, (base_proper e.name h.name, tt), h.ancestors)
entity_proper false None e c h = (
  tt,
  (base_proper e.name h.name, tt),
  h.ancestors,
  attributes_proper e.attributes h.attributes,
  tags_proper e.tags h.tags,
)
entity_proper false (Some cs) e c h = (tt, (base_proper e.name h.name, tt), c)

refs_proper : (as' : List (Name × List ℕ)) → AllByRecursion (λ b. IsProperPath b.0) as'
    → AllByRecursion IsProperRef (map ref_of_meaning as')
refs_proper [] h = tt
refs_proper (a ∷ as') h = (h.0, refs_proper as' h.1)

members_proper : (ps rs : List Name) (context : Attributes) → AllByRecursion IsProperPath ps
    → AllByRecursion IsProperPath rs → AreSpelledTypes context → AreProperMembers (members_of_meaning ps rs context)
members_proper [] rs context h k c = tt
members_proper (p ∷ ps) [] context h k c = tt
members_proper (p ∷ ps) (r ∷ rs) context h k c = (tt, (h, (k, (attributes_proper context c, tt))))

action_proper : (x : Bool) (a : ActionMeaning) → IsSpelledAction a → IsProperDecl (action_as x a)
action_proper true a h = (tt, refs_proper a.ancestors h.ancestors)
action_proper false a h = (
  tt,
  refs_proper a.ancestors h.ancestors,
  members_proper a.principals a.resources a.context h.principals h.resources h.context,
)

entities_proper : (test : EntityMeaning → Bool) (es : List EntityMeaning) → AllByRecursion IsSpelledEntity es
    → AllByRecursion IsProperDeclared (map entity_of_meaning (filter test es))
entities_proper test [] h = tt
entities_proper test (e ∷ es) h = by (test e) (entities_proper test es h.1)
  where
    by : (b : Bool) → AllByRecursion IsProperDeclared (map entity_of_meaning (filter test es))
        → AllByRecursion IsProperDeclared (map entity_of_meaning (cond b (e ∷ filter test es) (filter test es)))
    by true r = ((no_notes, entity_proper e.is_external e.choices e h.0.choices h.0), r)
    by false r = r

actions_proper : (test : ActionMeaning → Bool) (es : List ActionMeaning) → AllByRecursion IsSpelledAction es
    → AllByRecursion IsProperDeclared (map action_of_meaning (filter test es))
actions_proper test [] h = tt
actions_proper test (e ∷ es) h = by (test e) (actions_proper test es h.1)
  where
    by : (b : Bool) → AllByRecursion IsProperDeclared (map action_of_meaning (filter test es))
        → AllByRecursion IsProperDeclared (map action_of_meaning (cond b (e ∷ filter test es) (filter test es)))
    by true r = ((no_notes, action_proper e.is_external e h.0), r)
    by false r = r

entity_spaces : (es : List EntityMeaning) → AllByRecursion IsSpelledEntity es
    → AllByRecursion IsNamespace (map (λ e. namespace e.name) es)
entity_spaces [] h = tt
entity_spaces (e ∷ es) h = (space_proper e.name h.0.name, entity_spaces es h.1)

action_spaces : (es : List ActionMeaning) → AllByRecursion IsSpelledAction es
    → AllByRecursion IsNamespace (map (λ a. namespace a.ty) es)
action_spaces [] h = tt
action_spaces (e ∷ es) h = (space_proper e.ty h.0.ty, action_spaces es h.1)

groups_proper : (m : SchemaMeaning) → IsOfWords m → (ns : List Name) → AllByRecursion IsNamespace ns
    → AllByRecursion IsProperGroup (map (group_of_meaning m) ns)
groups_proper m h [] k = tt
groups_proper m h (n ∷ ns) k = (
  (
    no_notes,
    k.0,
    All-append IsProperDeclared _ _ (entities_proper _ m.entities h.entities)
        (actions_proper _ m.actions h.actions),
  ),
  groups_proper m h ns k.1,
)

pub meaning_proper : (m : SchemaMeaning) → IsOfWords m → AllByRecursion IsProperGroup (groups_of_meaning m)
meaning_proper m h =
    groups_proper m h (namespaces m)
    (all_ordered IsNamespace (map (λ e. namespace e.name) m.entities ++ map (λ a. namespace a.ty) m.actions)
    (All-append IsNamespace (map (λ e. namespace e.name) m.entities) (map (λ a. namespace a.ty) m.actions)
    (entity_spaces m.entities h.entities) (action_spaces m.actions h.actions)))
