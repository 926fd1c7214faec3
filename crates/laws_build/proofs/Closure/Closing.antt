-- What a formed fragment without a build fault means is closed, where it is not half filled.
use Rattle.std.proofs.Common.{ℕ, Bool, true, false, List, Contains, Option, Some, None, inl, inr}
use Rattle.std.specs.List.{AllByRecursion}
use Rattle.cedar_data.proofs.Lists.{contains_map}
use Rattle.cedar_identifiers.specs.declared.name_text.NameText as named
use Rattle.cedar_identifiers.specs.declared.raw_name.RawName.{RawName}
use Rattle.cedar_names.specs.Meaning.{PlainType, EntityMeaning, ActionMeaning, SchemaMeaning}
use Rattle.cedar_names.specs.declared.extension_table.ExtensionTable.{ExtensionTable}
use Rattle.schema_json.specs.declared.fragment.Fragment.{Fragment}
use Rattle.laws_written.specs.Printed.{IsProperPath}
use Rattle.laws_translate.specs.MeantNames.{AreSpelledTags, HasChoice, IsSpelledEntity, IsSpelledAction, IsOfWords}
use Rattle.schema_build_text.specs.Captured.{IsUncaptured}
use Rattle.schema_build_checks.specs.Rows.{Never}
use Rattle.schema_build_parts.specs.BuildFaults.{BuildFault}
use Rattle.schema_build.specs.Meaning.{FragmentMeaning}
use Rattle.laws_build.specs.Closure.Known.{meant_entities, meant_actions, IsKnownName, AreKnownTags}
use Rattle.laws_build.specs.Closure.Closed.{IsClosedEntity, IsClosedAction, IsClosed}
use Rattle.laws_build.specs.Closure.HalfFilled.{IsHalfFilled}
use Rattle.laws_build.specs.Closure.Kinds.{HasBothOrNeither, AppliesWhereOwn}
use Rattle.laws_build.specs.Closure.Formed.{IsFormed}
use Rattle.laws_build.specs.Closure.WellFormed.{IsWellFormed}
use Rattle.laws_build.proofs.Closure.Above.{ancestors_closed}
use Rattle.laws_build.proofs.Closure.Apart.{names_apart}
use Rattle.laws_build.proofs.Closure.Bare.{none_unsupported}
use Rattle.laws_build.proofs.Closure.Declared.{type_named}
use Rattle.laws_build.proofs.Closure.Entries.{has_choice, entity_closed, action_closed}
use Rattle.laws_build.proofs.Closure.Filled.{IsFilled, all_filled, none_half, neither_there, formed_too}
use Rattle.laws_build.proofs.Closure.Filled.{formed_filled}
use Rattle.laws_build.proofs.Closure.Known.{spelled, all_spelled}
use Rattle.laws_build.proofs.Closure.Lists.{each_has, all_have}
use Rattle.laws_build.proofs.Closure.Open.{names_open, known_proper}
use Rattle.laws_build.proofs.Closure.Rows.{HasNoFault, no_fault}
use Rattle.laws_build.proofs.Closure.Undeclared.{none_used}
use Rattle.laws_build.proofs.Closure.Undefined.{none_untyped}

-- a meaning whose known names are made of words is made of words, where its entries are closed
module _ (table : ExtensionTable) (m : SchemaMeaning)
    (proper : (n : List (List ℕ)) → IsKnownName m n → IsProperPath n) where
  all_proper : (names : List (List (List ℕ))) → AllByRecursion (λ n. Contains (meant_entities m) n) names
      → AllByRecursion IsProperPath names
  all_proper names h = all_have IsProperPath names
      (λ n c. proper n (inl (each_has (λ n. Contains (meant_entities m) n) names n h c)))

  tags_spelled : (t : Option PlainType) → AreKnownTags table m t → AreSpelledTags t
  tags_spelled None h = tt
  tags_spelled (Some t) h = spelled table m proper t h.1

  entity_spelled : (e : EntityMeaning) → Contains m.entities e → IsClosedEntity table m e → HasChoice e.choices
      → IsSpelledEntity e
  entity_spelled e c h k = record {
    name = proper e.name (inl (contains_map (λ (e : EntityMeaning). e.name) m.entities e c));
    ancestors = all_proper e.ancestors h.ancestors;
    attributes = all_spelled table m proper e.attributes h.attributes;
    tags = tags_spelled e.tags h.tags;
    choices = k;
  }

  action_spelled : (a : ActionMeaning) → Contains m.actions a → IsClosedAction table m a → IsSpelledAction a
  action_spelled a c h = record {
    ty = proper a.ty (inr (contains_map (λ (a : ActionMeaning). a.ty) m.actions a c));
    ancestors = all_have (λ b. IsProperPath b.0) a.ancestors
        (λ b cb.
        let named = each_has (λ n. Contains (meant_actions m) n) a.ancestors b h.ancestors cb in
        proper b.0 (inr (type_named m b named)));
    principals = all_proper a.principals h.principals;
    resources = all_proper a.resources h.resources;
    context = all_spelled table m proper a.context h.context;
  }

module _ {G : named.Ghosts RawName} (f : Fragment RawName G) (table : ExtensionTable) (m : SchemaMeaning)
    (is_formed : IsFormed f) (mean : FragmentMeaning f table m) (rows : HasNoFault f table) (filled : IsFilled m) where
  abbrev entity_is : (e : EntityMeaning) → Contains m.entities e → IsClosedEntity table m e
  entity_is = entity_closed f table m mean is_formed (none_unsupported f rows.features)
      (none_used f table m mean rows.undeclared)

  abbrev action_is : (a : ActionMeaning) → Contains m.actions a → IsClosedAction table m a
  action_is a c = action_closed f table m mean is_formed (none_unsupported f rows.features)
      (none_used f table m mean rows.undeclared) a c (filled a c)

  abbrev choice_is : (e : EntityMeaning) → Contains m.entities e → HasChoice e.choices
  choice_is = has_choice f table m mean is_formed (none_unsupported f rows.features)
      (none_used f table m mean rows.undeclared)

  made_of_words : IsOfWords m
  made_of_words = record {
    entities = all_have IsSpelledEntity m.entities
        (λ e c. entity_spelled table m (known_proper f table m mean) e c (entity_is e c) (choice_is e c));
    actions = all_have IsSpelledAction m.actions
        (λ a c. action_spelled table m (known_proper f table m mean) a c (action_is a c));
  }

  pub closed_by_rows : IsUncaptured m → IsClosed table m
  closed_by_rows uncaptured = record {
    open_names = names_open f table m mean;
    words = made_of_words;
    apart = names_apart f table m mean rows.action_type rows.types rows.actions;
    entities = all_have (IsClosedEntity table m) m.entities entity_is;
    actions = all_have (IsClosedAction table m) m.actions action_is;
    ancestors = ancestors_closed f table m mean rows.cycle rows.enums;
    uncaptured = uncaptured;
  }

module _ {G : named.Ghosts RawName} (f : Fragment RawName G) (table : ExtensionTable) (m : SchemaMeaning) where
  pub formed_closed : IsFormed f → FragmentMeaning f table m → Never (BuildFault f table) → IsUncaptured m
      → (IsHalfFilled m → ⊥) → IsClosed table m
  formed_closed is_formed mean never uncaptured none =
      closed_by_rows f table m is_formed mean (no_fault f table never) (all_filled m none) uncaptured

  -- what a well-formed fragment means is not half filled
  pub closed : IsWellFormed f → FragmentMeaning f table m → Never (BuildFault f table) → IsUncaptured m
      → IsClosed table m
  closed formed mean never uncaptured =
      let rows = no_fault f table never in
      closed_by_rows f table m (formed_too f formed) mean rows
      (formed_filled f formed table m mean (none_untyped f table rows.undefined)) uncaptured

-- an action that applies to what closed actions do applies to both or to neither
own_filled : (external : Bool) (a : ActionMeaning) → AppliesWhereOwn external a
    → HasBothOrNeither a.principals a.resources a.context
own_filled true a (ps, rs, context) = neither_there a.principals a.resources a.context ps rs context
own_filled false a h = h

-- no closed meaning is half filled
pub closed_filled : (table : ExtensionTable) (m : SchemaMeaning) → IsClosed table m → IsHalfFilled m → ⊥
closed_filled table m closed = none_half m
    (λ a c. own_filled a.is_external a (each_has (IsClosedAction table m) m.actions a closed.actions c).applies)
