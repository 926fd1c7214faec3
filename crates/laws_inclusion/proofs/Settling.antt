-- What a well-formed fragment without a build fault means is settled.
use Rattle.std.proofs.Common.{ℕ, Bool, true, false, List, [], ◌∷◌, Contains, Option, Some, None, inl, inr}
use Rattle.std.specs.List.{AllByRecursion}
use Rattle.cedar_identifiers.specs.declared.name_text.NameText as named
use Rattle.cedar_identifiers.specs.declared.raw_name.RawName.{RawName}
use Rattle.cedar_names.specs.Meaning.{PlainType, Attributes, no_more, attribute, EntityMeaning, ActionMeaning}
use Rattle.cedar_names.specs.Meaning.{SchemaMeaning}
use Rattle.cedar_names.specs.declared.extension_table.ExtensionTable.{ExtensionTable}
use Rattle.schema_json.specs.declared.fragment.Fragment.{Fragment}
use Rattle.laws_translate.specs.MeantNames.{HasChoice}
use Rattle.schema_build_checks.specs.Rows.{Never}
use Rattle.schema_build_parts.specs.BuildFaults.{BuildFault}
use Rattle.schema_build.specs.Meaning.{FragmentMeaning}
use Rattle.laws_build.specs.Closure.Closed.{IsClosedEntity, IsClosedAction}
use Rattle.laws_build.specs.Closure.Kinds as kinds
use Rattle.laws_build.specs.Closure.Known.{IsKnownType, AreKnownTypes, AreKnownTags}
use Rattle.laws_build.specs.Closure.Ordered.{meant_names, IsOrderedType, AreOrderedTypes}
use Rattle.laws_build.specs.Closure.WellFormed.{IsWellFormed}
use Rattle.laws_build.proofs.Closure.Bare.{none_unsupported}
use Rattle.laws_build.proofs.Closure.Entries.{has_choice, entity_closed, action_closed}
use Rattle.laws_build.proofs.Closure.Filled.{formed_too, formed_filled}
use Rattle.laws_build.proofs.Closure.Lists.{all_have}
use Rattle.laws_build.proofs.Closure.Open.{names_open}
use Rattle.laws_build.proofs.Closure.Rows.{no_fault}
use Rattle.laws_build.proofs.Closure.Undeclared.{none_used}
use Rattle.laws_build.proofs.Closure.Undefined.{none_untyped}
use Rattle.schema_inclusion_values.specs.Ids.{IsNoEmptyEnum}
use Rattle.schema_inclusion_values.specs.Settled.{names_of, IsOrdered, AreOrdered, IsKnown, AreKnown, AreTagsKnown}
use Rattle.schema_inclusion_values.specs.Settled.{HasItsParts, IsSettledEntity, IsSettledAction, IsSettled}
use Rattle.std.proofs.Common.{◌≡◌, refl, ap, subst, sym}
use Rattle.std.specs.List.Sorted.{IsStrictlySortedBy}
use Rattle.cedar_data.specs.Text.{text_cmp}

same_names : (fs : Attributes) → meant_names fs ≡ names_of fs
same_names no_more = refl
same_names (attribute n r t fs) = ap (λ ns. n ∷ ns) (same_names fs)

mutual
  ordered : (t : PlainType) → IsOrderedType t → IsOrdered t
  ordered PlainType.Bool h = tt
  ordered PlainType.Long h = tt
  ordered PlainType.String h = tt
  ordered (PlainType.Ext n) h = tt
  ordered (PlainType.Entity n) h = tt
  ordered (PlainType.Set t) h = ordered t h
  ordered (PlainType.Rec fs) h = (subst (IsStrictlySortedBy text_cmp) (same_names fs) h.0, all_ordered fs h.1)

  all_ordered : (fs : Attributes) → AreOrderedTypes fs → AreOrdered fs
  all_ordered no_more h = tt
  all_ordered (attribute n r t fs) h = (ordered t h.0, all_ordered fs h.1)

module _ (table : ExtensionTable) (m : SchemaMeaning) where
  mutual
    known : (t : PlainType) → IsKnownType table m t → IsKnown m t
    known PlainType.Bool h = tt
    known PlainType.Long h = tt
    known PlainType.String h = tt
    known (PlainType.Ext n) h = tt
    known (PlainType.Entity n) h = h
    known (PlainType.Set t) h = known t h
    known (PlainType.Rec fs) h = all_known fs h

    all_known : (fs : Attributes) → AreKnownTypes table m fs → AreKnown m fs
    all_known no_more h = tt
    all_known (attribute n r t fs) h = (known t h.0, all_known fs h.1)

  tags_known : (t : Option PlainType) → AreKnownTags table m t → AreTagsKnown m t
  tags_known None h = tt
  tags_known (Some t) h = (ordered t h.0, known t h.1)

  its_parts : (e : EntityMeaning) (external : Bool) (choices : Option (List (List ℕ)))
      → kinds.HasItsParts external choices e → HasItsParts external choices e
  its_parts e true choices h = h
  its_parts e false None h = tt
  its_parts e false (Some cs) h = h

  no_empty_enum : (choices : Option (List (List ℕ))) → HasChoice choices → IsNoEmptyEnum choices
  no_empty_enum None h = tt
  no_empty_enum (Some []) h = h
  no_empty_enum (Some (c ∷ cs)) h = tt

  settled_entity : (e : EntityMeaning) → IsClosedEntity table m e → HasChoice e.choices → IsSettledEntity m e
  settled_entity e h k = record {
    parts = its_parts e e.is_external e.choices h.parts;
    choices = no_empty_enum e.choices k;
    ancestors = h.ancestors;
    ordered = ordered (PlainType.Rec e.attributes) h.ordered;
    attributes = all_known e.attributes h.attributes;
    tags = tags_known e.tags h.tags;
  }

  settled_action : (a : ActionMeaning) → IsClosedAction table m a → IsSettledAction m a
  settled_action a h = record {
    ordered = ordered (PlainType.Rec a.context) h.ordered;
    context = all_known a.context h.context;
  }

module _ {G : named.Ghosts RawName} (f : Fragment RawName G) (table : ExtensionTable) (m : SchemaMeaning) where
  pub settled : IsWellFormed f → FragmentMeaning f table m → Never (BuildFault f table) → IsSettled m
  settled formed mean never =
      let rows = no_fault f table never in
      let is_formed = formed_too f formed in
      let bare = none_unsupported f rows.features in
      let used = none_used f table m mean rows.undeclared in
      let filled = formed_filled f formed table m mean (none_untyped f table rows.undefined) in
      let open_names = names_open f table m mean in
      record {
        entities_rise = open_names.entities_rise;
        actions_rise = open_names.actions_rise;
        entities = all_have (IsSettledEntity m) m.entities
            (λ e c. settled_entity table m e (entity_closed f table m mean is_formed bare used e c)
            (has_choice f table m mean is_formed bare used e c));
        actions = all_have (IsSettledAction m) m.actions
            (λ a c. settled_action table m a (action_closed f table m mean is_formed bare used a c (filled a c)));
      }
