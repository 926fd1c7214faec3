-- The actions that are put together say what is meant.
use Rattle.std.proofs.Common.{◌≡◌, ℕ, false, List, [], ◌∷◌, Vec, Option, Some, None, map, refl, sym, ◌∙◌, subst}
use Rattle.std.specs.Prelude.{zip}
use Rattle.std.specs.declared.alloc.Global.{Global}
use Rattle.std.specs.List.{AllZip}
use Rattle.std.specs.List.Sorted.{IsStrictlySortedBy}
use Rattle.std.specs.Map.{keys_of}
use Rattle.cedar_data.proofs.Lists.{map-map}
use Rattle.cedar_identifiers.specs.declared.name.Name.{Name}
use Rattle.cedar_identifiers.specs.declared.name_text.NameText as named
use Rattle.cedar_identifiers.specs.declared.raw_name.RawName.{RawName}
use Rattle.cedar_names.specs.Definitions.{action_of}
use Rattle.cedar_names.specs.Orders.{uids_in_order}
use Rattle.cedar_names.specs.Meaning.{Rec, ActionMeaning}
use Rattle.cedar_names.specs.declared.entity_uid.EntityUID.{EntityUID}
use Rattle.cedar_names.specs.declared.extension_table.ExtensionTable.{ExtensionTable}
use Rattle.schema_json.specs.declared.action_type.ActionType.{ActionType}
use Rattle.schema_json.specs.declared.action_type.ApplySpec.{ApplySpec}
use Rattle.schema_json.specs.declared.fragment.Fragment.{Fragment}
use Rattle.schema_resolve_definitions.specs.Tests.{Tests}
use Rattle.schema_build_types.specs.Content.{action_content, actions_cmp}
use Rattle.schema_build_types.specs.Content as said
use Rattle.schema_build_types.specs.Standing.{attributes_as_built, action_as_built}
use Rattle.schema_build_types.specs.declared.action.ValidatorActionKind.{ValidatorActionKind}
use Rattle.schema_build_types.specs.declared.action.ValidatorActionKind.TheVariants as built
use Rattle.schema_build_types.proofs.Contents.{built_says}
use Rattle.schema_build_expand.specs.Scope.{Scope}
use Rattle.schema_build_checks.specs.DeclaredAt.{actions_at_in_order}
use Rattle.schema_build_scope.specs.FragmentScope.{fragment_scope}
use Rattle.schema_build_hierarchy.specs.Ancestors.{AreAncestorRows, IsAncestorRow}
use Rattle.schema_build_hierarchy.specs.Declarations.{action_key, declared_actions}
use Rattle.schema_build_hierarchy.specs.Entries.{AreActions, action_of_entry}
use Rattle.schema_build_hierarchy.specs.Parents.{IsActionAncestor}
use Rattle.schema_build_hierarchy.specs.declared.entries.Entry.{Entry}
use Rattle.schema_build_hierarchy.proofs.Ordered.{sorted_seen, sorted_back}
use Rattle.schema_build_items.specs.ActionKinds.{AreJust, ApplyMeaning, ActionKindStandsFor, IsActionKindBuilt}
use Rattle.schema_build_items.specs.ActionKinds.{IsApplyMeaning, as_components, components_cmp, tests_alone}
use Rattle.schema_build.specs.Assembly.{AreAt, AreAllAt, HoldActions, AreActionsBuilt, action_of_parts}
use Rattle.schema_build.specs.Meaning.{IsActionMeaning}
use Rattle.schema_build.proofs.InOrder.{rising_names, rising_actions}
use Rattle.schema_build.proofs.Orders.{actions_total, action_keys_rise}
use Rattle.schema_build.proofs.Placed.{seen_at, are_just}
use Rattle.schema_build.proofs.Zipped.{rows_zip, joined, unmapped}

abbrev ActionEntry : named.Ghosts RawName → Type 0
ActionEntry G = Entry EntityUID (ActionType RawName G)

module _ {G : named.Ghosts RawName} where
  -- what is put together for a declaration with a meaning
  abbrev meant_by : ActionEntry G → List EntityUID → ApplyMeaning → ActionMeaning
  meant_by e ancestors m = record {
    ty = (action_of e.name).0;
    id = (action_of e.name).1;
    is_external = e.ty.now.external;
    ancestors = map action_of ancestors;
    principals = m.principals;
    resources = m.resources;
    context = m.context;
  }

  -- it says what is meant
  says : (e : ActionEntry G) (ancestors : List EntityUID) (m : ApplyMeaning) (kind : ValidatorActionKind)
      → IsStrictlySortedBy actions_cmp (map action_of ancestors) → IsStrictlySortedBy components_cmp m.principals
      → IsStrictlySortedBy components_cmp m.resources → ActionKindStandsFor kind e.ty.now.external m
      → action_content (action_of_parts ((e, ancestors), kind)) ≡ action_as_built (meant_by e ancestors m)
  says e ancestors m (built.Defined principals resources context) up first second (own, these, those, in_context) =
      λ i. record {
        ty = (action_of e.name).0;
        id = (action_of e.name).1;
        is_external = sym own i;
        ancestors = rising_actions ancestors up i;
        principals = (rising_names (as_components principals)
            (subst (IsStrictlySortedBy components_cmp) (sym these) first) ∙ these) i;
        resources = (rising_names (as_components resources)
            (subst (IsStrictlySortedBy components_cmp) (sym those) second)
            ∙ those) i;
        context = built_says (Rec m.context) context in_context i;
      }
  says e ancestors m built.External up first second (other, none, neither, nothing) = λ i. record {
    ty = (action_of e.name).0;
    id = (action_of e.name).1;
    is_external = sym other i;
    ancestors = rising_actions ancestors up i;
    principals = sym none i;
    resources = sym neither i;
    context = said.Rec (attributes_as_built (sym nothing i)) false;
  }

none_rise : (xs : List (List (List ℕ))) → xs ≡ [] → IsStrictlySortedBy components_cmp xs
unfolding IsStrictlySortedBy
none_rise xs none = subst (IsStrictlySortedBy components_cmp) (sym none) tt

-- the principals and the resources that are meant rise
both_rise : (t : Tests) (s : Scope RawName) (ns : Option Name) (applies : Option (ApplySpec RawName)) (m : ApplyMeaning)
    → IsApplyMeaning t s ns applies m
    → IsStrictlySortedBy components_cmp m.principals × IsStrictlySortedBy components_cmp m.resources
both_rise t s ns None m is = (none_rise m.principals is.0, none_rise m.resources is.1)
both_rise t s ns (Some d) m is = (is.0.rising, is.1.rising)

module _ {G : named.Ghosts RawName} (f : Fragment RawName G) (table : ExtensionTable) where
  -- the actions are just the ancestors of the declaration
  abbrev HasAncestors : ActionEntry G → List EntityUID → Type 0
  HasAncestors e ancestors = AreJust actions_cmp
      (IsActionAncestor (tests_alone f table) (declared_actions f) (action_key (action_of_entry e)))
      (map action_of ancestors)

  all_say : (es : List (ActionEntry G)) (ancestors : List (List EntityUID)) (kinds : List ValidatorActionKind)
      → AllZip HasAncestors es ancestors
      → AllZip (IsActionKindBuilt (tests_alone f table) (fragment_scope f table)) (map action_of_entry es) kinds
      → (ms : List ActionMeaning) × AllZip (IsActionMeaning f table) (map action_of_entry es) ms
      × (map action_content (map action_of_parts (zip (zip es ancestors) kinds)) ≡ map action_as_built ms)
      × (keys_of (map action_of_parts (zip (zip es ancestors) kinds)) ≡ map (λ e. e.name) es)
  all_say [] [] [] above are = ([], tt, refl, refl)
  all_say [] [] (k ∷ kinds) above are = absurd are
  all_say [] (a ∷ ancestors) kinds above are = absurd above
  all_say (e ∷ es) [] kinds above are = absurd above
  all_say (e ∷ es) (a ∷ ancestors) [] above are = absurd are
  all_say (e ∷ es) (a ∷ ancestors) (k ∷ kinds) above are =
      let (ms, mean, say, keyed) = all_say es ancestors kinds above.1 are.1 in
      let (m, is, stands) = are.0 in
      let rise = both_rise (tests_alone f table) (fragment_scope f table) e.ns.now e.ty.now.applies_to m is in (
        meant_by e a m ∷ ms,
        (record { key = refl; is_external = refl; ancestors = above.0; applies = is }, mean),
        λ i. says e a m k above.0.rising rise.0 rise.1 stands i ∷ say i,
        λ i. e.name ∷ keyed i,
      )

  -- the actions at the places of the rows are the ancestors
  ancestors_are : (es : List (ActionEntry G)) (rows : List (Vec ℕ Global)) (ancestors : List (List EntityUID))
      → AreActions (declared_actions f) es
      → AreAncestorRows (IsActionAncestor (tests_alone f table) (declared_actions f))
      (map (λ e. action_key (action_of_entry e)) es) rows
      → AreAllAt (map (λ e. e.name) es) rows ancestors → AllZip HasAncestors es ancestors
  ancestors_are es rows ancestors are above at =
      let names = map (λ (e : ActionEntry G). action_key (action_of_entry e)) es in
      let up : IsStrictlySortedBy actions_cmp names =
      subst (IsStrictlySortedBy actions_cmp) (map-map action_key action_of_entry es)
      (action_keys_rise (map action_of_entry es) are.rising) in
      joined
      (λ e (row : Vec ℕ Global). IsAncestorRow (IsActionAncestor (tests_alone f table) (declared_actions f)) names
      (action_key (action_of_entry e)) row.items)
      (λ (row : Vec ℕ Global). AreAt (map (λ (e : ActionEntry G). e.name) es) row.items)
      HasAncestors
      (λ e row found is stand. are_just names actions_total up
      (IsActionAncestor (tests_alone f table) (declared_actions f)) (action_key (action_of_entry e)) row.items
      (map action_of found) is
      (subst (λ l. AreAt l row.items (map action_of found)) (map-map action_of (λ (e : ActionEntry G). e.name) es)
      (seen_at action_of (map (λ (e : ActionEntry G). e.name) es) row.items found stand)))
      es rows ancestors
      (unmapped (λ (e : ActionEntry G). action_key (action_of_entry e))
      (λ a (row : Vec ℕ Global). IsAncestorRow (IsActionAncestor (tests_alone f table) (declared_actions f)) names a
      row.items) es rows
      (rows_zip (IsActionAncestor (tests_alone f table) (declared_actions f)) names rows above))
      at

  pub actions_built : (es : List (ActionEntry G)) (rows : List (Vec ℕ Global)) (ancestors : List (List EntityUID))
      (kinds : List ValidatorActionKind) → HoldActions f table es rows kinds
      → AreAllAt (map (λ e. e.name) es) rows ancestors
      → AreActionsBuilt f table (map action_of_parts (zip (zip es ancestors) kinds))
  actions_built es rows ancestors kinds hold at =
      let (ms, mean, say, keyed) = all_say es ancestors kinds
      (ancestors_are es rows ancestors hold.actions hold.rows at) hold.built in
      let up : IsStrictlySortedBy uids_in_order (map (λ (e : ActionEntry G). e.name) es) =
      sorted_seen (λ (e : ActionEntry G). e.name) uids_in_order es
      (sorted_back action_of_entry (λ a b. actions_at_in_order a.name b.name) es hold.actions.rising) in (
        subst (IsStrictlySortedBy uids_in_order) (sym keyed) up,
        (
          ms,
          record {
            declared = map action_of_entry es;
            same = hold.actions.same;
            rising = hold.actions.rising;
            each = mean;
          },
          λ i. record { entities = []; actions = say i },
        ),
      )
