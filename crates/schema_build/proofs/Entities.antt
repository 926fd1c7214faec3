-- The entity types that are put together say what is meant.
use Rattle.std.proofs.Common.{◌≡◌, ℕ, false, List, [], ◌∷◌, Vec, Option, Some, None, map, refl, sym, ap, ◌∙◌, subst}
use Rattle.std.specs.Prelude.{zip}
use Rattle.std.specs.declared.alloc.Global.{Global}
use Rattle.std.specs.List.{AllZip}
use Rattle.std.specs.List.Sorted.{IsStrictlySortedBy}
use Rattle.std.specs.Map.{keys_of}
use Rattle.std.specs.Option.{option_map}
use Rattle.cedar_data.proofs.Lists.{map-map}
use Rattle.cedar_identifiers.specs.Names.{components_of}
use Rattle.cedar_identifiers.specs.declared.name.Name.{Name}
use Rattle.cedar_identifiers.specs.declared.name_text.NameText as named
use Rattle.cedar_identifiers.specs.declared.raw_name.RawName.{RawName}
use Rattle.cedar_names.specs.Meaning.{PlainType, EntityMeaning}
use Rattle.cedar_names.specs.Orders.{names_in_order}
use Rattle.cedar_names.specs.declared.extension_table.ExtensionTable.{ExtensionTable}
use Rattle.schema_json.specs.declared.entity_type.EntityType.{EntityType}
use Rattle.schema_json.specs.declared.fragment.Fragment.{Fragment}
use Rattle.schema_build_types.specs.Content.{type_content, entity_content}
use Rattle.schema_build_types.specs.Standing.{as_built, attributes_as_built, entity_as_built}
use Rattle.schema_build_types.specs.declared.types.Type.{«Type» as Built}
use Rattle.schema_build_types.specs.declared.entity_type.ValidatorEntityTypeKind.{ValidatorEntityTypeKind}
use Rattle.schema_build_types.specs.declared.entity_type.ValidatorEntityTypeKind.TheVariants as built
use Rattle.schema_build_types.proofs.Contents.{built_says, built_say}
use Rattle.schema_build_scope.specs.FragmentScope.{fragment_scope}
use Rattle.schema_build_hierarchy.specs.Ancestors.{AreAncestorRows, IsAncestorRow}
use Rattle.schema_build_hierarchy.specs.Declarations.{entity_name, declared_entities}
use Rattle.schema_build_hierarchy.specs.Entries.{AreEntities, entity_of}
use Rattle.schema_build_hierarchy.specs.Parents.{IsAncestor}
use Rattle.schema_build_hierarchy.specs.declared.entries.Entry.{Entry}
use Rattle.schema_build_hierarchy.proofs.Ordered.{sorted_seen, sorted_back}
use Rattle.schema_build_items.specs.ActionKinds.{AreJust, as_components, components_cmp, tests_alone}
use Rattle.schema_build_items.specs.Kinds.{KindMeaning, IsKindBuilt, KindStandsFor, AreTagsBuilt}
use Rattle.schema_build.specs.Assembly.{AreAt, AreAllAt, HoldEntities, AreEntitiesBuilt, assembled_entity_type}
use Rattle.schema_build.specs.Meaning.{IsEntityMeaning}
use Rattle.schema_build.proofs.InOrder.{rising_names}
use Rattle.schema_build.proofs.Orders.{components_total, entity_names_rise}
use Rattle.schema_build.proofs.Placed.{seen_at, are_just}
use Rattle.schema_build.proofs.Zipped.{rows_zip, joined, unmapped}

abbrev EntityEntry : Type 0
EntityEntry = Entry Name (EntityType RawName)

tags_say : (p : Option PlainType) (tags : Option Built) → AreTagsBuilt p tags
    → option_map type_content tags ≡ option_map as_built p
tags_say None tags b = ap (option_map type_content) b
tags_say (Some p) tags b = ap (option_map type_content) b.1 ∙ ap Some (built_says p b.0 b.2)

-- what is put together for a declaration with a meaning
abbrev meant_by : EntityEntry → List Name → KindMeaning → EntityMeaning
meant_by e ancestors m = record {
  name = components_of e.name.name;
  is_external = e.ty.now.external;
  ancestors = as_components ancestors;
  attributes = m.attributes;
  tags = m.tags;
  choices = m.choices;
}

-- it says what is meant
says : (e : EntityEntry) (ancestors : List Name) (m : KindMeaning) (kind : ValidatorEntityTypeKind)
    → IsStrictlySortedBy components_cmp (as_components ancestors) → KindStandsFor kind e.ty.now.external m
    → entity_content (assembled_entity_type ((e, ancestors), kind)) ≡ entity_as_built (meant_by e ancestors m)
says e ancestors m (built.Standard attributes more tags) up (own, closed, all, tagged, unlisted) = λ i. record {
  name = components_of e.name.name;
  is_external = sym own i;
  ancestors = rising_names (as_components ancestors) up i;
  attributes = built_say m.attributes attributes all i;
  more = closed i;
  tags = tags_say m.tags tags tagged i;
  choices = sym unlisted i;
}
says e ancestors m (built.Enum choices) up (own, none, untagged, some) = λ i. record {
  name = components_of e.name.name;
  is_external = sym own i;
  ancestors = rising_names (as_components ancestors) up i;
  attributes = attributes_as_built (sym none i);
  more = false;
  tags = option_map as_built (sym untagged i);
  choices = sym some i;
}
says e ancestors m built.External up (other, none, untagged, unlisted) = λ i. record {
  name = components_of e.name.name;
  is_external = sym other i;
  ancestors = rising_names (as_components ancestors) up i;
  attributes = attributes_as_built (sym none i);
  more = false;
  tags = option_map as_built (sym untagged i);
  choices = sym unlisted i;
}

module _ {G : named.Ghosts RawName} (f : Fragment RawName G) (table : ExtensionTable) where
  -- the names are just the ancestors of the declaration
  abbrev HasAncestors : EntityEntry → List Name → Type 0
  HasAncestors e ancestors = AreJust components_cmp
      (IsAncestor (tests_alone f table) (declared_entities f) (entity_name (entity_of e))) (as_components ancestors)

  all_say : (es : List EntityEntry) (ancestors : List (List Name)) (kinds : List ValidatorEntityTypeKind)
      → AllZip HasAncestors es ancestors → AllZip (IsKindBuilt (fragment_scope f table)) (map entity_of es) kinds
      → (ms : List EntityMeaning) × AllZip (IsEntityMeaning f table) (map entity_of es) ms
      × (map entity_content (map assembled_entity_type (zip (zip es ancestors) kinds)) ≡ map entity_as_built ms)
      × (keys_of (map assembled_entity_type (zip (zip es ancestors) kinds)) ≡ map (λ e. e.name) es)
  all_say [] [] [] above are = ([], tt, refl, refl)
  all_say [] [] (k ∷ kinds) above are = absurd are
  all_say [] (a ∷ ancestors) kinds above are = absurd above
  all_say (e ∷ es) [] kinds above are = absurd above
  all_say (e ∷ es) (a ∷ ancestors) [] above are = absurd are
  all_say (e ∷ es) (a ∷ ancestors) (k ∷ kinds) above are =
      let (ms, mean, say, keyed) = all_say es ancestors kinds above.1 are.1 in
      let (m, is, stands) = are.0 in (
        meant_by e a m ∷ ms,
        (record { name = refl; is_external = refl; ancestors = above.0; kind = is }, mean),
        λ i. says e a m k above.0.rising stands i ∷ say i,
        λ i. e.name ∷ keyed i,
      )

  -- the names at the places of the rows are the ancestors
  ancestors_are : (es : List EntityEntry) (rows : List (Vec ℕ Global)) (ancestors : List (List Name))
      → AreEntities (declared_entities f) es
      → AreAncestorRows (IsAncestor (tests_alone f table) (declared_entities f))
      (map (λ e. entity_name (entity_of e)) es) rows
      → AreAllAt (map (λ e. e.name) es) rows ancestors → AllZip HasAncestors es ancestors
  ancestors_are es rows ancestors are above at =
      let names = map (λ (e : EntityEntry). entity_name (entity_of e)) es in
      let up : IsStrictlySortedBy components_cmp names =
      subst (IsStrictlySortedBy components_cmp) (map-map entity_name entity_of es)
      (entity_names_rise (map entity_of es) are.rising) in
      joined
      (λ e (row : Vec ℕ Global). IsAncestorRow (IsAncestor (tests_alone f table) (declared_entities f)) names
      (entity_name (entity_of e)) row.items)
      (λ (row : Vec ℕ Global). AreAt (map (λ (e : EntityEntry). e.name) es) row.items)
      HasAncestors
      (λ e row found is stand. are_just names components_total up
      (IsAncestor (tests_alone f table) (declared_entities f)) (entity_name (entity_of e)) row.items
      (as_components found) is
      (subst (λ l. AreAt l row.items (as_components found))
      (map-map (λ (n : Name). components_of n.name) (λ (e : EntityEntry). e.name) es)
      (seen_at (λ (n : Name). components_of n.name) (map (λ (e : EntityEntry). e.name) es) row.items found stand)))
      es rows ancestors
      (unmapped (λ (e : EntityEntry). entity_name (entity_of e))
      (λ a (row : Vec ℕ Global). IsAncestorRow (IsAncestor (tests_alone f table) (declared_entities f)) names a
      row.items) es rows
      (rows_zip (IsAncestor (tests_alone f table) (declared_entities f)) names rows above))
      at

  pub entities_built : (es : List EntityEntry) (rows : List (Vec ℕ Global)) (ancestors : List (List Name))
      (kinds : List ValidatorEntityTypeKind) → HoldEntities f table es rows kinds
      → AreAllAt (map (λ e. e.name) es) rows ancestors
      → AreEntitiesBuilt f table (map assembled_entity_type (zip (zip es ancestors) kinds))
  entities_built es rows ancestors kinds hold at =
      let (ms, mean, say, keyed) = all_say es ancestors kinds
      (ancestors_are es rows ancestors hold.entities hold.rows at) hold.built in
      let up : IsStrictlySortedBy (λ (a b : Name). names_in_order a.name b.name)
      (map (λ (e : EntityEntry). e.name) es) =
      sorted_seen (λ (e : EntityEntry). e.name) (λ (a b : Name). names_in_order a.name b.name) es
      (sorted_back entity_of (λ a b. names_in_order a.name b.name) es hold.entities.rising) in (
        subst (IsStrictlySortedBy (λ (a b : Name). names_in_order a.name b.name)) (sym keyed) up,
        (
          ms,
          record { declared = map entity_of es; same = hold.entities.same; rising = hold.entities.rising; each = mean },
          λ i. record { entities = say i; actions = [] },
        ),
      )
