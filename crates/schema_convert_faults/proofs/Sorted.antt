-- What goes into the sorted names and namespaces.
use Rattle.std.proofs.Common.{◌≡◌, List, ◌++◌, map, Option, Some, None, refl, sym, ap, ◌∙◌, append_assoc}
use Rattle.std.specs.BTreeMap.{is_at}
use Rattle.std.specs.Map.{lookup}
use Rattle.std.specs.Ordering.{is_eq}
use Rattle.std.specs.Borrow.{Bor}
use Rattle.std.specs.List.{flat_map}
use Rattle.std.specs.Option.{option_cmp, option_map}
use Rattle.cedar_data.specs.Maps.{map_of}
use Rattle.cedar_data.specs.declared.node.Node.{Node}
use Rattle.cedar_identifiers.specs.declared.id.Id.{Id}
use Rattle.cedar_names.specs.declared.extension_table.ExtensionTable.{ExtensionTable}
use Rattle.cedar_names.specs.Orders.{id_text_order}
use Rattle.schema_syntax_tree.specs.declared.annotated.Annotated.{Annotated}
use Rattle.schema_syntax_tree.specs.declared.namespace.Namespace.{Namespace}
use Rattle.schema_syntax_tree.specs.declared.path.Path.{Path}
use Rattle.schema_convert_errors.specs.declared.warnings.SchemaWarning.{SchemaWarning}
use Rattle.schema_convert_faults.specs.Borrowed.{entry_now, optional_now}
use Rattle.schema_convert_openings.specs.Joined.{path_cmp}
use Rattle.schema_convert_faults.specs.Shadowings.{by_id, by_name, builtin_shadowed, entity_shadowed, common_warnings}
use Rattle.schema_convert_faults.specs.Shadowings.{warnings_in, declared_warnings}
use Rattle.schema_convert_faults.proofs.Borrowed.{map_of_is, lookup_is}

abbrev pub id_entry : Bor (Node Id) → Id × Node Id
id_entry n = (n.now.node, n.now)

abbrev pub id_entries : List (Bor (Node Id)) → List (Id × Node Id)
id_entries names = map (λ n. (n.node, n)) (map (λ x. x.now) names)

pub ids_sorted : (names : List (Bor (Node Id))) (entries sorted : List (Bor Id × Bor (Node Id)))
    → sorted ≡ map_of (λ a b. id_text_order a.now b.now) entries → map entry_now entries ≡ id_entries names
    → map entry_now sorted ≡ by_id (map (λ x. x.now) names)
ids_sorted names entries sorted h e = ap (map entry_now) h
    ∙ (map_of_is (λ (k : Bor Id). k.now) (λ (x : Bor (Node Id)). x.now) id_text_order entries
    ∙ ap (map_of id_text_order) e)

abbrev pub name_entries : List (Annotated Namespace) → List (Option Path × Annotated Namespace)
name_entries namespaces = map (λ n. (n.item.name, n)) namespaces

optional_order : (a b : Option (Bor Path))
    → option_cmp (λ x y. path_cmp x.now y.now) a b
    ≡ option_cmp path_cmp (option_map (λ (k : Bor Path). k.now) a) (option_map (λ (k : Bor Path). k.now) b)
optional_order None None = refl
optional_order None (Some b) = refl
optional_order (Some a) None = refl
optional_order (Some a) (Some b) = refl

pub names_sorted : (namespaces : List (Annotated Namespace))
    (entries sorted : List (Option (Bor Path) × Bor (Annotated Namespace)))
    → sorted ≡ map_of (option_cmp (λ x y. path_cmp x.now y.now)) entries
    → map optional_now entries ≡ name_entries namespaces → map optional_now sorted ≡ by_name namespaces
names_sorted namespaces entries sorted h e =
    ap (map optional_now) (h ∙ (λ i. map_of (λ a b. optional_order a b i) entries))
    ∙ (map_of_is (option_map (λ (k : Bor Path). k.now)) (λ (x : Bor (Annotated Namespace)). x.now)
    (option_cmp path_cmp) entries ∙ ap (map_of (option_cmp path_cmp)) e)

-- what is said of sorted names and namespaces
module _ (table : ExtensionTable) where
  abbrev pub of_commons : List (Id × Node Id) → List (Bor Id × Bor (Node Id)) → List SchemaWarning
  of_commons entities commons = flat_map (λ c. common_warnings table entities c.1) (map entry_now commons)

  abbrev pub of_entities : List (Bor Id × Bor (Node Id)) → List SchemaWarning
  of_entities entities = flat_map (λ e. builtin_shadowed table e.1) (map entry_now entities)

  abbrev pub of_namespaces : List (Option (Bor Path) × Bor (Annotated Namespace)) → List SchemaWarning
  of_namespaces sorted = flat_map (λ n. declared_warnings table n.1.item.decls) (map optional_now sorted)

  -- a common type's warnings, of the entity type that was found
  pub common_made : (old w1 w2 : List SchemaWarning) (common : Node Id) (entities : List (Bor Id × Bor (Node Id)))
      (found : Option (Bor (Node Id)))
      → found ≡ lookup (λ k. is_eq (id_text_order common.node k.now)) entities
      → w1 ≡ old ++ entity_shadowed (option_map (λ (n : Bor (Node Id)). n.now) found) common
      → w2 ≡ w1 ++ builtin_shadowed table common → w2 ≡ old ++ common_warnings table (map entry_now entities) common
  common_made old w1 w2 common entities found f e b =
      let same : option_map (λ (n : Bor (Node Id)). n.now) found
      ≡ lookup (is_at (id_text_order common.node)) (map entry_now entities) =
      ap (option_map (λ (n : Bor (Node Id)). n.now)) f
      ∙ sym (lookup_is (λ (k : Bor Id). k.now) (λ (x : Bor (Node Id)). x.now)
      (is_at (id_text_order common.node)) entities) in
      b ∙ (ap (λ w. w ++ builtin_shadowed table common) (e ∙ ap (λ o. old ++ entity_shadowed o common) same)
      ∙ append_assoc old (entity_shadowed (lookup (is_at (id_text_order common.node)) (map entry_now entities)) common)
      (builtin_shadowed table common))

  -- the warnings of a namespace, of its sorted names
  pub declared_made : (old w1 w2 : List SchemaWarning) (commons entities : List (Bor Id × Bor (Node Id)))
      (C E : List (Id × Node Id))
      → w1 ≡ old ++ of_commons (map entry_now entities) commons → w2 ≡ w1 ++ of_entities entities
      → map entry_now commons ≡ C → map entry_now entities ≡ E → w2 ≡ old ++ warnings_in table C E
  declared_made old w1 w2 commons entities C E h k c e =
      let p : of_commons (map entry_now entities) commons ≡ flat_map (λ c. common_warnings table E c.1) C =
      ap (λ l. flat_map (λ c. common_warnings table l c.1) (map entry_now commons)) e
      ∙ ap (flat_map (λ (d : Id × Node Id). common_warnings table E d.1)) c in
      let q : of_entities entities ≡ flat_map (λ d. builtin_shadowed table d.1) E = ap
      (flat_map (λ (d : Id × Node Id). builtin_shadowed table d.1)) e in
      k ∙ (ap (λ w. w ++ of_entities entities) h
      ∙ (append_assoc old (of_commons (map entry_now entities) commons) (of_entities entities)
      ∙ (λ i. old ++ (p i ++ q i))))
