-- The tests of the namespaces and of the parts tell whether a fragment is printable.
use Rattle.std.proofs.Common.{◌≡◌, ◌↔◌, Bool, true, not, ◌&&◌, Option, Some, None, refl, sym, ◌∙◌}
use Rattle.std.specs.List.{list_all, AllByRecursion}
use Rattle.std.proofs.lemmas.Bool.{and_from, and_parts}
use Rattle.cedar_data.proofs.Every.{All-weaker}
use Rattle.cedar_data.proofs.Every.{all_both}
use Rattle.cedar_identifiers.specs.declared.name.Name.{Name}
use Rattle.cedar_identifiers.specs.declared.name_text.NameText as named
use Rattle.cedar_identifiers.specs.declared.raw_name.RawName.{RawName}
use Rattle.cedar_identifiers.specs.declared.reference_type.ReferenceType.{ReferenceType}
use Rattle.cedar_names.specs.declared.extension_table.ExtensionTable.{ExtensionTable}
use Rattle.schema_json.specs.Keywords.{is_keyword_name}
use Rattle.schema_json.specs.declared.fragment.Fragment.{Fragment}
use Rattle.schema_json.specs.declared.fragment.NamespaceDefinition.{NamespaceDefinition}
use Rattle.schema_json_walk.specs.Parts.{Part, type_reference}
use Rattle.schema_json_walk.specs.Walk.{fragment_parts}
use Rattle.schema_resolve_definitions.specs.Declarations.{name_of}
use Rattle.schema_resolve_definitions.specs.Defined.{defined}
use Rattle.schema_resolve_definitions.specs.Tests.{tests_of}
use Rattle.schema_print.specs.Collisions.{declared_in, collisions, collisions_in, shapeless, shapeless_in}
use Rattle.schema_print.specs.Collisions.{is_shapeless}
use Rattle.schema_print.specs.Collisions.{names_entity_type}
use Rattle.schema_print.specs.Printable.{IsClosedPart, IsBare, IsWithoutAttributes, IsInTable, IsMeantEitherWay}
use Rattle.schema_print.specs.Printable.{has_printable_context, has_whole_targets, is_annotated_where_named}
use Rattle.schema_print.specs.Printable.{of_each_action, IsPrintable}
use Rattle.schema_print.specs.PrintableTests.{IsPrintablePart, passes_action, has_distinct_names, passes_block}
use Rattle.schema_print.specs.PrintableTests.{agrees_in}
use Rattle.schema_print.proofs.EitherWay.{agrees_as_meant}
use Rattle.schema_print.proofs.Tested.{both_of_all, all_are_both, none, none_is, none_given, none_filtered}
use Rattle.schema_print.proofs.Tested.{none_passes}

abbrev BlockOf : named.Ghosts RawName → Type 0
BlockOf G = Option Name × NamespaceDefinition RawName G

abbrev Placed : Type 0
Placed = Option Name × Part RawName

module _ {G : named.Ghosts RawName} where
  -- shapes and names, by the tests
  shapes_told : (f : Fragment RawName G)
      → none (shapeless f) ≡ list_all (λ e. list_all (λ t. not (is_shapeless t.1)) e.1.entity_types) f.0
  shapes_told f =
      none_given (λ (e : BlockOf G). shapeless_in e.0 e.1.entity_types) f.0
      ∙ (λ i. list_all (λ e. none_filtered (λ t. declared_in e.0 t.0.id.text) (λ t. is_shapeless t.1)
      e.1.entity_types i) f.0)

  distinct_told : (ns : Option Name) (n : NamespaceDefinition RawName G)
      → none (collisions_in ns n) ≡ has_distinct_names ns n
  distinct_told None n = refl
  distinct_told (Some ns) n =
      none_filtered (λ c. declared_in (Some ns) c.0.id.id.text) (λ c. names_entity_type n.entity_types c.0.id.id.text)
      n.common_types
      ∙ sym (none_passes (λ c. names_entity_type n.entity_types c.0.id.id.text) n.common_types)

  names_told : (f : Fragment RawName G) → none (collisions f) ≡ list_all (λ e. has_distinct_names e.0 e.1) f.0
  names_told f =
      none_given (λ (e : BlockOf G). collisions_in e.0 e.1) f.0 ∙ (λ i. list_all (λ e. distinct_told e.0 e.1 i) f.0)

  actions_told : (f : Fragment RawName G) → list_all (λ e. list_all (λ a. passes_action a.1) e.1.actions) f.0
      ≡ (of_each_action (λ a. has_printable_context a.applies_to) f && of_each_action
      (λ a. has_whole_targets a.applies_to) f)
  actions_told f =
      (λ i. list_all (λ e. all_are_both (λ a. has_printable_context a.1.applies_to)
      (λ a. has_whole_targets a.1.applies_to) e.1.actions i) f.0)
      ∙ all_are_both (λ (e : BlockOf G). list_all (λ a. has_printable_context a.1.applies_to) e.1.actions)
      (λ e. list_all (λ a. has_whole_targets a.1.applies_to) e.1.actions) f.0

  -- the five tests of the blocks
  abbrev annotated : BlockOf G → Bool
  annotated e = is_annotated_where_named e.0 e.1.annotations

  abbrev distinct : BlockOf G → Bool
  distinct e = has_distinct_names e.0 e.1

  abbrev shaped : BlockOf G → Bool
  shaped e = list_all (λ t. not (is_shapeless t.1)) e.1.entity_types

  abbrev worded : BlockOf G → Bool
  worded e = list_all (λ c. not (is_keyword_name c.0.id.id.text)) e.1.common_types

  abbrev applied : BlockOf G → Bool
  applied e = list_all (λ a. passes_action a.1) e.1.actions

  pub record PassesEach (f : Fragment RawName G) : Type 0 where
    pub annotations : list_all annotated f.0 ≡ true
    pub names : list_all distinct f.0 ≡ true
    pub shapes : list_all shaped f.0 ≡ true
    pub words : list_all worded f.0 ≡ true
    pub targets : list_all applied f.0 ≡ true

  abbrev in_names : BlockOf G → Bool
  in_names e = annotated e && distinct e

  abbrev in_types : BlockOf G → Bool
  in_types e = shaped e && worded e

  abbrev in_items : BlockOf G → Bool
  in_items e = in_types e && applied e

  each_passed : (f : Fragment RawName G) → list_all (λ e. passes_block e.0 e.1) f.0 ≡ true → PassesEach f
  each_passed f h =
      let first = (both_of_all in_names in_items f.0).0 h in
      let names = (both_of_all annotated distinct f.0).0 first.0 in
      let items = (both_of_all in_types applied f.0).0 first.1 in
      let types = (both_of_all shaped worded f.0).0 items.0 in
      record { annotations = names.0; names = names.1; shapes = types.0; words = types.1; targets = items.1 }

  each_passes : (f : Fragment RawName G) → PassesEach f → list_all (λ e. passes_block e.0 e.1) f.0 ≡ true
  each_passes f p =
      (both_of_all in_names in_items f.0).1 (
        (both_of_all annotated distinct f.0).1 (p.annotations, p.names),
        (both_of_all in_types applied f.0).1 ((both_of_all shaped worded f.0).1 (p.shapes, p.words), p.targets),
      )

  module _ (f : Fragment RawName G) (table : ExtensionTable) where
    abbrev Passes : Option Name × Part RawName → Type 0
    Passes e = IsPrintablePart f table e.0 e.1

    -- what both tests tell
    pub printable_told : list_all (λ e. passes_block e.0 e.1) f.0 ≡ true → AllByRecursion Passes (fragment_parts f)
        → IsPrintable f table
    printable_told h parts =
        let p = each_passed f h in
        let applied = and_parts _ _ (sym (actions_told f) ∙ p.targets) in
        let weaker = λ (Q : Placed → Type 0) (h : (e : Placed) → Passes e → Q e).
        All-weaker Passes Q h (fragment_parts f) in
        record {
          closed = weaker (λ e. IsClosedPart e.1) (λ e h. h.closed) parts;
          bare = weaker (λ e. IsBare e.1) (λ e h. h.bare) parts;
          shapes = (none_is (shapeless f)).0 (shapes_told f ∙ p.shapes);
          contexts = applied.0;
          targets = applied.1;
          attributes = weaker (λ e. IsWithoutAttributes e.1) (λ e h. h.attributes) parts;
          annotations = p.annotations;
          names = (none_is (collisions f)).0 (names_told f ∙ p.names);
          words = p.words;
          extensions = weaker (λ e. IsInTable table e.1) (λ e h. h.extension) parts;
          references = weaker (λ e. IsMeantEitherWay (tests_of (defined f table)) e.0 e.1) (λ e h. h.reference) parts;
        }

    pub blocks_pass : IsPrintable f table → list_all (λ e. passes_block e.0 e.1) f.0 ≡ true
    blocks_pass p =
        each_passes f (record {
          annotations = p.annotations;
          names = sym (names_told f) ∙ (none_is (collisions f)).1 p.names;
          shapes = sym (shapes_told f) ∙ (none_is (shapeless f)).1 p.shapes;
          words = p.words;
          targets = actions_told f ∙ and_from _ _ p.contexts p.targets;
        })

    abbrev Two : Placed → Type 0
    Two e = IsClosedPart e.1 × IsBare e.1

    abbrev Three : Placed → Type 0
    Three e = IsWithoutAttributes e.1 × Two e

    abbrev Four : Placed → Type 0
    Four e = IsInTable table e.1 × Three e

    abbrev InTable : Placed → Type 0
    InTable e = IsInTable table e.1

    abbrev Meant : Placed → Type 0
    Meant e = IsMeantEitherWay (tests_of (defined f table)) e.0 e.1

    pub parts_pass : IsPrintable f table → AllByRecursion Passes (fragment_parts f)
    parts_pass p =
        let parts = fragment_parts f in
        let two : AllByRecursion Two parts = all_both (λ e. IsClosedPart e.1) (λ e. IsBare e.1) Two
        (λ e h k. (h, k)) parts p.closed p.bare in
        let three : AllByRecursion Three parts =
        all_both (λ e. IsWithoutAttributes e.1) Two Three (λ e h k. (h, k)) parts p.attributes two in
        let four : AllByRecursion Four parts = all_both InTable Three Four (λ e h k. (h, k))
        parts p.extensions three in
        all_both Meant Four Passes (λ e h (i, (a, (c, b))). record {
          closed = c;
          bare = b;
          attributes = a;
          extension = i;
          reference = h;
        }) parts p.references four

    -- a part that is a reference
    pub reference_told : (ns : Option Name) (kind : ReferenceType) (name : RawName) (told : Bool)
        → told ≡ agrees_in (tests_of (defined f table)) (name_of ns) kind name.name
        → (told ≡ true) ↔ IsPrintablePart f table ns (type_reference kind name)
    reference_told ns kind name told is =
        let meant = agrees_as_meant (tests_of (defined f table)) (name_of ns) kind name in (
          λ h. record {
            closed = tt;
            bare = tt;
            attributes = tt;
            extension = tt;
            reference = meant.0 (sym is ∙ h);
          },
          λ p. is ∙ meant.1 p.reference,
        )
