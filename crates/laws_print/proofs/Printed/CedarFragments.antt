-- What is written of a fragment, it says in the form that its text has.
use Rattle.std.proofs.Common.{◌≡◌, ℕ, Bool, true, false, cond, ◌||◌, List, [], ◌∷◌, ◌++◌, map, Option, Some, None}
use Rattle.std.proofs.Common.{filter_map, flat_map, refl, sym, ap, ◌∙◌, subst, append_assoc, append-nil, true≢false}
use Rattle.std.proofs.Common.{if◌then◌else◌}
use Rattle.std.specs.BTreeMap.{is_at}
use Rattle.std.specs.Cmp.{tied_itself}
use Rattle.std.specs.List.{AllZip, AllByRecursion, cons_option}
use Rattle.std.specs.List.Sorted.{IsStrictlySortedBy}
use Rattle.std.specs.Map.{lookup}
use Rattle.std.specs.Ordering.{is_eq}
use Rattle.std.specs.declared.cmp.Ordering.TheVariants.{Less}
use Rattle.std.proofs.lemmas.Map.Keys.{sorted_head, sorted_tail}
use Rattle.cedar_data.specs.Text.{text_cmp}
use Rattle.cedar_data.proofs.Orders.{equal_from}
use Rattle.cedar_identifiers.specs.Names.{components_of}
use Rattle.cedar_identifiers.specs.declared.any_id.AnyId.{AnyId}
use Rattle.cedar_identifiers.specs.declared.name.Name.{Name}
use Rattle.cedar_identifiers.specs.declared.raw_name.RawName.{RawName}
use Rattle.cedar_identifiers.specs.declared.unreserved_id.UnreservedId.{UnreservedId}
use Rattle.schema_syntax_reader.specs.Leaves.{Notes}
use Rattle.schema_json.specs.declared.common_type.CommonTypeId.{CommonTypeId}
use Rattle.schema_json.specs.declared.fragment.Fragment.{Fragment}
use Rattle.schema_json.specs.declared.fragment.NamespaceDefinition.{NamespaceDefinition}
use Rattle.schema_json.specs.AsWritten.{as_written}
use Rattle.laws_written.specs.Written.{WrittenDecl, WrittenDeclared, namespace, outside}
use Rattle.laws_written.specs.PrintedDecls.{Group, namespace_items, group_items}
use Rattle.laws_translate.specs.DeclarationsSay.{EntitySays, CommonSays, ActionSays}
use Rattle.laws_translate.specs.Entries.{FoundSays}
use Rattle.laws_translate.specs.FragmentsSay.{entities_of_decl, actions_of_decl, commons_of_decl, by_names}
use Rattle.laws_translate.specs.FragmentsSay.{NamespaceSays}
use Rattle.laws_translate.specs.FragmentsSay.{NamespaceName, namespace_order, name_components, items_of_namespace}
use Rattle.laws_translate.specs.FragmentsSay.{opened}
use Rattle.laws_translate.specs.FragmentsSay.{FragmentSays}
use Rattle.laws_translate.proofs.Entered.{EntryOf, rising_say}
use Rattle.laws_translate.proofs.Fragments.{found_same}
use Rattle.laws_translate.proofs.Grouped.{outside_decls, outside_notes, filter_append, items_at}
use Rattle.laws_translate.proofs.Orders.{namespace_total, namespace_exact}
use Rattle.schema_resolve_lookup.specs.Sought.{is_some_list}
use Rattle.schema_print_text.specs.PrintedTypes.{printed_name}
use Rattle.schema_print.specs.FragmentGroups.{written_name, EntityAs, CommonAs, ActionAs, AreItemsOf, IsGroupOf}
use Rattle.schema_print.specs.FragmentGroups.{AreGroupsOf}
use Rattle.laws_print.specs.Printed.CedarForm.{cedar_common, cedar_entity, cedar_action, changed_values}
use Rattle.laws_print.specs.Printed.CedarForm.{cedar_namespace}
use Rattle.laws_print.specs.Printed.CedarForm.{declares, Block, cedar_block, cedar_form}
use Rattle.laws_print.specs.Printed.Textual.{components_written, IsTextualType, IsTextualKind, AppliesAsText}
use Rattle.laws_print.specs.Printed.Textual.{IsTextualBlock, IsTextualFragment}
use Rattle.laws_print.proofs.Printed.CedarDecls.{EntityEntry, entity_names, entity_says, CommonEntry, common_names}
use Rattle.laws_print.proofs.Printed.CedarDecls.{common_says, ActionEntry, action_names, action_says}
use Rattle.laws_print.proofs.Printed.Folds.{name_bytes}

-- declarations of one kind, beside their names
module _ {K V : Type 0} (name : K → List ℕ) (Says : V → WrittenDeclared → Type 0) (change : V → V)
    (names_of : WrittenDecl → List (List ℕ))
    (So : K × V → WrittenDeclared → Type 0) (Textual : K × V → Type 0) where
  entries_say : ((e : K × V) (d : WrittenDeclared) → So e d → names_of d.decl ≡ name e.0 ∷ [])
      → ((e : K × V) (d : WrittenDeclared) → So e d → Textual e → Says (change e.1) d)
      → (es : List (K × V)) (ds : List WrittenDeclared) → AllZip So es ds → AllByRecursion Textual es
      → AllZip (EntryOf name Says) (changed_values change es) (by_names names_of ds)
  entries_say f g [] [] h k = tt
  entries_say f g [] (d ∷ ds) h k = absurd h
  entries_say f g (e ∷ es) [] h k = absurd h
  entries_say f g (e ∷ es) (d ∷ ds) h k =
      subst (λ names. AllZip (EntryOf name Says) (changed_values change (e ∷ es))
      (map (λ n. (n, d)) names ++ by_names names_of ds)) (sym (f e d h.0))
      ((refl, g e d h.0 k.0), entries_say f g es ds h.1 k.1)

  -- those of another kind give no name of this one
  none_named : ((e : K × V) (d : WrittenDeclared) → So e d → names_of d.decl ≡ [])
      → (es : List (K × V)) (ds : List WrittenDeclared) → AllZip So es ds → by_names names_of ds ≡ []
  none_named f [] [] h = refl
  none_named f [] (d ∷ ds) h = absurd h
  none_named f (e ∷ es) [] h = absurd h
  none_named f (e ∷ es) (d ∷ ds) h = ap (λ names. map (λ n. (n, d)) names ++ by_names names_of ds) (f e d h.0)
      ∙ none_named f es ds h.1

  names_kept : (es : List (K × V)) → map (λ e. name e.0) (changed_values change es) ≡ map (λ e. name e.0) es
  names_kept [] = refl
  names_kept (e ∷ es) = ap (λ l. name e.0 ∷ l) (names_kept es)

by_names_append : (names_of : WrittenDecl → List (List ℕ)) (xs ys : List WrittenDeclared)
    → by_names names_of (xs ++ ys) ≡ by_names names_of xs ++ by_names names_of ys
by_names_append names_of [] ys = refl
by_names_append names_of (x ∷ xs) ys =
    ap (λ l. map (λ n. (n, x)) (names_of x.decl) ++ l) (by_names_append names_of xs ys)
    ∙ sym (append_assoc (map (λ n. (n, x)) (names_of x.decl)) (by_names names_of xs) (by_names names_of ys))

three : (names_of : WrittenDecl → List (List ℕ)) (ds xs ys zs : List WrittenDeclared) → ds ≡ xs ++ (ys ++ zs)
    → by_names names_of ds ≡ by_names names_of xs ++ (by_names names_of ys ++ by_names names_of zs)
three names_of ds xs ys zs e =
    ap (by_names names_of) e
    ∙ (by_names_append names_of xs (ys ++ zs)
    ∙ ap (λ l. by_names names_of xs ++ l) (by_names_append names_of ys zs))

abbrev Definition : Type 0
Definition = NamespaceDefinition RawName as_written

abbrev common_text : CommonTypeId → List ℕ
common_text id = id.id.id.text

abbrev entity_text : UnreservedId → List ℕ
entity_text id = id.id.text

abbrev action_text : List ℕ → List ℕ
action_text id = id

abbrev pub CommonSo : CommonEntry → WrittenDeclared → Type 0
CommonSo = CommonAs components_written

abbrev pub EntitySo : EntityEntry → WrittenDeclared → Type 0
EntitySo = EntityAs components_written

abbrev pub ActionSo : ActionEntry → WrittenDeclared → Type 0
ActionSo = ActionAs components_written

abbrev TextualCommon : CommonEntry → Type 0
TextualCommon e = IsTextualType e.1.ty

abbrev TextualEntity : EntityEntry → Type 0
TextualEntity e = IsTextualKind e.1.external e.1.kind

abbrev TextualAction : ActionEntry → Type 0
TextualAction e = (e.1.attributes ≡ None) × AppliesAsText e.1.external e.1.applies_to

module _ (b : Block) (ds : List WrittenDeclared) (h : AreItemsOf components_written b.1 ds)
    (textual : IsTextualBlock b) where
  commons_are : by_names commons_of_decl ds ≡ by_names commons_of_decl h.commons
  commons_are =
      three commons_of_decl ds h.commons h.entities h.actions h.all
      ∙ ((λ i. by_names commons_of_decl h.commons
      ++ (none_named entity_text EntitySays cedar_entity commons_of_decl EntitySo TextualEntity
      (λ e d s. (entity_names e d s).of_commons) b.1.entity_types h.entities h.of_entities i
      ++ none_named action_text ActionSays cedar_action commons_of_decl ActionSo TextualAction
      (λ e d s. (action_names e d s).of_commons) b.1.actions h.actions h.of_actions i))
      ∙ append-nil (by_names commons_of_decl h.commons))

  entities_are : by_names entities_of_decl ds ≡ by_names entities_of_decl h.entities
  entities_are =
      three entities_of_decl ds h.commons h.entities h.actions h.all
      ∙ ((λ i. none_named common_text CommonSays cedar_common entities_of_decl CommonSo TextualCommon
      (λ e d s. (common_names e d s).of_entities) b.1.common_types h.commons h.of_commons i
      ++ (by_names entities_of_decl h.entities
      ++ none_named action_text ActionSays cedar_action entities_of_decl ActionSo TextualAction
      (λ e d s. (action_names e d s).of_entities) b.1.actions h.actions h.of_actions i))
      ∙ append-nil (by_names entities_of_decl h.entities))

  actions_are : by_names actions_of_decl ds ≡ by_names actions_of_decl h.actions
  actions_are =
      three actions_of_decl ds h.commons h.entities h.actions h.all
      ∙ (λ i. none_named common_text CommonSays cedar_common actions_of_decl CommonSo TextualCommon
      (λ e d s. (common_names e d s).of_actions) b.1.common_types h.commons h.of_commons i
      ++ (none_named entity_text EntitySays cedar_entity actions_of_decl EntitySo TextualEntity
      (λ e d s. (entity_names e d s).of_actions) b.1.entity_types h.entities h.of_entities i
      ++ by_names actions_of_decl h.actions))

  namespace_says : (notes : Notes) → notes ≡ b.1.annotations.0
      → NamespaceSays (cedar_namespace b.1) (record { notes = notes; decls = ds })
  namespace_says notes same = record {
    annotations = record {
      rising = textual.keys_rise;
      each = λ key. found_same (lookup (λ (k : AnyId). is_at (text_cmp key) k.text) b.1.annotations.0)
          (lookup (λ (k : AnyId). is_at (text_cmp key) k.text) notes)
          (ap (lookup (λ (k : AnyId). is_at (text_cmp key) k.text)) (sym same));
    };
    commons = rising_say common_text CommonSays (changed_values cedar_common b.1.common_types)
        (by_names commons_of_decl ds)
        (subst (IsStrictlySortedBy text_cmp)
        (sym (names_kept common_text CommonSays cedar_common commons_of_decl CommonSo TextualCommon
        b.1.common_types)) textual.commons_rise)
        (subst (AllZip (EntryOf common_text CommonSays) (changed_values cedar_common b.1.common_types))
        (sym commons_are)
        (entries_say common_text CommonSays cedar_common commons_of_decl CommonSo TextualCommon
        (λ e d s. (common_names e d s).of_commons)
        common_says b.1.common_types h.commons h.of_commons textual.commons));
    entities = rising_say entity_text EntitySays (changed_values cedar_entity b.1.entity_types)
        (by_names entities_of_decl ds)
        (subst (IsStrictlySortedBy text_cmp)
        (sym (names_kept entity_text EntitySays cedar_entity entities_of_decl EntitySo TextualEntity
        b.1.entity_types)) textual.entities_rise)
        (subst (AllZip (EntryOf entity_text EntitySays) (changed_values cedar_entity b.1.entity_types))
        (sym entities_are)
        (entries_say entity_text EntitySays cedar_entity entities_of_decl EntitySo TextualEntity
        (λ e d s. (entity_names e d s).of_entities)
        entity_says b.1.entity_types h.entities h.of_entities textual.entities));
    actions = rising_say action_text ActionSays (changed_values cedar_action b.1.actions) (by_names actions_of_decl ds)
        (subst (IsStrictlySortedBy text_cmp)
        (sym (names_kept action_text ActionSays cedar_action actions_of_decl ActionSo TextualAction b.1.actions))
        textual.actions_rise)
        (subst (AllZip (EntryOf action_text ActionSays) (changed_values cedar_action b.1.actions)) (sym actions_are)
        (entries_say action_text ActionSays cedar_action actions_of_decl ActionSo TextualAction
        (λ e d s. (action_names e d s).of_actions) action_says b.1.actions h.actions h.of_actions textual.actions));
  }

-- the items of a group stand in its namespace
pub name_is : (key : Option Name) → written_name key ≡ name_components key
name_is None = refl
name_is (Some n) = ap Some (name_bytes n.name)

module _ (q : NamespaceName) where
  abbrev pub is_block : Block → Bool
  is_block b = is_at (namespace_order q) (name_components b.0)

  abbrev found : List Block → Option Definition
  found bs = lookup (λ k. is_at (namespace_order q) (name_components k)) (filter_map cedar_block bs)

  pub group_at : (b : Block) (g : Group) → IsGroupOf components_written b g
      → items_of_namespace q (group_items g) ≡ cond (is_block b) (group_items g) []
  group_at b g h = items_at q g.notes g.name g.decls
      ∙ ap (λ n. cond (is_at (namespace_order q) n) (group_items g) []) (h.name ∙ name_is b.0)

  -- a block of another name is not found
  passed : (b : Block) (bs : List Block) → is_block b ≡ false → found (b ∷ bs) ≡ found bs
  passed (Some name, n) bs h = ap (λ t. cond t (Some (cedar_namespace n)) (found bs)) h
  passed (None, n) bs h = by (declares n)
    where
      by : (t : Bool) → lookup (λ (k : Option Name). is_at (namespace_order q) (name_components k))
          (cons_option (if t then Some (None, cedar_namespace n) else None) (filter_map cedar_block bs)) ≡ found bs
      by true = ap (λ t. cond t (Some (cedar_namespace n)) (found bs)) h
      by false = refl

  none_less : (b : Block) → namespace_order q (name_components b.0) ≡ Less → is_block b ≡ false
  none_less b h = ap is_eq h

  -- nothing is there of a name that is less than all
  none_found : (bs : List Block) → AllByRecursion (λ y. namespace_order q y ≡ Less)
      (map (λ e. name_components e.0) bs) → found bs ≡ None
  none_found [] h = refl
  none_found (b ∷ bs) h = passed b bs (none_less b h.0) ∙ none_found bs h.1

  pub none_written : (bs : List Block) (gs : List Group) → AllZip (IsGroupOf components_written) bs gs
      → AllByRecursion (λ y. namespace_order q y ≡ Less) (map (λ e. name_components e.0) bs)
      → items_of_namespace q (flat_map group_items gs) ≡ []
  none_written [] [] z h = refl
  none_written [] (g ∷ gs) z h = absurd z
  none_written (b ∷ bs) [] z h = absurd z
  none_written (b ∷ bs) (g ∷ gs) z h =
      filter_append q (group_items g) (flat_map group_items gs)
      ∙ ((λ i. (group_at b g z.0 ∙ ap (λ t. cond t (group_items g) []) (none_less b h.0)) i
      ++ none_written bs gs z.1 h.1 i))

-- whether something is declared
some_append : {A : Type 0} (xs ys : List A) → is_some_list (xs ++ ys) ≡ (is_some_list xs || is_some_list ys)
some_append [] ys = refl
some_append (x ∷ xs) ys = refl

some_zip : {A B : Type 0} (R : A → B → Type 0) (xs : List A) (ys : List B) → AllZip R xs ys
    → is_some_list xs ≡ is_some_list ys
some_zip R [] [] h = refl
some_zip R [] (y ∷ ys) h = absurd h
some_zip R (x ∷ xs) [] h = absurd h
some_zip R (x ∷ xs) (y ∷ ys) h = refl

declares_is : (n : Definition) (ds : List WrittenDeclared) → AreItemsOf components_written n ds
    → declares n ≡ is_some_list ds
declares_is n ds h =
    (λ i. some_zip CommonSo n.common_types h.commons h.of_commons i ||
    (some_zip EntitySo n.entity_types h.entities h.of_entities i || some_zip ActionSo n.actions h.actions
    h.of_actions i))
    ∙ (ap (λ b. is_some_list h.commons || b) (sym (some_append h.entities h.actions))
    ∙ (sym (some_append h.commons (h.entities ++ h.actions)) ∙ ap is_some_list (sym h.all)))

opened_outside : (d : WrittenDeclared) (ds : List WrittenDeclared)
    → opened (map outside (d ∷ ds)) ≡ Some (record { notes = []; decls = d ∷ ds })
opened_outside d ds = λ i. Some (record { notes = outside_notes (d ∷ ds) i; decls = outside_decls (d ∷ ds) i })

abbrev is_empty_name : Option Name → Bool
is_empty_name k = is_at (namespace_order None) (name_components k)

unnamed_says : (n : Definition) (bs : List Block) (t : Bool) (ds : List WrittenDeclared) → is_some_list ds ≡ t
    → NamespaceSays (cedar_namespace n) (record { notes = []; decls = ds }) → found None bs ≡ None
    → FoundSays NamespaceSays
    (lookup is_empty_name
    (cons_option (if t then Some (None, cedar_namespace n) else None) (filter_map cedar_block bs)))
    (opened (map outside ds))
unnamed_says n bs true [] e s none = absurd (true≢false (sym e))
unnamed_says n bs true (d ∷ ds) e s none = subst (FoundSays NamespaceSays (Some (cedar_namespace n)))
    (sym (opened_outside d ds)) s
unnamed_says n bs false [] e s none = subst (λ o. FoundSays NamespaceSays o None) (sym none) tt
unnamed_says n bs false (d ∷ ds) e s none = absurd (true≢false e)

block_says : (b : Block) (g : Group) (bs : List Block) → IsGroupOf components_written b g → IsTextualBlock b
    → found (name_components b.0) bs ≡ None
    → FoundSays NamespaceSays (found (name_components b.0) (b ∷ bs)) (opened (group_items g))
block_says (None, n) g bs h textual none =
    let says = namespace_says (None, n) g.decls h.items textual [] (sym textual.annotated) in
    subst (λ m. FoundSays NamespaceSays (found None ((None, n) ∷ bs)) (opened (namespace_items g.notes m g.decls)))
    (sym h.name)
    (unnamed_says n bs (declares n) g.decls (sym (declares_is n g.decls h.items)) says none)
block_says (Some name, n) g bs h textual none =
    let p = printed_name (components_of name.name) in
    let q = components_of name.name in
    let says = namespace_says (Some name, n) g.decls h.items textual g.notes h.notes in
    let notes = sym (append-nil g.notes) in
    let decls = sym (append-nil g.decls) in
    let whole : NamespaceSays (cedar_namespace n) (record { notes = g.notes ++ []; decls = g.decls ++ [] }) =
    subst (λ ds. NamespaceSays (cedar_namespace n) (record { notes = g.notes ++ []; decls = ds })) decls
    (subst (λ ns. NamespaceSays (cedar_namespace n) (record { notes = ns; decls = g.decls })) notes says) in
    subst (λ m. FoundSays NamespaceSays (found (Some q) ((Some name, n) ∷ bs))
    (opened (namespace_items g.notes m g.decls))) (sym h.name)
    (subst (λ t. FoundSays NamespaceSays (cond t (Some (cedar_namespace n)) (found (Some q) bs))
    (opened (namespace g.notes p g.decls ∷ []))) (sym (ap is_eq (tied_itself namespace_total (Some q)))) whole)

says_at : (q : NamespaceName) (bs : List Block) (gs : List Group) → AllZip (IsGroupOf components_written) bs gs
    → IsStrictlySortedBy namespace_order (map (λ e. name_components e.0) bs) → AllByRecursion IsTextualBlock bs
    → FoundSays NamespaceSays (found q bs) (opened (items_of_namespace q (flat_map group_items gs)))
says_at q [] [] z up textual = tt
says_at q [] (g ∷ gs) z up textual = absurd z
says_at q (b ∷ bs) [] z up textual = absurd z
says_at q (b ∷ bs) (g ∷ gs) z up textual = by (is_block q b) refl
    (says_at q bs gs z.1 (sorted_tail namespace_order (name_components b.0) (map (λ e. name_components e.0) bs) up)
    textual.1)
  where
    above : AllByRecursion (λ y. namespace_order (name_components b.0) y ≡ Less) (map (λ e. name_components e.0) bs)
    above = sorted_head namespace_order (name_components b.0) (map (λ e. name_components e.0) bs) up

    by : (t : Bool) → is_block q b ≡ t → FoundSays NamespaceSays (found q bs)
        (opened (items_of_namespace q (flat_map group_items gs)))
        → FoundSays NamespaceSays (found q (b ∷ bs))
        (opened (items_of_namespace q (group_items g ++ flat_map group_items gs)))
    by true e r =
        let here : name_components b.0 ≡ q = sym
        (namespace_exact q (name_components b.0) (equal_from (namespace_order q (name_components b.0)) e)) in
        let items : items_of_namespace q (group_items g ++ flat_map group_items gs) ≡ group_items g =
        filter_append q (group_items g) (flat_map group_items gs)
        ∙ ((λ i. (group_at q b g z.0 ∙ ap (λ t. cond t (group_items g) []) e) i
        ++ none_written q bs gs z.1
        (subst (λ m. AllByRecursion (λ y. namespace_order m y ≡ Less)
        (map (λ (d : Block). name_components d.0) bs)) here above) i) ∙ append-nil (group_items g)) in
        subst (λ is. FoundSays NamespaceSays (found q (b ∷ bs)) (opened is)) (sym items)
        (subst (λ m. FoundSays NamespaceSays (found m (b ∷ bs)) (opened (group_items g))) here
        (block_says b g bs z.0 textual.0 (none_found (name_components b.0) bs above)))
    by false e r =
        let items : items_of_namespace q (group_items g ++ flat_map group_items gs) ≡ items_of_namespace q
        (flat_map group_items gs) =
        filter_append q (group_items g) (flat_map group_items gs)
        ∙ ap (λ l. l ++ items_of_namespace q (flat_map group_items gs))
        (group_at q b g z.0 ∙ ap (λ t. cond t (group_items g) []) e) in
        subst (λ is. FoundSays NamespaceSays (found q (b ∷ bs)) (opened is)) (sym items)
        (subst (λ o. FoundSays NamespaceSays o (opened (items_of_namespace q (flat_map group_items gs))))
        (sym (passed q b bs e)) r)

abbrev names_in : List Block → List NamespaceName
names_in bs = map (λ e. name_components e.0) bs

all_kept : (P : NamespaceName → Type 0) (bs : List Block) → AllByRecursion P (names_in bs)
    → AllByRecursion P (names_in (filter_map cedar_block bs))
all_kept P [] h = tt
all_kept P ((Some name, n) ∷ bs) h = (h.0, all_kept P bs h.1)
all_kept P ((None, n) ∷ bs) h = by (declares n) (all_kept P bs h.1)
  where
    by : (t : Bool) → AllByRecursion P (names_in (filter_map cedar_block bs))
        → AllByRecursion P
        (names_in (cons_option (if t then Some (None, cedar_namespace n) else None) (filter_map cedar_block bs)))
    by true r = (h.0, r)
    by false r = r

blocks_rise : (bs : List Block) → IsStrictlySortedBy namespace_order (names_in bs)
    → IsStrictlySortedBy namespace_order (names_in (filter_map cedar_block bs))
unfolding IsStrictlySortedBy
blocks_rise [] h = tt
blocks_rise ((Some name, n) ∷ bs) h =
    (all_kept (λ y. namespace_order (name_components (Some name)) y ≡ Less) bs h.0, blocks_rise bs h.1)
blocks_rise ((None, n) ∷ bs) h = by (declares n) (blocks_rise bs h.1)
    (all_kept (λ y. namespace_order None y ≡ Less) bs h.0)
  where
    by : (t : Bool) → IsStrictlySortedBy namespace_order (names_in (filter_map cedar_block bs))
        → AllByRecursion (λ y. namespace_order None y ≡ Less) (names_in (filter_map cedar_block bs))
        → IsStrictlySortedBy namespace_order
        (names_in (cons_option (if t then Some (None, cedar_namespace n) else None) (filter_map cedar_block bs)))
    by true r l = (l, r)
    by false r l = r

pub fragment_says : (f : Fragment RawName as_written) (groups : List Group) → AreGroupsOf components_written f groups
    → IsTextualFragment f → FragmentSays (cedar_form f) (flat_map group_items groups)
fragment_says f groups z textual = record {
  rising = blocks_rise f.0 textual.names_rise;
  each = λ q. says_at q f.0 groups z textual.names_rise textual.each;
}
