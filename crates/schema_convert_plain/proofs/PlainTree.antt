-- Trees of which nothing is to be said are translated namespace by namespace.
use Rattle.std.proofs.Common.{◌≡◌, ℕ, Bool, true, false, List, [], ◌∷◌, ◌++◌, map, Option, Some, None, refl, sym}
use Rattle.std.proofs.Common.{ap}
use Rattle.std.proofs.Common.{◌∙◌, subst, true≢false, find, inl, inr, flat_map, filter_map}
use Rattle.std.specs.BTreeMap.{is_at}
use Rattle.std.specs.Cmp.Derive.Mapped.{lex_map}
use Rattle.std.specs.Cmp.Lexicographic.{slice_cmp}
use Rattle.std.proofs.lemmas.Cmp.{tied_itself}
use Rattle.std.specs.List.{AllByRecursion, list_any, cons_option}
use Rattle.std.specs.Map.{lookup}
use Rattle.std.specs.Option.{option_cmp, option_map}
use Rattle.std.specs.Ordering.{is_eq}
use Rattle.std.specs.declared.cmp.Ordering.{Ordering}
use Rattle.std.specs.declared.cmp.Ordering.TheVariants.{Equal}
use Rattle.cedar_data.proofs.Every.{All-append, All-weaker}
use Rattle.cedar_data.specs.Maps.{map_of}
use Rattle.cedar_data.specs.Span.{Span}
use Rattle.cedar_data.specs.Text.{text_cmp}
use Rattle.cedar_data.specs.declared.node.Node.{Node}
use Rattle.cedar_data.proofs.Orders.{texts_total}
use Rattle.cedar_data.proofs.Lists.{list_any-map}
use Rattle.cedar_data.proofs.Every.{all_both}
use Rattle.cedar_identifiers.specs.Names.{components_of, has_cedar}
use Rattle.cedar_identifiers.specs.Words.{is_cedar}
use Rattle.cedar_identifiers.specs.declared.id.Id.{Id}
use Rattle.cedar_identifiers.specs.declared.internal_name.InternalName.{InternalName}
use Rattle.cedar_identifiers.specs.declared.name.Name.{Name}
use Rattle.cedar_identifiers.specs.declared.raw_name.RawName.{RawName}
use Rattle.cedar_identifiers.specs.declared.unreserved_id.UnreservedId.{UnreservedId}
use Rattle.cedar_names.specs.declared.extension_table.ExtensionTable.{ExtensionTable}
use Rattle.cedar_names.specs.Orders.{id_text_order}
use Rattle.schema_syntax_tree.specs.declared.annotated.Annotated.{Annotated}
use Rattle.schema_syntax_tree.specs.declared.declaration.Declaration.{Declaration}
use Rattle.schema_syntax_tree.specs.declared.namespace.Namespace.{Namespace}
use Rattle.schema_syntax_tree.specs.declared.path.Path.{Path}
use Rattle.schema_json.specs.Keywords.{is_keyword_name}
use Rattle.schema_json.specs.declared.common_type.CommonType.{CommonType}
use Rattle.schema_json.specs.declared.common_type.CommonTypeId.{CommonTypeId}
use Rattle.schema_json.specs.Orders.{unreserved_cmp, common_cmp, namespace_cmp}
use Rattle.schema_json.proofs.Orders.{unreserved_total, common_total, namespace_components, by_components}
use Rattle.schema_json.proofs.Orders.{namespaces_total}
use Rattle.schema_convert_types.specs.Names.{internal_name_of, name_of_ids}
use Rattle.schema_convert_fragments.specs.Fragments.{declarable_name_so, namespace_key, namespace_entry}
use Rattle.schema_convert_fragments.specs.Fragments.{common_entries, entity_entries}
use Rattle.schema_convert_fragments.specs.Fragments.{fragment_of, definition_of}
use Rattle.schema_convert_errors.specs.declared.warnings.SchemaWarning.{SchemaWarning}
use Rattle.schema_convert_openings.specs.Joined.{named, outside, empty_namespace, joined, have_one_name, path_cmp}
use Rattle.schema_convert_faults.specs.NamesIn.{entities_of, commons_of, entity_names_in, common_names_in, id_cmp}
use Rattle.schema_convert_plain.specs.Plain.{IsFreeId, IsPlainDeclaration, ArePlain, IsPlainNamespace, IsPlainTree}
use Rattle.schema_convert_plain.specs.Plain.{namespaces_apart}
use Rattle.schema_convert_faults.specs.Shadowings.{shadowings}
use Rattle.schema_convert_faults.specs.Translatable.{IsFreeName, AppliesLawfully, IsFreeCommon, IsLawfulNamespace}
use Rattle.schema_convert_plain.specs.Translation.{IsTranslation}
use Rattle.schema_convert_faults.specs.Warned.{IsAmong, SaysBuiltin, IsOfDeclared}
use Rattle.schema_convert_faults.proofs.Among.{among_map, among_map_of, none_cond}
use Rattle.schema_convert_plain.proofs.Counted.{keys_new, items_new, fresh, absent_parts}
use Rattle.schema_convert_openings.proofs.FirstRepeat.{AreNew}
use Rattle.schema_convert_faults.proofs.Lawful.{action_lawful, lawful}
use Rattle.schema_convert_plain.proofs.PlainJoined.{joined_as_they_stand}
use Rattle.schema_convert_plain.proofs.PlainNames.{text_eq, entity_key}
use Rattle.schema_convert_plain.proofs.PlainNames.{common_key}
use Rattle.schema_convert_plain.proofs.PlainNames.{entity_keys, common_keys, entities_once, commons_once, actions_once}
use Rattle.schema_convert_faults.proofs.Warnings.{warned, all_at}

-- what holds of each part of each item
all_flat : {A B : Type 0} (P : A → Type 0) (Q : B → Type 0) (f : A → List B) → ((x : A) → P x → AllByRecursion Q (f x))
    → (xs : List A) → AllByRecursion P xs → AllByRecursion Q (flat_map f xs)
all_flat P Q f each [] all = tt
all_flat P Q f each (x ∷ xs) all =
    All-append Q (f x) (flat_map f xs) (each x all.0) (all_flat P Q f each xs all.1)

-- no item passes a test where none is found
none_at : {A : Type 0} (test : A → Bool) (x : A) (xs : List A) → find test xs ≡ None → IsAmong x xs → test x ≡ false
none_at test x [] h i = absurd i
none_at test x (y ∷ xs) h (inl is) = ap test is ∙ (none_cond (test y) y (find test xs) h).0
none_at test x (y ∷ xs) h (inr i) = none_at test x xs (none_cond (test y) y (find test xs) h).1 i

module _ (table : ExtensionTable) (decls : List (Annotated (Node Declaration))) (plain : ArePlain table decls) where
  abbrev IsPlainDecl : Annotated (Node Declaration) → Type 0
  IsPlainDecl d = IsPlainDeclaration table d.item.node

  entities_free : AllByRecursion (IsFreeId table) (entity_names_in decls)
  entities_free = all_flat IsPlainDecl (IsFreeId table) (λ d. entities_of d.item.node) (λ d h. h.entities)
      decls plain.each

  commons_free : AllByRecursion (IsFreeId table) (common_names_in decls)
  commons_free = all_flat IsPlainDecl (IsFreeId table) (λ d. commons_of d.item.node) (λ d h. h.commons) decls plain.each

  words_free : AllByRecursion (λ id. is_keyword_name id.node.text ≡ false) (common_names_in decls)
  words_free = all_flat IsPlainDecl (λ id. is_keyword_name id.node.text ≡ false) (λ d. commons_of d.item.node)
      (λ d h. h.words) decls plain.each

  -- a common type and an entity type have other names
  unlike_names : (c e : Node Id) → IsAmong c (common_names_in decls) → IsAmong e (entity_names_in decls)
      → id_cmp c e ≡ Equal → ⊥
  unlike_names c e of_commons of_entities same =
      let es = entity_entries decls in
      let cs = common_entries decls in
      let is_text : IsAmong c.node.text (map (λ (n : Node Id). n.node.text) (common_names_in decls)) =
      (among_map (λ (n : Node Id). n.node.text) c.node.text (common_names_in decls)).1 (c, of_commons, refl) in
      let is_key : IsAmong c.node.text (map (common_key table) cs) =
      subst (IsAmong c.node.text) (sym (common_keys table decls plain)) is_text in
      let entry = (among_map (common_key table) c.node.text cs).0 is_key in
      let in_map = (among_map_of common_cmp cs entry.0
      (fresh common_cmp common_total cs plain.commons_once)).1 entry.1 in
      let absent = all_at (λ (x : CommonTypeId × CommonType RawName). lookup (is_at (unreserved_cmp x.0.id))
      (map_of unreserved_cmp es) ≡ None) entry.0 (map_of common_cmp cs) plain.unlike in_map in
      let none : find (text_eq entry.0.0.id.id.text) (map entity_key es) ≡ None =
      absent_parts unreserved_cmp unreserved_total text_eq (λ (u : UnreservedId). u.id.text) (λ a b. refl) es
      entry.0.0.id absent in
      let none_named : find (text_eq c.node.text) (map (λ (n : Node Id). n.node.text) (entity_names_in decls)) ≡ None =
      subst (λ t. find (text_eq t) (map (λ (n : Node Id). n.node.text) (entity_names_in decls)) ≡ None) (sym entry.2)
      (subst (λ l. find (text_eq entry.0.0.id.id.text) l ≡ None) (entity_keys table decls plain) none) in
      let is_entity : IsAmong e.node.text (map (λ (n : Node Id). n.node.text) (entity_names_in decls)) =
      (among_map (λ (n : Node Id). n.node.text) e.node.text (entity_names_in decls)).1 (e, of_entities, refl) in
      let other : text_eq c.node.text e.node.text ≡ false =
      none_at (text_eq c.node.text) e.node.text (map (λ (n : Node Id). n.node.text) (entity_names_in decls)) none_named
      is_entity in
      true≢false (sym (ap is_eq same) ∙ other)

  not_taken : (d : Node Id) (names : List (Node Id)) (w : SchemaWarning) → AllByRecursion (IsFreeId table) names
      → IsAmong d names → SaysBuiltin table d w → ⊥
  not_taken d names w all among says =
      let free = all_at (IsFreeId table) d names all among in
      true≢false (sym says.0 ∙ free.1)

  unwarned : (w : SchemaWarning) → IsOfDeclared table decls w → ⊥
  unwarned w h = elim h [
    | inl c ↦ not_taken c.0 (common_names_in decls) w commons_free c.1 c.2
    | inr f ↦ elim f [
      | inl e ↦ not_taken e.0 (entity_names_in decls) w entities_free e.1 e.2
      | inr c ↦ unlike_names c.0 c.2.0 c.1 c.2.1 c.2.2.0
    ]
  ]

  names_free : AllByRecursion IsFreeCommon (common_names_in decls)
  names_free = all_both (IsFreeId table) (λ id. is_keyword_name id.node.text ≡ false) IsFreeCommon
      (λ id h k. (h.0, k)) (common_names_in decls) commons_free words_free

lawful_one : (table : ExtensionTable) (n : Annotated Namespace) → IsPlainNamespace table n → IsLawfulNamespace n
lawful_one table n p =
    let decls = n.item.decls in
    record {
      name = p.free;
      entities_once = entities_once table decls p.decls;
      actions_once = actions_once table decls p.decls;
      commons_once = commons_once table decls p.decls;
      entities_free = All-weaker (IsFreeId table) (λ id. is_cedar id.node.text ≡ false) (λ id h. h.0)
          (entity_names_in decls) (entities_free table decls p.decls);
      blocks = All-weaker (IsPlainDecl table decls p.decls) (λ d. AppliesLawfully d.item.node)
          (λ d h. (action_lawful d.item.node).0 h.block) decls p.decls.each;
      commons_free = names_free table decls p.decls;
    }

nothing_among : {A : Type 0} (xs : List A) → ((x : A) → IsAmong x xs → ⊥) → [] ≡ xs
nothing_among [] none = refl
nothing_among (x ∷ xs) none = absurd (none x (inl refl))

-- the names of namespaces as they are in entries
abbrev Components : Type 0
Components = Option (List (List ℕ))

abbrev components_cmp : Components → Components → Ordering
components_cmp = option_cmp (slice_cmp text_cmp)

abbrev components_eq : Components → Components → Bool
components_eq a b = is_eq (components_cmp a b)

abbrev name_part : Option Path → Components
name_part name = option_map (λ p. components_of (internal_name_of p)) name

ids_alike : (a b : List Id) (first second : Option Span) → is_eq (slice_cmp id_text_order a b) ≡ true
    → is_eq (slice_cmp text_cmp (components_of (name_of_ids a first)) (components_of (name_of_ids b second))) ≡ true
ids_alike [] [] first second h = ap is_eq (tied_itself (texts_total) (components_of (name_of_ids [] first)))
ids_alike [] (y ∷ b) first second h = absurd (true≢false (sym h))
ids_alike (x ∷ a) [] first second h = absurd (true≢false (sym h))
ids_alike (x ∷ a) (y ∷ b) first second h =
    ap is_eq (lex_map (λ (id : Id). id.text) text_cmp (x ∷ a) (y ∷ b)) ∙ h

names_alike : (a b : Option Path) → is_eq (option_cmp path_cmp a b) ≡ true
    → components_eq (name_part a) (name_part b) ≡ true
names_alike None None h = refl
names_alike None (Some b) h = absurd (true≢false (sym h))
names_alike (Some a) None h = absurd (true≢false (sym h))
names_alike (Some a) (Some b) h = ids_alike a.ids b.ids a.loc b.loc h

free_ids : (ids : List Id) (loc : Option Span) → list_any (λ id. is_cedar id.text) ids ≡ false
    → has_cedar (components_of (name_of_ids ids loc)) ≡ false
free_ids [] loc h = refl
free_ids (id ∷ ids) loc h = list_any-map is_cedar (λ (id : Id). id.text) (id ∷ ids) ∙ h

abbrev IsNameOf : InternalName → Option Name → Type 0
IsNameOf name o = (d : Name) × (o ≡ Some d) × (d.name ≡ name)

declared_so : (name : InternalName) (b : Bool) (e : has_cedar (components_of name) ≡ b) → b ≡ false
    → IsNameOf name (declarable_name_so name b e)
declared_so name true e h = absurd (true≢false h)
declared_so name false e h = (record { name = name; unreserved = e }, refl, refl)

abbrev HasKey : Option Path → Type 0
HasKey name = (key : Option Name) × (namespace_key name ≡ Some key) × (namespace_components key ≡ name_part name)

free_key : (name : Option Path) → IsFreeName name → HasKey name
free_key None free = (None, refl, refl)
free_key (Some path) free =
    let name = internal_name_of path in
    let d = declared_so name (has_cedar (components_of name)) refl (free_ids path.ids path.loc free) in
    (Some d.0, ap (option_map Some) d.1, ap (λ m. Some (components_of m)) d.2)

entry_keys : (ns : List (Annotated Namespace)) → AllByRecursion (λ n. IsFreeName n.item.name) ns
    → map (λ e. namespace_components e.0) (filter_map namespace_entry ns) ≡ map (λ n. name_part n.item.name) ns
entry_keys [] all = refl
entry_keys (n ∷ ns) all =
    let k = free_key n.item.name all.0 in
    ap (λ o. map (λ e. namespace_components e.0)
    (cons_option (option_map (λ key. (key, definition_of n.item.decls n.annotations)) o)
    (filter_map namespace_entry ns))) k.1
    ∙ (λ i. k.2 i ∷ entry_keys ns all.1 i)

new_front : (done xs ys : List (Annotated Namespace)) → AreNew have_one_name done (xs ++ ys)
    → AreNew have_one_name done xs
new_front done [] ys new = tt
new_front done (x ∷ xs) ys new = (new.0, new_front (done ++ x ∷ []) xs ys new.1)

module _ (table : ExtensionTable) (tree : List (Annotated Namespace)) (plain : IsPlainTree table tree) where
  new_names : AreNew have_one_name [] (namespaces_apart tree)
  new_names =
      items_new have_one_name components_eq (λ n. name_part n.item.name)
      (λ a b h. names_alike a.item.name b.item.name h) [] (namespaces_apart tree)
      (subst (AreNew components_eq [])
      (entry_keys (namespaces_apart tree)
      (All-weaker (IsPlainNamespace table) (λ n. IsFreeName n.item.name) (λ n h. h.free)
      (namespaces_apart tree) plain.each))
      (keys_new namespace_cmp namespaces_total components_eq namespace_components (λ a b. ap is_eq (by_components a b))
      (filter_map namespace_entry (namespaces_apart tree)) plain.once))

  joined_so : joined tree ≡ namespaces_apart tree
  joined_so = ap (λ l. l ++ empty_namespace (outside tree))
      (joined_as_they_stand (named tree) (new_front [] (named tree) (empty_namespace (outside tree)) new_names)
      plain.notes)

  each_plain : AllByRecursion (IsPlainNamespace table) (joined tree)
  each_plain = subst (AllByRecursion (IsPlainNamespace table)) (sym joined_so) plain.each

  pub plain_tree : IsTranslation tree table (fragment_of (namespaces_apart tree)) []
  plain_tree =
      let no_fault = (lawful tree).1
      (All-weaker (IsPlainNamespace table) IsLawfulNamespace (lawful_one table) (joined tree) each_plain) in
      record {
        lawful = no_fault;
        is = ap fragment_of (sym joined_so);
        warned = nothing_among (shadowings tree table)
            (λ w among. let of = (warned tree table w no_fault).0 among in
            unwarned table of.0.item.decls
            (all_at (IsPlainNamespace table) of.0 (joined tree) each_plain of.1).decls w of.2);
      }
