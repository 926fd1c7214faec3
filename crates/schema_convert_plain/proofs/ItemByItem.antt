-- What is gathered of one item more, and the fragment of what was gathered.
use Rattle.std.proofs.Common.{◌≡◌, ◌≤◌, ℕ, Bool, true, false, List, [], ◌∷◌, ◌++◌, length, Option, Some, None, refl}
use Rattle.std.proofs.Common.{sym, ap}
use Rattle.std.proofs.Common.{◌∙◌, subst, true≢false, append-nil, append_assoc, filter_map, option_to_list, arith}
use Rattle.std.specs.List.{All, AllByRecursion, cons_option, flat_map}
use Rattle.std.specs.Option.{option_map}
use Rattle.std.proofs.lemmas.Grind.{flat_map-append}
use Rattle.std.proofs.lemmas.List.Elements.{filter_map-append}
use Rattle.cedar_data.proofs.Every.{All-append}
use Rattle.cedar_data.specs.Maps.{map_of}
use Rattle.cedar_data.specs.Text.{text_cmp}
use Rattle.cedar_data.specs.declared.node.Node.{Node}
use Rattle.cedar_data.specs.Span.{Span}
use Rattle.cedar_identifiers.specs.declared.annotations.Annotations.{Annotations}
use Rattle.cedar_identifiers.specs.declared.name.Name.{Name}
use Rattle.cedar_identifiers.specs.declared.raw_name.RawName.{RawName}
use Rattle.cedar_names.specs.declared.extension_table.ExtensionTable.{ExtensionTable}
use Rattle.schema_syntax_parser.specs.declared.syntax.AnnotationSyntax.{AnnotationSyntax}
use Rattle.schema_syntax_parser.specs.declared.syntax.DeclaredSyntax.{DeclaredSyntax}
use Rattle.schema_syntax_parser.specs.declared.syntax.ItemSyntax.{ItemSyntax}
use Rattle.schema_syntax_parser.specs.declared.syntax.ItemSyntax.TheVariants as item
use Rattle.schema_syntax_parser.specs.declared.syntax.PathSyntax.{PathSyntax}
use Rattle.schema_syntax_tree.specs.declared.annotated.Annotated.{Annotated}
use Rattle.schema_syntax_tree.specs.declared.declaration.Declaration.{Declaration}
use Rattle.schema_syntax_tree.specs.declared.namespace.Namespace.{Namespace}
use Rattle.schema_syntax_tree.specs.declared.path.Path.{Path}
use Rattle.schema_syntax_reader.specs.Placed.{NoSiteFault}
use Rattle.schema_syntax_reader.specs.Sites.{annotations, path_sites, declared_sites}
use Rattle.schema_syntax_reader.specs.Trees.{IsDeclaredOf}
use Rattle.schema_syntax_reader.proofs.Readings.{ReadTo, none_read, one_more_read, all_read, both_faultless}
use Rattle.schema_json.specs.declared.fragment.Fragment.{Fragment}
use Rattle.schema_json.specs.declared.fragment.NamespaceDefinition.{NamespaceDefinition}
use Rattle.schema_json.specs.Orders.{unreserved_cmp, common_cmp, namespace_cmp}
use Rattle.schema_json.specs.AsWritten.{as_written}
use Rattle.schema_json.proofs.Orders.{namespaces_total}
use Rattle.schema_convert_fragments.specs.Fragments.{common_entries}
use Rattle.schema_convert_fragments.specs.Fragments.{entity_entries, action_entries, common_entries_of}
use Rattle.schema_convert_fragments.specs.Fragments.{entity_entries_of}
use Rattle.schema_convert_fragments.specs.Fragments.{action_entries_of, namespace_entry, namespace_key, definition_of}
use Rattle.schema_convert_fragments.specs.Fragments.{fragment_of}
use Rattle.schema_convert_fragments.specs.declared.namespaces.Entries.{Entries}
use Rattle.schema_convert_plain.specs.Gathered.{EachPlain, AddsEntries, AddsRead, IsGatheredAs, IsOwn, IsGatheredOf}
use Rattle.schema_convert_plain.specs.Gathered.{AddsOutside}
use Rattle.schema_convert_plain.specs.Gathered.{AddsNamespace, AddsOwn, AddsItem}
use Rattle.schema_convert_openings.specs.Joined.{named, named_so, outside, unnamed_so, empty_namespace}
use Rattle.schema_convert_plain.specs.Plain.{IsPlainDeclaration, AreOnce, AreUnlike, ArePlain, HasRisingNotes}
use Rattle.schema_convert_plain.specs.Plain.{IsPlainNamespace}
use Rattle.schema_convert_plain.specs.Plain.{namespaces_apart}
use Rattle.schema_convert_faults.specs.Translatable.{IsFreeName}
use Rattle.schema_convert_plain.specs.Translation.{IsTranslation}
use Rattle.schema_convert_plain.specs.declared.gathering.Gathered.{Gathered}
use Rattle.schema_convert_plain.proofs.Counted.{at_most_all}
use Rattle.schema_convert_plain.proofs.PlainTree.{plain_tree}

one_option : {A : Type 0} (o : Option A) → cons_option o [] ≡ option_to_list o
one_option None = refl
one_option (Some x) = refl

no_append : {A : Type 0} (xs ys : List A) → (ys ≡ [] → ⊥) → xs ++ ys ≡ [] → ⊥
no_append [] ys some h = some h
no_append (x ∷ xs) ys some h = cc

module _ (table : ExtensionTable) (tree : List (Annotated Namespace)) (n : Annotated Namespace) where
  named_more : (o : Option Path) → n.item.name ≡ o → named (tree ++ n ∷ []) ≡ named tree ++ named_so o n
  named_more o is =
      flat_map-append (λ (m : Annotated Namespace). named_so m.item.name m) tree (n ∷ [])
      ∙ ap (λ l. named tree ++ l) (append-nil (named_so n.item.name n) ∙ ap (λ p. named_so p n) is)

  outside_more : (o : Option Path) → n.item.name ≡ o
      → outside (tree ++ n ∷ []) ≡ outside tree ++ unnamed_so o n.item.decls
  outside_more o is =
      flat_map-append (λ (m : Annotated Namespace). unnamed_so m.item.name m.item.decls) tree (n ∷ [])
      ∙ ap (λ l. outside tree ++ l)
      (append-nil (unnamed_so n.item.name n.item.decls) ∙ ap (λ p. unnamed_so p n.item.decls) is)

  -- a namespace that has a name
  more_named : (before after : Gathered) (path : Path) → n.item.name ≡ Some path
      → IsGatheredOf table tree before
      → after.namespaces.items ≡ before.namespaces.items ++ option_to_list (namespace_entry n)
      → IsPlainNamespace table n
      → after.outside ≡ before.outside → after.has_outside ≡ before.has_outside
      → IsGatheredOf table (tree ++ n ∷ []) after
  more_named before after path is so_far entry plain same flag =
      let names = named_more (Some path) is in
      let out : outside (tree ++ n ∷ []) ≡ outside tree = outside_more (Some path) is ∙ append-nil (outside tree) in
      record {
        namespaces = entry
            ∙ (ap (λ l. l ++ option_to_list (namespace_entry n)) so_far.namespaces
            ∙ (ap (λ l. filter_map namespace_entry (named tree) ++ l) (sym (one_option (namespace_entry n)))
            ∙ (sym (filter_map-append namespace_entry (named tree) (n ∷ []))
            ∙ ap (filter_map namespace_entry) (sym names))));
        each = subst (AllByRecursion (IsPlainNamespace table)) (sym names)
            (All-append (IsPlainNamespace table) (named tree) (n ∷ []) so_far.each (plain, tt));
        commons = ap (λ (e : Entries). e.commons.items) same ∙ (so_far.commons ∙ ap common_entries (sym out));
        entities = ap (λ (e : Entries). e.entities.items) same ∙ (so_far.entities ∙ ap entity_entries (sym out));
        actions = ap (λ (e : Entries). e.actions.items) same ∙ (so_far.actions ∙ ap action_entries (sym out));
        plain = subst (EachPlain table) (sym out) so_far.plain;
        none = λ h. out ∙ so_far.none (sym flag ∙ h);
        some = λ h e. so_far.some (sym flag ∙ h) (sym out ∙ e);
      }

  -- a declaration outside of every namespace
  pub more_outside : (before after : Gathered) (decl : Annotated (Node Declaration)) → n.item.name ≡ None
      → n.item.decls ≡ decl ∷ [] → IsGatheredOf table tree before → AddsOutside table before after decl
      → IsGatheredOf table (tree ++ n ∷ []) after
  more_outside before after decl is alone so_far adds =
      let decls = decl ∷ [] in
      let names : named (tree ++ n ∷ []) ≡ named tree = named_more None is ∙ append-nil (named tree) in
      let out : outside (tree ++ n ∷ []) ≡ outside tree ++ decls = outside_more None is
      ∙ ap (λ l. outside tree ++ l) alone in
      record {
        namespaces = adds.others ∙ (so_far.namespaces ∙ ap (filter_map namespace_entry) (sym names));
        each = subst (AllByRecursion (IsPlainNamespace table)) (sym names) so_far.each;
        commons = adds.entries.commons
            ∙ (ap (λ l. l ++ common_entries decls) so_far.commons
            ∙ (sym (flat_map-append (λ (d : Annotated (Node Declaration)). common_entries_of d.item.node d.annotations
            d.item.loc) (outside tree) decls) ∙ ap common_entries (sym out)));
        entities = adds.entries.entities
            ∙ (ap (λ l. l ++ entity_entries decls) so_far.entities
            ∙ (sym (flat_map-append (λ (d : Annotated (Node Declaration)). entity_entries_of d.item.node d.annotations
            d.item.loc) (outside tree) decls) ∙ ap entity_entries (sym out)));
        actions = adds.entries.actions
            ∙ (ap (λ l. l ++ action_entries decls) so_far.actions
            ∙ (sym (flat_map-append (λ (d : Annotated (Node Declaration)). action_entries_of d.item.node d.annotations
            d.item.loc) (outside tree) decls) ∙ ap action_entries (sym out)));
        plain = subst (EachPlain table) (sym out)
            (All-append (λ (d : Annotated (Node Declaration)). IsPlainDeclaration table d.item.node) (outside tree)
            decls so_far.plain
            adds.entries.plain);
        none = λ h. absurd (true≢false (sym adds.some ∙ h));
        some = λ h e. no_append (outside tree) decls (λ g. not_empty g) (sym out ∙ e);
      }
    where
      not_empty : decl ∷ [] ≡ [] → ⊥
      not_empty g = cc

module _ (source : List ℕ) (table : ExtensionTable) (before after : Gathered) (raw : ItemSyntax) where
  -- a namespace that was read
  pub namespace_added : (list : List AnnotationSyntax) (name : PathSyntax) (raws : List DeclaredSyntax) (loc : Span)
      → raw ≡ item.Namespace list name raws loc → AddsNamespace source table list name raws before after
      → AddsItem source table raw before after
  namespace_added list name raws loc is adds =
      let own = adds.entries in
      let n : Annotated Namespace = record {
        item = record { name = Some own.path; decls = own.read.decls; loc = Some loc };
        annotations = own.notes;
      } in
      let entry : namespace_entry n ≡ Some (Some own.key, own.definition) =
      ap (λ o. option_map (λ key. (key, definition_of own.read.decls own.notes)) (option_map Some o)) own.keyed
      ∙ ap (λ d. Some (Some own.key, d)) (sym own.read.is) in
      subst (λ i. AddsItem source table i before after) (sym is) (record {
        namespace = n;
        is = (own.path, own.read.decls, refl, own.names, own.read.are, own.noted);
        lawful = both_faultless source (annotations list ∷ path_sites name) (flat_map declared_sites raws) own.lawful
            own.read.lawful;
        grown = λ tree so_far. more_named table tree n before after own.path refl so_far
            (own.entry ∙ ap (λ o. before.namespaces.items ++ option_to_list o) (sym entry))
            (record { free = own.free; decls = own.read.plain }) adds.outside adds.same;
      })

  -- a declaration that was read
  pub outside_added : (x : DeclaredSyntax) → raw ≡ item.Decl x → (d : Annotated (Node Declaration))
      → IsDeclaredOf source x d → All (NoSiteFault source) (declared_sites x) → AddsOutside table before after d
      → AddsItem source table raw before after
  outside_added x is d reads lawful adds =
      let n : Annotated Namespace =
      record { item = record { name = None; decls = d ∷ []; loc = None }; annotations = record { 0 = [] } } in
      subst (λ i. AddsItem source table i before after) (sym is) (record {
        namespace = n;
        is = (d, refl, reads);
        lawful = lawful;
        grown = λ tree so_far. more_outside table tree n before after d refl refl so_far adds;
      })

-- entries that are those of plain declarations, and what they define
pub own_plain : (table : ExtensionTable) (decls : List (Annotated (Node Declaration))) (entries : Entries)
    (notes : Annotations) (d : NamespaceDefinition RawName as_written) → IsOwn entries notes d
    → entries.commons.items ≡ common_entries decls → entries.entities.items ≡ entity_entries decls
    → entries.actions.items ≡ action_entries decls → EachPlain table decls
    → (d ≡ definition_of decls notes) × ArePlain table decls
own_plain table decls entries notes d own commons entities actions plain =
    let made : d ≡ definition_of decls notes = own.is ∙ (λ i. record {
      common_types = map_of common_cmp (commons i);
      entity_types = map_of unreserved_cmp (entities i);
      actions = map_of text_cmp (actions i);
      annotations = notes;
    }) in (
      made,
      record {
        each = plain;
        commons_once = subst (AreOnce common_cmp) commons own.commons_once;
        entities_once = subst (AreOnce unreserved_cmp) entities own.entities_once;
        actions_once = subst (AreOnce text_cmp) actions own.actions_once;
        unlike = subst (λ (x : NamespaceDefinition RawName as_written). AreUnlike x.common_types x.entity_types) made
            own.unlike;
      },
    )

grown : {A B : Type 0} (f : A → List B) (before mid after : List B) (xs : List A) (x : A)
    → mid ≡ before ++ flat_map f xs → after ≡ mid ++ f x → after ≡ before ++ flat_map f (xs ++ x ∷ [])
grown f before mid after xs x so_far more =
    more ∙ (ap (λ l. l ++ f x) so_far ∙ (append_assoc before (flat_map f xs) (f x)
    ∙ ap (λ l. before ++ l)
    (sym (flat_map-append f xs (x ∷ []) ∙ ap (λ l. flat_map f xs ++ l) (append-nil (f x))))))

-- one plain declaration more
more_declared : (table : ExtensionTable) (before mid after : Entries) (decls : List (Annotated (Node Declaration)))
    (d : Annotated (Node Declaration)) → AddsEntries table before mid decls
    → after.commons.items ≡ mid.commons.items ++ common_entries_of d.item.node d.annotations d.item.loc
    → after.entities.items ≡ mid.entities.items ++ entity_entries_of d.item.node d.annotations d.item.loc
    → after.actions.items ≡ mid.actions.items ++ action_entries_of d.item.node d.annotations d.item.loc
    → IsPlainDeclaration table d.item.node → AddsEntries table before after (decls ++ d ∷ [])
more_declared table before mid after decls d so_far commons entities actions plain = record {
  commons = grown (λ (d : Annotated (Node Declaration)). common_entries_of d.item.node d.annotations d.item.loc)
      before.commons.items mid.commons.items after.commons.items decls d so_far.commons commons;
  entities = grown (λ (d : Annotated (Node Declaration)). entity_entries_of d.item.node d.annotations d.item.loc)
      before.entities.items mid.entities.items after.entities.items decls d so_far.entities entities;
  actions = grown (λ (d : Annotated (Node Declaration)). action_entries_of d.item.node d.annotations d.item.loc)
      before.actions.items mid.actions.items after.actions.items decls d so_far.actions actions;
  plain = All-append (λ (d : Annotated (Node Declaration)). IsPlainDeclaration table d.item.node) decls
      (d ∷ []) so_far.plain
      (plain, tt);
}

module _ (source : List ℕ) (table : ExtensionTable) (raws : List DeclaredSyntax) where
  abbrev pub IsReadTo : List DeclaredSyntax → List (Annotated (Node Declaration)) → Type 0
  IsReadTo rest decls = ReadTo source declared_sites (IsDeclaredOf source) raws rest decls

  -- those before the rest of the declarations were read, and what they declare is there too
  pub record AddedTo (rest : List DeclaredSyntax) (before after : Entries) : Type 0 where
    pub decls : List (Annotated (Node Declaration))
    pub read : IsReadTo rest decls
    pub adds : AddsEntries table before after decls

  pub none_added : (rest : List DeclaredSyntax) (entries : Entries) → rest ≡ raws → AddedTo rest entries entries
  none_added rest entries whole = record {
    decls = [];
    read = none_read source declared_sites (IsDeclaredOf source) raws rest [] whole refl;
    adds = record {
      commons = sym (append-nil entries.commons.items);
      entities = sym (append-nil entries.entities.items);
      actions = sym (append-nil entries.actions.items);
      plain = tt;
    };
  }

  pub one_more_added : (rest : List DeclaredSyntax) (r : DeclaredSyntax) (others : List DeclaredSyntax)
      → rest ≡ r ∷ others → (before mid after : Entries) (d : Annotated (Node Declaration)) → AddedTo rest before mid
      → IsDeclaredOf source r d → All (NoSiteFault source) (declared_sites r)
      → after.commons.items ≡ mid.commons.items ++ common_entries_of d.item.node d.annotations d.item.loc
      → after.entities.items ≡ mid.entities.items ++ entity_entries_of d.item.node d.annotations d.item.loc
      → after.actions.items ≡ mid.actions.items ++ action_entries_of d.item.node d.annotations d.item.loc
      → IsPlainDeclaration table d.item.node → AddedTo others before after
  one_more_added rest r others next before mid after d so_far is lawful commons entities actions plain = record {
    decls = so_far.decls ++ d ∷ [];
    read = one_more_read source declared_sites (IsDeclaredOf source) raws rest r others next so_far.decls so_far.read
        (so_far.decls ++ d ∷ []) d is lawful refl;
    adds = more_declared table before mid after so_far.decls d so_far.adds commons entities actions plain;
  }

  pub all_added : (rest : List DeclaredSyntax) (before after : Entries) → rest ≡ [] → AddedTo rest before after
      → AddsRead source table raws before after
  all_added rest before after none so_far =
      let all = all_read source declared_sites (IsDeclaredOf source) raws rest so_far.decls none so_far.read in
      record { decls = so_far.decls; are = all.0; lawful = all.1; adds = so_far.adds }

  -- what entries define that are those of these declarations
  pub read_as : (before after : Entries) (notes : Annotations) (d : NamespaceDefinition RawName as_written)
      → before.commons.items ≡ [] → before.entities.items ≡ [] → before.actions.items ≡ []
      → AddsRead source table raws before after → IsOwn after notes d → IsGatheredAs source table raws notes d
  read_as before after notes d commons entities actions reads own =
      let is = own_plain table reads.decls after notes d own
      (reads.adds.commons ∙ ap (λ l. l ++ common_entries reads.decls) commons)
      (reads.adds.entities ∙ ap (λ l. l ++ entity_entries reads.decls) entities)
      (reads.adds.actions ∙ ap (λ l. l ++ action_entries reads.decls) actions) reads.adds.plain in
      record { decls = reads.decls; are = reads.are; lawful = reads.lawful; is = is.0; plain = is.1 }

module _ (table : ExtensionTable) (tree : List (Annotated Namespace))
    (rising : AllByRecursion HasRisingNotes (named tree)) where
  -- as many namespaces as were gathered
  finished : (es : List (Option Name × NamespaceDefinition RawName as_written)) (f : Fragment RawName as_written)
      → es ≡ filter_map namespace_entry (namespaces_apart tree) → f ≡ record { 0 = map_of namespace_cmp es }
      → length es ≤ length f.0 → AllByRecursion (IsPlainNamespace table) (namespaces_apart tree)
      → IsTranslation tree table f []
  finished es f are made many plain =
      let all : f ≡ fragment_of (namespaces_apart tree) = made ∙ (λ i. record { 0 = map_of namespace_cmp (are i) }) in
      let most = at_most_all namespace_cmp namespaces_total es in
      let long : length f.0 ≡ length (map_of namespace_cmp es) = ap
      (λ (x : Fragment RawName as_written). length x.0) made in
      let once : length (map_of namespace_cmp es) ≡ length es = omega (arith, most, long, many) in
      subst (λ (x : Fragment RawName as_written). IsTranslation tree table x []) (sym all)
      (plain_tree table tree (record {
        each = plain;
        notes = rising;
        once = subst (AreOnce namespace_cmp) are once;
      }))

  -- nothing stands outside of the namespaces
  pub finished_without : (g : Gathered) (f : Fragment RawName as_written) → IsGatheredOf table tree g
      → g.has_outside ≡ false → f ≡ record { 0 = map_of namespace_cmp g.namespaces.items }
      → length g.namespaces.items ≤ length f.0 → IsTranslation tree table f []
  finished_without g f so_far without made many =
      let same : namespaces_apart tree ≡ named tree = ap (λ l. named tree ++ empty_namespace l) (so_far.none without)
      ∙ append-nil (named tree) in
      finished g.namespaces.items f (so_far.namespaces ∙ ap (filter_map namespace_entry) (sym same)) made many
      (subst (AllByRecursion (IsPlainNamespace table)) (sym same) so_far.each)

  abbrev IsEmptyOf : List (Annotated (Node Declaration)) → Type 0
  IsEmptyOf decls = (n : Annotated Namespace) × (empty_namespace decls ≡ n ∷ []) × (n.item.name ≡ None)
      × (n.item.decls ≡ decls) × (n.annotations ≡ record { 0 = [] })

  empty_of : (decls : List (Annotated (Node Declaration))) → (decls ≡ [] → ⊥) → IsEmptyOf decls
  empty_of [] some = absurd (some refl)
  empty_of (d ∷ ds) some = (
    record { item = record { name = None; decls = d ∷ ds; loc = None }; annotations = record { 0 = [] } },
    refl,
    refl,
    refl,
    refl,
  )

  -- something stands outside of them
  pub finished_with : (g : Gathered) (d : NamespaceDefinition RawName as_written)
      (es : List (Option Name × NamespaceDefinition RawName as_written)) (f : Fragment RawName as_written)
      → IsGatheredOf table tree g → g.has_outside ≡ true → IsOwn g.outside (record { 0 = [] }) d
      → es ≡ g.namespaces.items ++ (None, d) ∷ [] → f ≡ record { 0 = map_of namespace_cmp es }
      → length es ≤ length f.0
      → IsTranslation tree table f []
  finished_with g d es f so_far with own into made many =
      let decls = outside tree in
      let is = own_plain table decls g.outside (record { 0 = [] }) d own so_far.commons so_far.entities so_far.actions
      so_far.plain in
      let n = empty_of decls (so_far.some with) in
      let entry : namespace_entry n.0 ≡ Some (None, definition_of decls (record { 0 = [] })) =
      entry_of n.0 decls n.2 n.3 n.4 in
      let all : filter_map namespace_entry (namespaces_apart tree)
      ≡ filter_map namespace_entry (named tree) ++ (None, definition_of decls (record { 0 = [] })) ∷ [] =
      ap (λ l. filter_map namespace_entry (named tree ++ l)) n.1
      ∙ (filter_map-append namespace_entry (named tree) (n.0 ∷ [])
      ∙ ap (λ o. filter_map namespace_entry (named tree) ++ cons_option o []) entry) in
      let are : es ≡ filter_map namespace_entry (namespaces_apart tree) =
      into ∙ ((λ i. so_far.namespaces i ++ (None, is.0 i) ∷ []) ∙ sym all) in
      let here : IsPlainNamespace table n.0 = record {
        free = subst IsFreeName (sym n.2) tt;
        decls = subst (ArePlain table) (sym n.3) is.1;
      } in
      finished es f are made many
      (subst (λ l. AllByRecursion (IsPlainNamespace table) (named tree ++ l)) (sym n.1)
      (All-append (IsPlainNamespace table) (named tree) (n.0 ∷ []) so_far.each (here, tt)))
    where
      entry_of : (n : Annotated Namespace) (decls : List (Annotated (Node Declaration))) → n.item.name ≡ None
          → n.item.decls ≡ decls → n.annotations ≡ record { 0 = [] }
          → namespace_entry n ≡ Some (None, definition_of decls (record { 0 = [] }))
      entry_of n decls name same notes =
          ap (λ o. option_map (λ key. (key, definition_of n.item.decls n.annotations)) (namespace_key o)) name
          ∙ (λ i. Some (None, definition_of (same i) (notes i)))

  -- the namespaces, and what stands outside of them where something does
  pub whole : (g : Gathered) (es : List (Option Name × NamespaceDefinition RawName as_written))
      (f : Fragment RawName as_written) → IsGatheredOf table tree g
      → AddsOwn g.has_outside g.outside g.namespaces.items es → f ≡ record { 0 = map_of namespace_cmp es }
      → length es ≤ length f.0 → IsTranslation tree table f []
  whole g es f so_far adds made many = by g.has_outside refl adds
    where
      by : (b : Bool) → g.has_outside ≡ b → AddsOwn b g.outside g.namespaces.items es → IsTranslation tree table f []
      by true with a = finished_with g a.0 es f so_far with a.1 a.2 made many
      by false without a =
          finished_without g f so_far without (made ∙ (λ i. record { 0 = map_of namespace_cmp (a i) }))
          (subst (λ l. length l ≤ length f.0) a many)
