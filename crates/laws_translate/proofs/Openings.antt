-- The joined namespaces of a tree, by the openings of each name.
use Rattle.std.proofs.Common.{◌≡◌, ℕ, Bool, true, false, cond, List, [], ◌∷◌, ◌++◌, Option, Some, None}
use Rattle.std.proofs.Common.{option_map, filter, filter_map, flat_map, find, refl, sym, ap, ◌∙◌, true≢false}
use Rattle.std.proofs.Common.{if◌then◌else◌}
use Rattle.std.proofs.lemmas.Option.{same_Some}
use Rattle.std.specs.BTreeMap.{is_at}
use Rattle.std.specs.Cmp.Lexicographic.{slice_cmp}
use Rattle.std.specs.List.{AllByRecursion, list_any, cons_option}
use Rattle.std.specs.Map.{lookup}
use Rattle.std.specs.Option.{option_or, option_cmp}
use Rattle.std.specs.Ordering.{is_eq, ordering_then}
use Rattle.cedar_data.proofs.Every.{All-append, All-map}
use Rattle.cedar_data.specs.Maps.{map_of, last_at}
use Rattle.cedar_data.specs.Text.{text_cmp}
use Rattle.cedar_data.specs.declared.node.Node.{Node}
use Rattle.cedar_data.proofs.Orders.{equal_from}
use Rattle.cedar_data.proofs.Lists.{found_passes, list_any-map}
use Rattle.cedar_data.proofs.Options.{or_none}
use Rattle.cedar_identifiers.specs.Names.{components_of, texts_of, has_cedar}
use Rattle.cedar_identifiers.specs.Words.{is_cedar}
use Rattle.cedar_identifiers.specs.declared.id.Id.{Id}
use Rattle.cedar_identifiers.specs.declared.internal_name.InternalName.{InternalName}
use Rattle.cedar_identifiers.specs.declared.name.Name.{Name}
use Rattle.cedar_identifiers.specs.declared.raw_name.RawName.{RawName}
use Rattle.cedar_names.specs.Orders.{id_text_order}
use Rattle.schema_syntax_tree.specs.declared.annotated.Annotated.{Annotated}
use Rattle.schema_syntax_tree.specs.declared.declaration.Declaration.{Declaration}
use Rattle.schema_syntax_tree.specs.declared.namespace.Namespace.{Namespace}
use Rattle.schema_syntax_tree.specs.declared.path.Path.{Path}
use Rattle.schema_json.specs.declared.fragment.NamespaceDefinition.{NamespaceDefinition}
use Rattle.schema_json.specs.Orders.{namespace_cmp}
use Rattle.schema_json.specs.AsWritten.{as_written}
use Rattle.laws_written.specs.PrintedDecls.{IsSome}
use Rattle.schema_convert_types.specs.Names.{internal_name_of}
use Rattle.schema_convert_fragments.specs.Fragments.{definition_of, declarable_name_so, namespace_key}
use Rattle.schema_convert_fragments.specs.Fragments.{namespace_entry}
use Rattle.schema_convert_openings.specs.Joined.{named_so, unnamed_so, named, outside, have_one_name, first_openings}
use Rattle.schema_convert_openings.specs.Joined.{openings_of, opened_as, joined_by_name, empty_namespace, joined}
use Rattle.schema_convert_openings.specs.Joined.{path_cmp}
use Rattle.schema_convert_faults.specs.Translatable.{IsFreeName}
use Rattle.schema_convert_openings.proofs.Own.{all_firsts}
use Rattle.laws_translate.specs.FragmentsSay.{NamespaceName, namespace_order, name_components}
use Rattle.laws_translate.proofs.Firsts.{last_of, last_append, last_first, last_map, find_first, filter_same}
use Rattle.laws_translate.proofs.Maps.{lookup_map}
use Rattle.laws_translate.proofs.Orders.{namespace_total, namespace_exact}
use Rattle.laws_translate.proofs.Types.{named as path_named}

abbrev pub Opening : Type 0
Opening = Annotated Namespace

abbrev pub name_in_tree : Option Path → NamespaceName
name_in_tree name = option_map (λ p. texts_of p.ids) name

abbrev pub tree_name : Opening → NamespaceName
tree_name n = name_in_tree n.item.name

-- an opening of the namespace of this name
abbrev pub opens : NamespaceName → Opening → Bool
opens q n = is_at (namespace_order q) (tree_name n)

ids_order : (xs ys : List Id) → slice_cmp id_text_order xs ys ≡ slice_cmp text_cmp (texts_of xs) (texts_of ys)
ids_order [] [] = refl
ids_order [] (y ∷ ys) = refl
ids_order (x ∷ xs) [] = refl
ids_order (x ∷ xs) (y ∷ ys) = ap (ordering_then (text_cmp x.text y.text)) (ids_order xs ys)

paths_order : (a b : Option Path) → option_cmp path_cmp a b ≡ namespace_order (name_in_tree a) (name_in_tree b)
paths_order None None = refl
paths_order None (Some b) = refl
paths_order (Some a) None = refl
paths_order (Some a) (Some b) = ids_order a.ids b.ids

pub one_name : (a b : Opening) → have_one_name a b ≡ opens (tree_name a) b
one_name a b = ap is_eq (paths_order a.item.name b.item.name)

module _ (q : NamespaceName) where
  pub at_name : (x : Opening) → opens q x ≡ true → q ≡ tree_name x
  at_name x h = namespace_exact q (tree_name x) (equal_from (namespace_order q (tree_name x)) h)

  pub same_openings : (x y : Opening) → opens q x ≡ true → have_one_name x y ≡ opens q y
  same_openings x y h = one_name x y ∙ ap (λ n. opens n y) (sym (at_name x h))

  both_open : (x y : Opening) → opens q x ≡ true → opens q y ≡ true → have_one_name x y ≡ true
  both_open x y h k = same_openings x y h ∙ k

  not_one : (x y : Opening) (b : Bool) → have_one_name x y ≡ b → opens q x ≡ false → opens q y ≡ true
      → have_one_name x y ≡ false
  not_one x y false e h k = e
  not_one x y true e h k =
      let same : tree_name x ≡ tree_name y = namespace_exact (tree_name x) (tree_name y)
      (equal_from (namespace_order (tree_name x) (tree_name y)) (sym (one_name x y) ∙ e)) in
      absurd (true≢false (sym k ∙ (ap (is_at (namespace_order q)) (sym same) ∙ h)))

  abbrev pub openings : List Opening → List Opening
  openings tree = filter (opens q) tree

  -- the joined namespace of openings with a name
  abbrev pub whole : List Opening → Option Opening
  whole [] = None
  whole (o ∷ os) = Some (opened_as o (o ∷ os))

  opened_whole : (ns os : List Opening) → filter (opens q) ns ≡ os → (o : Option Opening) → find (opens q) ns ≡ o
      → o ≡ find (λ _. true) os → option_map (λ n. opened_as n (openings_of n ns)) o ≡ whole os
  opened_whole ns [] e None f g = refl
  opened_whole ns [] e (Some n) f g = cc
  opened_whole ns (o ∷ os) e None f g = cc
  opened_whole ns (o ∷ os) e (Some n) f g =
      let same : n ≡ o = same_Some n o g in
      let passes : opens q o ≡ true = found_passes (opens q) ns o (f ∙ g) in
      ap (λ m. Some (opened_as m (openings_of m ns))) same
      ∙ ap (λ l. Some (opened_as o l))
      (filter_same (have_one_name o) (opens q) (λ y. same_openings o y passes) ns ∙ e)

  pub last_named : (ns : List Opening) → last_of (opens q) (joined_by_name ns) ≡ whole (openings ns)
  last_named ns =
      last_map (opens q) (λ n. opened_as n (openings_of n ns)) (first_openings ns)
      ∙ (ap (option_map (λ n. opened_as n (openings_of n ns)))
      (last_first (opens q) have_one_name both_open (λ x y. not_one x y (have_one_name x y) refl) ns)
      ∙ opened_whole ns (openings ns) refl (find (opens q) ns) refl (find_first (opens q) ns))

-- a namespace with a name
module _ (p : List (List ℕ)) where
  pub named_opens : (tree : List Opening) → openings (Some p) (named tree) ≡ openings (Some p) tree
  named_opens [] = refl
  named_opens (a ∷ tree) = by a.item.name refl (named_opens tree)
    where
      by : (o : Option Path) → a.item.name ≡ o → openings (Some p) (named tree) ≡ openings (Some p) tree
          → openings (Some p) (named_so o a ++ named tree) ≡ cond (opens (Some p) a) (a ∷ openings (Some p) tree)
          (openings (Some p) tree)
      by None e r = r
          ∙ sym (ap
          (λ o. cond (is_at (namespace_order (Some p)) (name_in_tree o)) (a ∷ openings (Some p) tree)
          (openings (Some p) tree)) e)
      by (Some x) e r = ap (λ l. cond (opens (Some p) a) (a ∷ l) l) r

  none_empty : (ds : List (Annotated (Node Declaration))) → last_of (opens (Some p)) (empty_namespace ds) ≡ None
  none_empty [] = refl
  none_empty (d ∷ ds) = refl

  -- the joined namespace of this name has what its openings have
  pub joined_named : (tree : List Opening) → last_of (opens (Some p)) (joined tree) ≡ whole (Some p)
      (openings (Some p) tree)
  joined_named tree =
      last_append (opens (Some p)) (joined_by_name (named tree)) (empty_namespace (outside tree))
      ∙ (ap (λ o. option_or o (last_of (opens (Some p)) (joined_by_name (named tree)))) (none_empty (outside tree))
      ∙ (last_named (Some p) (named tree) ∙ ap (whole (Some p)) (named_opens tree)))

abbrev pub decls_of : Opening → List (Annotated (Node Declaration))
decls_of n = n.item.decls

pub outside_opens : (tree : List Opening) → outside tree ≡ flat_map decls_of (openings None tree)
outside_opens [] = refl
outside_opens (a ∷ tree) = by a.item.name refl (outside_opens tree)
  where
    by : (o : Option Path) → a.item.name ≡ o → outside tree ≡ flat_map decls_of (openings None tree)
        → unnamed_so o a.item.decls ++ outside tree ≡ flat_map decls_of
        (cond (opens None a) (a ∷ openings None tree) (openings None tree))
    by None e r = ap (λ l. a.item.decls ++ l) r
        ∙ sym (ap
        (λ o. flat_map decls_of
        (cond (is_at (namespace_order None) (name_in_tree o)) (a ∷ openings None tree) (openings None tree))) e)
    by (Some x) e r = r
        ∙ sym (ap
        (λ o. flat_map decls_of
        (cond (is_at (namespace_order None) (name_in_tree o)) (a ∷ openings None tree) (openings None tree))) e)

no_unnamed : (tree : List Opening) → openings None (named tree) ≡ []
no_unnamed [] = refl
no_unnamed (a ∷ tree) = by a.item.name refl (no_unnamed tree)
  where
    by : (o : Option Path) → a.item.name ≡ o → openings None (named tree) ≡ []
        → openings None (named_so o a ++ named tree) ≡ []
    by None e r = r
    by (Some x) e r =
        ap (λ o. cond (is_at (namespace_order None) (name_in_tree o)) (a ∷ openings None (named tree))
        (openings None (named tree))) e ∙ r

pub joined_unnamed : (tree : List Opening) → last_of (opens None) (joined tree) ≡ last_of (opens None)
    (empty_namespace (outside tree))
joined_unnamed tree =
    last_append (opens None) (joined_by_name (named tree)) (empty_namespace (outside tree))
    ∙ (ap (option_or (last_of (opens None) (empty_namespace (outside tree))))
    (last_named None (named tree) ∙ ap (whole None) (no_unnamed tree))
    ∙ or_none (last_of (opens None) (empty_namespace (outside tree))))

-- a name has ids
abbrev pub HasIds : Option Path → Type 0
HasIds None = Unit {0}
HasIds (Some p) = IsSome (texts_of p.ids)

module _ (P : Option Path → Type 0) where
  all_named : (tree : List Opening) → AllByRecursion (λ (n : Opening). P n.item.name) tree
      → AllByRecursion (λ (n : Opening). P n.item.name) (named tree)
  all_named [] h = tt
  all_named (a ∷ tree) h = by a.item.name (all_named tree h.1)
    where
      by : (o : Option Path) → AllByRecursion (λ (n : Opening). P n.item.name) (named tree)
          → AllByRecursion (λ (n : Opening). P n.item.name) (named_so o a ++ named tree)
      by None r = r
      by (Some x) r = (h.0, r)

  all_empty : P None → (ds : List (Annotated (Node Declaration)))
      → AllByRecursion (λ (n : Opening). P n.item.name) (empty_namespace ds)
  all_empty h [] = tt
  all_empty h (d ∷ ds) = (h, tt)

  -- what holds of the names in a tree holds of the joined ones
  pub all_joined : P None → (tree : List Opening) → AllByRecursion (λ (n : Opening). P n.item.name) tree
      → AllByRecursion (λ (n : Opening). P n.item.name) (joined tree)
  all_joined none tree h =
      let Q : Opening → Type 0 = λ n. P n.item.name in
      All-append Q (joined_by_name (named tree)) (empty_namespace (outside tree))
      (All-map Q (λ n. opened_as n (openings_of n (named tree))) (first_openings (named tree))
      (all_firsts Q have_one_name (named tree) (all_named tree h)))
      (all_empty none (outside tree))

-- a name that may be declared
pub record HasKey (name : Option Path) : Type 0 where
  pub key : Option Name
  pub is : namespace_key name ≡ Some key
  pub same : name_components key ≡ name_in_tree name

none_reserved : (ids : List Id) → list_any (λ id. is_cedar id.text) ids ≡ false → has_cedar (texts_of ids) ≡ false
none_reserved ids h = list_any-map is_cedar (λ (id : Id). id.text) ids ∙ h

named_so_far : (name : InternalName) (b : Bool) (e : has_cedar (components_of name) ≡ b) → b ≡ false
    → (m : Name) × (declarable_name_so name b e ≡ Some m) × (m.name ≡ name)
named_so_far name true e h = absurd (true≢false h)
named_so_far name false e h = (record { name = name; unreserved = e }, refl, refl)

pub has_key : (name : Option Path) → IsFreeName name → HasIds name → HasKey name
has_key None h k = record { key = None; is = refl; same = refl }
has_key (Some p) h k =
    let name = internal_name_of p in
    let texts : components_of name ≡ texts_of p.ids = path_named p.ids p.loc k in
    let m = named_so_far name (has_cedar (components_of name)) refl (ap has_cedar texts ∙ none_reserved p.ids h) in
    record { key = Some m.0; is = ap (option_map Some) m.1; same = ap Some (ap components_of m.2 ∙ texts) }

abbrev pub Definition : Type 0
Definition = NamespaceDefinition RawName as_written

abbrev pub defined : Opening → Definition
defined n = definition_of n.item.decls n.annotations

entry_is : (n : Opening) (k : HasKey n.item.name)
    → namespace_entry n ≡ Some (let e : Option Name × Definition = (k.key, defined n) in e)
entry_is n k = ap (option_map (λ key. let e : Option Name × Definition = (key, defined n) in e)) k.is

abbrev found_at : NamespaceName → List (Option Name × Definition) → Option Definition
found_at q es = last_at (λ k. is_at (namespace_order q) (name_components k)) es

last_entry : (q : NamespaceName) (ns : List Opening) → AllByRecursion (λ (n : Opening). HasKey n.item.name) ns
    → found_at q (filter_map namespace_entry ns) ≡ option_map defined (last_of (opens q) ns)
last_entry q [] h = refl
last_entry q (n ∷ ns) h =
    ap (λ o. found_at q (cons_option o (filter_map namespace_entry ns))) (entry_is n h.0)
    ∙ (ap (λ m. option_or (found_at q (filter_map namespace_entry ns))
    (if is_at (namespace_order q) m then Some (defined n) else None)) h.0.same
    ∙ (ap (λ o. option_or o (if opens q n then Some (defined n) else None)) (last_entry q ns h.1)
    ∙ by (last_of (opens q) ns) (opens q n)))
  where
    by : (o : Option Opening) (b : Bool) → option_or (option_map defined o) (if b then Some (defined n) else None)
        ≡ option_map defined (option_or o (if b then Some n else None))
    by None true = refl
    by None false = refl
    by (Some x) b = refl

pub order_of_names : (a b : Option Name) → namespace_cmp a b ≡ namespace_order (name_components a) (name_components b)
order_of_names None None = refl
order_of_names None (Some b) = refl
order_of_names (Some a) None = refl
order_of_names (Some a) (Some b) = refl

pub by_names_is : (es : List (Option Name × Definition))
    → map_of namespace_cmp es ≡ map_of (λ a b. namespace_order (name_components a) (name_components b)) es
by_names_is es i = map_of (λ a b. order_of_names a b i) es

-- what the fragment has of a namespace is the definition of its joined openings
pub found_namespace : (q : NamespaceName) (ns : List Opening) → AllByRecursion (λ (n : Opening). HasKey n.item.name) ns
    → lookup (λ k. is_at (namespace_order q) (name_components k))
    (map_of namespace_cmp (filter_map namespace_entry ns)) ≡ option_map defined (last_of (opens q) ns)
found_namespace q ns h =
    ap (lookup (λ k. is_at (namespace_order q) (name_components k))) (by_names_is (filter_map namespace_entry ns))
    ∙ (lookup_map Definition namespace_order namespace_total namespace_exact name_components q
    (filter_map namespace_entry ns) ∙ last_entry q ns h)
