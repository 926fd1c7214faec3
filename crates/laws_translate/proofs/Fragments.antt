-- A tree that says what is written, and has no fault, becomes a fragment that says it.
use Rattle.std.proofs.Common.{◌≡◌, ℕ, Bool, true, false, cond, List, [], ◌∷◌, ◌++◌, map, reverse, Option, Some, None}
use Rattle.std.proofs.Common.{option_map, filter_map, flat_map, refl, sym, ap, subst, ◌∙◌, true≢false}
use Rattle.std.proofs.Common.{if◌then◌else◌}
use mathlib.Core.List.{reverse_aux}
use Rattle.std.specs.BTreeMap.{is_at}
use Rattle.std.specs.List.{AllZip, AllByRecursion}
use Rattle.std.specs.List.Sorted.{IsStrictlySortedBy}
use Rattle.std.specs.Map.{lookup}
use Rattle.std.specs.Option.{option_or}
use Rattle.cedar_data.proofs.Every.{all_kept_by, kept_by_passes}
use Rattle.cedar_data.specs.Maps.{last_at}
use Rattle.cedar_data.specs.Text.{text_cmp}
use Rattle.cedar_data.specs.declared.node.Node.{Node}
use Rattle.cedar_data.proofs.Orders.{text_total, text_exact}
use Rattle.cedar_data.proofs.Options.{or_none}
use Rattle.cedar_identifiers.specs.Words.{is_cedar}
use Rattle.cedar_identifiers.specs.declared.annotations.Annotations.{Annotations}
use Rattle.cedar_identifiers.specs.declared.any_id.AnyId.{AnyId}
use Rattle.cedar_identifiers.specs.declared.id.Id.{Id}
use Rattle.schema_syntax_tree.specs.declared.annotated.Annotated.{Annotated}
use Rattle.schema_syntax_tree.specs.declared.declaration.Declaration.{Declaration}
use Rattle.schema_syntax_tree.specs.declared.path.Path.{Path}
use Rattle.schema_syntax_reader.specs.Leaves.{Notes}
use Rattle.laws_written.specs.Written.{WrittenDeclared, WrittenItem, namespace, outside as stands_outside}
use Rattle.laws_written.specs.PrintedDecls.{IsSome}
use Rattle.laws_written.specs.Shows.{SaysOptionalPath, SaysDeclared, SaysItem}
use Rattle.schema_convert_fragments.specs.Fragments.{namespace_entry, definition_of, fragment_of}
use Rattle.schema_convert_openings.specs.Joined.{first_values, opened_as, outside, empty_namespace, joined}
use Rattle.schema_convert_faults.specs.NamesIn.{entity_names_in, common_names_in}
use Rattle.schema_convert_faults.specs.Translatable.{IsFreeCommon, IsLawfulNamespace, IsTranslatable}
use Rattle.laws_translate.specs.Entries.{FoundSays, EntriesSay}
use Rattle.laws_translate.specs.Named.{IsNamedDeclared, IsWellNamed}
use Rattle.laws_translate.specs.FragmentsSay.{WrittenNamespace, NamespaceSays, NamespaceName, namespace_order}
use Rattle.laws_translate.specs.FragmentsSay.{name_components, name_of_item, notes_of_item, decls_of_item}
use Rattle.laws_translate.specs.FragmentsSay.{is_of_namespace}
use Rattle.laws_translate.specs.FragmentsSay.{items_of_namespace, opened, written_in, FragmentSays}
use Rattle.laws_translate.proofs.Entered.{zip_append, entities_map_says, actions_map_says, commons_map_says}
use Rattle.laws_translate.proofs.Firsts.{last_of, last_has, zip_filter}
use Rattle.laws_translate.proofs.Maps.{lookup_map, map_rises}
use Rattle.laws_translate.proofs.Openings.{Opening, Definition, name_in_tree, tree_name, opens, openings, whole}
use Rattle.laws_translate.proofs.Openings.{decls_of}
use Rattle.laws_translate.proofs.Openings.{defined, HasIds, HasKey, has_key, all_joined, joined_named, joined_unnamed}
use Rattle.laws_translate.proofs.Openings.{outside_opens, found_namespace, by_names_is}
use Rattle.laws_translate.proofs.Orders.{namespace_total, namespace_exact}

-- what an item says of the namespace that it opens
said_name : (o : Option Path) (name : List (List ℕ)) → SaysOptionalPath o (Some name) → name_in_tree o ≡ Some name
said_name None name h = absurd h
said_name (Some p) name h = ap Some h

said_ids : (o : Option Path) (name : List (List ℕ)) → SaysOptionalPath o (Some name) → IsSome name → HasIds o
said_ids None name h k = absurd h
said_ids (Some p) name h k = subst IsSome (sym h) k

pub names_same : (a : Opening) (i : WrittenItem) → SaysItem a i → tree_name a ≡ name_of_item i
names_same a (namespace ns name ds) h = said_name a.item.name name h.0
names_same a (stands_outside d) h = ap name_in_tree h.0

has_ids : (a : Opening) (i : WrittenItem) → SaysItem a i → IsWellNamed i → HasIds a.item.name
has_ids a (namespace ns name ds) h k = said_ids a.item.name name h.0 k.0
has_ids a (stands_outside d) h k = subst HasIds (sym h.0) tt

item_decls : (a : Opening) (i : WrittenItem) → SaysItem a i → AllZip SaysDeclared a.item.decls (decls_of_item i)
item_decls a (namespace ns name ds) h = h.1
item_decls a (stands_outside d) h = h.1

item_notes : (a : Opening) (i : WrittenItem) → SaysItem a i → a.annotations.0 ≡ notes_of_item i
item_notes a (namespace ns name ds) h = h.2
item_notes a (stands_outside d) h = h.2

pub all_ids : (tree : List Opening) (w : List WrittenItem) → AllZip SaysItem tree w → AllByRecursion IsWellNamed w
    → AllByRecursion (λ (n : Opening). HasIds n.item.name) tree
all_ids [] [] h k = tt
all_ids [] (i ∷ w) h k = absurd h
all_ids (a ∷ tree) [] h k = absurd h
all_ids (a ∷ tree) (i ∷ w) h k = (has_ids a i h.0 k.0, all_ids tree w h.1 k.1)

pub openings_say : (q : NamespaceName) (tree : List Opening) (w : List WrittenItem) → AllZip SaysItem tree w
    → AllZip SaysItem (openings q tree) (items_of_namespace q w)
openings_say q tree w h = zip_filter SaysItem (opens q) (is_of_namespace q)
    (λ a i k. ap (is_at (namespace_order q)) (names_same a i k)) tree w h

pub decls_say : (os : List Opening) (is : List WrittenItem) → AllZip SaysItem os is
    → AllZip SaysDeclared (flat_map decls_of os) (flat_map decls_of_item is)
decls_say [] [] h = tt
decls_say [] (i ∷ is) h = absurd h
decls_say (o ∷ os) [] h = absurd h
decls_say (o ∷ os) (i ∷ is) h = zip_append SaysDeclared o.item.decls (flat_map decls_of os) (decls_of_item i)
    (flat_map decls_of_item is) (item_decls o i h.0) (decls_say os is h.1)

abbrev notes_in : List Opening → Notes
notes_in os = flat_map (λ (n : Opening). n.annotations.0) os

notes_say : (os : List Opening) (is : List WrittenItem) → AllZip SaysItem os is
    → notes_in os ≡ flat_map notes_of_item is
notes_say [] [] h = refl
notes_say [] (i ∷ is) h = absurd h
notes_say (o ∷ os) [] h = absurd h
notes_say (o ∷ os) (i ∷ is) h =
    let first = item_notes o i h.0 in
    let others = notes_say os is h.1 in
    λ j. first j ++ others j

all_both : (xs ys : List WrittenDeclared) → AllByRecursion IsNamedDeclared xs → AllByRecursion IsNamedDeclared ys
    → AllByRecursion IsNamedDeclared (xs ++ ys)
all_both [] ys h k = k
all_both (x ∷ xs) ys h k = (h.0, all_both xs ys h.1 k)

item_named : (i : WrittenItem) → IsWellNamed i → AllByRecursion IsNamedDeclared (decls_of_item i)
item_named (namespace ns name ds) h = h.1
item_named (stands_outside d) h = (h, tt)

pub decls_named : (is : List WrittenItem) → AllByRecursion IsWellNamed is
    → AllByRecursion IsNamedDeclared (flat_map decls_of_item is)
decls_named [] h = tt
decls_named (i ∷ is) h = all_both (decls_of_item i) (flat_map decls_of_item is) (item_named i h.0) (decls_named is h.1)

-- annotations
abbrev Note : Type 0
Note = AnyId × Option (List ℕ)

abbrev is_key : List ℕ → AnyId → Bool
is_key key k = is_at (text_cmp key) k.text

pub found_same : {V : Type 0} (x y : Option V) → x ≡ y → FoundSays (λ v w. v ≡ w) x y
found_same None None h = tt
found_same None (Some y) h = cc
found_same (Some x) None h = cc
found_same (Some x) (Some y) h = cc

-- of items that are put in front of others in turn, the first is the last of those in front
last_turned : (test : AnyId → Bool) (xs behind : List Note)
    → last_at test (reverse_aux xs behind) ≡ option_or (last_at test behind) (lookup test xs)
last_turned test [] behind = sym (or_none (last_at test behind))
last_turned test (x ∷ xs) behind = last_turned test xs (x ∷ behind) ∙ by (last_at test behind) (test x.0)
  where
    by : (o : Option (Option (List ℕ))) (b : Bool)
        → option_or (option_or o (if b then Some x.1 else None)) (lookup test xs) ≡ option_or o
        (cond b (Some x.1) (lookup test xs))
    by None true = refl
    by None false = refl
    by (Some y) b = refl

-- the first value is the last where the entries stand the other way round
last_reversed : (test : AnyId → Bool) (xs : List Note) → last_at test (reverse xs) ≡ lookup test xs
last_reversed test xs = last_turned test xs []

abbrev AnnotationsSay : Notes → Notes → Type 0
AnnotationsSay entries notes = EntriesSay text_cmp (λ (key : AnyId). key.text) (λ v x. v ≡ x) entries
    (λ key. lookup (is_key key) notes)

first_values_say : (os : List Opening) (notes : Notes) → notes_in os ≡ notes → AnnotationsSay (first_values os).0 notes
first_values_say os notes e = record {
  rising = map_rises (Option (List ℕ)) text_cmp text_total text_exact (λ (key : AnyId). key.text)
      (reverse (notes_in os));
  each = λ key. found_same (lookup (is_key key) (first_values os).0) (lookup (is_key key) notes)
      (lookup_map (Option (List ℕ)) text_cmp text_total text_exact (λ (k : AnyId). k.text) key
      (reverse (notes_in os)) ∙ (last_reversed (is_key key) (notes_in os) ∙ ap (lookup (is_key key)) e));
}

no_annotations_say : (notes : Notes) → notes ≡ [] → AnnotationsSay [] notes
no_annotations_say notes e = record {
  rising = map_rises (Option (List ℕ)) text_cmp text_total text_exact (λ (key : AnyId). key.text) [];
  each = λ key. found_same None (lookup (is_key key) notes) (sym (ap (lookup (is_key key)) e));
}

-- the definition of declarations that say what is written
definition_says : (ds : List (Annotated (Node Declaration))) (notes : Annotations) (w : WrittenNamespace)
    → AllZip SaysDeclared ds w.decls → AllByRecursion IsNamedDeclared w.decls
    → AllByRecursion (λ (id : Node Id). is_cedar id.node.text ≡ false) (entity_names_in ds)
    → AllByRecursion IsFreeCommon (common_names_in ds) → AnnotationsSay notes.0 w.notes
    → NamespaceSays (definition_of ds notes) w
definition_says ds notes w k h entities commons annotations = record {
  annotations = annotations;
  commons = commons_map_says ds w.decls k h commons;
  entities = entities_map_says ds w.decls k h entities;
  actions = actions_map_says ds w.decls k h;
}

named_says : (p : List (List ℕ)) (os : List Opening) (is : List WrittenItem) → AllZip SaysItem os is
    → AllByRecursion IsWellNamed is
    → ((n : Opening) → whole (Some p) os ≡ Some n → IsLawfulNamespace n)
    → FoundSays NamespaceSays (option_map defined (whole (Some p) os)) (opened is)
named_says p [] [] h k lawful = tt
named_says p [] (i ∷ is) h k lawful = absurd h
named_says p (o ∷ os) [] h k lawful = absurd h
named_says p (o ∷ os) (i ∷ is) h k lawful =
    let n = lawful (opened_as o (o ∷ os)) refl in
    definition_says (flat_map decls_of (o ∷ os)) (first_values (o ∷ os))
    (record { notes = flat_map notes_of_item (i ∷ is); decls = flat_map decls_of_item (i ∷ is) })
    (decls_say (o ∷ os) (i ∷ is) h) (decls_named (i ∷ is) k) n.entities_free n.commons_free
    (first_values_say (o ∷ os) (flat_map notes_of_item (i ∷ is)) (notes_say (o ∷ os) (i ∷ is) h))

-- items outside of every namespace
abbrev pub StandsOutside : WrittenItem → Type 0
StandsOutside i = is_of_namespace None i ≡ true

no_notes : (is : List WrittenItem) → AllByRecursion StandsOutside is → flat_map notes_of_item is ≡ []
no_notes [] h = refl
no_notes (namespace ns name ds ∷ is) h = absurd (true≢false (sym h.0))
no_notes (stands_outside d ∷ is) h = no_notes is h.1

unnamed_says : (ds : List (Annotated (Node Declaration))) (is : List WrittenItem)
    → AllZip SaysDeclared ds (flat_map decls_of_item is) → AllByRecursion IsWellNamed is
    → AllByRecursion StandsOutside is
    → ((n : Opening) → last_of (opens None) (empty_namespace ds) ≡ Some n → IsLawfulNamespace n)
    → FoundSays NamespaceSays (option_map defined (last_of (opens None) (empty_namespace ds))) (opened is)
unnamed_says [] [] h k out lawful = tt
unnamed_says (d ∷ ds) [] h k out lawful = absurd h
unnamed_says ds (namespace ns name ws ∷ is) h k out lawful = absurd (true≢false (sym out.0))
unnamed_says [] (stands_outside w ∷ is) h k out lawful = absurd h
unnamed_says (d ∷ ds) (stands_outside w ∷ is) h k out lawful =
    let n = lawful _ refl in
    definition_says (d ∷ ds) (record { 0 = [] })
    (record {
      notes = flat_map notes_of_item (stands_outside w ∷ is);
      decls =
          flat_map decls_of_item (stands_outside w ∷ is);
    })
    h (decls_named (stands_outside w ∷ is) k) n.entities_free n.commons_free
    (no_annotations_say (flat_map notes_of_item (stands_outside w ∷ is)) (no_notes (stands_outside w ∷ is) out))

module _ (tree : List Opening) (w : List WrittenItem) (h : AllZip SaysItem tree w) (k : AllByRecursion IsWellNamed w)
    (lawful : IsTranslatable tree) where
  last_lawful : (q : NamespaceName) (o : Option Opening) → last_of (opens q) (joined tree) ≡ o → (n : Opening)
      → o ≡ Some n → IsLawfulNamespace n
  last_lawful q o e n f = last_has (opens q) IsLawfulNamespace (joined tree) n lawful (e ∙ f)

  joined_says : (q : NamespaceName) → FoundSays NamespaceSays (option_map defined (last_of (opens q) (joined tree)))
      (written_in w q)
  joined_says (Some p) =
      subst (λ o. FoundSays NamespaceSays (option_map defined o) (written_in w (Some p))) (sym (joined_named p tree))
      (named_says p (openings (Some p) tree) (items_of_namespace (Some p) w) (openings_say (Some p) tree w h)
      (all_kept_by (is_of_namespace (Some p)) IsWellNamed w k)
      (last_lawful (Some p) (whole (Some p) (openings (Some p) tree)) (joined_named p tree)))
  joined_says None =
      subst (λ o. FoundSays NamespaceSays (option_map defined o) (written_in w None)) (sym (joined_unnamed tree))
      (unnamed_says (outside tree) (items_of_namespace None w)
      (subst (λ ds. AllZip SaysDeclared ds (flat_map decls_of_item (items_of_namespace None w)))
      (sym (outside_opens tree))
      (decls_say (openings None tree) (items_of_namespace None w) (openings_say None tree w h)))
      (all_kept_by (is_of_namespace None) IsWellNamed w k) (kept_by_passes (is_of_namespace None) w)
      (last_lawful None (last_of (opens None) (empty_namespace (outside tree))) (joined_unnamed tree)))

  keys : (ns : List Opening) → AllByRecursion IsLawfulNamespace ns
      → AllByRecursion (λ (n : Opening). HasIds n.item.name) ns
      → AllByRecursion (λ (n : Opening). HasKey n.item.name) ns
  keys [] l i = tt
  keys (n ∷ ns) l i = (has_key n.item.name l.0.name i.0, keys ns l.1 i.1)

  pub fragment_says : FragmentSays (fragment_of (joined tree)) w
  fragment_says =
      let all = keys (joined tree) lawful (all_joined HasIds tt tree (all_ids tree w h k)) in
      let entries = filter_map namespace_entry (joined tree) in
      record {
        rising = subst (λ es. IsStrictlySortedBy namespace_order (map (λ e. name_components e.0) es))
            (sym (by_names_is entries))
            (map_rises Definition namespace_order namespace_total namespace_exact name_components entries);
        each = λ q. subst (λ found. FoundSays NamespaceSays found (written_in w q))
            (sym (found_namespace q (joined tree) all)) (joined_says q);
      }
