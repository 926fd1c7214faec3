-- What says one of two rearranged texts says the other, annotations of namespaces aside.
use Rattle.std.proofs.Common.{◌≡◌, ℕ, Bool, true, false, cond, List, [], ◌∷◌, ◌++◌, map, flat_map, Option, Some, None}
use Rattle.std.proofs.Common.{Ordering, refl, sym, ap, ◌∙◌, subst}
use Rattle.std.specs.BTreeMap.{is_at}
use Rattle.std.specs.Cmp.{tied_itself}
use Rattle.std.specs.List.{AllByRecursion}
use Rattle.std.specs.List.Sorted.{IsStrictlySortedBy}
use Rattle.std.specs.Map.{lookup}
use Rattle.std.specs.Option.{option_map}
use Rattle.std.specs.Ordering.{is_eq}
use Rattle.std.proofs.lemmas.List.{map-append}
use Rattle.std.proofs.lemmas.Option.{same_Some}
use Rattle.cedar_data.specs.Text.{text_cmp}
use Rattle.cedar_data.proofs.Orders.{text_total, text_exact, equal_from}
use Rattle.cedar_identifiers.specs.declared.any_id.AnyId.{AnyId}
use Rattle.cedar_identifiers.specs.declared.name.Name.{Name}
use Rattle.cedar_identifiers.specs.declared.raw_name.RawName.{RawName}
use Rattle.cedar_identifiers.specs.Words.{is_cedar}
use Rattle.schema_json.specs.declared.fragment.Fragment.{Fragment}
use Rattle.schema_json.specs.declared.fragment.NamespaceDefinition.{NamespaceDefinition}
use Rattle.schema_json.specs.AsWritten.{as_written}
use Rattle.laws_written.specs.Written.{WrittenDecl, WrittenDeclared, WrittenItem, namespace, outside}
use Rattle.schema_convert_openings.specs.Repeats.{NoneRepeats}
use Rattle.laws_translate.specs.BareFragments.{bare_declared, bare_namespace, bare_fragment}
use Rattle.laws_translate.specs.Entries.{FoundSays, EntriesSay, last_written}
use Rattle.laws_translate.specs.FragmentsSay.{entities_of_decl, actions_of_decl, commons_of_decl, by_names}
use Rattle.laws_translate.specs.FragmentsSay.{WrittenNamespace, NamespaceSays, NamespaceName, namespace_order}
use Rattle.laws_translate.specs.FragmentsSay.{name_components, notes_of_item, decls_of_item, is_of_namespace}
use Rattle.laws_translate.specs.FragmentsSay.{items_of_namespace, opened, written_in, FragmentSays}
use Rattle.laws_translate.specs.Sayable.{AppliesWell, IsFreeCommonName, names_written, IsSayableNamespace, IsSayable}
use Rattle.laws_build.specs.Orders.Alike.{declarations_alone, declared_alone, DeclareTheSame}
use Rattle.laws_build.specs.Orders.Reordered.{IsReordered, HaveTheSame, AreRearranged}
use Rattle.laws_build.proofs.Orders.Rearranging.{rearranged_itself}
use Rattle.laws_build.proofs.Orders.Reordering.{flat_reordered, all_reordered, distinct, repeats_reordered}
use Rattle.laws_build.proofs.Orders.Reordering.{last_reordered}
use Rattle.laws_build.proofs.Orders.Seen.{map_same}

abbrev Frag : Type 0
Frag = Fragment RawName as_written

abbrev Space : Type 0
Space = NamespaceDefinition RawName as_written

abbrev Entry : Type 0
Entry = Option Name × Space

-- without annotations of namespaces
abbrev noteless : Space → Space
noteless n = record {
  common_types = n.common_types;
  entity_types = n.entity_types;
  actions = n.actions;
  annotations = record { 0 = [] };
}

abbrev noteless_entry : Entry → Entry
noteless_entry e = (e.0, noteless e.1)

abbrev without_notes : Frag → Frag
without_notes f = record { 0 = map noteless_entry f.0 }

abbrev unnoted : WrittenItem → WrittenItem
unnoted (namespace notes name decls) = namespace [] name decls
unnoted (outside d) = outside d

abbrev unnoted_space : WrittenNamespace → WrittenNamespace
unnoted_space n = record { notes = []; decls = n.decls }

item_place : (q : NamespaceName) (i : WrittenItem) → is_of_namespace q (unnoted i) ≡ is_of_namespace q i
item_place q (namespace notes name decls) = refl
item_place q (outside d) = refl

no_notes : (items : List WrittenItem) → flat_map notes_of_item (map unnoted items) ≡ []
no_notes [] = refl
no_notes (namespace notes name decls ∷ items) = no_notes items
no_notes (outside d ∷ items) = no_notes items

same_decls : (items : List WrittenItem)
    → flat_map decls_of_item (map unnoted items) ≡ flat_map decls_of_item items
same_decls [] = refl
same_decls (namespace notes name decls ∷ items) = ap (λ l. decls ++ l) (same_decls items)
same_decls (outside d ∷ items) = ap (λ l. d ∷ l) (same_decls items)

items_unnoted : (q : NamespaceName) (items : List WrittenItem)
    → items_of_namespace q (map unnoted items) ≡ map unnoted (items_of_namespace q items)
items_unnoted q [] = refl
items_unnoted q (i ∷ items) =
    (λ k. cond (item_place q i k) (unnoted i ∷ items_unnoted q items k) (items_unnoted q items k))
    ∙ by_case (is_of_namespace q i)
  where
    by_case : (b : Bool)
        → cond b (unnoted i ∷ map unnoted (items_of_namespace q items)) (map unnoted (items_of_namespace q items))
        ≡ map unnoted (cond b (i ∷ items_of_namespace q items) (items_of_namespace q items))
    by_case true = refl
    by_case false = refl

opened_unnoted : (items : List WrittenItem) → opened (map unnoted items) ≡ option_map unnoted_space (opened items)
opened_unnoted [] = refl
opened_unnoted (i ∷ items) =
    let notes = no_notes (i ∷ items) in
    let decls = same_decls (i ∷ items) in
    λ k. Some (record { notes = notes k; decls = decls k })

written_unnoted : (w : List WrittenItem) (q : NamespaceName)
    → written_in (map unnoted w) q ≡ option_map unnoted_space (written_in w q)
written_unnoted w q = ap opened (items_unnoted q w) ∙ opened_unnoted (items_of_namespace q w)

-- what stands beside a key, seen of the values
lookup_seen : {K V W : Type 0} (h : V → W) (test : K → Bool) (es : List (K × V))
    → lookup test (map (λ (e : K × V). let p : K × W = (e.0, h e.1) in p) es) ≡ option_map h (lookup test es)
lookup_seen h test [] = refl
lookup_seen h test (e ∷ es) = ap (cond (test e.0) (Some (h e.1))) (lookup_seen h test es) ∙ by_case (test e.0)
  where
    by_case : (b : Bool) → cond b (Some (h e.1)) (option_map h (lookup test es))
        ≡ option_map h (cond b (Some e.1) (lookup test es))
    by_case true = refl
    by_case false = refl

-- the names of declarations
names_of_pairs : (names : List (List ℕ)) (d : WrittenDeclared)
    → map (λ (e : List ℕ × WrittenDeclared). e.0)
    (map (λ name. let p : List ℕ × WrittenDeclared = (name, d) in p) names)
    ≡ names
names_of_pairs [] d = refl
names_of_pairs (n ∷ ns) d = ap (λ l. n ∷ l) (names_of_pairs ns d)

module _ (names_of : WrittenDecl → List (List ℕ)) where
  abbrev pairs : WrittenDeclared → List (List ℕ × WrittenDeclared)
  pairs d = map (λ name. (name, d)) (names_of d.decl)

  names_seen : (ds : List WrittenDeclared)
      → map (λ (e : List ℕ × WrittenDeclared). e.0) (by_names names_of ds) ≡ names_written names_of ds
  names_seen [] = refl
  names_seen (d ∷ ds) =
      map-append (λ (e : List ℕ × WrittenDeclared). e.0) (pairs d) (by_names names_of ds)
      ∙ (λ i. names_of_pairs (names_of d.decl) d i ++ names_seen ds i)

  one_name : (name x y : List ℕ) → is_at (text_cmp name) x ≡ true → is_at (text_cmp name) y ≡ true
      → is_eq (text_cmp y x) ≡ true
  one_name name x y a b =
      let left : name ≡ x = text_exact name x (equal_from (text_cmp name x) a) in
      let right : name ≡ y = text_exact name y (equal_from (text_cmp name y) b) in
      ap is_eq ((λ i. text_cmp (sym right i) (sym left i)) ∙ tied_itself text_total name)

  -- of names that are written once, the order of the declarations does not matter
  last_same : (ds es : List WrittenDeclared) → IsReordered ds es → NoneRepeats text_cmp (names_written names_of ds)
      → (name : List ℕ) → last_written (by_names names_of ds) name ≡ last_written (by_names names_of es) name
  last_same ds es r once name =
      last_reordered text_cmp text_total (is_at (text_cmp name)) (one_name name) (by_names names_of ds)
      (by_names names_of es) (flat_reordered pairs ds es r)
      (distinct text_cmp (map (λ (e : List ℕ × WrittenDeclared). e.0) (by_names names_of ds))
      (subst (NoneRepeats text_cmp) (sym (names_seen ds)) once))

  once_too : (ds es : List WrittenDeclared) → IsReordered ds es → NoneRepeats text_cmp (names_written names_of ds)
      → NoneRepeats text_cmp (names_written names_of es)
  once_too ds es r once =
      repeats_reordered text_cmp text_total (names_written names_of ds) (names_written names_of es)
      (flat_reordered (λ d. names_of d.decl) ds es r) once

  all_too : (P : List ℕ → Type 0) (ds es : List WrittenDeclared) → IsReordered ds es
      → AllByRecursion P (names_written names_of ds) → AllByRecursion P (names_written names_of es)
  all_too P ds es r h =
      all_reordered P (names_written names_of ds) (names_written names_of es)
      (flat_reordered (λ d. names_of d.decl) ds es r) h

entries_too : {K N V W : Type 0} (order : N → N → Ordering) (name : K → N) (Says : V → W → Type 0)
    (es : List (K × V)) (f g : N → Option W) → ((n : N) → f n ≡ g n) → EntriesSay order name Says es f
    → EntriesSay order name Says es g
entries_too order name Says es f g same h = record {
  rising = h.rising;
  each = λ n. subst (FoundSays Says (lookup (λ k. is_at (order n) (name k)) es)) (same n) (h.each n);
}

-- nothing is beside any key, and nothing is written
nothing_says : {K N V W : Type 0} (order : N → N → Ordering) (name : K → N) (Says : V → W → Type 0)
    → EntriesSay order name Says [] (λ n. None)
unfolding IsStrictlySortedBy
nothing_says order name Says = record { rising = tt; each = λ n. tt }

namespace_too : (q : NamespaceName) (x : Space) (n m : WrittenNamespace) → NamespaceSays x n
    → IsReordered m.decls n.decls → IsSayableNamespace q m.decls → NamespaceSays (noteless x) (unnoted_space m)
namespace_too q x n m h r s = record {
  annotations = nothing_says text_cmp (λ (key : AnyId). key.text) (λ v y. v ≡ y);
  commons = entries_too text_cmp _ _ x.common_types (last_written (by_names commons_of_decl n.decls))
      (last_written (by_names commons_of_decl m.decls))
      (λ name. sym (last_same commons_of_decl m.decls n.decls r s.commons_once name)) h.commons;
  entities = entries_too text_cmp _ _ x.entity_types (last_written (by_names entities_of_decl n.decls))
      (last_written (by_names entities_of_decl m.decls))
      (λ name. sym (last_same entities_of_decl m.decls n.decls r s.entities_once name)) h.entities;
  actions = entries_too text_cmp _ _ x.actions (last_written (by_names actions_of_decl n.decls))
      (last_written (by_names actions_of_decl m.decls))
      (λ name. sym (last_same actions_of_decl m.decls n.decls r s.actions_once name)) h.actions;
}

found_too : (q : NamespaceName) (x : Option Space) (a b : Option WrittenNamespace) → FoundSays NamespaceSays x a
    → HaveTheSame b a → ((m : WrittenNamespace) → b ≡ Some m → IsSayableNamespace q m.decls)
    → FoundSays NamespaceSays (option_map noteless x) (option_map unnoted_space b)
found_too q None None None h r s = tt
found_too q None None (Some m) h r s = absurd r
found_too q None (Some n) b h r s = absurd h
found_too q (Some x) None b h r s = absurd h
found_too q (Some x) (Some n) None h r s = absurd r
found_too q (Some x) (Some n) (Some m) h r s = namespace_too q x n m h r (s m refl)

says_too : (g : Frag) (v w : List WrittenItem) → FragmentSays g v → AreRearranged w v → IsSayable w
    → FragmentSays (without_notes g) (map unnoted w)
says_too g v w h r s = record {
  rising = subst (IsStrictlySortedBy namespace_order)
      (sym (map_same noteless_entry (λ (e : Entry). name_components e.0) (λ (e : Entry). name_components e.0)
      (λ e. refl) g.0)) h.rising;
  each = λ q.
      let test = λ (k : Option Name). is_at (namespace_order q) (name_components k) in
      subst (λ o. FoundSays NamespaceSays o (written_in (map unnoted w) q)) (sym (lookup_seen noteless test g.0))
      (subst (FoundSays NamespaceSays (option_map noteless (lookup test g.0))) (sym (written_unnoted w q))
      (found_too q (lookup test g.0) (written_in v q) (written_in w q) (h.each q) (r q) (s q)));
}

alone_bare : (f : Frag) → bare_fragment (without_notes f) ≡ declared_alone f
alone_bare f =
    let entries = map_same noteless_entry
    (λ (e : Entry). let p : Entry = (option_map bare_declared e.0, bare_namespace e.1) in p)
    (λ (e : Entry). let p : Entry = (option_map bare_declared e.0, declarations_alone e.1) in p) (λ e. refl) f.0 in
    λ i. record { 0 = entries i }

-- fragments of rearranged texts declare the same
pub declare_the_same : ((f g : Frag) (w : List WrittenItem) → FragmentSays f w → FragmentSays g w
    → bare_fragment f ≡ bare_fragment g) → (f g : Frag) (w v : List WrittenItem) → FragmentSays f w
    → FragmentSays g v → AreRearranged w v → IsSayable w → DeclareTheSame f g
declare_the_same same f g w v h k r s =
    sym (alone_bare f)
    ∙ (same (without_notes f) (without_notes g) (map unnoted w) (says_too f w w h (rearranged_itself w) s)
    (says_too g v w k r s) ∙ alone_bare g)

-- what is rearranged can be translated together
space_sayable : (q : NamespaceName) (ds es : List WrittenDeclared) → IsReordered ds es → IsSayableNamespace q ds
    → IsSayableNamespace q es
space_sayable q ds es r h = record {
  name_free = h.name_free;
  entities_once = once_too entities_of_decl ds es r h.entities_once;
  actions_once = once_too actions_of_decl ds es r h.actions_once;
  commons_once = once_too commons_of_decl ds es r h.commons_once;
  entities_free = all_too entities_of_decl (λ n. is_cedar n ≡ false) ds es r h.entities_free;
  blocks = all_reordered (λ d. AppliesWell d.decl) ds es r h.blocks;
  commons_free = all_too commons_of_decl IsFreeCommonName ds es r h.commons_free;
}

found_sayable : (q : NamespaceName) (a b : Option WrittenNamespace) → HaveTheSame a b
    → ((m : WrittenNamespace) → a ≡ Some m → IsSayableNamespace q m.decls) → (n : WrittenNamespace) → b ≡ Some n
    → IsSayableNamespace q n.decls
found_sayable q None None r s n e = absurd (cc)
found_sayable q None (Some m) r s n e = absurd r
found_sayable q (Some m) None r s n e = absurd r
found_sayable q (Some m) (Some k) r s n e =
    subst (λ (z : WrittenNamespace). IsSayableNamespace q z.decls) (same_Some k n e)
    (space_sayable q m.decls k.decls r (s m refl))

pub sayable_too : (w v : List WrittenItem) → AreRearranged w v → IsSayable w → IsSayable v
sayable_too w v r s q n e = found_sayable q (written_in w q) (written_in v q) (r q) (s q) n e
