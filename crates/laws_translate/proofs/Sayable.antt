-- A tree is lawful exactly where what it says can be translated.
use Rattle.std.proofs.Common.{◌≡◌, ◌↔◌, ◌||◌, ℕ, Bool, true, false, cond, List, [], ◌∷◌, ◌++◌, Option, Some}
use Rattle.std.proofs.Common.{None, option_map, filter, flat_map, refl, sym, ap, subst, ◌∙◌, true≢false}
use Rattle.std.proofs.lemmas.Bool.{or_right}
use Rattle.std.proofs.lemmas.Option.{same_Some}
use Rattle.std.specs.Cmp.{tied_itself}
use Rattle.std.specs.List.{AllZip, AllByRecursion, list_any}
use Rattle.std.specs.Ordering.{is_eq}
use Rattle.cedar_data.proofs.Every.{all_kept_by, kept_by_passes, All-weaker, All-map, All-append}
use Rattle.cedar_data.specs.declared.node.Node.{Node}
use Rattle.cedar_data.proofs.Every.{all_both}
use Rattle.cedar_identifiers.specs.Names.{texts_of}
use Rattle.schema_syntax_tree.specs.declared.annotated.Annotated.{Annotated}
use Rattle.schema_syntax_tree.specs.declared.declaration.Declaration.{Declaration}
use Rattle.schema_syntax_tree.specs.declared.path.Path.{Path}
use Rattle.laws_written.specs.Written.{WrittenItem, namespace, outside as stands_outside}
use Rattle.laws_written.specs.Shows.{SaysDeclared, SaysItem}
use Rattle.schema_convert_openings.specs.Joined.{named_so, named, outside, have_one_name, first_openings, openings_of}
use Rattle.schema_convert_openings.specs.Joined.{opened_as, joined_by_name, empty_namespace, joined}
use Rattle.schema_convert_faults.specs.Translatable.{IsLawfulNamespace, IsTranslatable}
use Rattle.schema_convert_openings.proofs.Own.{all_firsts}
use Rattle.laws_translate.specs.Named.{IsWellNamed}
use Rattle.laws_translate.specs.FragmentsSay.{NamespaceName, WrittenNamespace, notes_of_item, decls_of_item}
use Rattle.laws_translate.specs.FragmentsSay.{is_of_namespace, items_of_namespace, opened}
use Rattle.laws_translate.specs.Sayable.{IsSayableNamespace, IsSayable}
use Rattle.laws_translate.proofs.Firsts.{last_of, last_has, filter_same}
use Rattle.laws_translate.proofs.Fragments.{openings_say, decls_say, decls_named, StandsOutside}
use Rattle.laws_translate.proofs.Lawful.{namespace_iff}
use Rattle.laws_translate.proofs.Openings.{Opening, tree_name, opens, at_name, one_name, openings, whole, named_opens}
use Rattle.laws_translate.proofs.Openings.{joined_named, joined_unnamed, outside_opens}
use Rattle.laws_translate.proofs.Orders.{namespace_total}

not_some : {X : Type 0} (a : WrittenNamespace) → None ≡ Some a → X
not_some a p = cc

named_sayable : (p : List (List ℕ)) (os : List Opening) (is : List WrittenItem) → AllZip SaysItem os is
    → AllByRecursion IsWellNamed is → AllByRecursion (λ (o : Opening). opens (Some p) o ≡ true) os
    → ((n : Opening) → whole (Some p) os ≡ Some n → IsLawfulNamespace n) → (n : WrittenNamespace)
    → opened is ≡ Some n → IsSayableNamespace (Some p) n.decls
named_sayable p [] [] h k out lawful n e = not_some n e
named_sayable p [] (i ∷ is) h k out lawful n e = absurd h
named_sayable p (o ∷ os) [] h k out lawful n e = absurd h
named_sayable p (o ∷ os) (i ∷ is) h k out lawful n e =
    let made : WrittenNamespace =
    record { notes = flat_map notes_of_item (i ∷ is); decls = flat_map decls_of_item (i ∷ is) } in
    let iff = namespace_iff (opened_as o (o ∷ os)) (Some p) (flat_map decls_of_item (i ∷ is))
    (sym (at_name (Some p) o out.0)) (decls_say (o ∷ os) (i ∷ is) h) (decls_named (i ∷ is) k) in
    subst (λ (m : WrittenNamespace). IsSayableNamespace (Some p) m.decls) (same_Some made n e)
    (iff.0 (lawful (opened_as o (o ∷ os)) refl))

unnamed_sayable : (ds : List (Annotated (Node Declaration))) (is : List WrittenItem)
    → AllZip SaysDeclared ds (flat_map decls_of_item is) → AllByRecursion IsWellNamed is
    → AllByRecursion StandsOutside is
    → ((n : Opening) → last_of (opens None) (empty_namespace ds) ≡ Some n → IsLawfulNamespace n)
    → (n : WrittenNamespace) → opened is ≡ Some n → IsSayableNamespace None n.decls
unnamed_sayable ds [] h k out lawful n e = not_some n e
unnamed_sayable ds (namespace ns name ws ∷ is) h k out lawful n e = absurd (true≢false (sym out.0))
unnamed_sayable [] (stands_outside w ∷ is) h k out lawful n e = absurd h
unnamed_sayable (d ∷ ds) (stands_outside w ∷ is) h k out lawful n e =
    let made : WrittenNamespace =
    record {
      notes = flat_map notes_of_item (stands_outside w ∷ is);
      decls =
          flat_map decls_of_item (stands_outside w ∷ is);
    } in
    let whole_one : Opening =
    record { item = record { name = None; decls = d ∷ ds; loc = None }; annotations = record { 0 = [] } } in
    let iff = namespace_iff whole_one None (flat_map decls_of_item (stands_outside w ∷ is)) refl h
    (decls_named (stands_outside w ∷ is) k) in
    subst (λ (m : WrittenNamespace). IsSayableNamespace None m.decls) (same_Some made n e)
    (iff.0 (lawful whole_one refl))

-- what is written of items, where there are any
opened_here : (is : List WrittenItem) → (is ≡ [] → ⊥)
    → (n : WrittenNamespace) × (opened is ≡ Some n) × (n.decls ≡ flat_map decls_of_item is)
opened_here [] h = absurd (h refl)
opened_here (i ∷ is) h =
    (record { notes = flat_map notes_of_item (i ∷ is); decls = flat_map decls_of_item (i ∷ is) }, refl, refl)

none_left : {A B : Type 0} (R : A → B → Type 0) (xs : List A) (ys : List B) → AllZip R xs ys → ys ≡ [] → xs ≡ []
none_left R [] ys h e = refl
none_left R (x ∷ xs) [] h e = absurd h
none_left R (x ∷ xs) (y ∷ ys) h e = cc

-- an item that passes is kept
kept : {A : Type 0} (test : A → Bool) (xs : List A) → list_any test xs ≡ true → filter test xs ≡ [] → ⊥
kept test [] h e = true≢false (sym h)
kept {A} test (x ∷ xs) h e = by (kept test xs) (test x) h e
  where
    by : (list_any test xs ≡ true → filter test xs ≡ [] → ⊥) → (b : Bool) → (b || list_any test xs) ≡ true
        → cond b (x ∷ filter test xs) (filter test xs) ≡ [] → ⊥
    by r true p q = cc
    by r false p q = r p q

all_there : (xs : List Opening) → AllByRecursion (λ (n : Opening). list_any (opens (tree_name n)) xs ≡ true) xs
all_there [] = tt
all_there (x ∷ xs) = (
  ap (λ c. is_eq c || list_any (opens (tree_name x)) xs) (tied_itself namespace_total (tree_name x)),
  All-weaker (λ (n : Opening). list_any (opens (tree_name n)) xs ≡ true)
      (λ (n : Opening). list_any (opens (tree_name n)) (x ∷ xs) ≡ true)
      (λ n h. or_right (opens (tree_name n) x) (list_any (opens (tree_name n)) xs) h) xs (all_there xs),
)

-- a name
abbrev HasName : Opening → Type 0
HasName n = (p : List (List ℕ)) × (tree_name n ≡ Some p)

all_have_names : (tree : List Opening) → AllByRecursion HasName (named tree)
all_have_names [] = tt
all_have_names (a ∷ tree) = by a.item.name refl (all_have_names tree)
  where
    by : (o : Option Path) → a.item.name ≡ o → AllByRecursion HasName (named tree)
        → AllByRecursion HasName (named_so o a ++ named tree)
    by None e r = r
    by (Some x) e r = ((texts_of x.ids, ap (option_map (λ (p : Path). texts_of p.ids)) e), r)

module _ (tree : List Opening) (w : List WrittenItem) (h : AllZip SaysItem tree w)
    (k : AllByRecursion IsWellNamed w) where
  outside_says : AllZip SaysDeclared (outside tree) (flat_map decls_of_item (items_of_namespace None w))
  outside_says = subst (λ ds. AllZip SaysDeclared ds (flat_map decls_of_item (items_of_namespace None w)))
      (sym (outside_opens tree))
      (decls_say (openings None tree) (items_of_namespace None w) (openings_say None tree w h))

  last_lawful : IsTranslatable tree → (q : NamespaceName) (o : Option Opening) → last_of (opens q) (joined tree) ≡ o
      → (n : Opening) → o ≡ Some n → IsLawfulNamespace n
  last_lawful lawful q o e n f = last_has (opens q) IsLawfulNamespace (joined tree) n lawful (e ∙ f)

  sayable : IsTranslatable tree → IsSayable w
  sayable lawful (Some p) n e =
      named_sayable p (openings (Some p) tree) (items_of_namespace (Some p) w) (openings_say (Some p) tree w h)
      (all_kept_by (is_of_namespace (Some p)) IsWellNamed w k) (kept_by_passes (opens (Some p)) tree)
      (last_lawful lawful (Some p) (whole (Some p) (openings (Some p) tree)) (joined_named p tree)) n e
  sayable lawful None n e =
      unnamed_sayable (outside tree) (items_of_namespace None w) outside_says
      (all_kept_by (is_of_namespace None) IsWellNamed w k) (kept_by_passes (is_of_namespace None) w)
      (last_lawful lawful None (last_of (opens None) (empty_namespace (outside tree))) (joined_unnamed tree)) n e

  -- an item that has declarations that say what is written in a namespace
  lawful_at : IsSayable w → (q : NamespaceName) (n : Opening) → tree_name n ≡ q → (items_of_namespace q w ≡ [] → ⊥)
      → AllZip SaysDeclared n.item.decls (flat_map decls_of_item (items_of_namespace q w)) → IsLawfulNamespace n
  lawful_at says q n same some z =
      let o = opened_here (items_of_namespace q w) some in
      (namespace_iff n q (flat_map decls_of_item (items_of_namespace q w)) same z
      (decls_named (items_of_namespace q w) (all_kept_by (is_of_namespace q) IsWellNamed w k))).1
      (subst (IsSayableNamespace q) o.2 (says q o.0 o.1))

  named_lawful : IsSayable w → (n : Opening) → HasName n → list_any (opens (tree_name n)) (named tree) ≡ true
      → IsLawfulNamespace (opened_as n (openings_of n (named tree)))
  named_lawful says n (p, same) there =
      let these : openings_of n (named tree) ≡ openings (Some p) tree =
      filter_same (have_one_name n) (opens (Some p)) (λ y. one_name n y ∙ ap (λ q. opens q y) same) (named tree)
      ∙ named_opens p tree in
      let zip = openings_say (Some p) tree w h in
      let some : items_of_namespace (Some p) w ≡ [] → ⊥ = λ e.
      kept (opens (Some p)) (named tree) (ap (λ q. list_any (opens q) (named tree)) (sym same) ∙ there)
      (named_opens p tree ∙ none_left SaysItem (openings (Some p) tree) (items_of_namespace (Some p) w) zip e) in
      subst (λ os. IsLawfulNamespace (opened_as n os)) (sym these)
      (lawful_at says (Some p) (opened_as n (openings (Some p) tree)) same some
      (decls_say (openings (Some p) tree) (items_of_namespace (Some p) w) zip))

  empty_lawful : IsSayable w → (ds : List (Annotated (Node Declaration)))
      → AllZip SaysDeclared ds (flat_map decls_of_item (items_of_namespace None w))
      → AllByRecursion IsLawfulNamespace (empty_namespace ds)
  empty_lawful says [] z = tt
  empty_lawful says (d ∷ ds) z =
      let some : items_of_namespace None w ≡ [] → ⊥ =
      λ e. subst (λ is. AllZip SaysDeclared (d ∷ ds) (flat_map decls_of_item is)) e z in (
        lawful_at says None
            (record { item = record { name = None; decls = d ∷ ds; loc = None }; annotations = record { 0 = [] } })
            refl some z,
        tt,
      )

  translatable : IsSayable w → IsTranslatable tree
  translatable says =
      let all = all_both HasName (λ (n : Opening). list_any (opens (tree_name n)) (named tree) ≡ true)
      (λ (n : Opening). IsLawfulNamespace (opened_as n (openings_of n (named tree))))
      (named_lawful says) (named tree) (all_have_names tree) (all_there (named tree)) in
      All-append IsLawfulNamespace (joined_by_name (named tree)) (empty_namespace (outside tree))
      (All-map IsLawfulNamespace (λ n. opened_as n (openings_of n (named tree))) (first_openings (named tree))
      (all_firsts (λ (n : Opening). IsLawfulNamespace (opened_as n (openings_of n (named tree)))) have_one_name
      (named tree) all))
      (empty_lawful says (outside tree) outside_says)

  pub sayable_iff : IsTranslatable tree ↔ IsSayable w
  sayable_iff = (sayable, translatable)
