-- Joined namespaces have names of their own.
use Rattle.std.proofs.Common.{◌≡◌, Bool, true, false, not, ◌||◌, List, [], ◌∷◌, ◌++◌, map, Option, Some}
use Rattle.std.proofs.Common.{None, refl, sym, ap, ◌∙◌, subst, true≢false}
use Rattle.std.specs.List.{list_any, AllByRecursion}
use Rattle.std.specs.Option.{option_cmp}
use Rattle.std.specs.Ordering.{is_eq}
use Rattle.std.proofs.lemmas.List.Folds.{list_any-append}
use Rattle.std.proofs.lemmas.Bool.{or_parts}
use Rattle.cedar_data.proofs.Every.{all_kept_by}
use Rattle.cedar_data.specs.declared.node.Node.{Node}
use Rattle.schema_syntax_tree.specs.declared.annotated.Annotated.{Annotated}
use Rattle.schema_syntax_tree.specs.declared.declaration.Declaration.{Declaration}
use Rattle.schema_syntax_tree.specs.declared.namespace.Namespace.{Namespace}
use Rattle.schema_syntax_tree.specs.declared.path.Path.{Path}
use Rattle.schema_convert_openings.specs.Joined.{named_so, named, outside, first_of_each, have_one_name, first_openings}
use Rattle.schema_convert_openings.specs.Joined.{openings_of, opened_as, joined_by_name, empty_namespace, joined}
use Rattle.schema_convert_openings.specs.Joined.{HaveOwnNames, path_cmp}
use Rattle.schema_convert_openings.proofs.Ranked.{AreApart, firsts_apart}

module _ {N : Type 0} (same : N → N → Bool) where
  apart_split : (before after : List N) (x : N) → AreApart same (before ++ x ∷ after)
      → list_any (λ y. same y x) before ≡ false
  apart_split [] after x h = refl
  apart_split (y ∷ before) after x h =
      let later = or_parts (list_any (same y) before) (list_any (same y) (x ∷ after))
      (sym (list_any-append (same y) before (x ∷ after)) ∙ h.0) in
      let other = or_parts (same y x) (list_any (same y) after) later.1 in
      rw other.0 (apart_split before after x h.1)

  apart_append : (xs ys : List N) → AreApart same xs → AreApart same ys
      → AllByRecursion (λ x. list_any (same x) ys ≡ false) xs
      → AreApart same (xs ++ ys)
  apart_append [] ys h g all = g
  apart_append (x ∷ xs) ys h g all =
      (list_any-append (same x) xs ys ∙ rw h.0 all.0, apart_append xs ys h.1 g all.1)

  module _ (f : N → N) (keeps : (x y : N) → same (f x) (f y) ≡ same x y) where
    any_map : (x : N) (xs : List N) → list_any (same (f x)) (map f xs) ≡ list_any (same x) xs
    any_map x [] = refl
    any_map x (y ∷ xs) = ap (λ b. b || list_any (same (f x)) (map f xs)) (keeps x y)
        ∙ ap (λ b. same x y || b) (any_map x xs)

    apart_map : (xs : List N) → AreApart same xs → AreApart same (map f xs)
    apart_map [] h = tt
    apart_map (x ∷ xs) h = (any_map x xs ∙ h.0, apart_map xs h.1)

module _ {N : Type 0} (P : N → Type 0) where
  pub all_firsts : (same : N → N → Bool) (xs : List N) → AllByRecursion P xs → AllByRecursion P (first_of_each same xs)
  all_firsts same [] h = tt
  all_firsts same (x ∷ xs) h =
      (h.0, all_kept_by (λ y. not (same x y)) P (first_of_each same xs) (all_firsts same xs h.1))

-- none of these is the namespace without a name
abbrev pub IsNamed : Annotated Namespace → Type 0
IsNamed n = n.item.name ≡ None → ⊥

some_not : {X : Type 0} (x : X) → Some x ≡ None → true ≡ false
some_not x h = cc

named_by : (n : Annotated Namespace) (ns : List (Annotated Namespace)) → AllByRecursion IsNamed ns → (o : Option Path)
    → n.item.name ≡ o → AllByRecursion IsNamed (named_so o n ++ ns)
named_by n ns h None e = h
named_by n ns h (Some p) e = (λ g. absurd (true≢false (some_not p (sym e ∙ g))), h)

all_named : (tree : List (Annotated Namespace)) → AllByRecursion IsNamed (named tree)
all_named [] = tt
all_named (n ∷ tree) = named_by n (named tree) (all_named tree) n.item.name refl

unlike_by : (o : Option Path) → (o ≡ None → ⊥) → is_eq (option_cmp path_cmp o None) ≡ false
unlike_by None h = absurd (h refl)
unlike_by (Some p) h = refl

unlike : (n : Annotated Namespace) (ds : List (Annotated (Node Declaration))) → IsNamed n
    → list_any (have_one_name n) (empty_namespace ds) ≡ false
unlike n [] h = refl
unlike n (d ∷ ds) h = rw (unlike_by n.item.name h) refl

all_unlike : (all : List (Annotated Namespace)) (ds : List (Annotated (Node Declaration)))
    (ns : List (Annotated Namespace))
    → AllByRecursion IsNamed ns
    → AllByRecursion (λ n. list_any (have_one_name n) (empty_namespace ds) ≡ false)
    (map (λ n. opened_as n (openings_of n all)) ns)
all_unlike all ds [] h = tt
all_unlike all ds (n ∷ ns) h = (unlike (opened_as n (openings_of n all)) ds h.0, all_unlike all ds ns h.1)

alone : (ds : List (Annotated (Node Declaration))) → AreApart have_one_name (empty_namespace ds)
alone [] = tt
alone (d ∷ ds) = (refl, tt)

apart : (tree : List (Annotated Namespace)) → AreApart have_one_name (joined tree)
apart tree =
    let ns = named tree in
    let firsts = first_openings ns in
    apart_append have_one_name (joined_by_name ns) (empty_namespace (outside tree))
    (apart_map have_one_name (λ n. opened_as n (openings_of n ns)) (λ x y. refl) firsts (firsts_apart have_one_name ns))
    (alone (outside tree))
    (all_unlike ns (outside tree) firsts (all_firsts IsNamed have_one_name ns (all_named tree)))

pub own_names : (tree : List (Annotated Namespace)) → HaveOwnNames (joined tree)
own_names tree before after n e =
    apart_split have_one_name before after n (subst (AreApart have_one_name) e (apart tree))
