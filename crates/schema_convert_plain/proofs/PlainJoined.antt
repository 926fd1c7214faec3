-- Namespaces with names of their own and rising notes are joined as they stand.
use Rattle.std.proofs.Common.{◌≡◌, Bool, true, false, not, cond, List, [], ◌∷◌, ◌++◌, map, reverse, filter}
use Rattle.std.proofs.Common.{None, refl, ap, ◌∙◌, subst, find, append_assoc}
use Rattle.std.proofs.Common.{append-nil}
use Rattle.std.specs.BTreeMap.{insert_entry}
use Rattle.std.specs.List.{AllByRecursion}
use Rattle.std.specs.List.Sorted.{IsStrictlySortedBy}
use Rattle.std.specs.Map.{keys_of}
use Rattle.std.specs.Ordering.{is_eq, match_ordering}
use Rattle.std.specs.declared.cmp.Ordering.{Ordering}
use Rattle.std.specs.declared.cmp.Ordering.TheVariants.{Less}
use Rattle.std.proofs.lemmas.Cmp.{tied_itself}
use Rattle.std.proofs.lemmas.List.{reverse-append}
use Rattle.std.proofs.lemmas.List.Elements.{filter-append}
use Rattle.cedar_data.specs.Maps.{with_entries, map_of}
use Rattle.schema_syntax_tree.specs.declared.annotated.Annotated.{Annotated}
use Rattle.schema_syntax_tree.specs.declared.namespace.Namespace.{Namespace}
use Rattle.schema_json.specs.Orders.{annotation_key_cmp}
use Rattle.schema_convert_openings.specs.Joined.{first_of_each, have_one_name, openings_of, opened_as, joined_by_name}
use Rattle.schema_convert_plain.specs.Plain.{HasRisingNotes}
use Rattle.schema_convert_openings.proofs.FirstRepeat.{AreNew}
use Rattle.schema_convert_openings.proofs.OneName.{names_total, one_name_swaps}
use Rattle.schema_convert_faults.proofs.Among.{none_cond}

module _ {K X : Type 0} (R : K → K → Ordering) where
  with_append : (m xs ys : List (K × X)) → with_entries R m (xs ++ ys) ≡ with_entries R (with_entries R m xs) ys
  with_append m [] ys = refl
  with_append m (e ∷ xs) ys = with_append (insert_entry R m e.0 e.1) xs ys

  put_first : (e : K × X) (es : List (K × X)) → AllByRecursion (λ y. R e.0 y ≡ Less) (keys_of es)
      → insert_entry R es e.0 e.1 ≡ e ∷ es
  put_first e [] below = refl
  put_first e (f ∷ es) below =
      ap (λ r. match_ordering r (e ∷ f ∷ es) ((f.0, e.1) ∷ es) (f ∷ insert_entry R es e.0 e.1)) below.0

  -- rising entries, from the last one to the first
  turned_map : (es : List (K × X)) → IsStrictlySortedBy R (keys_of es) → map_of R (reverse es) ≡ es
  unfolding IsStrictlySortedBy
  turned_map [] sorted = refl
  turned_map (e ∷ es) sorted =
      ap (map_of R) (reverse-append (e ∷ []) es)
      ∙ (with_append [] (reverse es) (e ∷ [])
      ∙ (ap (λ m. insert_entry R m e.0 e.1) (turned_map es sorted.1) ∙ put_first e es sorted.0))

-- a namespace that is opened once
alone_is : (n : Annotated Namespace) → HasRisingNotes n → opened_as n (n ∷ []) ≡ n
alone_is n rising =
    let decls = append-nil n.item.decls in
    let notes = ap (λ es. map_of annotation_key_cmp (reverse es)) (append-nil n.annotations.0)
    ∙ turned_map annotation_key_cmp n.annotations.0 rising in
    λ i. record {
      item = record { name = n.item.name; decls = decls i; loc = n.item.loc };
      annotations = record { 0 = notes i };
    }

module _ {N : Type 0} (same : N → N → Bool) (swaps : (a b : N) → same a b ≡ same b a)
    (itself : (a : N) → same a a ≡ true) where
  find_at : (x d : N) (front back : List N) → find (same x) (front ++ d ∷ back) ≡ None → same x d ≡ false
  find_at x d [] back h = (none_cond (same x d) d (find (same x) back) h).0
  find_at x d (f ∷ front) back h =
      find_at x d front back (none_cond (same x f) f (find (same x) (front ++ d ∷ back)) h).1

  -- of items that are new, none is the same as one that is done
  others : (d : N) (front back xs : List N) → AreNew same (front ++ d ∷ back) xs
      → AllByRecursion (λ y. same d y ≡ false) xs
  others d front back [] new = tt
  others d front back (x ∷ xs) new = (
    swaps d x ∙ find_at x d front back new.0,
    others d front (back ++ x ∷ []) xs
        (subst (λ l. AreNew same l xs) (append_assoc front (d ∷ back) (x ∷ [])) new.1),
  )

  none_filtered : (d : N) (xs : List N) → AllByRecursion (λ y. same d y ≡ false) xs → filter (same d) xs ≡ []
  none_filtered d [] all = refl
  none_filtered d (x ∷ xs) all = ap (λ b. cond b (x ∷ filter (same d) xs) (filter (same d) xs)) all.0
      ∙ none_filtered d xs all.1

  all_filtered : (d : N) (xs : List N) → AllByRecursion (λ y. same d y ≡ false) xs
      → filter (λ y. not (same d y)) xs ≡ xs
  all_filtered d [] all = refl
  all_filtered d (x ∷ xs) all =
      ap (λ b. cond (not b) (x ∷ filter (λ y. not (same d y)) xs) (filter (λ y. not (same d y)) xs)) all.0
      ∙ ap (λ l. x ∷ l) (all_filtered d xs all.1)

  none_found : (d : N) (before : List N) → find (same d) before ≡ None → filter (same d) before ≡ []
  none_found d [] h = refl
  none_found d (x ∷ before) h =
      let both = none_cond (same d x) x (find (same d) before) h in
      ap (λ b. cond b (x ∷ filter (same d) before) (filter (same d) before)) both.0 ∙ none_found d before both.1

  -- each item is the only one of its kind
  only : (before : List N) (x : N) (xs : List N) → AreNew same before (x ∷ xs)
      → filter (same x) (before ++ x ∷ xs) ≡ x ∷ []
  only before x xs new =
      filter-append (same x) before (x ∷ xs)
      ∙ (ap (λ l. l ++ filter (same x) (x ∷ xs)) (none_found x before new.0)
      ∙ (ap (λ b. cond b (x ∷ filter (same x) xs) (filter (same x) xs)) (itself x)
      ∙ ap (λ l. x ∷ l) (none_filtered x xs (others x before [] xs new.1))))

  -- and is the first of it
  firsts : (before xs : List N) → AreNew same before xs → first_of_each same xs ≡ xs
  firsts before [] new = refl
  firsts before (x ∷ xs) new =
      ap (λ l. x ∷ filter (λ y. not (same x y)) l) (firsts (before ++ x ∷ []) xs new.1)
      ∙ ap (λ l. x ∷ l) (all_filtered x xs (others x before [] xs new.1))

one_name_itself : (a : Annotated Namespace) → have_one_name a a ≡ true
one_name_itself a = ap is_eq (tied_itself names_total a.item.name)

all_alone : (before ns : List (Annotated Namespace)) → AreNew have_one_name before ns
    → AllByRecursion HasRisingNotes ns
    → map (λ n. opened_as n (openings_of n (before ++ ns))) ns ≡ ns
all_alone before [] new rising = refl
all_alone before (n ∷ ns) new rising =
    let here = ap (opened_as n) (only have_one_name one_name_swaps one_name_itself before n ns new)
    ∙ alone_is n rising.0 in
    let rest = subst (λ l. map (λ m. opened_as m (openings_of m l)) ns ≡ ns) (append_assoc before (n ∷ []) ns)
    (all_alone (before ++ n ∷ []) ns new.1 rising.1) in
    λ i. here i ∷ rest i

-- namespaces with names of their own are joined as they stand
pub joined_as_they_stand : (ns : List (Annotated Namespace)) → AreNew have_one_name [] ns
    → AllByRecursion HasRisingNotes ns → joined_by_name ns ≡ ns
joined_as_they_stand ns new rising =
    ap (map (λ n. opened_as n (openings_of n ns))) (firsts have_one_name one_name_swaps one_name_itself [] ns new)
    ∙ all_alone [] ns new rising
