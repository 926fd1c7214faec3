-- What is written of a meaning in a namespace.
use Rattle.std.proofs.Common.{◌≡◌, zero, suc, Bool, true, false, cond, List, [], ◌∷◌, ◌++◌, map, flat_map, Some}
use Rattle.std.proofs.Common.{Contains, refl, sym, ap, ◌∙◌, subst, append-nil, arith, true≢false, is_some}
use Rattle.std.specs.BTreeMap.{is_at}
use Rattle.std.specs.Cmp.{tied_itself}
use Rattle.std.specs.List.{AllByRecursion}
use Rattle.std.specs.List.Sorted.{IsStrictlySortedBy}
use Rattle.std.specs.declared.cmp.Ordering.TheVariants.{Less}
use Rattle.std.specs.Ordering.{is_eq}
use Rattle.std.proofs.lemmas.Map.Keys.{sorted_head, sorted_tail}
use Rattle.std.proofs.lemmas.Option.{same_Some}
use Rattle.cedar_data.proofs.Orders.{equal_from}
use Rattle.cedar_names.specs.CanonicalText.{namespace, namespaces}
use Rattle.cedar_names.specs.Meaning.{SchemaMeaning}
use Rattle.laws_written.specs.Meant.{items_of_meaning, name_or_none, group_of_meaning, groups_of_meaning}
use Rattle.laws_written.specs.PrintedDecls.{IsSome, group_items}
use Rattle.laws_written.specs.Written.{WrittenDeclared, outside}
use Rattle.laws_translate.specs.FragmentsSay.{NamespaceName, namespace_order, WrittenNamespace, items_of_namespace}
use Rattle.laws_translate.specs.FragmentsSay.{opened}
use Rattle.laws_translate.specs.FragmentsSay.{written_in}
use Rattle.laws_translate.specs.MeantNamespaces.{meant_in_namespace, IsOfMeaning}
use Rattle.laws_translate.proofs.Grouped.{outside_decls, outside_notes, filter_append}
use Rattle.laws_translate.proofs.MeantSayable.{Name, name_order, items, items_here, none_behind, order_rises, name_back}
use Rattle.laws_translate.proofs.MeantSayable.{less_apart, equal_self}
use Rattle.laws_translate.proofs.Orders.{namespace_exact, namespace_total}

module _ (m : SchemaMeaning) where
  opened_outside : (d : WrittenDeclared) (ds : List WrittenDeclared)
      → opened (map outside (d ∷ ds)) ≡ Some (record { notes = []; decls = d ∷ ds })
  opened_outside d ds = λ i. Some (record { notes = outside_notes (d ∷ ds) i; decls = outside_decls (d ∷ ds) i })

  group_is : (n : Name) (w : WrittenNamespace) → opened (group_items (group_of_meaning m n)) ≡ Some w
      → w ≡ meant_in_namespace m n
  group_is [] w e = by (items_of_meaning m []) e
    where
      by : (ds : List WrittenDeclared) → opened (map outside ds) ≡ Some w → w ≡ record { notes = []; decls = ds }
      by [] e = cc
      by (d ∷ ds) e = same_Some w (record { notes = []; decls = d ∷ ds }) (sym e ∙ opened_outside d ds)
  group_is (c ∷ cs) w e =
      sym (same_Some (record { notes = []; decls = items_of_meaning m (c ∷ cs) ++ [] }) w e)
      ∙ (λ i. record { notes = []; decls = append-nil (items_of_meaning m (c ∷ cs)) i })

  group_opens : (n : Name) → IsSome (items_of_meaning m n)
      → opened (group_items (group_of_meaning m n)) ≡ Some (meant_in_namespace m n)
  group_opens [] h = by (items_of_meaning m []) h
    where
      by : (ds : List WrittenDeclared) → IsSome ds → opened (map outside ds) ≡ Some (record { notes = []; decls = ds })
      by [] h = absurd h
      by (d ∷ ds) h = opened_outside d ds
  group_opens (c ∷ cs) h = λ i. Some (record { notes = []; decls = append-nil (items_of_meaning m (c ∷ cs)) i })

  -- the items of a namespace are those of its group
  whole_group : (q : NamespaceName) (n : Name) (ns : List Name) → q ≡ name_or_none n
      → IsStrictlySortedBy name_order (n ∷ ns)
      → items_of_namespace q (items m (n ∷ ns)) ≡ group_items (group_of_meaning m n)
  whole_group q n ns here s =
      let passes : is_at (namespace_order q) (name_or_none n) ≡ true =
      ap (λ x. is_at (namespace_order x) (name_or_none n)) here
      ∙ ap is_eq (tied_itself namespace_total (name_or_none n)) in
      let rest : items_of_namespace q (items m ns) ≡ [] = ap (λ x. items_of_namespace x (items m ns)) here
      ∙ none_behind m n ns (sorted_head name_order n ns s) in
      filter_append q (group_items (group_of_meaning m n)) (items m ns)
      ∙ ((λ i. (items_here m q n ∙ ap (λ b. cond b (group_items (group_of_meaning m n)) []) passes) i ++ rest i)
      ∙ append-nil (group_items (group_of_meaning m n)))

  skipped : (q : NamespaceName) (n : Name) (ns : List Name) → is_at (namespace_order q) (name_or_none n) ≡ false
      → items_of_namespace q (items m (n ∷ ns)) ≡ items_of_namespace q (items m ns)
  skipped q n ns t =
      filter_append q (group_items (group_of_meaning m n)) (items m ns)
      ∙ ap (λ l. l ++ items_of_namespace q (items m ns))
      (items_here m q n ∙ ap (λ b. cond b (group_items (group_of_meaning m n)) []) t)

  record OneOf (q : NamespaceName) (ns : List Name) (w : WrittenNamespace) : Type 0 where
    name : Name
    among : Contains ns name
    named : name_or_none name ≡ q
    is : w ≡ meant_in_namespace m name

  one_of : (q : NamespaceName) (ns : List Name) → IsStrictlySortedBy name_order ns → (w : WrittenNamespace)
      → opened (items_of_namespace q (items m ns)) ≡ Some w → OneOf q ns w
  one_of q [] s w e = absurd (true≢false (sym (ap is_some e)))
  one_of q (n ∷ ns) s w e = by (is_at (namespace_order q) (name_or_none n)) refl
      (one_of q ns (sorted_tail name_order n ns s) w)
    where
      by : (b : Bool) → is_at (namespace_order q) (name_or_none n) ≡ b
          → (opened (items_of_namespace q (items m ns)) ≡ Some w → OneOf q ns w) → OneOf q (n ∷ ns) w
      by true t r =
          let here : q ≡ name_or_none n = namespace_exact q (name_or_none n)
          (equal_from (namespace_order q (name_or_none n)) t) in
          record {
            name = n;
            among = (zero, omega arith, refl);
            named = sym here;
            is =
                group_is n w (ap opened (sym (whole_group q n ns here s)) ∙ e);
          }
      by false t r =
          let o = r (ap opened (sym (skipped q n ns t)) ∙ e) in
          record {
            name = o.name;
            among = (suc o.among.0, omega (arith, o.among.1), o.among.2);
            named = o.named;
            is =
                o.is;
          }

  all_has : (P : Name → Type 0) (xs : List Name) (x : Name) → AllByRecursion P xs → Contains xs x → P x
  all_has P [] x h (k, lt, e) = absurd (omega arith)
  all_has P (y ∷ ys) x h (zero, lt, e) = subst P e h.0
  all_has P (y ∷ ys) x h (suc k, lt, e) = all_has P ys x h.1 (k, omega arith, e)

  passed_by : (x n : Name) (b : Bool) → is_at (namespace_order (name_or_none n)) (name_or_none x) ≡ b
      → name_order x n ≡ Less → b ≡ false
  passed_by x n false t l = refl
  passed_by x n true t l =
      let same : n ≡ x =
      name_back n x
      (namespace_exact (name_or_none n) (name_or_none x)
      (equal_from (namespace_order (name_or_none n) (name_or_none x)) t)) in
      absurd (less_apart (name_order x n) l (ap (name_order x) same ∙ equal_self x))

  opens_at : (n : Name) (ns : List Name) → IsSome (items_of_meaning m n) → IsStrictlySortedBy name_order ns
      → Contains ns n
      → opened (items_of_namespace (name_or_none n) (items m ns)) ≡ Some (meant_in_namespace m n)
  opens_at n [] h s (k, lt, e) = absurd (omega arith)
  opens_at n (x ∷ ns) h s (zero, lt, e) =
      ap opened (whole_group (name_or_none n) x ns (ap name_or_none (sym e)) s)
      ∙ (ap (λ y. opened (group_items (group_of_meaning m y))) e ∙ group_opens n h)
  opens_at n (x ∷ ns) h s (suc k, lt, e) =
      let there : Contains ns n = (k, omega arith, e) in
      let less = all_has (λ y. name_order x y ≡ Less) ns n (sorted_head name_order x ns s) there in
      let t = is_at (namespace_order (name_or_none n)) (name_or_none x) in
      ap opened (skipped (name_or_none n) x ns (passed_by x n t refl less))
      ∙ opens_at n ns h (sorted_tail name_order x ns s) there

pub is_written : (m : SchemaMeaning) (n : Name) → Contains (namespaces m) n → IsSome (items_of_meaning m n)
    → written_in (flat_map group_items (groups_of_meaning m)) (name_or_none n) ≡ Some (meant_in_namespace m n)
is_written m n h k = opens_at m n (namespaces m) k
    (order_rises (map (λ e. namespace e.name) m.entities ++ map (λ a. namespace a.ty) m.actions)) h

pub written_is : (m : SchemaMeaning) (q : NamespaceName) (w : WrittenNamespace)
    → written_in (flat_map group_items (groups_of_meaning m)) q ≡ Some w → IsOfMeaning m q w
written_is m q w e =
    let o = one_of m q (namespaces m)
    (order_rises (map (λ e. namespace e.name) m.entities ++ map (λ a. namespace a.ty) m.actions)) w e in
    record { name = o.name; among = o.among; named = o.named; is = o.is }
