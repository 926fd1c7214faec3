-- Ways of writing the same in each namespace.
use Rattle.std.proofs.Common.{◌≡◌, ℕ, Bool, true, false, cond, List, [], ◌∷◌, ◌++◌, flat_map, Option, Some, None, refl}
use Rattle.std.proofs.Common.{sym, ap, ◌∙◌, subst, append_assoc}
use Rattle.std.specs.BTreeMap.{is_at}
use Rattle.std.proofs.lemmas.Grind.{flat_map-append}
use Rattle.std.proofs.lemmas.List.Elements.{filter-append}
use Rattle.schema_syntax_reader.specs.Leaves.{Notes}
use Rattle.laws_written.specs.Written.{WrittenDeclared, WrittenItem, namespace}
use Rattle.laws_translate.specs.FragmentsSay.{NamespaceName, WrittenNamespace, namespace_order, decls_of_item}
use Rattle.laws_translate.specs.FragmentsSay.{is_of_namespace, items_of_namespace, opened, written_in}
use Rattle.laws_build.specs.Orders.Reordered.{IsReordered, nothing, behind, swapped, in_turn, IsReorderedWithin}
use Rattle.laws_build.specs.Orders.Reordered.{IsDivided, HaveTheSame, AreRearranged}
use Rattle.laws_build.proofs.Orders.Reordering.{itself, backwards, put_behind, all_passed, flat_reordered}
use Rattle.laws_build.proofs.Orders.Reordering.{filter_reordered}

turned : (a b : Option WrittenNamespace) → HaveTheSame a b → HaveTheSame b a
turned None None h = tt
turned (Some n) (Some m) h = backwards n.decls m.decls h
turned None (Some m) h = absurd h
turned (Some n) None h = absurd h

pub rearranged_back : (w v : List WrittenItem) → AreRearranged w v → AreRearranged v w
rearranged_back w v h name = turned (written_in w name) (written_in v name) (h name)

same_as_itself : (a : Option WrittenNamespace) → HaveTheSame a a
same_as_itself None = tt
same_as_itself (Some n) = itself n.decls

pub rearranged_itself : (w : List WrittenItem) → AreRearranged w w
rearranged_itself w name = same_as_itself (written_in w name)

still_none : {A : Type 0} (xs ys : List A) → IsReordered xs ys → xs ≡ [] → ys ≡ []
still_none _ _ nothing e = refl
still_none _ _ (behind x r) e = absurd (cc)
still_none _ _ (swapped x y zs) e = absurd (cc)
still_none _ _ (in_turn {xs} {ys} {zs} r q) e = still_none ys zs q (still_none xs ys r e)

-- items that declare the same, where both are some or none
opened_same : (xs ys : List WrittenItem) → (xs ≡ [] → ys ≡ []) → (ys ≡ [] → xs ≡ [])
    → IsReordered (flat_map decls_of_item xs) (flat_map decls_of_item ys) → HaveTheSame (opened xs) (opened ys)
opened_same [] [] a b r = tt
opened_same [] (y ∷ ys) a b r = absurd (let e : y ∷ ys ≡ [] = a refl in cc)
opened_same (x ∷ xs) [] a b r = absurd (let e : x ∷ xs ≡ [] = b refl in cc)
opened_same (x ∷ xs) (y ∷ ys) a b r = r

-- whole items in another order
pub reordered_items : (w v : List WrittenItem) → IsReordered w v → AreRearranged w v
reordered_items w v r name =
    let here = filter_reordered (is_of_namespace name) w v r in
    opened_same (items_of_namespace name w) (items_of_namespace name v)
    (still_none (items_of_namespace name w) (items_of_namespace name v) here)
    (still_none (items_of_namespace name v) (items_of_namespace name w)
    (backwards (items_of_namespace name w) (items_of_namespace name v) here))
    (flat_reordered decls_of_item (items_of_namespace name w) (items_of_namespace name v) here)

-- some stand where an item stands
not_none : {A : Type 0} (xs ys : List A) (x : A) → xs ++ x ∷ ys ≡ [] → ⊥
not_none [] ys x e = cc
not_none (z ∷ xs) ys x e = cc

-- two lists of items in place of one, each with an opening of the namespace, or with none
abbrev Items : Type 0
Items = List WrittenItem

abbrev declares : Items → List WrittenDeclared
declares items = flat_map decls_of_item items

declares_with : (front back : Items) (i : WrittenItem)
    → declares (front ++ i ∷ back) ≡ declares front ++ (decls_of_item i ++ declares back)
declares_with front back i = flat_map-append decls_of_item front (i ∷ back)

module _ (q : NamespaceName) (name : List (List ℕ)) where
  abbrev test : Bool
  test = is_at (namespace_order q) (Some name)

  -- the items of the namespace around an opening of this name
  around : (notes : Notes) (ds : List WrittenDeclared) (before after : Items)
      → items_of_namespace q (before ++ namespace notes name ds ∷ after)
      ≡ items_of_namespace q before
      ++ cond test (namespace notes name ds ∷ items_of_namespace q after) (items_of_namespace q after)
  around notes ds before after = filter-append (is_of_namespace q) before (namespace notes name ds ∷ after)

  module _ (notes : Notes) (decls others : List WrittenDeclared) (r : IsReordered decls others) (before after : Items)
    where
      within_by : (b : Bool)
          → HaveTheSame (opened (before ++ cond b (namespace notes name decls ∷ after) after))
          (opened (before ++ cond b (namespace notes name others ∷ after) after))
      within_by false = same_as_itself (opened (before ++ after))
      within_by true = opened_same (before ++ namespace notes name decls ∷ after)
          (before ++ namespace notes name others ∷ after)
          (λ e. absurd (not_none before after (namespace notes name decls) e))
          (λ e. absurd (not_none before after (namespace notes name others) e))
          (subst (λ l. IsReordered l (declares (before ++ namespace notes name others ∷ after)))
          (sym (declares_with before after (namespace notes name decls)))
          (subst (IsReordered (declares before ++ (decls ++ declares after)))
          (sym (declares_with before after (namespace notes name others)))
          (put_behind (declares before) (decls ++ declares after) (others ++ declares after)
          (appended decls others (declares after) r))))
        where
          appended : (ds es rest : List WrittenDeclared) → IsReordered ds es → IsReordered (ds ++ rest) (es ++ rest)
          appended _ _ rest nothing = itself rest
          appended _ _ rest (behind x k) = behind x (appended _ _ rest k)
          appended _ _ rest (swapped x y zs) = swapped x y (zs ++ rest)
          appended _ _ rest (in_turn k l) = in_turn (appended _ _ rest k) (appended _ _ rest l)

  module _ (notes front_notes back_notes : Notes) (front back : List WrittenDeclared) (before between after : Items)
    where
      abbrev one : WrittenItem
      one = namespace notes name (front ++ back)

      abbrev first : WrittenItem
      first = namespace front_notes name front

      abbrev second : WrittenItem
      second = namespace back_notes name back

      joined_declare : declares (before ++ one ∷ (between ++ after))
          ≡ declares before ++ (front ++ (back ++ (declares between ++ declares after)))
      joined_declare =
          declares_with before (between ++ after) one
          ∙ ((λ i. declares before ++ ((front ++ back) ++ flat_map-append decls_of_item between after i))
          ∙ ap (λ l. declares before ++ l) (append_assoc front back (declares between ++ declares after)))

      divided_declare : declares (before ++ first ∷ (between ++ second ∷ after))
          ≡ declares before ++ (front ++ (declares between ++ (back ++ declares after)))
      divided_declare =
          declares_with before (between ++ second ∷ after) first
          ∙ (λ i. declares before ++ (front ++ declares_with between after second i))

      divided_by : (b : Bool)
          → HaveTheSame (opened (before ++ cond b (one ∷ (between ++ after)) (between ++ after)))
          (opened (before ++ cond b (first ∷ (between ++ cond b (second ∷ after) after))
          (between ++ cond b (second ∷ after) after)))
      divided_by false = same_as_itself (opened (before ++ (between ++ after)))
      divided_by true = opened_same (before ++ one ∷ (between ++ after)) (before ++ first ∷ (between ++ second ∷ after))
          (λ e. absurd (not_none before (between ++ after) one e))
          (λ e. absurd (not_none before (between ++ second ∷ after) first e))
          (subst (λ l. IsReordered l (declares (before ++ first ∷ (between ++ second ∷ after)))) (sym joined_declare)
          (subst (IsReordered (declares before ++ (front ++ (back ++ (declares between ++ declares after)))))
          (sym divided_declare)
          (put_behind (declares before) (front ++ (back ++ (declares between ++ declares after)))
          (front ++ (declares between ++ (back ++ declares after)))
          (put_behind front (back ++ (declares between ++ declares after))
          (declares between ++ (back ++ declares after)) (all_passed back (declares between) (declares after))))))

pub reordered_within : (w v : List WrittenItem) → IsReorderedWithin w v → AreRearranged w v
reordered_within w v h q =
    subst (λ x. HaveTheSame (written_in x q) (written_in v q)) (sym h.first)
    (subst (λ x. HaveTheSame (written_in (h.before ++ namespace h.notes h.name h.decls ∷ h.after) q) (written_in x q))
    (sym h.second)
    (subst (λ x. HaveTheSame (opened x) (written_in (h.before ++ namespace h.notes h.name h.others ∷ h.after) q))
    (sym (around q h.name h.notes h.decls h.before h.after))
    (subst (λ x. HaveTheSame (opened
    (items_of_namespace q h.before ++ cond (test q h.name)
    (namespace h.notes h.name h.decls ∷ items_of_namespace q h.after) (items_of_namespace q h.after))) (opened x))
    (sym (around q h.name h.notes h.others h.before h.after))
    (within_by q h.name h.notes h.decls h.others h.reordered (items_of_namespace q h.before)
    (items_of_namespace q h.after) (test q h.name)))))

pub divided_items : (w v : List WrittenItem) → IsDivided w v → AreRearranged w v
divided_items w v h q =
    let b = test q h.name in
    let before = items_of_namespace q h.before in
    let between = items_of_namespace q h.between in
    let after = items_of_namespace q h.after in
    let one = namespace h.notes h.name (h.front ++ h.back) in
    let first = namespace h.front_notes h.name h.front in
    let second = namespace h.back_notes h.name h.back in
    let joined : items_of_namespace q w ≡ before ++ cond b (one ∷ (between ++ after)) (between ++ after) =
    ap (items_of_namespace q) h.joined
    ∙ (around q h.name h.notes (h.front ++ h.back) h.before (h.between ++ h.after)
    ∙ ap (λ l. before ++ cond b (one ∷ l) l) (filter-append (is_of_namespace q) h.between h.after)) in
    let divided : items_of_namespace q v
    ≡ before ++ cond b (first ∷ (between ++ cond b (second ∷ after) after)) (between ++ cond b (second ∷ after) after) =
    ap (items_of_namespace q) h.divided
    ∙ (around q h.name h.front_notes h.front h.before (h.between ++ second ∷ h.after)
    ∙ ap (λ l. before ++ cond b (first ∷ l) l) (around q h.name h.back_notes h.back h.between h.after)) in
    subst (λ x. HaveTheSame (opened x) (written_in v q)) (sym joined)
    (subst (λ x. HaveTheSame (opened (before ++ cond b (one ∷ (between ++ after)) (between ++ after))) (opened x))
    (sym divided)
    (divided_by q h.name h.notes h.front_notes h.back_notes h.front h.back before between after b))
