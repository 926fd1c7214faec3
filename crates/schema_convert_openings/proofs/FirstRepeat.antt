-- The first repeat, by where it stands.
use Rattle.std.proofs.Common.{◌≡◌, ◌↔◌, Bool, find, List, [], ◌∷◌, ◌++◌, Option, Some, None, refl, sym, ap, ◌∙◌, subst}
use Rattle.std.proofs.Common.{append_assoc, append-nil, true≢false, is_some}
use Rattle.std.proofs.lemmas.Option.{same_Some}
use Rattle.std.specs.Ordering.{is_eq}
use Rattle.std.specs.declared.cmp.Ordering.{Ordering}
use Rattle.schema_convert_openings.specs.Repeats.{same_among, or_later, repeat_behind, first_repeat}
use Rattle.schema_convert_openings.specs.Repeats.{NoneRepeats, IsFirstRepeat}

module _ {K : Type 0} (test : K → K → Bool) where
  -- each of the items is new behind those that are done
  abbrev pub AreNew : List K → List K → Type 0
  AreNew done [] = Unit {0}
  AreNew done (x ∷ xs) = (find (test x) done ≡ None) × AreNew (done ++ x ∷ []) xs

  pub new_at : (done before after : List K) (x : K) → AreNew done (before ++ x ∷ after)
      → find (test x) (done ++ before) ≡ None
  new_at done [] after x h = ap (find (test x)) (append-nil done) ∙ h.0
  new_at done (y ∷ before) after x h =
      ap (find (test x)) (sym (append_assoc done (y ∷ []) before)) ∙ new_at (done ++ y ∷ []) before after x h.1

  pub new_from : (done xs : List K)
      → ((before after : List K) (x : K) → xs ≡ before ++ x ∷ after → find (test x) (done ++ before) ≡ None)
      → AreNew done xs
  new_from done [] h = tt
  new_from done (y ∷ xs) h = (
    ap (find (test y)) (sym (append-nil done)) ∙ h [] xs y refl,
    new_from (done ++ y ∷ []) xs (λ before after x e. ap (find (test x)) (append_assoc done (y ∷ []) before)
        ∙ h (y ∷ before) after x (ap (λ l. y ∷ l) e)),
  )

  pub new_everywhere : (items : List K) → AreNew [] items
      → (before after : List K) (x : K) → items ≡ before ++ x ∷ after → find (test x) before ≡ None
  new_everywhere items h before after x e = new_at [] before after x (subst (AreNew []) e h)

module _ {K : Type 0} (cmp : K → K → Ordering) where
  abbrev by_order : K → K → Bool
  by_order a b = is_eq (cmp a b)

  none_by : (o : Option K) (x : K) (later : Option (K × K)) → or_later o x later ≡ None → (o ≡ None) × (later ≡ None)
  none_by None x later h = (refl, h)
  none_by (Some y) x later h = absurd (true≢false (ap is_some h))

  new_where_none : (done xs : List K) → repeat_behind cmp done xs ≡ None → AreNew by_order done xs
  new_where_none done [] h = tt
  new_where_none done (x ∷ xs) h =
      let both = none_by (same_among cmp x done) x (repeat_behind cmp (done ++ x ∷ []) xs) h in
      (both.0, new_where_none (done ++ x ∷ []) xs both.1)

  none_where_new : (done xs : List K) → AreNew by_order done xs → repeat_behind cmp done xs ≡ None
  none_where_new done [] h = refl
  none_where_new done (x ∷ xs) h =
      ap (λ o. or_later o x (repeat_behind cmp (done ++ x ∷ []) xs)) h.0 ∙ none_where_new (done ++ x ∷ []) xs h.1

  pub none_found : (items : List K) → first_repeat cmp items ≡ None ↔ NoneRepeats cmp items
  none_found items = (
    λ h. new_everywhere by_order items (new_where_none [] items h),
    λ h. none_where_new [] items
        (new_from by_order [] items h),
  )

  abbrev pub Found : List K → List K → K → K → Type 0
  Found done xs first second =
      (before : List K) × (after : List K) × (xs ≡ before ++ second ∷ after) × AreNew by_order done before
      × (same_among cmp second (done ++ before) ≡ Some first)

  some_by : (done : List K) (x : K) (xs : List K) (first second : K) (o : Option K) → same_among cmp x done ≡ o
      → (repeat_behind cmp (done ++ x ∷ []) xs ≡ Some (first, second) → Found (done ++ x ∷ []) xs first second)
      → or_later o x (repeat_behind cmp (done ++ x ∷ []) xs) ≡ Some (first, second) → Found done (x ∷ xs) first second
  some_by done x xs first second (Some y) e later h =
      let is : (y, x) ≡ (first, second) = same_Some (y, x) (first, second) h in (
        [],
        xs,
        ap (λ (p : K × K). p.1 ∷ xs) is,
        tt,
        ap (same_among cmp second) (append-nil done)
            ∙ (ap (λ (p : K × K). same_among cmp p.1 done) (sym is) ∙ (e ∙ ap (λ (p : K × K). Some p.0) is)),
      )
  some_by done x xs first second None e later h =
      let found = later h in (
        x ∷ found.0,
        found.1,
        ap (λ l. x ∷ l) found.2,
        (e, found.3),
        ap (same_among cmp second)
            (sym (append_assoc done (x ∷ []) found.0)) ∙ found.4,
      )

  found_where_some : (done xs : List K) (first second : K) → repeat_behind cmp done xs ≡ Some (first, second)
      → Found done xs first second
  found_where_some done [] first second h = absurd (true≢false (ap is_some (sym h)))
  found_where_some done (x ∷ xs) first second h =
      some_by done x xs first second (same_among cmp x done) refl (found_where_some (done ++ x ∷ []) xs first second) h

  some_where_found : (done before after : List K) (first second : K) → AreNew by_order done before
      → same_among cmp second (done ++ before) ≡ Some first
      → repeat_behind cmp done (before ++ second ∷ after) ≡ Some (first, second)
  some_where_found done [] after first second new same =
      ap (λ o. or_later o second (repeat_behind cmp (done ++ second ∷ []) after))
      (ap (same_among cmp second) (sym (append-nil done)) ∙ same)
  some_where_found done (x ∷ before) after first second new same =
      ap (λ o. or_later o x (repeat_behind cmp (done ++ x ∷ []) (before ++ second ∷ after))) new.0
      ∙ some_where_found (done ++ x ∷ []) before after first second new.1
      (ap (same_among cmp second) (append_assoc done (x ∷ []) before) ∙ same)

  is_first : (items : List K) (first second : K) → Found [] items first second → IsFirstRepeat cmp items first second
  is_first items first second f =
      record { before = f.0; after = f.1; split = f.2; none_before = new_everywhere by_order f.0 f.3; same = f.4 }

  pub some_found : (items : List K) (first second : K)
      → first_repeat cmp items ≡ Some (first, second) ↔ IsFirstRepeat cmp items first second
  some_found items first second = (
    λ h. is_first items first second (found_where_some [] items first second h),
    λ r. ap (repeat_behind cmp []) r.split
        ∙ some_where_found [] r.before r.after first second (new_from by_order [] r.before r.none_before) r.same,
  )
