-- What is in lists and in the maps of their entries.
use Rattle.std.proofs.Common.{◌≡◌, ◌↔◌, ◌⊎◌, inl, inr, Bool, true, false, cond, List, [], ◌∷◌, ◌++◌, map, Option, Some}
use Rattle.std.proofs.Common.{None, refl, sym, ap, ◌∙◌, subst, true≢false, flat_map, is_some, find, if◌then◌else◌}
use Rattle.std.specs.declared.cmp.Ordering.{Ordering}
use Rattle.std.specs.declared.cmp.Ordering.TheVariants.{Less, Equal, Greater}
use Rattle.std.specs.Ordering.{is_eq, match_ordering}
use Rattle.std.specs.BTreeMap.{insert_entry, is_at}
use Rattle.std.specs.Map.{lookup}
use Rattle.std.specs.Cmp.{IsTotalOrder}
use Rattle.std.specs.Option.{option_or}
use Rattle.std.proofs.lemmas.List.{map-append}
use Rattle.std.proofs.lemmas.Option.{same_Some}
use Rattle.cedar_data.specs.Maps.{with_entries, map_of, last_at}
use Rattle.cedar_data.proofs.Orders.{equal_from}
use Rattle.cedar_data.proofs.Options.{or_none}
use Rattle.schema_convert_faults.specs.Warned.{IsAmong}
use Rattle.schema_convert_openings.proofs.FirstRepeat.{AreNew}
use Rattle.schema_convert_faults.proofs.Valued.{by_cond, last-append, map_last, put}

module _ {A : Type 0} where
  pub among_append : (x : A) (xs ys : List A) → IsAmong x (xs ++ ys) ↔ IsAmong x xs ⊎ IsAmong x ys
  among_append x [] ys = (λ h. inr h, λ h. elim h [ inl e ↦ absurd e | inr e ↦ e ])
  among_append x (z ∷ xs) ys =
      let rest = among_append x xs ys in (
        λ h. elim h [ inl e ↦ inl (inl e) | inr e ↦ elim (rest.0 e) [ inl f ↦ inl (inr f) | inr f ↦ inr f ] ],
        λ h. elim h [ inl e ↦ elim e [ inl f ↦ inl f | inr f ↦ inr (rest.1 (inl f)) ] | inr e ↦ inr (rest.1 (inr e)) ],
      )

module _ {A B : Type 0} (f : A → List B) where
  among_flat : (w : B) (xs : List A) → IsAmong w (flat_map f xs) ↔ (x : A) × IsAmong x xs × IsAmong w (f x)
  among_flat w [] = (λ h. absurd h, λ h. absurd h.1)
  among_flat w (z ∷ xs) =
      let split = among_append w (f z) (flat_map f xs) in
      let rest = among_flat w xs in (
        λ h. elim (split.0 h) [ inl e ↦ (z, inl refl, e) | inr e ↦ let g = rest.0 e in (g.0, inr g.1, g.2) ],
        λ h. elim h.1 [
          | inl e ↦ split.1 (inl (subst (λ y. IsAmong w (f y)) e h.2))
          | inr e ↦ split.1
              (inr (rest.1 (h.0, e, h.2)))
        ],
      )

pub among_map : {A C : Type 0} (g : A → C) (w : C) (xs : List A)
    → IsAmong w (map g xs) ↔ (x : A) × IsAmong x xs × (w ≡ g x)
among_map g w [] = (λ h. absurd h, λ h. absurd h.1)
among_map g w (z ∷ xs) =
    let rest = among_map g w xs in (
      λ h. elim h [ inl e ↦ (z, inl refl, e) | inr e ↦ let r = rest.0 e in (r.0, inr r.1, r.2) ],
      λ h. elim h.1 [ inl e ↦ inl (h.2 ∙ ap g e) | inr e ↦ inr (rest.1 (h.0, e, h.2)) ],
    )

pub none_cond : {X : Type 0} (b : Bool) (v : X) (o : Option X) → cond b (Some v) o ≡ None → (b ≡ false) × (o ≡ None)
none_cond true v o h = absurd (true≢false (ap is_some h))
none_cond false v o h = (refl, h)

-- a key goes into a map that has no key like it
module _ {K X : Type 0} (R : K → K → Ordering) where
  -- the map has no key that is equal
  abbrev pub HasNot : K → List (K × X) → Type 0
  HasNot k es = lookup (is_at (R k)) es ≡ None

  among_insert_by : (k : K) (v : X) (e : K × X) (es : List (K × X)) (x : K × X) (r : Ordering) → R k e.0 ≡ r
      → is_eq (R k e.0) ≡ false
      → (IsAmong x (insert_entry R es k v) ↔ (x ≡ (k, v)) ⊎ IsAmong x es)
      → IsAmong x (match_ordering r ((k, v) ∷ e ∷ es) ((e.0, v) ∷ es) (e ∷ insert_entry R es k v)) ↔ (x ≡ (k, v)) ⊎
      IsAmong x (e ∷ es)
  among_insert_by k v e es x Less q n i = (λ h. h, λ h. h)
  among_insert_by k v e es x Equal q n i = absurd (true≢false (sym (ap is_eq q) ∙ n))
  among_insert_by k v e es x Greater q n i = (
    λ h. elim h [ inl f ↦ inr (inl f) | inr f ↦ elim (i.0 f) [ inl g ↦ inl g | inr g ↦ inr (inr g) ] ],
    λ h. elim h [ inl f ↦ inr (i.1 (inl f)) | inr f ↦ elim f [ inl g ↦ inl g | inr g ↦ inr (i.1 (inr g)) ] ],
  )

  among_insert : (k : K) (v : X) (es : List (K × X)) (x : K × X) → HasNot k es
      → IsAmong x (insert_entry R es k v) ↔ (x ≡ (k, v)) ⊎ IsAmong x es
  among_insert k v [] x h = (λ g. g, λ g. g)
  among_insert k v (e ∷ es) x h =
      let both = none_cond (is_eq (R k e.0)) e.1 (lookup (is_at (R k)) es) h in
      among_insert_by k v e es x (R k e.0) refl both.0 (among_insert k v es x both.1)

  -- each key is new to the map when it goes into it
  abbrev pub AreFresh : List (K × X) → List (K × X) → Type 0
  AreFresh m [] = Unit {0}
  AreFresh m (e ∷ es) = HasNot e.0 m × AreFresh (insert_entry R m e.0 e.1) es

  among_with : (m es : List (K × X)) (x : K × X) → AreFresh m es
      → IsAmong x (with_entries R m es) ↔ IsAmong x m ⊎ IsAmong x es
  among_with m [] x h = (λ g. inl g, λ g. elim g [ inl f ↦ f | inr f ↦ absurd f ])
  among_with m (e ∷ es) x h =
      let rest = among_with (insert_entry R m e.0 e.1) es x h.1 in
      let one = among_insert e.0 e.1 m x h.0 in (
        λ g. elim (rest.0 g) [ inl f ↦ elim (one.0 f) [ inl k ↦ inr (inl k) | inr k ↦ inl k ] | inr f ↦ inr (inr f) ],
        λ g. elim g [
          | inl f ↦ rest.1 (inl (one.1 (inr f)))
          | inr f ↦ elim f
              [ inl k ↦ rest.1 (inl (one.1 (inl k))) | inr k ↦ rest.1 (inr k) ]
        ],
      )

  -- of keys that are all new, the map has exactly the entries
  pub among_map_of : (es : List (K × X)) (x : K × X) → AreFresh [] es → IsAmong x (map_of R es) ↔ IsAmong x es
  among_map_of es x h =
      let all = among_with [] es x h in
      (λ g. elim (all.0 g) [ inl f ↦ absurd f | inr f ↦ f ], λ g. all.1 (inr g))

-- entries of items that are no repeats of one another
module _ {N K X : Type 0} (R : K → K → Ordering) (o : IsTotalOrder R) (key : N → K) (value : N → X) where
  abbrev pub same_key : N → N → Bool
  same_key a b = is_eq (R (key a) (key b))

  abbrev pub entry_of : N → K × X
  entry_of n = (key n, value n)

  last_none_by : (test : K → Bool) (n : N) (ns : List N)
      → (find (λ m. test (key m)) ns ≡ None → last_at test (map entry_of ns) ≡ None)
      → (b : Bool) → cond b (Some n) (find (λ m. test (key m)) ns) ≡ None
      → option_or (last_at test (map entry_of ns)) (if b then Some (value n) else None) ≡ None
  last_none_by test n ns later true h = absurd (true≢false (ap is_some h))
  last_none_by test n ns later false h = or_none (last_at test (map entry_of ns)) ∙ later h

  last_none : (test : K → Bool) (ns : List N) → find (λ m. test (key m)) ns ≡ None
      → last_at test (map entry_of ns) ≡ None
  last_none test [] h = refl
  last_none test (n ∷ ns) h = last_none_by test n ns (last_none test ns) (test (key n)) h

  fresh : (m : List (K × X)) (done ns : List N)
      → ((q : K) → lookup (is_at (R q)) m ≡ last_at (is_at (R q)) (map entry_of done))
      → AreNew same_key done ns → AreFresh R m (map entry_of ns)
  fresh m done [] has new = tt
  fresh m done (n ∷ ns) has new = (
    has (key n) ∙ last_none (is_at (R (key n))) done new.0,
    fresh (insert_entry R m (key n) (value n)) (done ++ n ∷ []) ns
        (λ q.
        put R o q (key n) (value n) m
        ∙ (by_cond (is_eq (R q (key n))) (value n) (lookup (is_at (R q)) m)
        ∙ (ap (option_or (if is_eq (R q (key n)) then Some (value n) else None)) (has q)
        ∙ (sym (last-append (is_at (R q)) (map entry_of done) (entry_of n ∷ []))
        ∙ ap (last_at (is_at (R q))) (sym (map-append entry_of done (n ∷ [])))))))
        new.1,
  )

  -- their map has exactly their entries
  pub among_entries : (ns : List N) (x : K × X) → AreNew same_key [] ns
      → IsAmong x (map_of R (map entry_of ns)) ↔ IsAmong x (map entry_of ns)
  among_entries ns x new = among_map_of R (map entry_of ns) x (fresh [] [] ns (λ q. refl) new)

  pub flat_entries : {B : Type 0} (f : K × X → List B) (w : B) (ns : List N) → AreNew same_key [] ns
      → IsAmong w (flat_map f (map_of R (map entry_of ns))) ↔ (n : N) × IsAmong n ns × IsAmong w (f (entry_of n))
  flat_entries f w ns new =
      let flat = among_flat f w (map_of R (map entry_of ns)) in (
        λ h.
            let p = flat.0 h in
            let n = (among_map entry_of p.0 ns).0 ((among_entries ns p.0 new).0 p.1) in
            (n.0, n.1, subst (λ e. IsAmong w (f e)) n.2 p.2),
        λ h. flat.1 (
          entry_of h.0,
          (among_entries ns (entry_of h.0) new).1
              ((among_map entry_of (entry_of h.0) ns).1 (h.0, h.1, refl)),
          h.2,
        ),
      )

  false_by : (p : N → Bool) (z x : N) (xs : List N) → (IsAmong z xs → find p xs ≡ None → p z ≡ false)
      → IsAmong z (x ∷ xs) → (b : Bool) → p x ≡ b → cond b (Some x) (find p xs) ≡ None → p z ≡ false
  false_by p z x xs later h true e g = absurd (true≢false (ap is_some g))
  false_by p z x xs later (inl is) false e g = ap p is ∙ e
  false_by p z x xs later (inr h) false e g = later h g

  -- what is among items of which none passes does not pass
  none_passes : (p : N → Bool) (z : N) (xs : List N) → IsAmong z xs → find p xs ≡ None → p z ≡ false
  none_passes p z [] h g = absurd h
  none_passes p z (x ∷ xs) h g = false_by p z x xs (none_passes p z xs) h (p x) refl g

  -- what equals one key equals no other of keys that are no repeats
  module _ (q : K) where
    abbrev pub at_key : N → Bool
    at_key n = is_eq (R q (key n))

    both_equal : (a b : N) → at_key a ≡ true → at_key b ≡ true → same_key a b ≡ true
    both_equal a b h g = ap is_eq (sym (o.congr q (key a) (key b) (equal_from (R q (key a)) h))) ∙ g

    other_by : (x z : N) → at_key z ≡ true → same_key x z ≡ false → (b : Bool) → at_key x ≡ b → b ≡ false
    other_by x z h n true e = absurd (true≢false (sym (both_equal x z e h) ∙ n))
    other_by x z h n false e = refl

    none_later : (z : N) (done xs : List N) → IsAmong z done → at_key z ≡ true → AreNew same_key done xs
        → find at_key xs ≡ None
    none_later z done [] h g new = refl
    none_later z done (x ∷ xs) h g new =
        let other : at_key x ≡ false = other_by x z g (none_passes (same_key x) z done h new.0) (at_key x) refl in
        rw other (none_later z (done ++ x ∷ []) xs ((among_append z done (x ∷ [])).1 (inl h)) g new.1)

    found_in : (n : N) (done ns : List N) → AreNew same_key done ns → IsAmong n ns → at_key n ≡ true
        → last_at (is_at (R q)) (map entry_of ns) ≡ Some (value n)
    found_in n done [] new h g = absurd h
    found_in n done (x ∷ ns) new (inl is) g =
        let at : at_key x ≡ true = ap at_key (sym is) ∙ g in
        let none : last_at (is_at (R q)) (map entry_of ns)
        ≡ None = last_none (is_at (R q)) ns
        (none_later x (done ++ x ∷ []) ns ((among_append x done (x ∷ [])).1 (inr (inl refl))) at new.1) in
        ap (λ l. option_or l (if at_key x then Some (value x) else None)) none
        ∙ rw at (ap (λ m. Some (value m)) (sym is))
    found_in n done (x ∷ ns) new (inr h) g =
        ap (λ l. option_or l (if at_key x then Some (value x) else None)) (found_in n (done ++ x ∷ []) ns new.1 h g)

    abbrev pub IsFound : List N → X → Type 0
    IsFound ns v = (n : N) × IsAmong n ns × (at_key n ≡ true) × (value n ≡ v)

    found_here : (x : N) (ns : List N) (v : X) (b : Bool) → at_key x ≡ b
        → (if b then Some (value x) else None) ≡ Some v
        → IsFound (x ∷ ns) v
    found_here x ns v true e h = (x, inl refl, e, same_Some (value x) v h)
    found_here x ns v false e h = absurd (true≢false (sym (ap is_some h)))

    found_by : (x : N) (ns : List N) (v : X) (l : Option X) → last_at (is_at (R q)) (map entry_of ns) ≡ l
        → (last_at (is_at (R q)) (map entry_of ns) ≡ Some v → IsFound ns v)
        → option_or l (if at_key x then Some (value x) else None) ≡ Some v → IsFound (x ∷ ns) v
    found_by x ns v None e later h = found_here x ns v (at_key x) refl h
    found_by x ns v (Some u) e later h = let f = later (e ∙ h) in (f.0, inr f.1, f.2, f.3)

    where_found : (ns : List N) (v : X) → last_at (is_at (R q)) (map entry_of ns) ≡ Some v → IsFound ns v
    where_found [] v h = absurd (true≢false (sym (ap is_some h)))
    where_found (x ∷ ns) v h = found_by x ns v (last_at (is_at (R q)) (map entry_of ns)) refl (where_found ns v) h

    -- what the map has at the key
    pub looked_up : (ns : List N) (v : X) → AreNew same_key [] ns
        → lookup (is_at (R q)) (map_of R (map entry_of ns)) ≡ Some v ↔ IsFound ns v
    looked_up ns v new =
        let last = map_last R o q (map entry_of ns) in (
          λ h. where_found ns v (sym last ∙ h),
          λ f. last
              ∙ (found_in f.0 [] ns new f.1 f.2 ∙ ap (λ (u : X). Some u) f.3),
        )
