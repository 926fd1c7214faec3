-- Members stand by the bytes of their keys, so they are met in the order of the fields' names.
use Rattle.std.proofs.Common.{◌≡◌, ℕ, List, [], ◌∷◌, ◌++◌, Some, None, Ordering, Less, Equal, String, Global}
use Rattle.std.proofs.Common.{string_bytes, string_cmp, inl, inr, refl, sym, ap, ◌∙◌, subst}
use Rattle.std.specs.Prelude.{◌⊎◌, ⊤}
use Rattle.std.specs.Ordering.{nat_cmp, match_ordering, ordering_reverse}
use Rattle.std.specs.Cmp.Lexicographic.{slice_cmp}
use Rattle.std.specs.List.{AllByRecursion}
use Rattle.std.specs.List.Sorted.{IsStrictlySortedBy}
use Rattle.std.specs.Map.{keys_of}
use Rattle.std.proofs.lemmas.Cmp.{nat_list_cmp_total, tied_itself}
use Rattle.serde_json.specs.Data.{Data, Members, no_members, member}
use Rattle.serde_json.specs.Find.{get_member}
use Rattle.serde_json.specs.View.{members_view}
use Rattle.serde_json.proofs.Views.{Entry}
use Rattle.schema_json_shapes.specs.Walk.{Role, Demand, demands, member_demands}
use Rattle.schema_json_shapes.specs.Reads.{field_demands}
use Rattle.schema_json_shapes.proofs.Demands.{rows}

abbrev key_cmp : List ℕ → List ℕ → Ordering
key_cmp = slice_cmp nat_cmp

-- ---- keys that rise

abbrev pub Above : List ℕ → Members → Type 0
Above k no_members = ⊤
Above k (member l d ms) = (key_cmp k l ≡ Less) × Above k ms

abbrev pub Rises : Members → Type 0
Rises no_members = ⊤
Rises (member k d ms) = Above k ms × Rises ms

above_view : (k : String Global) (es : List Entry) → AllByRecursion (λ y. string_cmp k y ≡ Less) (keys_of es)
    → Above (string_bytes k) (members_view es)
above_view k [] h = tt
above_view k (e ∷ es) h = (h.0, above_view k es h.1)

pub Rises-view : (es : List Entry) → IsStrictlySortedBy string_cmp (keys_of es) → Rises (members_view es)
unfolding IsStrictlySortedBy
Rises-view [] h = tt
Rises-view (e ∷ es) h = (above_view e.0 es h.0, Rises-view es h.1)

above_more : (n k : List ℕ) (ms : Members) → key_cmp n k ≡ Less → Above k ms → Above n ms
above_more n k no_members e h = tt
above_more n k (member l d ms) e h = (nat_list_cmp_total.trans n k l e h.0, above_more n k ms e h.1)

not_there : (n : List ℕ) (ms : Members) → Above n ms → get_member n ms ≡ None
not_there n no_members h = refl
not_there n (member l d ms) h = ap (λ o. match_ordering o (get_member n ms) (Some d) (get_member n ms)) h.0
    ∙ not_there n ms h.1

-- ---- names that rise

abbrev pub Among : List ℕ → List (List ℕ) → Type 0
Among k [] = ⊥
Among k (n ∷ ns) = (k ≡ n) ⊎ Among k ns

abbrev pub AllAbove : List ℕ → List (List ℕ) → Type 0
AllAbove n [] = ⊤
AllAbove n (m ∷ ns) = (key_cmp n m ≡ Less) × AllAbove n ns

abbrev pub NamesRise : List (List ℕ) → Type 0
NamesRise [] = ⊤
NamesRise (n ∷ ns) = AllAbove n ns × NamesRise ns

among_above : (n k : List ℕ) (ns : List (List ℕ)) → AllAbove n ns → Among k ns → key_cmp n k ≡ Less
among_above n k [] h a = absurd a
among_above n k (m ∷ ns) h (inl e) = ap (key_cmp n) e ∙ h.0
among_above n k (m ∷ ns) h (inr a) = among_above n k ns h.1 a

abbrev pub Listed : List (List ℕ) → Members → Type 0
Listed ns no_members = ⊤
Listed ns (member k d ms) = Among k ns × Listed ns ms

less_equal : Less ≡ Equal → ⊥
less_equal e = cc

past_first : (n k : List ℕ) (ns : List (List ℕ)) → key_cmp n k ≡ Less → Among k (n ∷ ns) → Among k ns
past_first n k ns less (inl e) = absurd (less_equal (sym less ∙ ap (key_cmp n) e ∙ tied_itself nat_list_cmp_total n))
past_first n k ns less (inr a) = a

listed_past : (n : List ℕ) (ns : List (List ℕ)) (ms : Members) → Above n ms → Listed (n ∷ ns) ms → Listed ns ms
listed_past n ns no_members h l = tt
listed_past n ns (member k d ms) h l = (past_first n k ns h.0 l.0, listed_past n ns ms h.1 l.1)

-- ---- the demands of the fields, name after name

abbrev pub no_key : List ℕ → List Demand
no_key k = []

module _ (role : List ℕ → Role) where
  abbrev pub fields_demands : List (List ℕ) → Members → List Demand
  fields_demands [] ms = []
  fields_demands (n ∷ ns) ms = field_demands (role n) n (get_member n ms) ++ fields_demands ns ms

  -- the demands of each field
  abbrev pub field_rows : List (List ℕ) → Members → List (List Demand)
  field_rows [] ms = [] ∷ []
  field_rows (n ∷ ns) ms = field_demands (role n) n (get_member n ms) ∷ field_rows ns ms

  pub in_rows : (ds : List Demand) (ns : List (List ℕ)) (ms : Members)
      → rows ds (field_rows ns ms) ≡ ds ++ fields_demands ns ms
  in_rows ds [] ms = refl
  in_rows ds (n ∷ ns) ms = ap (λ t. ds ++ t) (in_rows (field_demands (role n) n (get_member n ms)) ns ms)

  none_there : (ns : List (List ℕ)) → fields_demands ns no_members ≡ []
  none_there [] = refl
  none_there (n ∷ ns) = none_there ns

  first_past : (k n : List ℕ) (d : Data) (ms : Members) → key_cmp k n ≡ Less
      → get_member n (member k d ms) ≡ get_member n ms
  first_past k n d ms e = ap (λ o. match_ordering o (get_member n ms) (Some d) (get_member n ms))
      (nat_list_cmp_total.antisymm n k ∙ ap ordering_reverse e)

  drop_first : (ns : List (List ℕ)) (k : List ℕ) (d : Data) (ms : Members) → AllAbove k ns
      → fields_demands ns (member k d ms) ≡ fields_demands ns ms
  drop_first [] k d ms h = refl
  drop_first (n ∷ ns) k d ms h =
      ap (λ o. field_demands (role n) n o ++ fields_demands ns (member k d ms)) (first_past k n d ms h.0)
      ∙ ap (λ t. field_demands (role n) n (get_member n ms) ++ t) (drop_first ns k d ms h.1)

  by_first : (n : List ℕ) (ns : List (List ℕ)) (k : List ℕ) (d : Data) (ms : Members) → NamesRise (n ∷ ns)
      → Rises (member k d ms) → Listed (n ∷ ns) ms
      → (Listed ns ms → member_demands no_key role ms ≡ fields_demands ns ms)
      → (Listed ns (member k d ms) → member_demands no_key role (member k d ms) ≡ fields_demands ns (member k d ms))
      → Among k (n ∷ ns) → member_demands no_key role (member k d ms) ≡ fields_demands (n ∷ ns) (member k d ms)
  by_first n ns k d ms h r l rest all (inl e) =
      let above : Above n ms = subst (λ x. Above x ms) e r.0 in
      let found : get_member n (member k d ms)
      ≡ Some d = ap (λ o. match_ordering o (get_member n ms) (Some d) (get_member n ms))
      (ap (key_cmp n) e ∙ tied_itself nat_list_cmp_total n) in
      ap (λ x. demands (role x) x d ++ member_demands no_key role ms) e
      ∙ ap (λ t. demands (role n) n d ++ t) (rest (listed_past n ns ms above l))
      ∙ ap (λ t. demands (role n) n d ++ t) (sym (drop_first ns k d ms (subst (λ x. AllAbove x ns) (sym e) h.0)))
      ∙ ap (λ o. field_demands (role n) n o ++ fields_demands ns (member k d ms)) (sym found)
  by_first n ns k d ms h r l rest all (inr a) =
      let less : key_cmp n k ≡ Less = among_above n k ns h.0 a in
      let above : Above n ms = above_more n k ms less r.0 in
      let absent : get_member n (member k d ms) ≡ None = not_there n (member k d ms) (less, above) in
      all (a, listed_past n ns ms above l)
      ∙ ap (λ o. field_demands (role n) n o ++ fields_demands ns (member k d ms)) (sym absent)

  pub in_order : (ns : List (List ℕ)) (ms : Members) → NamesRise ns → Rises ms → Listed ns ms
      → member_demands no_key role ms ≡ fields_demands ns ms
  in_order [] no_members h r l = refl
  in_order [] (member k d ms) h r l = absurd l.0
  in_order (n ∷ ns) no_members h r l = sym (none_there ns)
  in_order (n ∷ ns) (member k d ms) h r l =
      by_first n ns k d ms h r l.1 (in_order ns ms h.1 r.1) (in_order ns (member k d ms) h.1 r) l.0
