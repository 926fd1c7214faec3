-- Rows of ancestors are the closure of themselves.
use Rattle.std.proofs.Common.{◌≡◌, ℕ, ◌<◌, ◌≤◌, false, map, Ordering, List, [], length, refl, sym, ap, ◌∙◌, subst}
use Rattle.std.proofs.Common.{arith, inl, inr, Contains, Vec, Option, Some}
use Rattle.std.specs.Prelude.{slice_get}
use Rattle.std.specs.declared.alloc.Global.{Global}
use Rattle.std.proofs.lemmas.Option.{slice_get_within, slice_get_cases, slice_get_past, same_Some}
use Rattle.std.specs.Option.{option_map_or}
use Rattle.std.specs.declared.cmp.Ordering.TheVariants.{Equal}
use Rattle.std.specs.Cmp.{IsTotalOrder}
use Rattle.std.specs.Ordering.{is_lt, ordering_reverse}
use Rattle.std.specs.List.Sorted.{IsStrictlySortedBy}
use Rattle.std.proofs.lemmas.Bool.{cases_lt}
use Rattle.std.proofs.lemmas.Cmp.{tied_itself}
use Rattle.schema_build_graph.specs.Paths.{Reaches}
use Rattle.schema_build_graph.specs.Graph.{HasEdge, AllReached}
use Rattle.schema_build_graph.proofs.Paths.{reaches_one, reaches_within}
use Rattle.schema_build_hierarchy.specs.Ancestors.{AreAncestorRows}
use Rattle.schema_build_hierarchy.proofs.Ranked.{one_place, less_at}
use Rattle.schema_build_hierarchy.proofs.ParentRanks.{at_map, map_at}
use Rattle.schema_build_hierarchy.proofs.Above.{row_there, targets_are}

pub edge_row : (rows : List (Vec ℕ Global)) (a b : ℕ) → HasEdge rows a b
    → (row : Vec ℕ Global) × (slice_get rows a ≡ Some row) × Contains row.items b
edge_row rows a b e = elim (slice_get_cases rows a).1 [
  | inl x ↦ (x.0, x.2, subst (λ l. Contains l b) (targets_are rows a x.0 x.2) e)
  | inr past ↦ absurd (
      let none : Contains [] b = subst
      (λ (r : Option (Vec ℕ Global)). Contains (option_map_or (λ (row : Vec ℕ Global). row.items) r []) b)
      (slice_get_past rows a past.0) e in
      omega (arith, none.1))
]

module _ {K : Type 0} (E : K → K → Type 0) (through : (a b c : K) → E a b → E b c → E a c) (names : List K)
    (rows : List (Vec ℕ Global))
    (are : AreAncestorRows E names rows)
    (apart : (i j : ℕ) (a : K) → slice_get names i ≡ Some a → slice_get names j ≡ Some a → i ≡ j) where
  named : (i : ℕ) → i < length rows → (a : K) × (slice_get names i ≡ Some a)
  named i lt = elim (slice_get_cases names i).1
      [ inl x ↦ (x.0, x.2) | inr past ↦ absurd (omega (arith, past.0, are.same)) ]

  edge : (a b : ℕ) (n : K) → slice_get names a ≡ Some n → HasEdge rows a b
      → (m : K) × (slice_get names b ≡ Some m) × E n m
  edge a b n is e = let (row, at, c) = edge_row rows a b e in (are.each a n row is at).sound b c

  reached : (a : ℕ) (n : K) → slice_get names a ≡ Some n → (b : ℕ) → Reaches (HasEdge rows) a b
      → (m : K) × (slice_get names b ≡ Some m) × E n m
  reached a n is b r = reaches_within (HasEdge rows) (λ x. (m : K) × (slice_get names x ≡ Some m) × E n m)
      (λ x y s e. let q = edge x y s.0 s.1 e in (q.0, q.1, through n s.0 q.0 s.2 q.2)) a (λ c e. edge a c n is e) b r

  held : (a b : ℕ) (n : K) (row : Vec ℕ Global) → slice_get names a ≡ Some n → slice_get rows a ≡ Some row → (m : K)
      → slice_get names b ≡ Some m → E n m → Contains row.items b
  held a b n row is at m it e =
      let (r, named', c) = (are.each a n row is at).whole m e in
      subst (Contains row.items) (apart r b m named' it) c

  pub closed : AllReached rows rows
  closed = record {
    same = refl;
    each = λ a row at. (let (n, is) = named a (slice_get_within rows a row at) in record {
      rising = (are.each a n row is at).rising;
      sound = λ b c. reaches_one (HasEdge rows) a b (subst (λ l. Contains l b) (sym (targets_are rows a row at)) c);
      complete = λ b r. (let q = reached a n is b r in held a b n row is at q.0 q.1 q.2);
    });
  }

  pub own_cycle : (a : ℕ) (n : K) → slice_get names a ≡ Some n → Reaches (HasEdge rows) a a → E n n
  own_cycle a n is r = let q = reached a n is a r in subst (E n) (same_Some q.0 n (sym q.1 ∙ is)) q.2

  pub cycle_there : (a : ℕ) (n : K) → slice_get names a ≡ Some n → E n n → Reaches (HasEdge rows) a a
  cycle_there a n is e =
      let (row, at) = row_there rows a (omega (arith, slice_get_within names a n is, are.same)) in
      reaches_one (HasEdge rows) a a
      (subst (λ l. Contains l a) (sym (targets_are rows a row at)) (held a a n row is at n is e))

  pub cycle_within : (a b : ℕ) → Reaches (HasEdge rows) a b → a < length names
  cycle_within a b r = let (row, at, c) = edge_row rows a r.0 r.2.0 in
      omega (arith, slice_get_within rows a row at, are.same)

-- ---- by the order of what is declared
module _ {D : Type 0} {R : D → D → Ordering} (o : IsTotalOrder R) where
  -- what stands behind is not less
  pub behind : (xs : List D) → IsStrictlySortedBy R xs → (i j : ℕ) (a b : D) → i ≤ j → slice_get xs i ≡ Some a
      → slice_get xs j ≡ Some b → is_lt (R b a) ≡ false
  behind xs up i j a b le p q = elim (cases_lt i j) [
    | inl lt ↦ ap is_lt (o.antisymm b a ∙ ap ordering_reverse (less_at o xs up i j a b p q lt))
    | inr ge ↦
        let place : i ≡ j = omega arith in
        let same : a ≡ b = same_Some a b (sym p ∙ ap (slice_get xs) place ∙ q) in
        ap is_lt (ap (R b) same ∙ tied_itself o b)
  ]

  module _ {E J : Type 0} (of : E → D) (known : D → J) (tied : (a b : D) → known a ≡ known b → R a b ≡ Equal) where
    pub names_apart : (entries : List E) → IsStrictlySortedBy R (map of entries) → (i j : ℕ) (a : J)
        → slice_get (map (λ e. known (of e)) entries) i ≡ Some a
        → slice_get (map (λ e. known (of e)) entries) j ≡ Some a → i ≡ j
    names_apart entries up i j a p q =
        let (e, ie, ke) = at_map (λ e. known (of e)) entries i a p in
        let (d, jd, kd) = at_map (λ e. known (of e)) entries j a q in
        one_place o (map of entries) up i j (of e) (of d) (map_at of entries i e ie) (map_at of entries j d jd)
        (tied (of e) (of d) (ke ∙ sym kd))
