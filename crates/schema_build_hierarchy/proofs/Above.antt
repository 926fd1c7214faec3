-- The rows of a closure are the ancestors of what is declared.
use Rattle.std.proofs.Common.{◌≡◌, ℕ, ◌<◌, List, [], map, length, refl, sym, ap, ◌∙◌, subst, arith, inl, inr, Contains}
use Rattle.std.proofs.Common.{Vec, Some}
use Rattle.std.specs.Prelude.{slice_get}
use Rattle.std.specs.Option.{option_map, option_map_or}
use Rattle.std.specs.declared.alloc.Global.{Global}
use Rattle.std.proofs.lemmas.List.{length-map}
use Rattle.std.proofs.lemmas.Option.{slice_get_within, get_or_from_slice_get, slice_get_cases, slice_get-map}
use Rattle.std.proofs.lemmas.Option.{slice_get-get_or, same_Some}
use Rattle.cedar_data.proofs.Lists.{contains_map, contains_unmap}
use Rattle.schema_build_graph.specs.Paths.{Reaches}
use Rattle.schema_build_graph.specs.Graph.{HasEdge, targets_of, AllReached, AreReached}
use Rattle.schema_build_graph.proofs.Paths.{reaches_one, reaches_on, reaches_within}
use Rattle.schema_build_hierarchy.specs.Ancestors.{IsParentAmong, AreParentsDeclared, IsAncestorAmong, AreParentRows}
use Rattle.schema_build_hierarchy.specs.Ancestors.{IsAncestorRow, AreAncestorRows}
use Rattle.schema_build_hierarchy.proofs.Paths.{reaches_wider}

pub contains_at : {X : Type 0} (xs : List X) (i : ℕ) (x : X) → slice_get xs i ≡ Some x → Contains xs x
contains_at xs i x is = (i, slice_get_within xs i x is, get_or_from_slice_get xs i x x is)

pub at_contained : {X : Type 0} (xs : List X) (x : X) → Contains xs x → (i : ℕ) × (slice_get xs i ≡ Some x)
at_contained xs x (i, h, e) = (i, slice_get-get_or xs i x h ∙ ap Some e)

pub row_there : (rows : List (Vec ℕ Global)) (i : ℕ) → i < length rows
    → (row : Vec ℕ Global) × (slice_get rows i ≡ Some row)
row_there rows i lt = elim (slice_get_cases rows i).1 [ inl x ↦ (x.0, x.2) | inr past ↦ absurd (omega (arith, past.0)) ]

pub targets_are : (rows : List (Vec ℕ Global)) (i : ℕ) (row : Vec ℕ Global) → slice_get rows i ≡ Some row
    → targets_of rows i ≡ row.items
targets_are rows i row is = ap (λ r. option_map_or (λ (row : Vec ℕ Global). row.items) r []) is

module _ {D K : Type 0} (known : D → K) (parents : D → List K) (ds : List D) (graph : List (Vec ℕ Global))
    (are : AreParentRows known parents ds graph) where
  abbrev Step : K → K → Type 0
  Step = IsParentAmong known parents ds

  edge : (i r : ℕ) (d : D) → slice_get ds i ≡ Some d → HasEdge graph i r
      → (p : D) × (slice_get ds r ≡ Some p) × Contains (parents d) (known p)
  edge i r d is e =
      let row = row_there graph i (omega (arith, slice_get_within ds i d is, are.same)) in
      (are.each i d row.0 is row.1 r).0 (subst (λ l. Contains l r) (targets_are graph i row.0 row.1) e)

  edge_back : (i r : ℕ) (d p : D) → slice_get ds i ≡ Some d → slice_get ds r ≡ Some p → Contains (parents d) (known p)
      → HasEdge graph i r
  edge_back i r d p is it c =
      let row = row_there graph i (omega (arith, slice_get_within ds i d is, are.same)) in
      subst (λ l. Contains l r) (sym (targets_are graph i row.0 row.1)) ((are.each i d row.0 is row.1 r).1 (p, it, c))

  abbrev Above : D → ℕ → Type 0
  Above d x = (p : D) × (slice_get ds x ≡ Some p) × Reaches Step (known d) (known p)

  above_on : (d : D) (x y : ℕ) → Above d x → HasEdge graph x y → Above d y
  above_on d x y (p, it, r) e =
      let q = edge x y p it e in
      (q.0, q.1, reaches_on Step (known d) (known p) (known q.0) r (p, contains_at ds x p it, refl, q.2))

  sound : (i : ℕ) (d : D) → slice_get ds i ≡ Some d → (b : ℕ) → Reaches (HasEdge graph) i b → Above d b
  sound i d is b r = reaches_within (HasEdge graph) (Above d) (above_on d) i
      (λ c e. let q = edge i c d is e in
      (q.0, q.1, reaches_one Step (known d) (known q.0) (d, contains_at ds i d is, refl, q.2))) b r

  module _ (apart : (i j : ℕ) (a b : D) → slice_get ds i ≡ Some a → slice_get ds j ≡ Some b → known a ≡ known b → i ≡ j)
      (declared : AreParentsDeclared known parents ds) where
    abbrev Below : ℕ → K → Type 0
    Below i b = (r : ℕ) × (p : D) × (slice_get ds r ≡ Some p) × (known p ≡ b) × Reaches (HasEdge graph) i r

    same_at : (i : ℕ) (d e : D) → slice_get ds i ≡ Some d → Contains ds e → known e ≡ known d → e ≡ d
    same_at i d e is c k =
        let j = at_contained ds e c in
        let place : j.0 ≡ i = apart j.0 i e d j.1 is k in
        let here : slice_get ds i ≡ Some e = subst (λ z. slice_get ds z ≡ Some e) place j.1 in
        same_Some e d (sym here ∙ is)

    step_at : (i : ℕ) (d : D) → slice_get ds i ≡ Some d → (c : K) → Step (known d) c
        → (r : ℕ) × (p : D) × (slice_get ds r ≡ Some p) × (known p ≡ c) × HasEdge graph i r
    step_at i d is c s =
        let (e, con, k, cp) = s in
        let same : e ≡ d = same_at i d e is con k in
        let (r, it) = at_contained (map known ds) c (declared (known d) c s) in
        elim (slice_get_cases ds r).1 [
          | inl x ↦
              let shown : slice_get (map known ds) r ≡ Some (known x.0) = slice_get-map known ds r
              ∙ ap (option_map known) x.2 in
              let named : known x.0 ≡ c = same_Some (known x.0) c (sym shown ∙ it) in
              let held : Contains (parents d) (known x.0) = subst (Contains (parents d)) (sym named)
              (subst (λ z. Contains (parents z) c) same cp) in
              (r, x.0, x.2, named, edge_back i r d x.0 is x.2 held)
          | inr past ↦ absurd (let lt : r < length (map known ds) = slice_get_within (map known ds) r c it in
              omega (arith, past.0, length-map ds known))
        ]

    below_on : (i : ℕ) (b c : K) → Below i b → Step b c → Below i c
    below_on i b c (r, p, it, named, path) s =
        let q = step_at r p it c (subst (λ z. Step z c) (sym named) s) in
        (q.0, q.1, q.2, q.3, reaches_on (HasEdge graph) i r q.0 path q.4)

    complete : (i : ℕ) (d : D) → slice_get ds i ≡ Some d → (b : K) → Reaches Step (known d) b → Below i b
    complete i d is b r = reaches_within Step (Below i) (below_on i) (known d)
        (λ c s. let q = step_at i d is c s in (q.0, q.1, q.2, q.3, reaches_one (HasEdge graph) i q.0 q.4)) b r

    row_is : (i : ℕ) (d : D) (row : List ℕ) → slice_get ds i ≡ Some d → AreReached graph i row
        → IsAncestorRow (IsAncestorAmong known parents ds) (map known ds) (known d) row
    row_is i d row is reached = record {
      rising = reached.rising;
      sound = λ r c. (let q = sound i d is r (reached.sound r c) in
          (known q.0, slice_get-map known ds r ∙ ap (option_map known) q.1, q.2));
      whole = λ b path. (let q = complete i d is b path in
          (q.0, slice_get-map known ds q.0 ∙ ap (option_map known) q.2 ∙ ap Some q.3, reached.complete q.0 q.4));
    }

    pub rows_are : (rows : List (Vec ℕ Global)) → AllReached graph rows
        → AreAncestorRows (IsAncestorAmong known parents ds) (map known ds) rows
    rows_are rows all = record {
      same = all.same ∙ are.same ∙ sym (length-map ds known);
      each = λ i a row is at. elim (slice_get_cases ds i).1 [
        | inl x ↦
            let shown : slice_get (map known ds) i ≡ Some (known x.0) = slice_get-map known ds i
            ∙ ap (option_map known) x.2 in
            subst (λ z. IsAncestorRow (IsAncestorAmong known parents ds) (map known ds) z row.items)
            (same_Some (known x.0) a (sym shown ∙ is))
            (row_is i x.0 row.items x.2 (all.each i row at))
        | inr past ↦ absurd (let lt : i < length (map known ds) = slice_get_within (map known ds) i a is in
            omega (arith, past.0, length-map ds known))
      ];
    }

-- ---- declarations in another order
module _ {D K : Type 0} (known : D → K) (parents : D → List K) (xs ys : List D)
    (to : (d : D) → Contains xs d → Contains ys d) where
  step_moved : (a b : K) → IsParentAmong known parents xs a b → IsParentAmong known parents ys a b
  step_moved a b (d, c, k, p) = (d, to d c, k, p)

  pub ancestor_moved : (a b : K) → IsAncestorAmong known parents xs a b → IsAncestorAmong known parents ys a b
  ancestor_moved a b r = reaches_wider (IsParentAmong known parents xs) (IsParentAmong known parents ys)
      step_moved a b r

  pub declared_moved : ((d : D) → Contains ys d → Contains xs d) → AreParentsDeclared known parents xs
      → AreParentsDeclared known parents ys
  declared_moved back declared a b (d, c, k, p) =
      let (e, ce, same) = contains_unmap known xs b (declared a b (d, back d c, k, p)) in
      subst (Contains (map known ys)) same (contains_map known ys e (to e ce))

module _ {K : Type 0} (E F : K → K → Type 0) (to : (a b : K) → E a b → F a b) (back : (a b : K) → F a b → E a b)
    (names : List K) where
  pub rows_moved : (rows : List (Vec ℕ Global)) → AreAncestorRows E names rows → AreAncestorRows F names rows
  rows_moved rows are = record {
    same = are.same;
    each = λ i a row is at. (let h = are.each i a row is at in record {
      rising = h.rising;
      sound = λ r c. (let q = h.sound r c in (q.0, q.1, to a q.0 q.2));
      whole = λ b f. h.whole b (back a b f);
    });
  }
