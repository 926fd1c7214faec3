-- The rows of parents, one after another.
use Rattle.std.proofs.Common.{◌≡◌, ℕ, zero, suc, Bool, true, false, cond, List, [], ◌∷◌, ◌++◌, map, length, get_or}
use Rattle.std.proofs.Common.{sym, ap, ◌∙◌, subst, arith, inl, inr, Contains, Vec, Some, Ordering}
use Rattle.std.specs.Prelude.{slice_get, ◌↔◌, ◌⊎◌, filter}
use Rattle.std.specs.declared.alloc.Global.{Global}
use Rattle.std.specs.declared.cmp.Ordering.TheVariants.{Equal}
use Rattle.std.specs.Option.{option_map}
use Rattle.std.proofs.lemmas.Bool.{cases_Bool}
use Rattle.std.proofs.lemmas.List.{length-append}
use Rattle.std.proofs.lemmas.List.Elements.{Contains-get_or, All-contains, All-filter, All-contains_itself}
use Rattle.std.proofs.lemmas.Option.{slice_get_within, slice_get_cases, slice_get-map, slice_get-get_or}
use Rattle.cedar_data.proofs.Lists.{contains_map, contains_unmap, contains_later}
use Rattle.cedar_data.proofs.Options.{seen_of}
use Rattle.schema_build_graph.specs.Graph.{InRange}
use Rattle.schema_build_hierarchy.specs.Ranks.{AreRanksOf}
use Rattle.schema_build_hierarchy.specs.Ancestors.{AreRowsFor, AreParentRows}
use Rattle.schema_build_hierarchy.proofs.Once.{contains_cases}

pub filter_kept : {A : Type 0} (p : A → Bool) (xs : List A) (x : A) → Contains (filter p xs) x → Contains xs x
filter_kept p xs x c =
    All-contains (Contains xs) (filter p xs) x (All-filter p (Contains xs) xs (All-contains_itself xs)) c

pub filter_keeps : {A : Type 0} (p : A → Bool) (xs : List A) (x : A) → Contains xs x → p x ≡ true
    → Contains (filter p xs) x
filter_keeps p [] x c h = c
filter_keeps {A} p (k ∷ xs) x c h = elim (contains_cases k xs x c) [
  | inl same ↦ subst (λ b. Contains (cond b (k ∷ filter p xs) (filter p xs)) x) (sym (ap p same ∙ h))
      (0, omega arith, same)
  | inr there ↦ go (cases_Bool (p k)) (filter_keeps p xs x there h)
]
  where
    go : (p k ≡ true) ⊎ (p k ≡ false) → Contains (filter p xs) x
        → Contains (cond (p k) (k ∷ filter p xs) (filter p xs)) x
    go (inl hit) d = subst (λ b. Contains (cond b (k ∷ filter p xs) (filter p xs)) x) (sym hit)
        (contains_later k (filter p xs) x d)
    go (inr miss) d = subst (λ b. Contains (cond b (k ∷ filter p xs) (filter p xs)) x) (sym miss) d

pub at_map : {X Y : Type 0} (f : X → Y) (xs : List X) (i : ℕ) (y : Y) → slice_get (map f xs) i ≡ Some y
    → (x : X) × (slice_get xs i ≡ Some x) × (f x ≡ y)
at_map f xs i y is = seen_of f (slice_get xs i) y (sym (slice_get-map f xs i) ∙ is)

pub map_at : {X Y : Type 0} (f : X → Y) (xs : List X) (i : ℕ) (x : X) → slice_get xs i ≡ Some x
    → slice_get (map f xs) i ≡ Some (f x)
map_at f xs i x is = slice_get-map f xs i ∙ ap (option_map f) is

-- the ranks of the names that targets are seen as
module _ {E K D J : Type 0} {R : K → K → Ordering} (name : E → K) (decl : E → D) (known : D → J) (seen : K → J)
    (agree : (e : E) → known (decl e) ≡ seen (name e)) (exact : (a b : K) → R a b ≡ Equal → seen a ≡ seen b)
    (tied : (a b : K) → seen a ≡ seen b → R a b ≡ Equal) where
  pub row_for : (entries : List E) (names : List K) (row : List ℕ) (targets : List J)
      → AreRanksOf R (map name entries) names row
      → ((j : J) → Contains (map seen names) j → Contains targets j)
      → ((e : E) → Contains targets (known (decl e)) → Contains (map seen names) (known (decl e)))
      → (r : ℕ) → Contains row r ↔ ((p : D) × (slice_get (map decl entries) r ≡ Some p) × Contains targets (known p))
  row_for entries names row targets are to from r = (
    (λ c.
        let (k, ck, h) = (are.are r).0 c in
        let (o, is, eq) = h in
        let (e, at, same) = at_map name entries r o is in
        let shown : known (decl e) ≡ seen k = agree e ∙ ap seen same ∙ exact o k eq in (
          decl e,
          map_at decl entries r e at,
          subst (Contains targets) (sym shown)
              (to (seen k) (contains_map seen names k ck)),
        )),
    (λ h.
        let (p, is, ct) = h in
        let (e, at, same) = at_map decl entries r p is in
        let (k, ck, eq) = contains_unmap seen names (known (decl e))
        (from e (subst (λ z. Contains targets (known z)) (sym same) ct)) in
        (are.are r).1 (k, ck, (name e, map_at name entries r e at, tied (name e) k (sym (agree e) ∙ sym eq)))),
  )

module _ {D V : Type 0} (P : D → V → Type 0) (d0 : D) (row0 : V) (here : P d0 row0) where
  each_more : (some : List D) (rows : List V) → length rows ≡ length some
      → ((i : ℕ) (d : D) (row : V) → slice_get some i ≡ Some d → slice_get rows i ≡ Some row → P d row)
      → (i : ℕ) (d : D) (row : V) → slice_get (some ++ d0 ∷ []) i ≡ Some d
      → slice_get (rows ++ row0 ∷ []) i ≡ Some row → P d row
  each_more [] [] l each zero d row p q =
      let a : d0 ≡ d = cc in
      let b : row0 ≡ row = cc in
      subst (λ z. P z row) a (subst (P d0) b here)
  each_more [] [] l each (suc i) d row p q = absurd (cc)
  each_more [] (y ∷ ys) l each i d row p q = absurd (omega arith)
  each_more (x ∷ xs) [] l each i d row p q = absurd (omega arith)
  each_more (x ∷ xs) (y ∷ ys) l each zero d row p q = each 0 d row p q
  each_more (x ∷ xs) (y ∷ ys) l each (suc i) d row p q = each_more xs ys (omega arith) (λ j. each (suc j)) i d row p q

module _ {D K : Type 0} (known : D → K) (parents : D → List K) where
  pub rows_more : (all some : List D) (rows rows' : List (Vec ℕ Global)) (d : D) (row : Vec ℕ Global)
      → AreRowsFor known parents all some rows
      → ((r : ℕ) → Contains row.items r ↔ ((p : D) × (slice_get all r ≡ Some p) × Contains (parents d) (known p)))
      → rows' ≡ rows ++ row ∷ [] → AreRowsFor known parents all (some ++ d ∷ []) rows'
  rows_more all some rows rows' d row are is grown =
      subst (AreRowsFor known parents all (some ++ d ∷ [])) (sym grown) (record {
        same = omega (arith, length-append rows (row ∷ []), length-append some (d ∷ []), are.same);
        each = each_more (λ d row. (r : ℕ)
            → Contains row.items r ↔ ((p : D) × (slice_get all r ≡ Some p) × Contains (parents d) (known p)))
            d row is some rows are.same are.each;
      })

  pub rows_below : (ds : List D) (rows : List (Vec ℕ Global)) → AreParentRows known parents ds rows
      → InRange (length rows) rows
  rows_below ds rows are k d h j e lt =
      let row = get_or rows k d in
      let at : slice_get rows k ≡ Some row = slice_get-get_or rows k d h in
      elim (slice_get_cases ds k).1 [
        | inl x ↦
            let (p, is, c) = (are.each k x.0 row x.2 at (get_or row.items j e)).0 (Contains-get_or row.items j e lt) in
            omega (arith, slice_get_within ds (get_or row.items j e) p is, are.same)
        | inr past ↦ absurd (omega (arith, past.0, are.same))
      ]
