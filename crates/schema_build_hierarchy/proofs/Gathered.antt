-- No name is declared twice, so each declaration has its entry.
use Rattle.std.proofs.Common.{◌≡◌, ℕ, List, [], ◌∷◌, ◌++◌, map, take, length, refl, sym, ap, ◌∙◌, subst}
use Rattle.std.proofs.Common.{◌+◌, ◌<◌, get_or, All, Contains, Option, Some, None, Ordering}
use Rattle.std.specs.Prelude.{slice_get, codes}
use Rattle.std.specs.declared.cmp.Ordering.TheVariants.{Equal}
use Rattle.std.specs.Cmp.{IsTotalOrder, on_total}
use Rattle.std.specs.List.{flat_map}
use Rattle.std.specs.List.Sorted.{IsStrictlySortedBy}
use Rattle.std.specs.Map.{keys_of}
use Rattle.std.specs.Option.{option_cmp}
use Rattle.std.proofs.lemmas.Cmp.{tied_itself}
use Rattle.std.proofs.lemmas.List.{flat_map_more, map-append, take_more, same_from_push}
use Rattle.std.proofs.lemmas.List.Elements.{All-contains}
use Rattle.std.proofs.lemmas.Option.{same_Some}
use Rattle.cedar_data.specs.Text.{text_cmp}
use Rattle.cedar_data.proofs.Orders.{text_total}
use Rattle.cedar_data.proofs.Lists.{contains_flat, contains_map, contains_unmap}
use Rattle.cedar_identifiers.specs.Names.{components_of}
use Rattle.cedar_identifiers.specs.Candidates.{qualified}
use Rattle.cedar_identifiers.specs.declared.id.Id.{Id}
use Rattle.cedar_identifiers.specs.declared.internal_name.InternalName.{InternalName}
use Rattle.cedar_identifiers.specs.declared.name.Name.{Name}
use Rattle.cedar_identifiers.specs.declared.name_text.NameText as named
use Rattle.cedar_identifiers.specs.declared.raw_name.RawName.{RawName}
use Rattle.cedar_identifiers.specs.declared.unreserved_id.UnreservedId.{UnreservedId}
use Rattle.cedar_names.specs.Orders.{names_in_order}
use Rattle.schema_json.specs.declared.action_type.ActionType.{ActionType}
use Rattle.schema_json.specs.declared.fragment.NamespaceDefinition.{NamespaceDefinition}
use Rattle.schema_resolve_definitions.specs.Declarations.{name_of, action_type}
use Rattle.schema_build_checks.specs.DeclaredAt.{ActionAt, actions_at_in_order}
use Rattle.schema_build_checks.proofs.Names.{names_exact, names_tied}
use Rattle.schema_build_hierarchy.specs.Declarations.{Declared, DeclaredEntity, entity_in, action_in, entities_of}
use Rattle.schema_build_hierarchy.specs.Declarations.{actions_of}
use Rattle.schema_build_hierarchy.specs.Entries.{SameMembers}
use Rattle.schema_build_hierarchy.specs.FirstUses.{HasAlike}
use Rattle.schema_build_hierarchy.proofs.Above.{at_contained}
use Rattle.schema_build_hierarchy.proofs.Exact.{actions_exact}
use Rattle.schema_build_hierarchy.proofs.ParentRanks.{map_at}
use Rattle.schema_build_hierarchy.proofs.Ranked.{one_place}

module _ {E K D : Type 0} (name : E → K) (of : E → D) (R : K → K → Ordering) (S : D → D → Ordering)
    (agree : (a b : E) → R (name a) (name b) ≡ Equal → S (of a) (of b) ≡ Equal) where
  pub same_members : (entries items : List E) (ds : List D) → map of entries ≡ ds
      → ((a b : D) → Contains ds a → Contains ds b → S a b ≡ Equal → a ≡ b)
      → All (Contains entries) items → All (λ e. HasAlike R (map name items) (name e)) entries
      → SameMembers ds (map of items)
  same_members entries items ds is once kept whole d = (
    (λ c.
        let (e, ce, same) = contains_unmap of entries d (subst (λ l. Contains l d) (sym is) c) in
        let (n, cn, eq) = All-contains (λ e. HasAlike R (map name items) (name e)) entries e whole ce in
        let (x, cx, sx) = contains_unmap name items n cn in
        let tie : R (name x) (name e) ≡ Equal = ap (λ z. R z (name e)) sx ∙ eq in
        let inside : Contains ds (of x) = subst (λ l. Contains l (of x)) is
        (contains_map of entries x (All-contains (Contains entries) items x kept cx)) in
        let mine : Contains ds (of e) = subst (λ l. Contains l (of e)) is (contains_map of entries e ce) in
        subst (Contains (map of items)) (once (of x) (of e) inside mine (agree x e tie) ∙ same)
        (contains_map of items x cx)),
    (λ c.
        let (x, cx, same) = contains_unmap of items d c in
        subst (Contains ds) same (subst (λ l. Contains l (of x)) is
        (contains_map of entries x (All-contains (Contains entries) items x kept cx)))),
  )

pub path : Option Name → List (List ℕ)
path None = []
path (Some n) = components_of n.name

pub full_path : (ns : Option Name) (w : InternalName) → w.others ≡ []
    → components_of (qualified (name_of ns) w) ≡ path ns ++ w.first.text ∷ []
unfolding path
full_path None w e = ap (λ (o : List Id). map (λ i. i.text) (w.first ∷ o)) e
full_path (Some n) w e = alone n w w.others refl e
  where
    alone : (n : Name) (w : InternalName) (o : List Id) → w.others ≡ o → o ≡ []
        → components_of (qualified (Some n.name) w) ≡ components_of n.name ++ w.first.text ∷ []
    alone n w [] is e =
        subst (λ (o : List Id). components_of
        (qualified (Some n.name) (record { first = w.first; others = o; loc = w.loc })) ≡ components_of n.name
        ++ w.first.text ∷ []) (sym is)
        (map-append (λ i. i.text) (n.name.first ∷ n.name.others) (w.first ∷ []))
    alone n w (i ∷ o) is e = absurd (cc)

pub place_tied : (a b : Option Name) → path a ≡ path b → option_cmp (λ x y. names_in_order x.name y.name) a b ≡ Equal
unfolding path
place_tied None None e = refl
place_tied None (Some b) e = absurd (cc)
place_tied (Some a) None e = absurd (cc)
place_tied (Some a) (Some b) e = names_tied a.name b.name e

-- entries with keys that the order does not tell apart are one
pub keyed_once : {K V : Type 0} {R : K → K → Ordering} (o : IsTotalOrder R) (xs : List (K × V))
    → IsStrictlySortedBy R (keys_of xs) → (x y : K × V)
    → Contains xs x → Contains xs y → R x.0 y.0 ≡ Equal → x ≡ y
keyed_once o xs up x y cx cy e =
    let (i, ix) = at_contained xs x cx in
    let (j, jy) = at_contained xs y cy in
    let place : i ≡ j = one_place o (keys_of xs) up i j x.0 y.0 (map_at (λ p. p.0) xs i x ix)
    (map_at (λ p. p.0) xs j y jy) e in
    same_Some x y (sym ix ∙ ap (slice_get xs) place ∙ jy)

module _ {G : named.Ghosts RawName} (f : List (Option Name × NamespaceDefinition RawName G))
    (total : IsTotalOrder (option_cmp (λ (x y : Name). names_in_order x.name y.name)))
    (up : IsStrictlySortedBy (option_cmp (λ (x y : Name). names_in_order x.name y.name)) (keys_of f)) where
  pub entities_once : All (λ e. IsStrictlySortedBy (λ x y. text_cmp x.id.text y.id.text) (keys_of e.1.entity_types)) f
      → (a b : DeclaredEntity) → Contains (flat_map entities_of f) a → Contains (flat_map entities_of f) b
      → names_in_order a.name b.name ≡ Equal → a ≡ b
  entities_once rising a b ca cb h =
      let (e, ce, da) = contains_flat entities_of f a ca in
      let (k, ck, db) = contains_flat entities_of f b cb in
      let (p, cp, pa) = contains_unmap (entity_in e.0) e.1.entity_types a da in
      let (q, cq, qb) = contains_unmap (entity_in k.0) k.1.entity_types b db in
      let same : components_of a.name ≡ components_of b.name = names_exact a.name b.name h in
      let left : components_of a.name ≡ path e.0 ++ p.0.id.text ∷ [] = ap (λ d. components_of d.name) (sym pa)
      ∙ full_path e.0 (record { first = p.0.id; others = []; loc = p.1.loc }) refl in
      let right : components_of b.name ≡ path k.0 ++ q.0.id.text ∷ [] = ap (λ d. components_of d.name) (sym qb)
      ∙ full_path k.0 (record { first = q.0.id; others = []; loc = q.1.loc }) refl in
      let both = same_from_push (path e.0) (path k.0) p.0.id.text q.0.id.text (sym left ∙ same ∙ right) in
      let ek : e ≡ k = keyed_once total f up e k ce ck (place_tied e.0 k.0 both.0) in
      let cp' : Contains k.1.entity_types p = subst (λ z. Contains z.1.entity_types p) ek cp in
      let tied : text_cmp p.0.id.text q.0.id.text ≡ Equal = ap (text_cmp p.0.id.text) (sym both.1)
      ∙ tied_itself text_total p.0.id.text in
      let pq : p ≡ q = keyed_once (on_total (λ (u : UnreservedId). u.id.text) text_total) k.1.entity_types
      (All-contains (λ e. IsStrictlySortedBy (λ x y. text_cmp x.id.text y.id.text) (keys_of e.1.entity_types)) f k
      rising ck) p q cp' cq tied in
      sym pa ∙ (λ i. entity_in (ek i).0 (pq i)) ∙ qb

  pub actions_once : All (λ e. IsStrictlySortedBy text_cmp (keys_of e.1.actions)) f
      → (a b : Declared ActionAt (ActionType RawName G)) → Contains (flat_map actions_of f) a
      → Contains (flat_map actions_of f) b → actions_at_in_order a.name b.name ≡ Equal → a ≡ b
  actions_once rising a b ca cb h =
      let (e, ce, da) = contains_flat actions_of f a ca in
      let (k, ck, db) = contains_flat actions_of f b cb in
      let (p, cp, pa) = contains_unmap (action_in e.0) e.1.actions a da in
      let (q, cq, qb) = contains_unmap (action_in k.0) k.1.actions b db in
      let same = actions_exact a.name b.name h in
      let left : components_of (action_type e.0) ≡ path e.0 ++ codes "Action" ∷ [] = full_path e.0 _ refl in
      let right : components_of (action_type k.0) ≡ path k.0 ++ codes "Action" ∷ [] = full_path k.0 _ refl in
      let types : components_of (action_type e.0)
      ≡ components_of (action_type k.0) = ap (λ d. components_of d.name.ty) pa ∙ ap (λ z. z.0) same
      ∙ ap (λ d. components_of d.name.ty) (sym qb) in
      let ids : p.0 ≡ q.0 = ap (λ d. d.name.id) pa ∙ ap (λ z. z.1) same ∙ ap (λ d. d.name.id) (sym qb) in
      let both = same_from_push (path e.0) (path k.0) (codes "Action") (codes "Action") (sym left ∙ types ∙ right) in
      let ek : e ≡ k = keyed_once total f up e k ce ck (place_tied e.0 k.0 both.0) in
      let cp' : Contains k.1.actions p = subst (λ z. Contains z.1.actions p) ek cp in
      let tied : text_cmp p.0 q.0 ≡ Equal = ap (text_cmp p.0) (sym ids) ∙ tied_itself text_total p.0 in
      let pq : p ≡ q = keyed_once text_total k.1.actions
      (All-contains (λ e. IsStrictlySortedBy text_cmp (keys_of e.1.actions)) f k rising ck) p q cp' cq tied in
      sym pa ∙ (λ i. action_in (ek i).0 (pq i)) ∙ qb

-- what is gathered of one more item
pub more_given : {A B E : Type 0} (seen : E → B) (f : A → List B) (xs : List A) (i : ℕ) (x : A) → i < length xs
    → x ≡ get_or xs i x → (entries all : List E) (more : List B) → map seen entries ≡ flat_map f (take i xs)
    → map seen all ≡ map seen entries ++ more → more ≡ f x → map seen all ≡ flat_map f (take (i + 1) xs)
more_given seen f xs i x within is entries all more before step own =
    let front : take (i + 1) xs ≡ take i xs ++ x ∷ [] = take_more xs i x within
    ∙ ap (λ z. take i xs ++ z ∷ []) (sym is) in
    step ∙ ap (λ l. l ++ more) before ∙ ap (λ l. flat_map f (take i xs) ++ l) own
    ∙ flat_map_more f [] (take i xs) x ∙ ap (flat_map f) (sym front)
