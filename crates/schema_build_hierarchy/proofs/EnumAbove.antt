-- The enumerated ancestors of an entity type, by the marks of its row.
use Rattle.std.proofs.Common.{◌≡◌, ◌<◌, ◌≤◌, ℕ, Bool, true, false, List, map, length, Some, None, All, Contains, Vec}
use Rattle.std.proofs.Common.{refl, sym, ap, ◌∙◌, subst, arith, get_or}
use Rattle.std.specs.Prelude.{slice_get}
use Rattle.std.specs.Cmp.{IsTotalOrder}
use Rattle.std.specs.Ordering.{is_lt}
use Rattle.std.specs.declared.alloc.Global.{Global}
use Rattle.std.proofs.lemmas.Cmp.{on_total}
use Rattle.std.proofs.lemmas.List.{length-map}
use Rattle.std.proofs.lemmas.List.Elements.{All-weaker, All-contains, All-contains_itself}
use Rattle.std.proofs.lemmas.Option.{slice_get_within, get_or_from_slice_get, slice_get_read, same_Some}
use Rattle.cedar_identifiers.specs.declared.name.Name.{Name}
use Rattle.cedar_identifiers.specs.declared.raw_name.RawName.{RawName}
use Rattle.cedar_names.specs.Orders.{names_in_order, names_total}
use Rattle.schema_json.specs.declared.entity_type.EntityType.{EntityType}
use Rattle.schema_resolve_definitions.specs.Tests.{Tests}
use Rattle.schema_build_graph.specs.Order.{IsLeastMarked, is_marked}
use Rattle.schema_build_checks.proofs.Names.{names_tied}
use Rattle.schema_build_hierarchy.specs.Ancestors.{IsAncestorRow, AreAncestorRows}
use Rattle.schema_build_hierarchy.specs.Declarations.{DeclaredEntity, entity_name}
use Rattle.schema_build_hierarchy.specs.Entries.{AreEntities, entity_of}
use Rattle.schema_build_hierarchy.specs.Parents.{IsAncestor}
use Rattle.schema_build_hierarchy.specs.Rows.{IsLeastAmong, IsEnumAbove, is_enum}
use Rattle.schema_build_hierarchy.specs.declared.entries.Entry.{Entry}
use Rattle.schema_build_hierarchy.proofs.Above.{contains_at, at_contained}
use Rattle.schema_build_hierarchy.proofs.Cycles.{behind, names_apart}
use Rattle.schema_build_hierarchy.proofs.ParentRanks.{at_map, map_at}

abbrev pub EntityEntry : Type 0
EntityEntry = Entry Name (EntityType RawName)

pub by_name : IsTotalOrder (λ (a b : DeclaredEntity). names_in_order a.name b.name)
by_name = on_total (λ (d : DeclaredEntity). d.name) names_total

-- the name of what an entry is about
abbrev pub name_at : EntityEntry → List (List ℕ)
name_at e = entity_name (entity_of e)

-- whether an entry is about an enumerated type
abbrev pub mark_of : EntityEntry → Bool
mark_of e = is_enum e.ty.now.kind

abbrev pub names_of : List EntityEntry → List (List (List ℕ))
names_of entries = map name_at entries

abbrev pub marks_of : List EntityEntry → List Bool
marks_of entries = map mark_of entries

-- what is read within a list stands there
pub read_at : {X : Type 0} (xs : List X) (i : ℕ) (x : X) → i < length xs → x ≡ get_or xs i x → slice_get xs i ≡ Some x
read_at xs i x lt is = slice_get_read xs (length xs) i x refl lt is

module _ (t : Tests) (ds : List DeclaredEntity) (entries : List EntityEntry) (held : AreEntities ds entries) where
  -- the row holds the ranks of the ancestors of the entity type
  abbrev pub RowOf : DeclaredEntity → List ℕ → Type 0
  RowOf d row = IsAncestorRow (IsAncestor t ds) (names_of entries) (entity_name d) row

  pub row_read : (rows : List (Vec ℕ Global)) → AreAncestorRows (IsAncestor t ds) (names_of entries) rows
      → (i : ℕ) (e : EntityEntry) (row : Vec ℕ Global) → i < length entries
      → e ≡ get_or entries i e → row ≡ get_or rows i row → RowOf (entity_of e) row.items
  row_read rows are i e row lt e_is row_is =
      let at : slice_get (names_of entries) i ≡ Some (name_at e) =
      map_at name_at entries i e (read_at entries i e lt e_is) in
      let short : i < length rows = omega (arith, lt, are.same, length-map entries name_at) in
      are.each i (name_at e) row at (read_at rows i row short row_is)

  apart : (i j : ℕ) (a : List (List ℕ)) → slice_get (names_of entries) i ≡ Some a
      → slice_get (names_of entries) j ≡ Some a → i ≡ j
  apart = names_apart by_name entity_of entity_name (λ a b e. names_tied a.name b.name e) entries held.rising

  module _ (marks : List Bool) (marked : marks ≡ marks_of entries) where
    mark_at : (i : ℕ) (e : EntityEntry) → slice_get entries i ≡ Some e → is_marked marks i ≡ mark_of e
    mark_at i e at =
        let there : slice_get (marks_of entries) i ≡ Some (mark_of e) = map_at mark_of entries i e at in
        ap (λ m. is_marked m i) marked ∙ get_or_from_slice_get (marks_of entries) i (mark_of e) false there

    module _ (d : DeclaredEntity) (row : List ℕ) (is : RowOf d row) where
      pub within : (v : ℕ) → Contains row v → v < length entries
      within v c =
          let (b, it, anc) = is.sound v c in
          let lt : v < length (names_of entries) = slice_get_within (names_of entries) v b it in
          omega (arith, lt, length-map entries name_at)

      pub in_range : All (λ v. v < length marks) row
      in_range =
          let long : length marks ≡ length entries = ap length marked ∙ length-map entries mark_of in
          All-weaker (Contains row) (λ v. v < length marks) (λ v c. omega (arith, within v c, long))
          row (All-contains_itself row)

      -- an enumerated ancestor stands in the row
      in_row : (p : DeclaredEntity) → Contains ds p → IsEnumAbove t ds d p
          → (j : ℕ) × (slice_get (map entity_of entries) j ≡ Some p) × Contains row j × (is_marked marks j ≡ true)
      in_row p cp above =
          let (j, jp) = at_contained (map entity_of entries) p ((held.same p).0 cp) in
          let (x, jx, same) = at_map entity_of entries j p jp in
          let seen : slice_get (names_of entries) j ≡ Some (entity_name p) =
          map_at name_at entries j x jx ∙ ap (λ z. Some (entity_name z)) same in
          let (r, rp, cr) = is.whole (entity_name p) above.1 in
          let hit : is_marked marks j ≡ true = mark_at j x jx ∙ ap (λ z. is_enum z.ty.kind) same ∙ above.0 in
          (j, jp, subst (Contains row) (apart r j (entity_name p) rp seen) cr, hit)

      pub none_above : IsLeastMarked row marks None → (p : DeclaredEntity) → Contains ds p → IsEnumAbove t ds d p → ⊥
      none_above none p cp above =
          let (j, jp, cj, hit) = in_row p cp above in
          let no : is_marked marks j ≡ false = All-contains (λ u. is_marked marks u ≡ false) row j none cj in
          absurd (cc)

      pub least_above : (v : ℕ) (e : EntityEntry) → IsLeastMarked row marks (Some v) → slice_get entries v ≡ Some e
          → IsLeastAmong (λ a b. is_lt (names_in_order a b)) (λ c. c.name) (IsEnumAbove t ds d) ds (entity_of e)
      least_above v e least at =
          let es = map entity_of entries in
          let there : slice_get es v ≡ Some (entity_of e) = map_at entity_of entries v e at in
          let (b, it, anc) = is.sound v least.0 in
          let same : b ≡ name_at e = same_Some b (name_at e) (sym it ∙ map_at name_at entries v e at) in
          record {
            among = (held.same (entity_of e)).1 (contains_at es v (entity_of e) there);
            passes_too = (sym (mark_at v e at) ∙ least.1, subst (IsAncestor t ds (entity_name d)) same anc);
            none_less = λ y cy py. (
                let (j, jy, cj, hit) = in_row y cy py in
                let before : v ≤ j = All-contains (λ u. is_marked marks u ≡ true → v ≤ u) row j least.2 cj hit in
                behind by_name es held.rising v j (entity_of e) y before there jy);
          }
