-- Rows of a table of ids.
use Rattle.std.proofs.Common.{◌≡◌, ℕ, Bool, true, false, cond, ◌||◌, List, [], ◌∷◌, ◌++◌, map, Option, Some, None}
use Rattle.std.proofs.Common.{refl, sym, ap, ◌∙◌, subst}
use Rattle.std.specs.BTreeMap.{insert_entry}
use Rattle.std.specs.List.{list_any, AllByRecursion}
use Rattle.std.specs.Ordering.{match_ordering}
use Rattle.std.specs.Cmp.Lexicographic.{slice_cmp}
use Rattle.std.specs.declared.cmp.Ordering.{Ordering}
use Rattle.std.specs.declared.cmp.Ordering.TheVariants.{Less, Equal, Greater}
use Rattle.cedar_data.specs.Maps.{with_entries, map_of}
use Rattle.cedar_data.specs.Text.{text_cmp}
use Rattle.cedar_data.proofs.Orders.{texts_exact}
use Rattle.cedar_identifiers.specs.Names.{components_of}
use Rattle.cedar_identifiers.specs.declared.name.Name.{Name}
use Rattle.cedar_names.specs.Definitions.{same_name}
use Rattle.cedar_names.specs.Meaning.{EntityMeaning, ActionMeaning, SchemaMeaning}
use Rattle.schema_inclusion_values.specs.Ids.{with_ids, entity_ids, action_ids, all_ids, first_id, some_id}
use Rattle.schema_inclusion_values.specs.Ids.{lost_id, lost_of}
use Rattle.schema_inclusion_types.specs.Ids.{id_in, lost_in}
use Rattle.schema_inclusion_types.specs.declared.ids.TypeIds.{TypeIds}
use Rattle.schema_inclusion_types.proofs.Ties.{names_decide}
use Rattle.schema_inclusion_check.specs.Rows.{row_names, CoverEntities, CoverTypes, IsRow}
use Rattle.schema_inclusion_check.specs.Told.{IsTold}

abbrev Rows : Type 0
Rows = List (Name × TypeIds)

-- ---- more rows

pub rows_more : (P : Name × TypeIds → Type 0) (rows : Rows) (r : Name × TypeIds) → AllByRecursion P rows → P r
    → AllByRecursion P (rows ++ r ∷ [])
rows_more P [] r h p = (p, tt)
rows_more P (x ∷ rows) r h p = (h.0, rows_more P rows r h.1 p)

none_before : (a b : Bool) → (a || b) ≡ false → a ≡ false
none_before true b h = absurd (cc)
none_before false b h = refl

none_after : (a b : Bool) → (a || b) ≡ false → b ≡ false
none_after true b h = absurd (cc)
none_after false b h = h

none_entity_next : (n : List (List ℕ)) (xs : List EntityMeaning) (e : EntityMeaning) → entity_ids n xs ≡ Some []
    → same_name e.name n ≡ false → entity_ids n (xs ++ e ∷ []) ≡ Some []
none_entity_next n [] e none other = ap (λ b. cond b (with_ids e.choices (Some [])) (Some [])) other
none_entity_next n (x ∷ xs) e none other = by (same_name x.name n) x.choices (entity_ids n xs) none
    (λ h. none_entity_next n xs e h other)
  where
    nothing : (c r : Option (List (List ℕ))) → with_ids c r ≡ Some [] → (c ≡ Some []) × (r ≡ Some [])
    nothing None r h = absurd (cc)
    nothing (Some []) None h = absurd (cc)
    nothing (Some []) (Some ids) h = (refl, h)
    nothing (Some (c ∷ cs)) None h = absurd (cc)
    nothing (Some (c ∷ cs)) (Some ids) h = absurd (cc)

    by : (b : Bool) (c r : Option (List (List ℕ))) → cond b (with_ids c r) r ≡ Some []
        → (r ≡ Some [] → entity_ids n (xs ++ e ∷ []) ≡ Some [])
        → cond b (with_ids c (entity_ids n (xs ++ e ∷ []))) (entity_ids n (xs ++ e ∷ [])) ≡ Some []
    by true c r none rest =
        let both = nothing c r none in
        λ i. with_ids (both.0 i) (rest both.1 i)
    by false c r none rest = rest none

-- one entity type more, whose name is among them
pub cover_entity : (types more : List (List (List ℕ))) (xs : List EntityMeaning) (e : EntityMeaning)
    → CoverEntities types xs
    → ((n : List (List ℕ)) → list_any (same_name n) more ≡ false → list_any (same_name n) types ≡ false)
    → list_any (same_name e.name) more ≡ true → CoverEntities more (xs ++ e ∷ [])
cover_entity types more xs e covers kept there n none = none_entity_next n xs e (covers n (kept n none)) (by
    (same_name e.name n) refl)
  where
    by : (b : Bool) → same_name e.name n ≡ b → b ≡ false
    by true same = absurd (
        let one : list_any (same_name n) more ≡ true =
        subst (λ m. list_any (same_name m) more ≡ true) ((names_decide e.name n).0 same) there in
        let no : true ≡ false = sym one ∙ none in cc)
    by false same = refl

-- ---- the table of the rows

module _ (C : Name → Name → Ordering)
    (goes : (a b : Name) → C a b ≡ slice_cmp text_cmp (components_of a.name) (components_of b.name)) where
  same_components : (a b : Name) → C a b ≡ Equal → components_of a.name ≡ components_of b.name
  same_components a b e = texts_exact (components_of a.name) (components_of b.name) (sym (goes a b) ∙ e)

  module _ (m n : SchemaMeaning) where
    row_renamed : (k x : Name) (v : TypeIds) → components_of k.name ≡ components_of x.name → IsRow m n (k, v)
        → IsRow m n (x, v)
    row_renamed k x v same h = (h.0 ∙ ap (some_id m) same, h.1 ∙ ap (lost_of m n) same)

    rows_put : (rows : Rows) (k : Name) (v : TypeIds) → AllByRecursion (IsRow m n) rows → IsRow m n (k, v)
        → AllByRecursion (IsRow m n) (insert_entry C rows k v)
    rows_put [] k v all row = (row, tt)
    rows_put (r ∷ rows) k v all row = by (C k r.0) refl (rows_put rows k v all.1 row)
      where
        by : (o : Ordering) → C k r.0 ≡ o → AllByRecursion (IsRow m n) (insert_entry C rows k v)
            → AllByRecursion (IsRow m n) (match_ordering o ((k, v) ∷ r ∷ rows) ((r.0, v) ∷ rows)
            (r ∷ insert_entry C rows k v))
        by Less e rest = (row, all)
        by Equal e rest = (row_renamed k r.0 v (same_components k r.0 e) row, all.1)
        by Greater e rest = (all.0, rest)

    rows_with : (map rows : Rows) → AllByRecursion (IsRow m n) map → AllByRecursion (IsRow m n) rows
        → AllByRecursion (IsRow m n) (with_entries C map rows)
    rows_with map [] h all = h
    rows_with map (r ∷ rows) h all = rows_with (insert_entry C map r.0 r.1) rows (rows_put map r.0 r.1 h all.0) all.1

  module _ (ty : List (List ℕ)) where
    abbrev named : Rows → Bool
    named rows = list_any (same_name ty) (row_names rows)

    named_put : (rows : Rows) (k : Name) (v : TypeIds) → named (insert_entry C rows k v) ≡ false
        → (same_name ty (components_of k.name) ≡ false) × (named rows ≡ false)
    named_put [] k v h = (none_before (same_name ty (components_of k.name)) false h, refl)
    named_put (r ∷ rows) k v h = by (C k r.0) refl h (named_put rows k v)
      where
        it : Bool
        it = same_name ty (components_of k.name)

        first : Bool
        first = same_name ty (components_of r.0.name)

        by : (o : Ordering) → C k r.0 ≡ o → named (match_ordering o ((k, v) ∷ r ∷ rows) ((r.0, v) ∷ rows)
            (r ∷ insert_entry C rows k v)) ≡ false
            → (named (insert_entry C rows k v) ≡ false → (it ≡ false) × (named rows ≡ false))
            → (it ≡ false) × ((first || named rows) ≡ false)
        by Less e h rest = (none_before it (first || named rows) h, none_after it (first || named rows) h)
        by Equal e h rest = (
          ap (same_name ty) (same_components k r.0 e) ∙ none_before first (named rows) h,
          h,
        )
        by Greater e h rest =
            let more = rest (none_after first (named (insert_entry C rows k v)) h) in
            let one = none_before first (named (insert_entry C rows k v)) h in
            (more.0, ap (λ b. b || named rows) one ∙ more.1)

    named_with : (map rows : Rows) → named (with_entries C map rows) ≡ false
        → (named map ≡ false) × (named rows ≡ false)
    named_with map [] h = (h, refl)
    named_with map (r ∷ rows) h =
        let more = named_with (insert_entry C map r.0 r.1) rows h in
        let put = named_put map r.0 r.1 more.0 in
        (put.1, ap (λ b. b || named rows) put.0 ∙ more.1)

  -- ---- what the rows tell

  module _ (m n : SchemaMeaning) where
    none_lost : (o : Option (List (List ℕ))) → lost_id (Some []) o ≡ None
    none_lost None = refl
    none_lost (Some ids) = refl

    told_at : (rows : Rows) (ty : List (List ℕ)) → AllByRecursion (IsRow m n) rows
        → (named ty rows ≡ false → all_ids m ty ≡ Some [])
        → (id_in rows ty ≡ some_id m ty) × (lost_in rows ty ≡ lost_of m n ty)
    told_at [] ty all none = (
      ap first_id (sym (none refl)),
      sym (ap (λ o. lost_id o (all_ids n ty)) (none refl) ∙ none_lost (all_ids n ty)),
    )
    told_at (r ∷ rows) ty all none = by (same_name ty (components_of r.0.name)) refl
        (λ other. told_at rows ty all.1 (λ h. none (ap (λ b. b || named ty rows) other ∙ h)))
      where
        by : (b : Bool) → same_name ty (components_of r.0.name) ≡ b
            → (b ≡ false → (id_in rows ty ≡ some_id m ty) × (lost_in rows ty ≡ lost_of m n ty))
            → (cond b r.1.id (id_in rows ty) ≡ some_id m ty) × (cond b r.1.lost (lost_in rows ty) ≡ lost_of m n ty)
        by true same rest =
            let is : components_of r.0.name ≡ ty = sym ((names_decide ty (components_of r.0.name)).0 same) in
            (all.0.0 ∙ ap (some_id m) is, all.0.1 ∙ ap (lost_of m n) is)
        by false other rest = rest refl

    -- rows of all types tell what is known of each
    pub told_by : (rows : Rows) → AllByRecursion (IsRow m n) rows → CoverEntities (row_names rows) m.entities
        → CoverTypes (row_names rows) m.actions → IsTold (map_of C rows) m n
    told_by rows all entities actions =
        let each = (λ (ty : List (List ℕ)). told_at (map_of C rows) ty (rows_with m n [] rows tt all) (λ h.
        let none = (named_with ty [] rows h).1 in
        λ i. with_ids (entities ty none i) (Some (actions ty none i)))) in (
          λ i ty. (each ty).0 i,
          λ i ty. (each ty).1 i,
        )
