-- Actions in order: where those of a type begin and end.
use Rattle.std.proofs.Common.{◌≡◌, ℕ, zero, suc, ◌+◌, ◌<◌, ◌≤◌, Bool, true, false, cond, List, [], ◌∷◌, map, length}
use Rattle.std.proofs.Common.{get_or, drop, refl, sym, ap, ◌∙◌, subst, arith, inl, inr}
use Rattle.std.specs.List.Sorted.{IsStrictlySortedBy}
use Rattle.std.specs.Ordering.{is_eq, ordering_then, ordering_reverse}
use Rattle.std.specs.Cmp.Lexicographic.{slice_cmp}
use Rattle.std.specs.declared.cmp.Ordering.{Ordering}
use Rattle.std.specs.declared.cmp.Ordering.TheVariants.{Less, Equal, Greater}
use Rattle.std.proofs.lemmas.Bool.{cases_eq}
use Rattle.cedar_data.specs.Text.{text_cmp}
use Rattle.cedar_identifiers.specs.Names.{components_of}
use Rattle.cedar_identifiers.specs.declared.id.Id.{Id}
use Rattle.cedar_identifiers.specs.declared.name.Name.{Name}
use Rattle.cedar_names.specs.Definitions.{same_name}
use Rattle.cedar_names.specs.Meaning.{ActionMeaning}
use Rattle.cedar_names.specs.Orders.{ActionKey, keys_in_order, names_in_order, uids_in_order, action_key, ids_of}
use Rattle.cedar_names.specs.Orders.{id_text_order, ids_total, uids_total}
use Rattle.cedar_names.specs.declared.entity_uid.EntityUID.{EntityUID}
use Rattle.schema_build_types.specs.declared.action.ValidatorActionId.{ValidatorActionId}
use Rattle.schema_build_text.proofs.Rowed.{names_go}
use Rattle.schema_inclusion_values.specs.Ids.{action_ids}
use Rattle.schema_inclusion_types.proofs.Ties.{names_tie}
use Rattle.schema_inclusion_check.specs.Raw.{raw_action}
use Rattle.schema_inclusion_check.specs.Rows.{AreTypesBelow}
use Rattle.schema_inclusion_check.proofs.EntityIds.{other_later}
use Rattle.schema_inclusion_check.proofs.Keyed.{uid_named}
use Rattle.schema_inclusion_check.proofs.Sought.{earlier_less, same_default}

abbrev Actions : Type 0
Actions = List (EntityUID × ValidatorActionId)

abbrev type_order : List Id → List Id → Ordering
type_order = slice_cmp id_text_order

-- the type of an earlier action is not greater
type_less : (a b : ActionKey) (t : List Id) → keys_in_order a b ≡ Less → type_order b.0 t ≡ Less
    → type_order a.0 t ≡ Less
type_less a b t up less = by (type_order a.0 b.0) refl
  where
    by : (o : Ordering) → type_order a.0 b.0 ≡ o → type_order a.0 t ≡ Less
    by Less e = ids_total.trans a.0 b.0 t e less
    by Equal e = ids_total.congr a.0 b.0 t e ∙ less
    by Greater e = absurd (let g : Greater ≡ Less = ap (λ o. ordering_then o (text_cmp a.1 b.1)) (sym e) ∙ up in cc)

type_more : (a b : ActionKey) (t : List Id) → keys_in_order a b ≡ Less → type_order a.0 t ≡ Greater
    → type_order t b.0 ≡ Less
type_more a b t up more = by (type_order a.0 b.0) refl
  where
    above : type_order t a.0 ≡ Less
    above = ids_total.antisymm t a.0 ∙ ap ordering_reverse more

    by : (o : Ordering) → type_order a.0 b.0 ≡ o → type_order t b.0 ≡ Less
    by Less e = ids_total.trans t a.0 b.0 above e
    by Equal e = ids_total.antisymm t b.0
        ∙ ap ordering_reverse (sym (ids_total.congr a.0 b.0 t e) ∙ more)
    by Greater e = absurd (let g : Greater ≡ Less = ap (λ o. ordering_then o (text_cmp a.1 b.1)) (sym e) ∙ up in cc)

-- the types up to a place are less where the one at the place is
pub types_until : (xs : Actions) (m : ℕ) (d : EntityUID × ValidatorActionId) (ty : Name)
    → IsStrictlySortedBy uids_in_order (map (λ e. e.0) xs) → m < length xs → d ≡ get_or xs m d
    → names_in_order d.0.ty.name ty.name ≡ Less → AreTypesBelow xs (m + 1) ty
types_until xs m d ty up h e less = λ k f lt. elim (cases_eq k m) [
  | inl same ↦ subst (λ i. names_in_order (get_or xs i f).0.ty.name ty.name ≡ Less) (sym same)
      (ap (λ x. names_in_order x.0.ty.name ty.name) (same_default xs m f d h ∙ sym e) ∙ less)
  | inr other ↦ type_less (action_key (get_or xs k f).0) (action_key d.0) (ids_of ty.name)
      (ap (λ x. uids_in_order (get_or xs k f).0 x.0) (e ∙ same_default xs m d f h)
      ∙ earlier_less uids_total (λ x. x.0) xs k m f up (omega arith) h) less
]

-- ---- ids of a type

abbrev has_type : List (List ℕ) → EntityUID × ValidatorActionId → Bool
has_type n a = same_name (raw_action a).ty n

type_of : (a : EntityUID × ValidatorActionId) → (raw_action a).ty ≡ components_of a.0.ty.name
type_of a = ap (λ x. x.0) (uid_named a a.0 refl)

earlier_type : (a : EntityUID × ValidatorActionId) (ty : Name) → names_in_order a.0.ty.name ty.name ≡ Less
    → has_type (components_of ty.name) a ≡ false
earlier_type a ty less = ap (λ n. same_name n (components_of ty.name)) (type_of a)
    ∙ (sym (names_tie (components_of a.0.ty.name) (components_of ty.name))
    ∙ ap is_eq (sym (names_go id_text_order (λ x y. refl) a.0.ty ty) ∙ less))

later_type : (a : EntityUID × ValidatorActionId) (ty : Name) → names_in_order ty.name a.0.ty.name ≡ Less
    → has_type (components_of ty.name) a ≡ false
later_type a ty less = ap (λ n. same_name n (components_of ty.name)) (type_of a)
    ∙ other_later (components_of ty.name) (components_of a.0.ty.name)
    (sym (names_go id_text_order (λ x y. refl) ty a.0.ty) ∙ less)

skip_before : (n : List (List ℕ)) (xs : Actions) (at : ℕ)
    → ((k : ℕ) (d : EntityUID × ValidatorActionId) → k < at → k < length xs → has_type n (get_or xs k d) ≡ false)
    → action_ids n (map raw_action (drop at xs)) ≡ action_ids n (map raw_action xs)
skip_before n xs zero h = refl
skip_before n [] (suc at) h = refl
skip_before n (x ∷ xs) (suc at) h =
    let rest = action_ids n (map raw_action xs) in
    skip_before n xs at (λ k d lt in_range. h (suc k) d (omega arith) (omega arith))
    ∙ ap (λ b. cond b ((raw_action x).id ∷ rest) rest) (sym (h 0 x (omega arith) (omega arith)))

none_behind : (n : List (List ℕ)) (xs : Actions) (at : ℕ)
    → ((k : ℕ) (d : EntityUID × ValidatorActionId) → at ≤ k → k < length xs → has_type n (get_or xs k d) ≡ false)
    → action_ids n (map raw_action (drop at xs)) ≡ []
none_behind n [] zero h = refl
none_behind n [] (suc at) h = refl
none_behind n (x ∷ xs) zero h =
    let rest = action_ids n (map raw_action xs) in
    ap (λ b. cond b ((raw_action x).id ∷ rest) rest) (h 0 x (omega arith) (omega arith))
    ∙ none_behind n xs zero (λ k d ge lt. h (suc k) d (omega arith) (omega arith))
none_behind n (x ∷ xs) (suc at) h = none_behind n xs at (λ k d ge lt. h (suc k) d (omega arith) (omega arith))

-- where the types before are less, no id is before
pub ids_from : (xs : Actions) (at : ℕ) (ty : Name) → AreTypesBelow xs at ty
    → action_ids (components_of ty.name) (map raw_action (drop at xs))
    ≡ action_ids (components_of ty.name) (map raw_action xs)
ids_from xs at ty below = skip_before (components_of ty.name) xs at
    (λ k d lt in_range. earlier_type (get_or xs k d) ty (below k d lt))

-- where a type is greater, no id is behind
pub ids_until : (xs : Actions) (at : ℕ) (d : EntityUID × ValidatorActionId) (ty : Name)
    → IsStrictlySortedBy uids_in_order (map (λ e. e.0) xs) → at < length xs → d ≡ get_or xs at d
    → names_in_order d.0.ty.name ty.name ≡ Greater
    → action_ids (components_of ty.name) (map raw_action (drop at xs)) ≡ []
ids_until xs at d ty up h e more = none_behind (components_of ty.name) xs at (λ k f ge lt. elim (cases_eq k at) [
  | inl same ↦ subst (λ i. has_type (components_of ty.name) (get_or xs i f) ≡ false) (sym same)
      (later_type (get_or xs at f) ty (ids_total.antisymm (ids_of ty.name) (ids_of (get_or xs at f).0.ty.name)
      ∙ ap ordering_reverse (ap (λ x. names_in_order x.0.ty.name ty.name) (same_default xs at f d h ∙ sym e) ∙ more)))
  | inr other ↦ later_type (get_or xs k f) ty (type_more (action_key d.0) (action_key (get_or xs k f).0)
      (ids_of ty.name) (ap (λ x. uids_in_order x.0 (get_or xs k f).0) (e ∙ same_default xs at d f h)
      ∙ earlier_less uids_total (λ x. x.0) xs at k f up (omega arith) lt) more)
])

-- whether an action has the type, by the comparison of names
pub type_tested : (a : EntityUID) (ty : Name) (o : Ordering) → names_in_order a.ty.name ty.name ≡ o
    → same_name (components_of a.ty.name) (components_of ty.name) ≡ is_eq o
type_tested a ty o e = sym (names_tie (components_of a.ty.name) (components_of ty.name))
    ∙ ap is_eq (sym (names_go id_text_order (λ x y. refl) a.ty ty) ∙ e)
