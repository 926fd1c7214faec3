-- The ids of an entity type, by what is found under its name among entity types whose names rise.
use Rattle.std.proofs.Common.{◌≡◌, ℕ, Bool, true, false, cond, List, [], ◌∷◌, map, Option, Some, None, refl, sym, ap}
use Rattle.std.proofs.Common.{◌∙◌}
use Rattle.std.proofs.Common.{subst}
use Rattle.std.specs.List.{find, AllByRecursion}
use Rattle.std.specs.List.Sorted.{IsStrictlySortedBy}
use Rattle.std.specs.Ordering.{is_eq}
use Rattle.std.specs.Cmp.Lexicographic.{slice_cmp}
use Rattle.std.specs.declared.cmp.Ordering.{Ordering}
use Rattle.std.specs.declared.cmp.Ordering.TheVariants.{Less}
use Rattle.cedar_data.specs.Text.{text_cmp}
use Rattle.cedar_data.proofs.Orders.{is_eq_turned, texts_total, rises_seen}
use Rattle.cedar_identifiers.specs.Names.{components_of}
use Rattle.cedar_identifiers.specs.declared.name.Name.{Name}
use Rattle.cedar_names.specs.Definitions.{same_name}
use Rattle.cedar_names.specs.Meaning.{EntityMeaning, ActionMeaning, SchemaMeaning}
use Rattle.schema_build_types.specs.declared.entity_type.ValidatorEntityType.{ValidatorEntityType}
use Rattle.schema_inclusion_values.specs.Ids.{with_ids, entity_ids, action_ids, all_ids}
use Rattle.schema_inclusion_types.proofs.Ties.{names_tie, names_decide}
use Rattle.schema_inclusion_check.specs.Raw.{raw_entity}
use Rattle.schema_inclusion_check.specs.Rows.{ids_at, ids_found}
use Rattle.schema_inclusion_check.proofs.Keyed.{entity_named}

abbrev entity_name : EntityMeaning → List (List ℕ)
entity_name e = e.name

pub other_later : (m n : List (List ℕ)) → slice_cmp text_cmp m n ≡ Less → same_name n m ≡ false
other_later m n h = sym (names_tie n m) ∙ (is_eq_turned texts_total n m ∙ ap is_eq h)

none_later : (ty : List (List ℕ)) (es : List EntityMeaning)
    → AllByRecursion (λ n. slice_cmp text_cmp ty n ≡ Less) (map entity_name es) → entity_ids ty es ≡ Some []
none_later ty [] h = refl
none_later ty (e ∷ es) h = ap (λ b. cond b (with_ids e.choices (entity_ids ty es)) (entity_ids ty es))
    (other_later ty e.name h.0) ∙ none_later ty es h.1

pub ids_by_name : (ty : List (List ℕ)) (es : List EntityMeaning)
    → IsStrictlySortedBy (slice_cmp text_cmp) (map entity_name es)
    → entity_ids ty es ≡ ids_at (find (λ e. same_name e.name ty) es)
unfolding IsStrictlySortedBy
ids_by_name ty [] up = refl
ids_by_name ty (e ∷ es) up = by (same_name e.name ty) refl (ids_by_name ty es up.1)
  where
    by : (b : Bool) → same_name e.name ty ≡ b → entity_ids ty es ≡ ids_at (find (λ x. same_name x.name ty) es)
        → cond (same_name e.name ty) (with_ids e.choices (entity_ids ty es)) (entity_ids ty es)
        ≡ ids_at (cond (same_name e.name ty) (Some e) (find (λ x. same_name x.name ty) es))
    by true same rest =
        ap (λ b. cond b (with_ids e.choices (entity_ids ty es)) (entity_ids ty es)) same
        ∙ (ap (with_ids e.choices) (none_later ty es (subst (λ n. AllByRecursion (λ m. slice_cmp text_cmp n m ≡ Less)
        (map entity_name es)) ((names_decide e.name ty).0 same) up.0))
        ∙ ap (λ b. ids_at (cond b (Some e) (find (λ x. same_name x.name ty) es))) (sym same))
    by false other rest =
        ap (λ b. cond b (with_ids e.choices (entity_ids ty es)) (entity_ids ty es)) other
        ∙ (rest ∙ ap (λ b. ids_at (cond b (Some e) (find (λ x. same_name x.name ty) es))) (sym other))

names_of_raw : (es : List (Name × ValidatorEntityType))
    → map (λ n. components_of n.name) (map (λ e. e.0) es) ≡ map entity_name (map raw_entity es)
names_of_raw [] = refl
names_of_raw (e ∷ es) = λ i. sym (entity_named e) i ∷ names_of_raw es i

-- the names of what entries mean rise where the names of the entries do
pub raw_names_rise : (C : Name → Name → Ordering)
    → ((a b : Name) → C a b ≡ slice_cmp text_cmp (components_of a.name) (components_of b.name))
    → (es : List (Name × ValidatorEntityType)) → IsStrictlySortedBy C (map (λ e. e.0) es)
    → IsStrictlySortedBy (slice_cmp text_cmp) (map entity_name (map raw_entity es))
raw_names_rise C goes es up = subst (IsStrictlySortedBy (slice_cmp text_cmp)) (names_of_raw es)
    (rises_seen (λ (n : Name). components_of n.name) C (slice_cmp text_cmp) goes (map (λ e. e.0) es) up)

-- all ids of a type of the meaning
pub all_found : (m : SchemaMeaning) (ty : List (List ℕ)) (o : Option EntityMeaning)
    → IsStrictlySortedBy (slice_cmp text_cmp) (map entity_name m.entities)
    → o ≡ find (λ e. same_name e.name ty) m.entities → ids_found o ty m.actions ≡ all_ids m ty
all_found m ty o up is = ap (λ x. ids_found x ty m.actions) is
    ∙ ap (λ x. with_ids x (Some (action_ids ty m.actions))) (sym (ids_by_name ty m.entities up))
