-- The names of a meaning rise, and none is reserved.
use Rattle.std.proofs.Common.{◌≡◌, ℕ, false, List, Contains, codes, refl, sym, ap, ◌∙◌, subst, inl, inr}
use Rattle.std.specs.Cmp.Lexicographic.{slice_cmp}
use Rattle.std.specs.Ordering.{ordering_then}
use Rattle.cedar_data.specs.Text.{text_cmp}
use Rattle.cedar_data.proofs.Lists.{contains_unmap}
use Rattle.cedar_identifiers.specs.Names.{has_cedar}
use Rattle.cedar_identifiers.specs.declared.name_text.NameText as named
use Rattle.cedar_identifiers.specs.declared.raw_name.RawName.{RawName}
use Rattle.cedar_names.specs.CanonicalText.{basename}
use Rattle.cedar_names.specs.Meaning.{EntityMeaning, ActionMeaning, SchemaMeaning}
use Rattle.cedar_names.specs.Orders.{names_in_order}
use Rattle.cedar_names.specs.declared.extension_table.ExtensionTable.{ExtensionTable}
use Rattle.schema_json.specs.declared.action_type.ActionType.{ActionType}
use Rattle.schema_json.specs.declared.fragment.Fragment.{Fragment}
use Rattle.laws_written.specs.Printed.{IsProperPath}
use Rattle.laws_written.specs.PrintedDecls.{IsSome}
use Rattle.laws_translate.specs.MeantNames.{IsOpenName, IsActionName, action_name_order, HasOpenNames}
use Rattle.schema_build_checks.specs.DeclaredAt.{ActionAt, actions_at_in_order}
use Rattle.schema_build_checks.proofs.Names.{names_by_components}
use Rattle.schema_build_hierarchy.specs.Declarations.{Declared, DeclaredEntity}
use Rattle.schema_build_hierarchy.proofs.Ordered.{sorted_seen}
use Rattle.schema_build_hierarchy.proofs.ActionTypes.{last_behind}
use Rattle.schema_build.specs.Meaning.{key_of, IsEntityMeaning, IsActionMeaning, FragmentMeaning}
use Rattle.laws_build.specs.Closure.Known.{IsKnownName}
use Rattle.laws_build.proofs.Closure.Declared.{entity_declared, action_declared, entity_stands, entity_full}
use Rattle.laws_build.proofs.Closure.Declared.{action_stands, action_full}
use Rattle.laws_build.proofs.Closure.Lists.{all_have, beside_rises}
use Rattle.laws_build.proofs.Closure.Words.{front, some_behind, free_behind, proper_name}

module _ {G : named.Ghosts RawName} (f : Fragment RawName G) (table : ExtensionTable) (m : SchemaMeaning)
    (mean : FragmentMeaning f table m) where
  entity_open : (e : EntityMeaning) → Contains m.entities e → IsOpenName e.name
  entity_open e c =
      let (d, cd, is) = entity_declared f table m mean e c in
      let s = entity_stands f d cd in
      let full = is.name ∙ entity_full f d s in (
        subst IsSome (sym full) (some_behind (front s.entry.0) s.item.0.id.text),
        ap has_cedar full ∙ free_behind s.entry.0 s.item.0.id.text s.item.0.unreserved,
      )

  action_open : (a : ActionMeaning) → Contains m.actions a → IsActionName a.ty
  action_open a c =
      let (d, cd, is) = action_declared f table m mean a c in
      let s = action_stands f d cd in
      let full = ap (λ k. k.0) is.key ∙ action_full f d s in (
        (
          subst IsSome (sym full) (some_behind (front s.entry.0) (codes "Action")),
          ap has_cedar full ∙ free_behind s.entry.0 (codes "Action") refl,
        ),
        ap basename full ∙ last_behind (front s.entry.0) (codes "Action"),
      )

  entities_agree : (a b : DeclaredEntity) (x y : EntityMeaning) → IsEntityMeaning f table a x
      → IsEntityMeaning f table b y → slice_cmp text_cmp x.name y.name ≡ names_in_order a.name b.name
  entities_agree a b x y p q =
      (λ i. slice_cmp text_cmp (p.name i) (q.name i)) ∙ sym (names_by_components a.name b.name)

  actions_agree : (a b : Declared ActionAt (ActionType RawName G)) (x y : ActionMeaning)
      → IsActionMeaning f table a x → IsActionMeaning f table b y
      → action_name_order (key_of x) (key_of y) ≡ actions_at_in_order a.name b.name
  actions_agree a b x y p q =
      (λ i. action_name_order (p.key i) (q.key i))
      ∙ ap (λ o. ordering_then o (text_cmp a.name.id b.name.id)) (sym (names_by_components a.name.ty b.name.ty))

  pub names_open : HasOpenNames m
  names_open = record {
    entities_rise = sorted_seen (λ (e : EntityMeaning). e.name) (slice_cmp text_cmp) m.entities
        (beside_rises (IsEntityMeaning f table) (λ a b. names_in_order a.name b.name)
        (λ x y. slice_cmp text_cmp x.name y.name) entities_agree mean.entities.declared m.entities mean.entities.each
        mean.entities.rising);
    actions_rise = sorted_seen key_of action_name_order m.actions
        (beside_rises (IsActionMeaning f table) (λ a b. actions_at_in_order a.name b.name)
        (λ x y. action_name_order (key_of x) (key_of y)) actions_agree mean.actions.declared m.actions
        mean.actions.each mean.actions.rising);
    entities = all_have (λ e. IsOpenName e.name) m.entities entity_open;
    actions = all_have (λ a. IsActionName a.ty) m.actions action_open;
  }

  -- known names are made of words, and none is reserved
  pub known_proper : (n : List (List ℕ)) → IsKnownName m n → IsProperPath n
  known_proper n (inl c) =
      let (e, ce, same) = contains_unmap (λ (e : EntityMeaning). e.name) m.entities n c in
      let (d, cd, is) = entity_declared f table m mean e ce in
      subst IsProperPath (sym is.name ∙ same) (proper_name d.name)
  known_proper n (inr c) =
      let (a, ca, same) = contains_unmap (λ (a : ActionMeaning). a.ty) m.actions n c in
      let (d, cd, is) = action_declared f table m mean a ca in
      subst IsProperPath (sym (ap (λ k. k.0) is.key) ∙ same) (proper_name d.name.ty)

  pub known_free : (n : List (List ℕ)) → IsKnownName m n → has_cedar n ≡ false
  known_free n (inl c) =
      let (e, ce, same) = contains_unmap (λ (e : EntityMeaning). e.name) m.entities n c in
      ap has_cedar (sym same) ∙ (entity_open e ce).1
  known_free n (inr c) =
      let (a, ca, same) = contains_unmap (λ (a : ActionMeaning). a.ty) m.actions n c in
      ap has_cedar (sym same) ∙ (action_open a ca).0.1
