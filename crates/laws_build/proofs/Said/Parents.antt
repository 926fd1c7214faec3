-- The parents of what says what is written of an entry of a meaning.
use Rattle.std.proofs.Common.{◌≡◌, ◌↔◌, ℕ, Bool, true, false, List, [], ◌∷◌, ◌++◌, map, Option, Some, None, option_map}
use Rattle.std.proofs.Common.{option_to_list, refl, sym, ap, ◌∙◌, subst}
use Rattle.std.specs.List.{AllByRecursion}
use Rattle.std.specs.Option.{option_map_or}
use Rattle.cedar_identifiers.specs.Names.{components_of}
use Rattle.cedar_identifiers.specs.declared.name.Name.{Name}
use Rattle.cedar_identifiers.specs.declared.raw_name.RawName.{RawName}
use Rattle.cedar_names.specs.Meaning.{EntityMeaning, ActionMeaning}
use Rattle.schema_json.specs.declared.entity_type.EntityTypeKind.{EntityTypeKind}
use Rattle.schema_json.specs.declared.entity_type.EntityTypeKind.TheVariants.{Standard, Enum}
use Rattle.schema_json.specs.declared.action_type.ActionEntityUID.{ActionEntityUID}
use Rattle.schema_json.specs.declared.action_type.ApplySpec.{ApplySpec}
use Rattle.schema_json.specs.AsWritten.{as_written}
use Rattle.laws_written.specs.Meant.{entity_as, ref_of_meaning, action_as}
use Rattle.laws_written.specs.Written.{WrittenRef}
use Rattle.laws_translate.specs.DeclarationsSay.{written_paths, KindSays, written_ref, ParentsSay, AppliesSay}
use Rattle.schema_resolve_definitions.specs.Tests.{Tests}
use Rattle.schema_build_graph.specs.Paths.{Leads, Reaches}
use Rattle.schema_build_hierarchy.specs.Parents.{action_target_in, written_parents, parents_in, action_parents_in}
use Rattle.laws_build.specs.Closure.Closed.{IsTransitive}
use Rattle.laws_build.specs.Closure.Kinds.{HasItsParts}
use Rattle.laws_build.specs.Said.Ancestors.{IsActionFoundAs}
use Rattle.laws_build.specs.Said.Entries.{IsFoundAs}

module _ (t : Tests) (ns : Option Name) where
  found_parents : (names : List RawName) (targets : List (List (List ℕ))) → written_paths names ≡ targets
      → AllByRecursion (IsFoundAs t ns) targets → parents_in t ns names ≡ targets
  found_parents [] [] e h = refl
  found_parents [] (p ∷ ps) e h = cc
  found_parents (n ∷ names) [] e h = cc
  found_parents (n ∷ names) (p ∷ ps) e h =
      let here : components_of n.name ≡ p = cc in
      let others : written_paths names ≡ ps = cc in
      let rest = found_parents names ps others h.1 in
      λ i. option_to_list (h.0 n here i) ++ rest i

  kind_parents : (x : Bool) (k : EntityTypeKind RawName) (e : EntityMeaning) (external : Bool)
      (choices : Option (List (List ℕ))) → KindSays x k (entity_as external choices e) → HasItsParts external choices e
      → AllByRecursion (IsFoundAs t ns) e.ancestors → parents_in t ns (written_parents k) ≡ e.ancestors
  kind_parents x (Standard d) e true choices h p a = found_parents d.member_of_types e.ancestors h.1 a
  kind_parents x (Enum ids) e true choices h p a = absurd h
  kind_parents x (Standard d) e false None h p a = found_parents d.member_of_types e.ancestors h.1 a
  kind_parents x (Enum ids) e false None h p a = absurd h
  kind_parents x (Standard d) e false (Some cs) h p a = absurd h
  kind_parents x (Enum ids) e false (Some cs) h p a = sym p.2

  abbrev Reference : Type 0
  Reference = ActionEntityUID RawName as_written

  found_actions : (uids : List Reference) (targets : List (List (List ℕ) × List ℕ))
      → map written_ref uids ≡ map ref_of_meaning targets → AllByRecursion (IsActionFoundAs t ns) targets
      → action_parents_in t ns uids ≡ targets
  found_actions [] [] e h = refl
  found_actions [] (p ∷ ps) e h = cc
  found_actions (u ∷ uids) [] e h = cc
  found_actions (u ∷ uids) (p ∷ ps) e h =
      let here : written_ref u ≡ ref_of_meaning p = cc in
      let others : map written_ref uids ≡ map ref_of_meaning ps = cc in
      let ty : option_map (λ (n : RawName). components_of n.name) u.ty ≡ Some p.0 =
      ap (λ (r : WrittenRef). r.ty) here in
      let id : u.id ≡ p.1 = ap (λ (r : WrittenRef). r.id) here in
      let found : action_target_in t ns u.id u.ty ≡ Some p = ap (λ i. action_target_in t ns i u.ty) id ∙ h.0 u.ty ty in
      let rest = found_actions uids ps others h.1 in
      λ i. option_to_list (found i) ++ rest i

  said_parents : (parents : Option (List Reference)) (targets : List (List (List ℕ) × List ℕ))
      → ParentsSay parents (map ref_of_meaning targets) → AllByRecursion (IsActionFoundAs t ns) targets
      → action_parents_in t ns (option_map_or (λ uids. uids) parents []) ≡ targets
  said_parents None [] s h = refl
  said_parents None (p ∷ ps) s h = absurd s
  said_parents (Some uids) [] s h = absurd s
  said_parents (Some uids) (p ∷ ps) s h = found_actions uids (p ∷ ps) s h

  applied_parents : (x : Bool) (spec : Option (ApplySpec RawName)) (parents : Option (List Reference))
      (a : ActionMeaning) (external : Bool) → AppliesSay x spec parents (action_as external a)
      → AllByRecursion (IsActionFoundAs t ns) a.ancestors
      → action_parents_in t ns (option_map_or (λ uids. uids) parents []) ≡ a.ancestors
  applied_parents x None parents a true h k = said_parents parents a.ancestors h.1 k
  applied_parents x (Some d) parents a true h k = absurd h
  applied_parents x None parents a false h k = absurd h
  applied_parents x (Some d) parents a false h k = said_parents parents a.ancestors h.1 k

pub entity_parents_are : (t : Tests) (ns : Option Name) (x : Bool) (k : EntityTypeKind RawName) (e : EntityMeaning)
    → KindSays x k (entity_as e.is_external e.choices e) → HasItsParts e.is_external e.choices e
    → AllByRecursion (IsFoundAs t ns) e.ancestors → parents_in t ns (written_parents k) ≡ e.ancestors
entity_parents_are t ns x k e h p a = kind_parents t ns x k e e.is_external e.choices h p a

pub action_parents_are : (t : Tests) (ns : Option Name) (x : Bool) (spec : Option (ApplySpec RawName))
    (parents : Option (List (ActionEntityUID RawName as_written))) (a : ActionMeaning)
    → AppliesSay x spec parents (action_as a.is_external a) → AllByRecursion (IsActionFoundAs t ns) a.ancestors
    → action_parents_in t ns (option_map_or (λ uids. uids) parents []) ≡ a.ancestors
action_parents_are t ns x spec parents a h k = applied_parents t ns x spec parents a a.is_external h k

-- what a transitive relation reaches, it relates
module _ {A : Type 0} (E : A → A → Type 0) (closed : IsTransitive E) where
  leads_is : (a c : A) (steps : List A) (b : A) → E a c → Leads E c steps b → E a b
  leads_is a c [] b h e = subst (E a) e h
  leads_is a c (d ∷ steps) b h (k, rest) = leads_is a d steps b (closed a c d h k) rest

  pub reaches_is : (a b : A) → Reaches E a b ↔ E a b
  reaches_is a b = (λ (first, rest, h). leads_is a first rest b h.0 h.1, λ h. (b, [], (h, refl)))
