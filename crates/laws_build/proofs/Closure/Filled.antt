-- Each action of what a well-formed fragment means has principals and resources, or neither and no context.
use Rattle.std.proofs.Common.{◌≡◌, ℕ, List, [], ◌∷◌, All, Contains, Option, Some, None, refl, sym, ap, ◌∙◌, subst}
use Rattle.std.proofs.lemmas.List.Elements.{All-contains, All-weaker}
use Rattle.cedar_data.proofs.Lists.{contains_first}
use Rattle.cedar_identifiers.specs.declared.name_text.NameText as named
use Rattle.cedar_identifiers.specs.declared.raw_name.RawName.{RawName}
use Rattle.cedar_names.specs.Meaning.{Attributes, no_more, attribute, ActionMeaning, SchemaMeaning}
use Rattle.cedar_names.specs.Meaning as meant
use Rattle.cedar_names.specs.declared.extension_table.ExtensionTable.{ExtensionTable}
use Rattle.schema_json.specs.declared.action_type.ActionType.{ActionType}
use Rattle.schema_json.specs.declared.action_type.ApplySpec.{ApplySpec}
use Rattle.schema_json.specs.declared.fragment.Fragment.{Fragment}
use Rattle.schema_json.specs.declared.types.Type.{«Type»}
use Rattle.schema_json_walk.specs.Parts.{principal, resource}
use Rattle.schema_json_walk.specs.Walk.{of_fragment}
use Rattle.schema_resolve_definitions.specs.Declarations.{name_of}
use Rattle.schema_resolve_definitions.specs.Defined.{defined}
use Rattle.schema_resolve_definitions.specs.Tests.{Tests, tests_of}
use Rattle.schema_build_expand.specs.Expands.{Expands}
use Rattle.schema_build_expand.specs.Scope.{Scope}
use Rattle.schema_build_checks.specs.DeclaredAt.{ActionAt}
use Rattle.schema_build_scope.specs.FragmentScope.{fragment_scope}
use Rattle.schema_build_hierarchy.specs.Declarations.{Declared, declared_actions}
use Rattle.schema_build_items.specs.ActionKinds.{components_cmp, AreJust, IsMeantByOne, IsApplyMeaning}
use Rattle.schema_build.specs.Meaning.{apply_meaning, FragmentMeaning}
use Rattle.laws_build.specs.Closure.HalfFilled.{IsHalf, IsHalfFilled}
use Rattle.laws_build.specs.Closure.Kinds.{HasBothOrNeither}
use Rattle.laws_build.specs.Closure.Formed.{ContextRises, IsFormed}
use Rattle.laws_build.specs.Closure.WellFormed.{AreRolesFormed, IsSpecFormed, IsWellFormed}
use Rattle.laws_build.proofs.Closure.Bare.{empty_means}
use Rattle.laws_build.proofs.Closure.Declared.{ActionStands, action_declared, action_stands}
use Rattle.laws_build.proofs.Closure.Lists.{has_none, no_members}
use Rattle.laws_build.proofs.Closure.Undefined.{untyped, target_there}
use Rattle.laws_build.proofs.Closure.Walked.{action_none, principal_none, resource_none}

-- ---- lists that are half filled

not_half : (ps rs : List (List (List ℕ))) (context : Attributes) → HasBothOrNeither ps rs context
    → IsHalf ps rs context → ⊥
not_half [] [] context h half = half h
not_half [] (r ∷ rs) context h half = h
not_half (p ∷ ps) [] context h half = h
not_half (p ∷ ps) (r ∷ rs) context h half = half

filled : (ps rs : List (List (List ℕ))) (context : Attributes) → (IsHalf ps rs context → ⊥)
    → HasBothOrNeither ps rs context
filled [] [] no_more none = refl
filled [] [] (attribute name required t xs) none = absurd (none (λ e. cc))
filled [] (r ∷ rs) context none = none tt
filled (p ∷ ps) [] context none = none tt
filled (p ∷ ps) (r ∷ rs) context none = tt

module _ (m : SchemaMeaning) where
  abbrev pub IsFilled : Type 0
  IsFilled = (a : ActionMeaning) → Contains m.actions a → HasBothOrNeither a.principals a.resources a.context

  pub all_filled : (IsHalfFilled m → ⊥) → IsFilled
  all_filled none a c = filled a.principals a.resources a.context (λ half. none (a, c, half))

  pub none_half : IsFilled → IsHalfFilled m → ⊥
  none_half each (a, c, half) = not_half a.principals a.resources a.context (each a c) half

-- ---- well-formed fragments

-- both, where there are both
both_there : (ps rs : List (List (List ℕ))) (context : Attributes) (p r : List (List ℕ)) → Contains ps p
    → Contains rs r → HasBothOrNeither ps rs context
both_there [] rs context p r c d = has_none p c
both_there (x ∷ ps) [] context p r c d = has_none r d
both_there (x ∷ ps) (y ∷ rs) context p r c d = tt

pub neither_there : (ps rs : List (List (List ℕ))) (context : Attributes) → ps ≡ [] → rs ≡ [] → context ≡ no_more
    → HasBothOrNeither ps rs context
neither_there [] [] context p r c = c
neither_there [] (y ∷ rs) context p r c = absurd (cc)
neither_there (x ∷ ps) rs context p r c = absurd (cc)

spec_rises : (spec : Option (ApplySpec RawName)) → IsSpecFormed spec → ContextRises spec
spec_rises None h = tt
spec_rises (Some d) h = h.1

module _ {G : named.Ghosts RawName} (f : Fragment RawName G) (formed : IsWellFormed f) where
  pub formed_too : IsFormed f
  formed_too = record {
    commons = formed.commons;
    entities = formed.entities;
    actions = All-weaker (λ e. All (λ a. IsSpecFormed a.1.applies_to) e.1.actions)
        (λ e. All (λ a. ContextRises a.1.applies_to) e.1.actions)
        (λ e h. All-weaker (λ a. IsSpecFormed a.1.applies_to) (λ a. ContextRises a.1.applies_to)
        (λ a k. spec_rises a.1.applies_to k) e.1.actions h) f.0 formed.actions;
  }

  spec_formed : (d : Declared ActionAt (ActionType RawName G)) → ActionStands f d → IsSpecFormed d.ty.applies_to
  spec_formed d s =
      let all = All-contains (λ e. All (λ a. IsSpecFormed a.1.applies_to) e.1.actions) f.0 s.entry formed.actions
      s.inside in
      let one = All-contains (λ a. IsSpecFormed a.1.applies_to) s.entry.1.actions s.item all s.among in
      subst (λ (z : Declared ActionAt (ActionType RawName G)). IsSpecFormed z.ty.applies_to) s.is one

  module _ (table : ExtensionTable) (m : SchemaMeaning) (mean : FragmentMeaning f table m)
      (untyped_none : of_fragment (untyped (tests_of (defined f table))) f ≡ []) where
    abbrev scope : Scope RawName
    scope = fragment_scope f table

    abbrev all_tests : Tests
    all_tests = tests_of (defined f table)

    module _ (a : ActionMeaning) (d : Declared ActionAt (ActionType RawName G))
        (c : Contains (declared_actions f) d) where
      meant_one : (p : RawName) (names : List RawName) (found : List (List (List ℕ)))
          → AreJust components_cmp (IsMeantByOne all_tests d.ns (p ∷ names)) found
          → untyped all_tests d.ns (principal p) ≡ [] → (b : List (List ℕ)) × Contains found b
      meant_one p names found just quiet =
          let (b, e) = target_there all_tests d.ns p quiet in
          (b, (just.just b).1 (p, contains_first p names, e))

      none_meant : (found : List (List (List ℕ))) → AreJust components_cmp (IsMeantByOne all_tests d.ns []) found
          → found ≡ []
      none_meant found just = no_members found (λ b c. (let (p, cp, e) = (just.just b).0 c in has_none p cp))

      -- names of both, or of neither
      roles_by : (names others : List RawName) (context : «Type» RawName)
          → AreJust components_cmp (IsMeantByOne all_tests d.ns names) a.principals
          → AreJust components_cmp (IsMeantByOne all_tests d.ns others) a.resources
          → Expands RawName scope (name_of d.ns) context (meant.Rec a.context) → AreRolesFormed names others context
          → ((p : RawName) → Contains names p → untyped all_tests d.ns (principal p) ≡ [])
          → ((p : RawName) → Contains others p → untyped all_tests d.ns (principal p) ≡ [])
          → HasBothOrNeither a.principals a.resources a.context
      roles_by [] [] context ps rs x r quiet also =
          neither_there a.principals a.resources a.context (none_meant a.principals ps) (none_meant a.resources rs)
          (empty_means scope (name_of d.ns) context a.context r x)
      roles_by [] (q ∷ qs) context ps rs x r quiet also = absurd r
      roles_by (p ∷ ns) [] context ps rs x r quiet also = absurd r
      roles_by (p ∷ ns) (q ∷ qs) context ps rs x r quiet also =
          let (b, cb) = meant_one p ns a.principals ps (quiet p (contains_first p ns)) in
          let (k, ck) = meant_one q qs a.resources rs (also q (contains_first q qs)) in
          both_there a.principals a.resources a.context b k cb ck

      filled_by : (spec : Option (ApplySpec RawName)) → d.ty.applies_to ≡ spec
          → IsApplyMeaning all_tests scope d.ns spec (apply_meaning a) → IsSpecFormed spec
          → HasBothOrNeither a.principals a.resources a.context
      filled_by None e am r = neither_there a.principals a.resources a.context am.0 am.1 am.2
      filled_by (Some spec) e am r =
          let s = action_stands f d c in
          let places : s.entry.0 ≡ d.ns = ap (λ (z : Declared ActionAt (ActionType RawName G)). z.ns) s.is in
          let applies : s.item.1.applies_to ≡ Some spec =
          ap (λ (z : Declared ActionAt (ActionType RawName G)). z.ty.applies_to) s.is ∙ e in
          let walk = action_none (untyped all_tests) f untyped_none d s in
          let quiet_principals = λ (p : RawName) (cp : Contains spec.principal_types p).
          ap (λ ns. untyped all_tests ns (principal p)) (sym places)
          ∙ principal_none (untyped all_tests s.entry.0) s.item.1 walk spec applies p cp in
          let quiet_resources = λ (p : RawName) (cp : Contains spec.resource_types p).
          ap (λ ns. untyped all_tests ns (resource p)) (sym places)
          ∙ resource_none (untyped all_tests s.entry.0) s.item.1 walk spec applies p cp in
          roles_by spec.principal_types spec.resource_types spec.context.0 am.0 am.1 am.2 r.0 quiet_principals
          quiet_resources

    pub formed_filled : IsFilled m
    formed_filled a ca =
        let (d, cd, is) = action_declared f table m mean a ca in
        filled_by a d cd d.ty.applies_to refl is.applies (spec_formed d (action_stands f d cd))
