-- What is built for actions stands for what they mean.
use Rattle.std.proofs.Common.{◌≡◌, ℕ, Bool, true, false, List, [], Option, Some, None, refl, sym, ap, subst}
use Rattle.std.specs.Cmp.{second_so}
use Rattle.std.specs.Prelude.{is_none}
use Rattle.cedar_data.proofs.Options.{none_from_test}
use Rattle.cedar_identifiers.specs.declared.name.Name.{Name}
use Rattle.cedar_identifiers.specs.declared.name_text.NameText as named
use Rattle.cedar_identifiers.specs.declared.raw_name.RawName.{RawName}
use Rattle.cedar_names.specs.Meaning.{no_more}
use Rattle.schema_json.specs.declared.action_type.ActionType.{ActionType}
use Rattle.schema_json.specs.declared.action_type.ApplySpec.{ApplySpec}
use Rattle.schema_json_walk.specs.Bare.{is_bare_action}
use Rattle.schema_resolve_definitions.specs.Declarations.{name_of}
use Rattle.schema_resolve_definitions.specs.Tests.{Tests}
use Rattle.schema_build_types.specs.declared.types.Type.{«Type» as Built}
use Rattle.schema_build_types.specs.declared.types.Type.TheVariants as built
use Rattle.schema_build_types.specs.declared.action.ValidatorActionKind.{ValidatorActionKind}
use Rattle.schema_build_types.specs.declared.action.ValidatorActionKind.TheVariants as kind
use Rattle.schema_build_expand.specs.Expands.{Expands, ExpandsOnce}
use Rattle.schema_build_expand.specs.Scope.{Scope}
use Rattle.schema_build_expand.specs.Targets.{ExpandsTo}
use Rattle.schema_build_checks.specs.DeclaredAt.{ActionAt}
use Rattle.schema_build_hierarchy.specs.Declarations.{Declared}
use Rattle.schema_build_items.specs.ActionKinds.{ApplyMeaning, IsApplyMeaning, IsApplyBuilt, IsActionKindBuilt}
use Rattle.schema_build_items.specs.ActionKinds.{IsMeantByOne, AreJust, as_components, components_cmp}
use Rattle.schema_build_items.specs.NoRecord.{ContextIsNoRecord, LacksContext}
use Rattle.schema_build_items.proofs.Made.{record_closed, record_apart}

abbrev pub IsJustMeant : Tests → Option Name → List RawName → List Name → Type 0
IsJustMeant t ns names found = AreJust components_cmp (IsMeantByOne t ns names) (as_components found)

module _ (t : Tests) (s : Scope RawName) (ns : Option Name) where
  -- a record, principals and resources make an action
  pub applied_made : (d : ApplySpec RawName) (found : Built) (attrs : List (List ℕ × (Built × Bool))) (more : Bool)
      (ps rs : List Name) → found ≡ built.Record attrs more → ExpandsTo s (name_of ns) d.context.0 found
      → IsJustMeant t ns d.principal_types ps → IsJustMeant t ns d.resource_types rs
      → IsApplyBuilt t s ns (Some d) (kind.Defined ps rs (built.Record attrs more))
  applied_made d found attrs more ps rs is (p, e, b) principals resources =
      let (as', rec, shut, fields) = record_closed p found attrs more is b in (
        record { principals = as_components ps; resources = as_components rs; context = as' },
        (principals, resources, subst (λ r. Expands RawName s (name_of ns) d.context.0 r) rec e),
        (refl, refl, refl, (attrs, ap (λ m. built.Record attrs m) shut, fields)),
      )

  abbrev nothing : ApplyMeaning
  nothing = record { principals = []; resources = []; context = no_more }

  pub nothing_made : (ps rs : List Name) (attrs : List (List ℕ × (Built × Bool))) → ps ≡ [] → rs ≡ [] → attrs ≡ []
      → IsApplyBuilt t s ns None (kind.Defined ps rs (built.Record attrs false))
  nothing_made ps rs attrs p r a =
      (nothing, (refl, refl, refl), (refl, ap as_components p, ap as_components r, (attrs, refl, a)))

  -- what is bare applies to nothing
  pub bare_applies : {G : named.Ghosts RawName} (a : ActionType RawName G) → is_bare_action a ≡ true
      → IsApplyMeaning t s ns a.applies_to (record { principals = []; resources = []; context = no_more })
  bare_applies a e =
      let gone : a.applies_to ≡ None = none_from_test a.applies_to
      (second_so (is_none a.attributes) (is_none a.applies_to) e) in
      subst (λ o. IsApplyMeaning t s ns o nothing) (sym gone) (refl, refl, refl)

module _ (t : Tests) (s : Scope RawName) (once : ExpandsOnce s) where
  context_apart : (ns : Option Name) (o : Option (ApplySpec RawName)) (a : ApplyMeaning) → IsApplyMeaning t s ns o a
      → ContextIsNoRecord s (name_of ns) o → ⊥
  context_apart ns None a h lacks = lacks
  context_apart ns (Some d) a h lacks = record_apart s once (name_of ns) d.context.0 a.context h.2 lacks

  -- where something is built the context is a record
  pub action_apart : {G : named.Ghosts RawName} (d : Declared ActionAt (ActionType RawName G))
      (kind : ValidatorActionKind)
      → IsActionKindBuilt t s d kind → LacksContext s d → ⊥
  action_apart d kind (a, h, stands) lacks = context_apart d.ns d.ty.applies_to a h lacks
