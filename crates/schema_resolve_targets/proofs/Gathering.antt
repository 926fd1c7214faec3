-- What a gatherer holds once it was told parts.
use Rattle.std.proofs.Common.{◌≡◌, ℕ, List, [], ◌∷◌, ◌++◌, false, refl, sym, ap, ◌∙◌, subst, append_assoc, append-nil}
use Rattle.std.proofs.Common.{Option, Some, None}
use Rattle.std.specs.Prelude.{is_some}
use Rattle.std.specs.Option.{option_map}
use Rattle.std.proofs.lemmas.List.{map-append}
use Rattle.std.specs.List.{FoldsTo, flat_map}
use Rattle.cedar_identifiers.specs.declared.conditional_name.ConditionalName.{ConditionalName}
use Rattle.cedar_identifiers.specs.declared.internal_name.InternalName.{InternalName}
use Rattle.cedar_identifiers.specs.declared.name_text.NameText as named
use Rattle.cedar_identifiers.specs.declared.name.Name.{Name}
use Rattle.cedar_identifiers.specs.declared.raw_name.RawName.{RawName}
use Rattle.schema_json.specs.declared.action_type.ActionEntityUID.{ActionEntityUID}
use Rattle.schema_json_walk.specs.Parts.{Part}
use Rattle.schema_json_walk.specs.Visits.{takes_placed}
use Rattle.schema_resolve_definitions.specs.Declarations.{name_of}
use Rattle.schema_resolve_definitions.specs.Tests.{Tests, tests_of}
use Rattle.schema_resolve_targets.specs.Targets.{unless}
use Rattle.schema_resolve_targets.specs.Gathered.{uids, Gathers}
use Rattle.schema_resolve_targets.specs.ReferenceParts.{by_reference}
use Rattle.schema_resolve_targets.specs.Untargeted.{untargeted_in}
use Rattle.schema_resolve_targets.specs.Undefined.{Undefined, type_reference, action_reference, types_among}
use Rattle.schema_resolve_targets.specs.Undefined.{actions_among}
use Rattle.schema_resolve_targets.specs.declared.gather.Gatherer.{Gatherer}

pub types_both : (us vs : List Undefined) → types_among (us ++ vs) ≡ types_among us ++ types_among vs
types_both [] vs = refl
types_both (type_reference c ∷ us) vs = ap (λ l. c ∷ l) (types_both us vs)
types_both (action_reference id ty ∷ us) vs = types_both us vs

actions_both : (us vs : List Undefined) → actions_among (us ++ vs) ≡ actions_among us ++ actions_among vs
actions_both [] vs = refl
actions_both (type_reference c ∷ us) vs = actions_both us vs
actions_both (action_reference id ty ∷ us) vs = ap (λ l. (id, ty) ∷ l) (actions_both us vs)

-- nothing is found
pub gathers_none : (g : Gatherer) → Gathers [] g g
gathers_none g = record {
  defs = refl;
  types = sym (append-nil g.types.items);
  actions = sym (append-nil (uids g.actions.items));
}

gathers_both : (us vs : List Undefined) (a b c : Gatherer) → Gathers us a b → Gathers vs b c → Gathers (us ++ vs) a c
gathers_both us vs a b c h k = record {
  defs = k.defs ∙ h.defs;
  types = k.types ∙ ap (λ l. l ++ types_among vs) h.types
      ∙ append_assoc a.types.items (types_among us) (types_among vs)
      ∙ ap (λ l. a.types.items ++ l) (sym (types_both us vs));
  actions = k.actions ∙ ap (λ l. l ++ actions_among vs) h.actions
      ∙ append_assoc (uids a.actions.items) (actions_among us) (actions_among vs)
      ∙ ap (λ l. uids a.actions.items ++ l) (sym (actions_both us vs));
}

abbrev met : Tests → Option Name × Part RawName → List Undefined
met t e = by_reference (untargeted_in t (name_of e.0)) e.1

abbrev taken : Option Name → Gatherer → Part RawName → Gatherer → Type 0
taken ns before part after = Gathers
    (by_reference (untargeted_in (tests_of before.defs.now) (name_of ns)) part) before after

-- what all parts give
pub gathers_all : (ps : List (Option Name × Part RawName)) (a c : Gatherer) → FoldsTo (takes_placed taken) a ps c
    → Gathers (flat_map (met (tests_of a.defs.now)) ps) a c
gathers_all [] a c h = subst (λ g. Gathers [] a g) h (gathers_none a)
gathers_all (p ∷ ps) a c h =
    let rest = gathers_all ps h.0 c h.2 in
    let same : tests_of h.0.defs.now ≡ tests_of a.defs.now = ap tests_of h.1.defs in
    gathers_both (met (tests_of a.defs.now) p) (flat_map (met (tests_of a.defs.now)) ps) a h.0 c h.1
    (subst (λ t. Gathers (flat_map (met t) ps) h.0 c) same rest)

-- what has no target
pub missed : {A : Type 0} (f : A → InternalName) (o : Option A) (found : Option InternalName) (u : Undefined)
    → is_some o ≡ false → option_map f o ≡ found → unless found u ≡ u ∷ []
missed f None found u h k = subst (λ x. unless x u ≡ u ∷ []) k refl
missed f (Some a) found u h k = cc

-- one more reference to an action
pub uids_more : {G : named.Ghosts ConditionalName} (xs : List (ActionEntityUID ConditionalName G))
    (x : ActionEntityUID ConditionalName G)
    {id : List ℕ} {ty : Option ConditionalName} → x.id ≡ id → x.ty ≡ ty
    → uids (xs ++ x ∷ []) ≡ uids xs ++ (let uid : List ℕ × Option ConditionalName = (id, ty) in uid) ∷ []
uids_more xs x h k =
    map-append _ xs (x ∷ []) ∙ (λ i. uids xs ++ (let uid : List ℕ × Option ConditionalName = (h i, k i) in uid) ∷ [])
