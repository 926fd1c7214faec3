-- Why a meaning does not admit a request, or an action with one that is above it.
use Rattle.std.proofs.Common.{◌≡◌, Bool, true, false, cond, [], Option, Some, None, inl, inr}
use Rattle.std.proofs.Common.{refl, sym, subst, arith}
use Rattle.std.specs.Prelude.{⊤, MatchOption, option_map}
use Rattle.std.specs.List.{list_any}
use Rattle.cedar_names.specs.Definitions.{same_name}
use Rattle.cedar_names.proofs.Defined.{equal_names, name_itself}
use Rattle.cedar_names.specs.Meaning.{PlainType, ActionMeaning, SchemaMeaning}
use Rattle.schema_inclusion_values.specs.Values.{Text, Name, Has}
use Rattle.schema_inclusion_values.specs.Values as values
use Rattle.schema_inclusion_values.specs.Ids.{AnyOf, Fits}
use Rattle.schema_inclusion_values.specs.Admits.{RequestValue, ActionIn, IsRequestOf, Admits, a_request, an_action}
use Rattle.schema_inclusion_values.specs.Whole.{IsWhole, IsWholeAction}
use Rattle.schema_inclusion_values.specs.Lost.{same_key}
use Rattle.schema_inclusion_values.proofs.Lost.{listed_any, not_any}
use Rattle.schema_inclusion_values.proofs.Requests.{equal_keys, key_itself}
use Rattle.schema_inclusion_reasons.specs.Places.{PathBefore}
use Rattle.schema_inclusion_reasons.specs.Misfits.{IsMisfit}
use Rattle.schema_inclusion_reasons.specs.Reasons.{Reason, type_gone, choice_gone, in_attributes, tags_gone, in_tags}
use Rattle.schema_inclusion_reasons.specs.Reasons.{parent_type_gone, parent_gone, action_gone, principal_gone}
use Rattle.schema_inclusion_reasons.specs.Reasons.{resource_gone, in_context, ancestor_gone, IsOneOf}
use Rattle.schema_inclusion_reasons.specs.Reasons.{IsRequestReason, IsReason, part_of, path_of, ReasonBefore}
use Rattle.schema_inclusion_reasons.specs.Reasons.{IsFirstReason}
use Rattle.schema_inclusion_reasons.specs.FirstMisfit.{Found, misfit}
use Rattle.schema_inclusion_reasons.specs.FirstReason.{unless, has_id, action_named, request_reason, request_reason_by}
use Rattle.schema_inclusion_reasons.specs.FirstReason.{action_reason_by}
use Rattle.schema_inclusion_reasons.proofs.Refusing.{refuses}
use Rattle.schema_inclusion_reasons.proofs.Firsts.{Exact, nothing_before}
use Rattle.schema_inclusion_reasons.proofs.Types.{type_exact}
use Rattle.schema_inclusion_reasons.proofs.Stages.{Answered, Clear, Staged, chain, last}
use Rattle.schema_inclusion_reasons.proofs.HeldIds.{any_from, AtAction, action_at, id_fits, id_unfit}

-- ---- a request of an action of the meaning

module _ (m : SchemaMeaning) (w : IsWhole m) (a : ActionMeaning) (wa : IsWholeAction m a) (x : RequestValue) where
  abbrev Local : Reason → Type 0
  Local = IsRequestReason m a x

  abbrev Context : Type 0
  Context = Has (Fits m) (PlainType.Rec a.context) (values.Rec x.context)

  deny_principal : IsOneOf x.principal a.principals → (s : Reason) → part_of s ≡ 1 → Local s → ⊥
  deny_principal h (principal_gone n) q g = g.1 (subst (λ y. IsOneOf y a.principals) (sym g.0) h)
  deny_principal h (choice_gone id) q g = g
  deny_principal h _ q g = absurd (omega arith)

  deny_resource : IsOneOf x.resource a.resources → (s : Reason) → part_of s ≡ 2 → Local s → ⊥
  deny_resource h (resource_gone n) q g = g.1 (subst (λ y. IsOneOf y a.resources) (sym g.0) h)
  deny_resource h (in_attributes p c) q g = g
  deny_resource h _ q g = absurd (omega arith)

  principal_at : (b : Bool) → list_any (same_name x.principal) a.principals ≡ b
      → Staged Local 1 (IsOneOf x.principal a.principals) (unless b (principal_gone x.principal))
  principal_at true q = listed_any same_name equal_names name_itself x.principal a.principals q
  principal_at false q = (
    refl,
    (refl, not_any same_name equal_names name_itself x.principal a.principals q),
    λ s k b g. nothing_before (path_of s) b,
  )

  resource_at : (b : Bool) → list_any (same_name x.resource) a.resources ≡ b
      → Staged Local 2 (IsOneOf x.resource a.resources) (unless b (resource_gone x.resource))
  resource_at true q = listed_any same_name equal_names name_itself x.resource a.resources q
  resource_at false q = (
    refl,
    (refl, not_any same_name equal_names name_itself x.resource a.resources q),
    λ s k b g. nothing_before (path_of s) b,
  )

  context_at : (o : Option Found)
      → Exact Context (IsMisfit (Fits m) (PlainType.Rec a.context) (values.Rec x.context)) o
      → Staged Local 3 Context (option_map (λ f. in_context f.0 f.1) o)
  context_at None h = h
  context_at (Some f) h = (refl, h.0, go)
    where
      go : (s : Reason) → part_of s ≡ 3 → PathBefore (path_of s) f.0 → Local s → ⊥
      go (in_context p c) q b g = h.1 p c b g
      go tags_gone q b g = g
      go (in_tags p c) q b g = g
      go _ q b g = absurd (omega arith)

  clear_first : Clear Local 1
  clear_first (type_gone n) lt g = g
  clear_first (action_gone a) lt g = g
  clear_first _ lt g = absurd (omega arith)

  abbrev pub Good : Type 0
  Good = IsOneOf x.principal a.principals × (IsOneOf x.resource a.resources × Context)

  pub of_action : Answered Local Good (request_reason m a x)
  of_action = chain Local 1 _ _ (unless (list_any (same_name x.principal) a.principals) (principal_gone x.principal)) _
      clear_first (principal_at (list_any (same_name x.principal) a.principals) refl) deny_principal
      (λ c1. chain Local 2 _ _ (unless (list_any (same_name x.resource) a.resources) (resource_gone x.resource)) _ c1
      (resource_at (list_any (same_name x.resource) a.resources) refl) deny_resource
      (λ c2. last Local 3 _ (option_map (λ f. in_context f.0 f.1)
      (misfit (has_id m) (PlainType.Rec a.context) (values.Rec x.context))) c2
      (context_at (misfit (has_id m) (PlainType.Rec a.context) (values.Rec x.context))
      (type_exact (Fits m) (has_id m) (id_fits m w) (id_unfit m w) (PlainType.Rec a.context) wa.0
      (values.Rec x.context)))))

  pub had_refuses : IsRequestOf m a x → (s : Reason) → Local s → ⊥
  had_refuses h (principal_gone n) g = deny_principal h.principal (principal_gone n) refl g
  had_refuses h (resource_gone n) g = deny_resource h.resource (resource_gone n) refl g
  had_refuses h (in_context p c) g =
      refuses (Fits m) (PlainType.Rec a.context) wa.0 (values.Rec x.context) p c g h.context
  had_refuses h _ g = g

-- ---- a request

module _ (m : SchemaMeaning) (w : IsWhole m) (x : RequestValue) where
  abbrev Own : ActionMeaning → Type 0
  Own a = a.is_external ≡ false

  abbrev Reasoned : Reason → ActionMeaning → Type 0
  Reasoned r a = (a.is_external ≡ false) × IsRequestReason m a x r

  abbrev Request : ActionMeaning → Type 0
  Request a = IsRequestOf m a x

  abbrev At : Option ActionMeaning → Type 1
  At found = (P : ActionMeaning → Type 0) → AtAction m w P x.action found

  abbrev Reply : Option Reason → Type 0
  Reply found = MatchOption found (Admits m (a_request x)) (IsFirstReason m (a_request x))

  first_action : IsReason m (a_request x) (action_gone x.action) → IsFirstReason m (a_request x) (action_gone x.action)
  first_action h = (h, go)
    where
      go : (s : Reason) → ReasonBefore s (action_gone x.action) → IsReason m (a_request x) s → ⊥
      go s (inl b) g = omega arith
      go s (inr b) g = nothing_before (path_of s) b.1

  module _ (a : ActionMeaning) (wa : IsWholeAction m a) (own : a.is_external ≡ false) (at : At (Some a)) where
    up : (r : Reason) → IsRequestReason m a x r → IsReason m (a_request x) r
    up (principal_gone n) h = (at (Reasoned (principal_gone n))).2 (own, h)
    up (resource_gone n) h = (at (Reasoned (resource_gone n))).2 (own, h)
    up (in_context p c) h = (at (Reasoned (in_context p c))).2 (own, h)
    up _ h = absurd h

    pub down : (r : Reason) → IsReason m (a_request x) r → IsRequestReason m a x r
    down (action_gone n) h = h.1 (subst (λ y. AnyOf (λ b. ((b.ty, b.id) ≡ y) × (b.is_external ≡ false)) m.actions)
        (sym h.0) ((at Own).2 own))
    down (type_gone n) h = ((at (Reasoned (type_gone n))).3 h).1
    down (choice_gone id) h = ((at (Reasoned (choice_gone id))).3 h).1
    down (in_attributes p c) h = ((at (Reasoned (in_attributes p c))).3 h).1
    down tags_gone h = ((at (Reasoned tags_gone)).3 h).1
    down (in_tags p c) h = ((at (Reasoned (in_tags p c))).3 h).1
    down (parent_type_gone i n) h = ((at (Reasoned (parent_type_gone i n))).3 h).1
    down (parent_gone i n id) h = ((at (Reasoned (parent_gone i n id))).3 h).1
    down (principal_gone n) h = ((at (Reasoned (principal_gone n))).3 h).1
    down (resource_gone n) h = ((at (Reasoned (resource_gone n))).3 h).1
    down (in_context p c) h = ((at (Reasoned (in_context p c))).3 h).1
    down (ancestor_gone b) h = ((at (Reasoned (ancestor_gone b))).3 h).1

    own_reply : (found : Option Reason) → Answered (IsRequestReason m a x) (Good m w a wa x) found → Reply found
    own_reply None h = (at Request).2 (record { own = own; principal = h.0; resource = h.1.0; context = h.1.1 })
    own_reply (Some r) h = (up r h.0, λ s b g. h.1 s b (down s g))

    own_refuses : (r : Reason) → IsReason m (a_request x) r → Admits m (a_request x) → ⊥
    own_refuses r h g = had_refuses m w a wa x ((at Request).3 g) r (down r h)

  by_kind : (a : ActionMeaning) (b : Bool) → a.is_external ≡ b → At (Some a)
      → Reply (cond b (Some (action_gone x.action)) (request_reason m a x))
  by_kind a true q at = first_action (refl, λ h. let own = (at Own).3 h in absurd (cc))
  by_kind a false q at = own_reply a (at Own).1 q at (request_reason m a x) (of_action m w a (at Own).1 x)

  by_action : (found : Option ActionMeaning) → At found → Reply (request_reason_by m found x)
  by_action None at = first_action (refl, λ h. at Own h)
  by_action (Some a) at = by_kind a a.is_external refl at

  pub request_replied : Reply (request_reason_by m (action_named m x.action) x)
  request_replied = by_action (action_named m x.action) (λ P. action_at m w P x.action)

  kind_refuses : (a : ActionMeaning) (b : Bool) → a.is_external ≡ b → At (Some a) → (r : Reason)
      → IsReason m (a_request x) r → Admits m (a_request x) → ⊥
  kind_refuses a true q at r h g = let own = ((at Request).3 g).own in absurd (cc)
  kind_refuses a false q at r h g = own_refuses a (at Own).1 q at r h g

  action_refuses : (found : Option ActionMeaning) → At found → (r : Reason) → IsReason m (a_request x) r
      → Admits m (a_request x) → ⊥
  action_refuses None at r h g = at Request g
  action_refuses (Some a) at r h g = kind_refuses a a.is_external refl at r h g

  pub request_refused : (r : Reason) → IsReason m (a_request x) r → Admits m (a_request x) → ⊥
  request_refused r h g = action_refuses (action_named m x.action) (λ P. action_at m w P x.action) r h g

-- ---- an action with one that is above it

module _ (m : SchemaMeaning) (w : IsWhole m) (x : ActionIn) where
  abbrev Above : ActionMeaning → Type 0
  Above a = AnyOf (λ b. b ≡ x.ancestor) a.ancestors

  abbrev NotAbove : ActionMeaning → Type 0
  NotAbove a = AnyOf (λ b. b ≡ x.ancestor) a.ancestors → ⊥

  abbrev Any : ActionMeaning → Type 0
  Any a = ⊤

  abbrev InAt : Option ActionMeaning → Type 1
  InAt found = (P : ActionMeaning → Type 0) → AtAction m w P x.action found

  abbrev InReply : Option Reason → Type 0
  InReply found = MatchOption found (Admits m (an_action x)) (IsFirstReason m (an_action x))

  abbrev Named : ActionMeaning → Type 0
  Named b = (b.ty, b.id) ≡ x.action

  abbrev NamedAny : ActionMeaning → Type 0
  NamedAny b = ((b.ty, b.id) ≡ x.action) × ⊤

  named_any : AnyOf Named m.actions → AnyOf NamedAny m.actions
  named_any h = any_from Named NamedAny (λ b e. (e, tt)) m.actions h

  any_named : AnyOf NamedAny m.actions → AnyOf Named m.actions
  any_named h = any_from NamedAny Named (λ b e. e.0) m.actions h

  first_gone : IsReason m (an_action x) (action_gone x.action) → IsFirstReason m (an_action x) (action_gone x.action)
  first_gone h = (h, go)
    where
      go : (s : Reason) → ReasonBefore s (action_gone x.action) → IsReason m (an_action x) s → ⊥
      go s (inl b) g = omega arith
      go s (inr b) g = nothing_before (path_of s) b.1

  first_ancestor : (a : ActionMeaning) → InAt (Some a) → NotAbove a
      → IsFirstReason m (an_action x) (ancestor_gone x.ancestor)
  first_ancestor a at h = ((refl, (at NotAbove).2 h), go)
    where
      go : (s : Reason) → ReasonBefore s (ancestor_gone x.ancestor) → IsReason m (an_action x) s → ⊥
      go (action_gone b) c g = g.1 (subst (λ y. AnyOf (λ b. (b.ty, b.id) ≡ y) m.actions) (sym g.0)
          (any_named ((at Any).2 tt)))
      go (ancestor_gone b) (inl c) g = omega arith
      go (ancestor_gone b) (inr c) g = nothing_before [] c.1
      go _ c g = g

  by_ancestor : (a : ActionMeaning) (b : Bool) → list_any (same_key x.ancestor) a.ancestors ≡ b → InAt (Some a)
      → InReply (unless b (ancestor_gone x.ancestor))
  by_ancestor a true q at = (at Above).2 (listed_any same_key equal_keys key_itself x.ancestor a.ancestors q)
  by_ancestor a false q at = first_ancestor a at (not_any same_key equal_keys key_itself x.ancestor a.ancestors q)

  in_by : (found : Option ActionMeaning) → InAt found → InReply (action_reason_by m found x)
  in_by None at = first_gone (refl, λ h. at Any (named_any h))
  in_by (Some a) at = by_ancestor a (list_any (same_key x.ancestor) a.ancestors) refl at

  pub action_replied : InReply (action_reason_by m (action_named m x.action) x)
  action_replied = in_by (action_named m x.action) (λ P. action_at m w P x.action)

  in_refuses : (found : Option ActionMeaning) → InAt found → (r : Reason) → IsReason m (an_action x) r
      → Admits m (an_action x) → ⊥
  in_refuses None at r h g = at Above g
  in_refuses (Some a) at (action_gone b) h g = h.1 (subst (λ y. AnyOf (λ b. (b.ty, b.id) ≡ y) m.actions) (sym h.0)
      (any_named ((at Any).2 tt)))
  in_refuses (Some a) at (ancestor_gone b) h g =
      ((at (λ a. IsOneOf b a.ancestors → ⊥)).3 h.1) (subst (λ y. IsOneOf y a.ancestors) (sym h.0) ((at Above).3 g))
  in_refuses (Some a) at _ h g = h

  pub action_refused : (r : Reason) → IsReason m (an_action x) r → Admits m (an_action x) → ⊥
  action_refused r h g = in_refuses (action_named m x.action) (λ P. action_at m w P x.action) r h g
