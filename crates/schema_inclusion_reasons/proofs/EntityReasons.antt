-- Why a meaning does not admit an entity.
use Rattle.std.proofs.Common.{◌≡◌, ◌+◌, ◌≤◌, ℕ, Bool, true, false, cond, List, [], ◌∷◌, Option, Some, None, inl, inr}
use Rattle.std.proofs.Common.{refl, sym, ◌∙◌, subst, arith}
use Rattle.std.specs.Prelude.{◌⊎◌, MatchOption, option_map}
use Rattle.std.specs.List.{list_any}
use Rattle.cedar_names.specs.Definitions.{same_name}
use Rattle.cedar_names.proofs.Defined.{equal_names, name_itself}
use Rattle.cedar_names.specs.Meaning.{PlainType, no_more, EntityMeaning, SchemaMeaning}
use Rattle.schema_inclusion_values.specs.Values.{Text, Name, Val, Entries, no_entries, entry, AllEntries, Rises, Has}
use Rattle.schema_inclusion_values.specs.Values as values
use Rattle.schema_inclusion_values.specs.Formed.{Distinct}
use Rattle.schema_inclusion_values.specs.Ids.{AnyOf, TakesId, Fits}
use Rattle.schema_inclusion_values.specs.Admits.{EntityValue, HasTags, HasParents, IsEntityOf, Admits, an_entity}
use Rattle.schema_inclusion_values.specs.Whole.{IsWhole, IsWholeEntity, IsWholeTag, HasParts}
use Rattle.schema_inclusion_values.specs.Lost.{or_else}
use Rattle.schema_inclusion_values.proofs.Lost.{listed_any, not_any}
use Rattle.schema_inclusion_reasons.specs.Places.{Path, PathBefore, member}
use Rattle.schema_inclusion_reasons.specs.Misfits.{Cause, IsMisfit, IsTagMisfit}
use Rattle.schema_inclusion_reasons.specs.Reasons.{Reason, type_gone, choice_gone, in_attributes, tags_gone, in_tags}
use Rattle.schema_inclusion_reasons.specs.Reasons.{parent_type_gone, parent_gone, action_gone, principal_gone}
use Rattle.schema_inclusion_reasons.specs.Reasons.{resource_gone, in_context, ancestor_gone, AtItem, IsOneOf}
use Rattle.schema_inclusion_reasons.specs.Reasons.{IsEntityReason, IsReason, part_of, path_of, ReasonBefore}
use Rattle.schema_inclusion_reasons.specs.Reasons.{IsFirstReason}
use Rattle.schema_inclusion_reasons.specs.FirstMisfit.{Found, misfit, tags_misfit}
use Rattle.schema_inclusion_reasons.specs.FirstReason.{takes, unless, has_id, tags_reason, parent_reason}
use Rattle.schema_inclusion_reasons.specs.FirstReason.{parents_reason, entity_reason, entity_reason_by, entity_named}
use Rattle.schema_inclusion_reasons.proofs.Refusing.{refuses, tags_refuse}
use Rattle.schema_inclusion_reasons.proofs.Firsts.{Exact, nothing_before, tags_exact}
use Rattle.schema_inclusion_reasons.proofs.Types.{type_exact}
use Rattle.schema_inclusion_reasons.proofs.Stages.{Answered, Clear, Staged, chain, last}
use Rattle.schema_inclusion_reasons.proofs.HeldIds.{taken, not_taken, AtName, entity_at, id_fits, id_unfit}

-- an entity as a type has it, whatever its kind
pub record IsLike (m : SchemaMeaning) (e : EntityMeaning) (choices : Option (List Text)) (x : EntityValue)
    : Type 0 where
  pub id : TakesId choices x.id
  pub attributes : Has (Fits m) (PlainType.Rec e.attributes) (values.Rec x.attributes)
  pub tags : HasTags m e.tags x.tags
  pub parents : HasParents m e.ancestors x.parents

module _ (m : SchemaMeaning) (e : EntityMeaning) (x : EntityValue) where
  nothing_had : (es : Entries) → Has (Fits m) (PlainType.Rec no_more) (values.Rec es) → es ≡ no_entries
  nothing_had no_entries h = refl
  nothing_had (entry n v es) h = absurd h.1.0

  no_parents : (ps : List (Name × Text)) → HasParents m [] ps → ps ≡ []
  no_parents [] h = refl
  no_parents (p ∷ ps) h = absurd h.0.0

  alike : (external : Bool) (choices : Option (List Text)) → HasParts choices e → IsEntityOf m e external choices x
      → IsLike m e choices x
  alike true choices parts h = absurd h
  alike false None parts h = record { id = tt; attributes = h.0; tags = h.1; parents = h.2 }
  alike false (Some cs) parts h = record {
    id = h.0;
    attributes = subst (λ fs. Has (Fits m) (PlainType.Rec fs) (values.Rec x.attributes)) (sym parts.0)
        (subst (λ es. Has (Fits m) (PlainType.Rec no_more) (values.Rec es)) (sym h.1) (tt, tt, tt));
    tags = subst (λ t. HasTags m t x.tags) (sym parts.1) h.2;
    parents = subst (λ ps. HasParents m e.ancestors ps) (sym h.3) tt;
  }

  of_kind : (external : Bool) (choices : Option (List Text)) → HasParts choices e → external ≡ false
      → IsLike m e choices x → IsEntityOf m e external choices x
  of_kind true choices parts q h = absurd (cc)
  of_kind false None parts q h = (h.attributes, h.tags, h.parents)
  of_kind false (Some cs) parts q h = (
    h.id,
    nothing_had x.attributes (subst (λ fs. Has (Fits m) (PlainType.Rec fs) (values.Rec x.attributes)) parts.0
        h.attributes),
    subst (λ t. HasTags m t x.tags) parts.1 h.tags,
    no_parents x.parents (subst (λ a. HasParents m a x.parents) parts.2 h.parents),
  )

some_same : {A : Type 0} (a b : A) → Some a ≡ Some b → a ≡ b
some_same a b e = cc

-- ---- parents

module _ (m : SchemaMeaning) (w : IsWhole m) (ancestors : List Name) where
  -- of the parents, the first of which is at the place k
  abbrev pub ParentReason : ℕ → List (Name × Text) → Reason → Type 0
  ParentReason k ps (parent_type_gone i n) = (IsOneOf n ancestors → ⊥) × AtItem (λ p. p.0 ≡ n) k ps i
  ParentReason k ps (parent_gone i n id) = IsOneOf n ancestors × (Fits m n id → ⊥)
      × AtItem (λ p. p ≡ (n, id)) k ps i
  ParentReason k ps _ = ⊥

  abbrev pub HasParent : Name × Text → Type 0
  HasParent p = AnyOf (λ a. a ≡ p.0) ancestors × Fits m p.0 p.1

  item_from : {A : Type 0} (P : A → Type 0) (k i : ℕ) (xs : List A) → AtItem P k xs i → k ≤ i
  item_from P k i [] h = absurd h
  item_from P k i (x ∷ xs) (inl h) = let e = h.0 in omega arith
  item_from P k i (x ∷ xs) (inr h) = let le = item_from P (k + 1) i xs h in omega arith

  -- a parent that is had is no reason
  parents_past : (p : Name × Text) (ps : List (Name × Text)) (k : ℕ) → HasParent p → (s : Reason)
      → ParentReason k (p ∷ ps) s → ParentReason (k + 1) ps s
  parents_past p ps k h (parent_type_gone i n) g = (g.0, go g.1)
    where
      go : ((k ≡ i) × (p.0 ≡ n)) ⊎ AtItem (λ p. p.0 ≡ n) (k + 1) ps i → AtItem (λ p. p.0 ≡ n) (k + 1) ps i
      go (inl a) = absurd (g.0 (subst (λ y. IsOneOf y ancestors) a.1 h.0))
      go (inr a) = a
  parents_past p ps k h (parent_gone i n id) g = (g.0, g.1, go g.2)
    where
      go : ((k ≡ i) × (p ≡ (n, id))) ⊎ AtItem (λ p. p ≡ (n, id)) (k + 1) ps i → AtItem (λ p. p ≡ (n, id)) (k + 1) ps i
      go (inl a) = absurd (g.1 (subst (λ y. Fits m y.0 y.1) a.1 h.1))
      go (inr a) = a
  parents_past p ps k h _ g = g

  parents_later : (p : Name × Text) (ps : List (Name × Text)) (k : ℕ) (s : Reason) → ParentReason (k + 1) ps s
      → ParentReason k (p ∷ ps) s
  parents_later p ps k (parent_type_gone i n) g = (g.0, inr g.1)
  parents_later p ps k (parent_gone i n id) g = (g.0, g.1, inr g.2)
  parents_later p ps k _ g = g

  pub parents_refuse : (ps : List (Name × Text)) (k : ℕ) → HasParents m ancestors ps → (s : Reason)
      → ParentReason k ps s → ⊥
  parents_refuse [] k h (parent_type_gone i n) g = g.1
  parents_refuse [] k h (parent_gone i n id) g = g.2
  parents_refuse [] k h _ g = g
  parents_refuse (p ∷ ps) k h s g = parents_refuse ps (k + 1) h.1 s (parents_past p ps k h.0 s g)

  abbrev FirstParent : ℕ → List (Name × Text) → Reason → Type 0
  FirstParent k ps r = (part_of r ≡ 4) × ParentReason k ps r
      × ((s : Reason) → PathBefore (path_of s) (path_of r) → ParentReason k ps s → ⊥)

  abbrev ParentsFound : ℕ → List (Name × Text) → Option Reason → Type 0
  ParentsFound k ps found = MatchOption found (HasParents m ancestors ps) (FirstParent k ps)

  none_less : (p : Name × Text) (ps : List (Name × Text)) (k : ℕ) (s : Reason)
      → PathBefore (path_of s) (member k ∷ []) → ParentReason k (p ∷ ps) s → ⊥
  none_less p ps k (parent_type_gone i n) (inl b) g =
      let le = item_from (λ p. p.0 ≡ n) k i (p ∷ ps) g.1 in omega arith
  none_less p ps k (parent_type_gone i n) (inr b) g = nothing_before [] b.1
  none_less p ps k (parent_gone i n id) (inl b) g =
      let le = item_from (λ p. p ≡ (n, id)) k i (p ∷ ps) g.2 in omega arith
  none_less p ps k (parent_gone i n id) (inr b) g = nothing_before [] b.1
  none_less p ps k _ b g = g

  -- one parent is had, or is a reason
  abbrev OneParent : Name × Text → List (Name × Text) → ℕ → Option Reason → Type 0
  OneParent p ps k found = MatchOption found (HasParent p) (λ r. (part_of r ≡ 4) × ParentReason k (p ∷ ps) r
      × (path_of r ≡ member k ∷ []))

  one_fit : (p : Name × Text) (ps : List (Name × Text)) (k : ℕ) (b : Bool) → has_id m p.0 p.1 ≡ b
      → IsOneOf p.0 ancestors → OneParent p ps k (unless b (parent_gone k p.0 p.1))
  one_fit p ps k true e h = (h, id_fits m w p.0 p.1 e)
  one_fit p ps k false e h = (refl, (h, id_unfit m w p.0 p.1 e, inl (refl, refl)), refl)

  one_at : (p : Name × Text) (ps : List (Name × Text)) (k : ℕ) (b : Bool) → list_any (same_name p.0) ancestors ≡ b
      → OneParent p ps k (cond b (unless (has_id m p.0 p.1) (parent_gone k p.0 p.1)) (Some (parent_type_gone k p.0)))
  one_at p ps k true e = one_fit p ps k (has_id m p.0 p.1) refl
      (listed_any same_name equal_names name_itself p.0 ancestors e)
  one_at p ps k false e = (refl, (not_any same_name equal_names name_itself p.0 ancestors e, inl (refl, refl)), refl)

  parents_step : (p : Name × Text) (ps : List (Name × Text)) (k : ℕ) (found rest : Option Reason)
      → OneParent p ps k found → ParentsFound (k + 1) ps rest → ParentsFound k (p ∷ ps) (or_else found rest)
  parents_step p ps k None None h l = (h, l)
  parents_step p ps k None (Some r) h l =
      (l.0, parents_later p ps k r l.1, λ s b g. l.2 s b (parents_past p ps k h s g))
  parents_step p ps k (Some r) rest h l =
      (h.0, h.1, λ s b g. none_less p ps k s (subst (λ y. PathBefore (path_of s) y) h.2 b) g)

  pub parents_found : (ps : List (Name × Text)) (k : ℕ) → ParentsFound k ps (parents_reason m ancestors k ps)
  parents_found [] k = tt
  parents_found (p ∷ ps) k = parents_step p ps k (parent_reason m ancestors k p) (parents_reason m ancestors (k + 1) ps)
      (one_at p ps k (list_any (same_name p.0) ancestors) refl) (parents_found ps (k + 1))

-- ---- an entity of a type of the meaning

module _ (m : SchemaMeaning) (w : IsWhole m) (e : EntityMeaning) (we : IsWholeEntity m e) (x : EntityValue) where
  abbrev Local : Reason → Type 0
  Local = IsEntityReason m e x

  abbrev Tags : PlainType → Path → Cause → Type 0
  Tags t = IsTagMisfit (Fits m) t x.tags

  -- what is good is no reason
  deny_choice : TakesId e.choices x.id → (s : Reason) → part_of s ≡ 1 → Local s → ⊥
  deny_choice h (choice_gone id) q g = g.1 (subst (λ y. TakesId e.choices y) (sym g.0) h)
  deny_choice h (principal_gone n) q g = g
  deny_choice h _ q g = absurd (omega arith)

  deny_attributes : Has (Fits m) (PlainType.Rec e.attributes) (values.Rec x.attributes) → (s : Reason)
      → part_of s ≡ 2 → Local s → ⊥
  deny_attributes h (in_attributes p c) q g =
      refuses (Fits m) (PlainType.Rec e.attributes) we.attributes.0 (values.Rec x.attributes) p c g h
  deny_attributes h (resource_gone n) q g = g
  deny_attributes h _ q g = absurd (omega arith)

  tags_type : (o : Option PlainType) → IsWholeTag m o → (t : PlainType) → o ≡ Some t → Distinct t
  tags_type None h t q = absurd (cc)
  tags_type (Some u) h t q = subst Distinct (some_same u t q) h.0

  deny_tags : HasTags m e.tags x.tags → (s : Reason) → part_of s ≡ 3 → Local s → ⊥
  deny_tags h tags_gone q g = g.1 (subst (λ o. HasTags m o x.tags) g.0 h)
  deny_tags h (in_tags p c) q g =
      let had : HasTags m (Some g.0) x.tags = subst (λ o. HasTags m o x.tags) g.1 h in
      tags_refuse (IsMisfit (Fits m) g.0) (Has (Fits m) g.0)
      (refuses (Fits m) g.0 (tags_type e.tags we.tags g.0 g.1)) x.tags p c g.2 had.0 had.1
  deny_tags h (in_context p c) q g = g
  deny_tags h _ q g = absurd (omega arith)

  deny_parents : HasParents m e.ancestors x.parents → (s : Reason) → part_of s ≡ 4 → Local s → ⊥
  deny_parents h (parent_type_gone i n) q g = parents_refuse m w e.ancestors x.parents 0 h (parent_type_gone i n) g
  deny_parents h (parent_gone i n id) q g = parents_refuse m w e.ancestors x.parents 0 h (parent_gone i n id) g
  deny_parents h (ancestor_gone a) q g = g
  deny_parents h _ q g = absurd (omega arith)

  -- the first of each part
  choice_at : (b : Bool) → takes e.choices x.id ≡ b
      → Staged Local 1 (TakesId e.choices x.id) (unless b (choice_gone x.id))
  choice_at true q = taken e.choices x.id q
  choice_at false q = (refl, (refl, not_taken e.choices x.id q), λ s k b g. nothing_before (path_of s) b)

  attributes_at : (o : Option Found)
      → Exact (Has (Fits m) (PlainType.Rec e.attributes) (values.Rec x.attributes))
      (IsMisfit (Fits m) (PlainType.Rec e.attributes) (values.Rec x.attributes)) o
      → Staged Local 2 (Has (Fits m) (PlainType.Rec e.attributes) (values.Rec x.attributes))
      (option_map (λ f. in_attributes f.0 f.1) o)
  attributes_at None h = h
  attributes_at (Some f) h = (refl, h.0, go)
    where
      go : (s : Reason) → part_of s ≡ 2 → PathBefore (path_of s) f.0 → Local s → ⊥
      go (in_attributes p c) q b g = h.1 p c b g
      go (resource_gone n) q b g = g
      go _ q b g = absurd (omega arith)

  no_tags_at : (tags : Entries) → x.tags ≡ tags → e.tags ≡ None
      → Staged Local 3 (HasTags m None tags) (tags_reason m None tags)
  no_tags_at no_entries q t = refl
  no_tags_at (entry n v es) q t = (refl, (t, λ k. absurd (cc)), λ s k b g. nothing_before (path_of s) b)

  tags_at : (t : PlainType) → e.tags ≡ Some t → (o : Option Found)
      → Exact (Rises x.tags × AllEntries (λ n v. Has (Fits m) t v) x.tags) (Tags t) o
      → Staged Local 3 (HasTags m (Some t) x.tags) (option_map (λ f. in_tags f.0 f.1) o)
  tags_at t is None h = h
  tags_at t is (Some f) h = (refl, (t, is, h.0), go)
    where
      go : (s : Reason) → part_of s ≡ 3 → PathBefore (path_of s) f.0 → Local s → ⊥
      go tags_gone q b g = let k : None ≡ Some t = sym g.0 ∙ is in absurd (cc)
      go (in_tags p c) q b g = h.1 p c b (subst (λ u. Tags u p c) (some_same g.0 t (sym g.1 ∙ is)) g.2)
      go (in_context p c) q b g = g
      go _ q b g = absurd (omega arith)

  tags_staged : (o : Option PlainType) → e.tags ≡ o → IsWholeTag m o
      → Staged Local 3 (HasTags m o x.tags) (tags_reason m o x.tags)
  tags_staged None is wt = no_tags_at x.tags refl is
  tags_staged (Some t) is wt = tags_at t is (tags_misfit (has_id m) t x.tags)
      (tags_exact (IsMisfit (Fits m) t) (Has (Fits m) t) (refuses (Fits m) t wt.0) (misfit (has_id m) t)
      (type_exact (Fits m) (has_id m) (id_fits m w) (id_unfit m w) t wt.0) x.tags)

  parents_at : (o : Option Reason)
      → MatchOption o (HasParents m e.ancestors x.parents) (λ r. (part_of r ≡ 4)
      × ParentReason m w e.ancestors 0 x.parents r
      × ((s : Reason) → PathBefore (path_of s) (path_of r) → ParentReason m w e.ancestors 0 x.parents s → ⊥))
      → Staged Local 4 (HasParents m e.ancestors x.parents) o
  parents_at None h = h
  parents_at (Some r) h = (h.0, local r h.1, go)
    where
      local : (s : Reason) → ParentReason m w e.ancestors 0 x.parents s → Local s
      local (parent_type_gone i n) g = g
      local (parent_gone i n id) g = g
      local _ g = absurd g

      go : (s : Reason) → part_of s ≡ 4 → PathBefore (path_of s) (path_of r) → Local s → ⊥
      go (parent_type_gone i n) q b g = h.2 (parent_type_gone i n) b g
      go (parent_gone i n id) q b g = h.2 (parent_gone i n id) b g
      go (ancestor_gone a) q b g = g
      go _ q b g = absurd (omega arith)

  clear_first : Clear Local 1
  clear_first (type_gone n) lt g = g
  clear_first (action_gone a) lt g = g
  clear_first _ lt g = absurd (omega arith)

  abbrev pub Good : Type 0
  Good = TakesId e.choices x.id × (Has (Fits m) (PlainType.Rec e.attributes) (values.Rec x.attributes)
      × (HasTags m e.tags x.tags × HasParents m e.ancestors x.parents))

  pub of_type : Answered Local Good (entity_reason m e x)
  of_type = chain Local 1 _ _ (unless (takes e.choices x.id) (choice_gone x.id)) _ clear_first
      (choice_at (takes e.choices x.id) refl) deny_choice
      (λ c1. chain Local 2 _ _ (option_map (λ f. in_attributes f.0 f.1)
      (misfit (has_id m) (PlainType.Rec e.attributes) (values.Rec x.attributes))) _ c1
      (attributes_at (misfit (has_id m) (PlainType.Rec e.attributes) (values.Rec x.attributes))
      (type_exact (Fits m) (has_id m) (id_fits m w) (id_unfit m w) (PlainType.Rec e.attributes) we.attributes.0
      (values.Rec x.attributes))) deny_attributes
      (λ c2. chain Local 3 _ _ (tags_reason m e.tags x.tags) _ c2 (tags_staged e.tags refl we.tags) deny_tags
      (λ c3. last Local 4 _ (parents_reason m e.ancestors 0 x.parents) c3
      (parents_at (parents_reason m e.ancestors 0 x.parents) (parents_found m w e.ancestors x.parents 0)))))

  pub like_refuses : IsLike m e e.choices x → (s : Reason) → Local s → ⊥
  like_refuses h (choice_gone id) g = deny_choice h.id (choice_gone id) refl g
  like_refuses h (in_attributes p c) g = deny_attributes h.attributes (in_attributes p c) refl g
  like_refuses h tags_gone g = deny_tags h.tags tags_gone refl g
  like_refuses h (in_tags p c) g = deny_tags h.tags (in_tags p c) refl g
  like_refuses h (parent_type_gone i n) g = deny_parents h.parents (parent_type_gone i n) refl g
  like_refuses h (parent_gone i n id) g = deny_parents h.parents (parent_gone i n id) refl g
  like_refuses h _ g = g

-- ---- an entity

module _ (m : SchemaMeaning) (w : IsWhole m) (x : EntityValue) where
  abbrev Own : EntityMeaning → Type 0
  Own e = e.is_external ≡ false

  abbrev Reasoned : Reason → EntityMeaning → Type 0
  Reasoned r e = (e.is_external ≡ false) × IsEntityReason m e x r

  abbrev Entity : EntityMeaning → Type 0
  Entity e = IsEntityOf m e e.is_external e.choices x

  -- what stands at the type of the entity, for each property
  abbrev At : Option EntityMeaning → Type 1
  At found = (P : EntityMeaning → Type 0) → AtName m w P x.ty found

  abbrev Reply : Option Reason → Type 0
  Reply found = MatchOption found (Admits m (an_entity x)) (IsFirstReason m (an_entity x))

  first_type : IsReason m (an_entity x) (type_gone x.ty) → IsFirstReason m (an_entity x) (type_gone x.ty)
  first_type h = (h, go)
    where
      go : (s : Reason) → ReasonBefore s (type_gone x.ty) → IsReason m (an_entity x) s → ⊥
      go s (inl b) g = omega arith
      go s (inr b) g = nothing_before (path_of s) b.1

  module _ (e : EntityMeaning) (we : IsWholeEntity m e) (own : e.is_external ≡ false) (at : At (Some e)) where
    up : (r : Reason) → IsEntityReason m e x r → IsReason m (an_entity x) r
    up (type_gone n) h = absurd h
    up (choice_gone id) h = (at (Reasoned (choice_gone id))).2 (own, h)
    up (in_attributes p c) h = (at (Reasoned (in_attributes p c))).2 (own, h)
    up tags_gone h = (at (Reasoned tags_gone)).2 (own, h)
    up (in_tags p c) h = (at (Reasoned (in_tags p c))).2 (own, h)
    up (parent_type_gone i n) h = (at (Reasoned (parent_type_gone i n))).2 (own, h)
    up (parent_gone i n id) h = (at (Reasoned (parent_gone i n id))).2 (own, h)
    up _ h = absurd h

    pub down : (r : Reason) → IsReason m (an_entity x) r → IsEntityReason m e x r
    down (type_gone n) h = h.1 (subst (λ y. AnyOf (λ e. (e.name ≡ y) × (e.is_external ≡ false)) m.entities) (sym h.0)
        ((at Own).2 own))
    down (choice_gone id) h = ((at (Reasoned (choice_gone id))).3 h).1
    down (in_attributes p c) h = ((at (Reasoned (in_attributes p c))).3 h).1
    down tags_gone h = ((at (Reasoned tags_gone)).3 h).1
    down (in_tags p c) h = ((at (Reasoned (in_tags p c))).3 h).1
    down (parent_type_gone i n) h = ((at (Reasoned (parent_type_gone i n))).3 h).1
    down (parent_gone i n id) h = ((at (Reasoned (parent_gone i n id))).3 h).1
    down (action_gone a) h = ((at (Reasoned (action_gone a))).3 h).1
    down (principal_gone n) h = ((at (Reasoned (principal_gone n))).3 h).1
    down (resource_gone n) h = ((at (Reasoned (resource_gone n))).3 h).1
    down (in_context p c) h = ((at (Reasoned (in_context p c))).3 h).1
    down (ancestor_gone a) h = ((at (Reasoned (ancestor_gone a))).3 h).1

    own_reply : (found : Option Reason) → Answered (IsEntityReason m e x) (Good m w e we x) found → Reply found
    own_reply None h = (at Entity).2 (of_kind m e x e.is_external e.choices we.parts own
        (record { id = h.0; attributes = h.1.0; tags = h.1.1.0; parents = h.1.1.1 }))
    own_reply (Some r) h = (up r h.0, λ s b g. h.1 s b (down s g))

    own_refuses : (r : Reason) → IsReason m (an_entity x) r → Admits m (an_entity x) → ⊥
    own_refuses r h a = like_refuses m w e we x (alike m e x e.is_external e.choices we.parts ((at Entity).3 a)) r
        (down r h)

  by_kind : (e : EntityMeaning) (b : Bool) → e.is_external ≡ b → At (Some e)
      → Reply (cond b (Some (type_gone x.ty)) (entity_reason m e x))
  by_kind e true q at = first_type (refl, λ h. let own = (at Own).3 h in absurd (cc))
  by_kind e false q at = own_reply e (at Own).1 q at (entity_reason m e x) (of_type m w e (at Own).1 x)

  by_type : (found : Option EntityMeaning) → At found → Reply (entity_reason_by m found x)
  by_type None at = first_type (refl, λ h. at Own h)
  by_type (Some e) at = by_kind e e.is_external refl at

  pub entity_replied : Reply (entity_reason_by m (entity_named m x.ty) x)
  entity_replied = by_type (entity_named m x.ty) (λ P. entity_at m w P x.ty)

  nothing_external : (e : EntityMeaning) (b : Bool) → b ≡ true → IsEntityOf m e b e.choices x → ⊥
  nothing_external e true q h = h
  nothing_external e false q h = absurd (cc)

  kind_refuses : (e : EntityMeaning) (b : Bool) → e.is_external ≡ b → At (Some e) → (r : Reason)
      → IsReason m (an_entity x) r → Admits m (an_entity x) → ⊥
  kind_refuses e true q at r h a = nothing_external e e.is_external q ((at Entity).3 a)
  kind_refuses e false q at r h a = own_refuses e (at Own).1 q at r h a

  type_refuses : (found : Option EntityMeaning) → At found → (r : Reason) → IsReason m (an_entity x) r
      → Admits m (an_entity x) → ⊥
  type_refuses None at r h a = at Entity a
  type_refuses (Some e) at r h a = kind_refuses e e.is_external refl at r h a

  pub entity_refused : (r : Reason) → IsReason m (an_entity x) r → Admits m (an_entity x) → ⊥
  entity_refused r h a = type_refuses (entity_named m x.ty) (λ P. entity_at m w P x.ty) r h a
