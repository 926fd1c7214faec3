-- The first misfit, of what has no parts and of the members of a set and of tags.
use Rattle.std.proofs.Common.{◌≡◌, ◌+◌, ◌≤◌, ℕ, Bool, true, false, cond, [], ◌∷◌, Option, Some, None, inl, inr}
use Rattle.std.proofs.Common.{refl, sym, subst, arith}
use Rattle.std.specs.Prelude.{◌⊎◌, MatchOption, option_map}
use Rattle.std.specs.Str.{bytes_eq}
use Rattle.cedar_names.specs.Definitions.{same_name}
use Rattle.cedar_names.proofs.Defined.{equal_names}
use Rattle.schema_inclusion_values.specs.Values.{Text, Name, Val, Vals, no_vals, val, Entries, no_entries, entry}
use Rattle.schema_inclusion_values.specs.Values.{AllVals, AllEntries, Rises, below, IsBool, IsLong, IsStr, IsExt, IsRef}
use Rattle.schema_inclusion_values.specs.Values.{IsSet}
use Rattle.schema_inclusion_values.specs.Values as values
use Rattle.schema_inclusion_values.specs.Lost.{or_else}
use Rattle.schema_inclusion_values.proofs.Values.{same, apart, names_apart}
use Rattle.schema_inclusion_reasons.specs.Places.{attr, member, Path, PathBefore}
use Rattle.schema_inclusion_reasons.specs.Misfits.{Cause, entity_of, extension_of, entry_at, AtMember, BoolMisfit}
use Rattle.schema_inclusion_reasons.specs.Misfits.{LongMisfit, StringMisfit}
use Rattle.schema_inclusion_reasons.specs.Misfits.{ExtensionMisfit, EntityMisfit, MembersMisfit, SetMisfit}
use Rattle.schema_inclusion_reasons.specs.Misfits.{EntriesMisfit, AttributeMisfit}
use Rattle.schema_inclusion_reasons.specs.FirstMisfit.{Found, behind_step, bool_misfit, long_misfit, string_misfit}
use Rattle.schema_inclusion_reasons.specs.FirstMisfit.{extension_misfit, id_misfit, entity_misfit, members_misfit}
use Rattle.schema_inclusion_reasons.specs.FirstMisfit.{set_misfit, other_shape, each_misfit, in_order_or, rises}
use Rattle.schema_inclusion_reasons.proofs.Names.{same_or_other, entry_here, entry_other, nothing_below}
use Rattle.schema_inclusion_reasons.proofs.Names.{all_above, rising, falling}

-- P holds of it, and of nothing before it
abbrev pub First : (Path → Cause → Type 0) → Found → Type 0
First P f = P f.0 f.1 × ((q : Path) (d : Cause) → PathBefore q f.0 → P q d → ⊥)

-- the value is had, or the first misfit is found
abbrev pub Exact : Type 0 → (Path → Cause → Type 0) → Option Found → Type 0
Exact H P found = MatchOption found H (First P)

-- nothing stands before the value itself
pub nothing_before : (q : Path) → PathBefore q [] → ⊥
nothing_before [] h = h
nothing_before (s ∷ q) h = h

at_top : (P : Path → Cause → Type 0) (c : Cause) → P [] c → First P ([], c)
at_top P c h = (h, λ q d b g. nothing_before q b)

pub bool_exact : (v : Val) → Exact (IsBool v) (BoolMisfit v) (bool_misfit v)
bool_exact (values.Truth b) = tt
bool_exact _ = ((refl, refl), λ q d b g. nothing_before q b)

pub long_exact : (v : Val) → Exact (IsLong v) (LongMisfit v) (long_misfit v)
long_exact (values.Number n) = tt
long_exact _ = ((refl, refl), λ q d b g. nothing_before q b)

pub string_exact : (v : Val) → Exact (IsStr v) (StringMisfit v) (string_misfit v)
string_exact (values.Str s) = tt
string_exact _ = ((refl, refl), λ q d b g. nothing_before q b)

extension_at : (n m : Text) (b : Bool) → bytes_eq m n ≡ b
    → Exact (IsExt n (values.Ext m)) (ExtensionMisfit n (values.Ext m))
    (cond b None (other_shape (extension_of n) (values.Ext m)))
extension_at n m true e = same m n e
extension_at n m false e = ((apart m n e, (refl, refl)), λ q d b g. nothing_before q b)

pub extension_exact : (n : Text) (v : Val) → Exact (IsExt n v) (ExtensionMisfit n v) (extension_misfit n v)
extension_exact n (values.Ext m) = extension_at n m (bytes_eq m n) refl
extension_exact n _ = ((refl, refl), λ q d b g. nothing_before q b)

module _ (Fits : Name → Text → Type 0) (fits : Name → Text → Bool) (fit : (n : Name) (id : Text) → fits n id ≡ true
    → Fits n id) (unfit : (n : Name) (id : Text) → fits n id ≡ false → Fits n id → ⊥) where
  id_at : (n m : Name) (id : Text) (b : Bool) → m ≡ n → fits n id ≡ b
      → Exact (IsRef Fits n (values.Ref m id)) (EntityMisfit Fits n (values.Ref m id)) (id_misfit m id b)
  id_at n m id true q e = (q, fit n id e)
  id_at n m id false q e = (inr (q, unfit n id e, refl, refl), λ p d b g. nothing_before p b)

  entity_at : (n m : Name) (id : Text) (b : Bool) → same_name m n ≡ b
      → Exact (IsRef Fits n (values.Ref m id)) (EntityMisfit Fits n (values.Ref m id))
      (cond b (id_misfit m id (fits n id)) (other_shape (entity_of n) (values.Ref m id)))
  entity_at n m id true e = id_at n m id (fits n id) (equal_names m n e) refl
  entity_at n m id false e = (inl (names_apart m n e, (refl, refl)), λ p d b g. nothing_before p b)

  pub entity_exact : (n : Name) (v : Val) → Exact (IsRef Fits n v) (EntityMisfit Fits n v) (entity_misfit fits n v)
  entity_exact n (values.Ref m id) = entity_at n m id (same_name m n) refl
  entity_exact n _ = ((refl, refl), λ q d b g. nothing_before q b)

-- ---- members of a set, and tags

module _ (P : Val → Path → Cause → Type 0) (H : Val → Type 0) (deny : (v : Val) (p : Path) (c : Cause) → P v p c → H v
    → ⊥) (f : Val → Option Found) (exact : (v : Val) → Exact (H v) (P v) (f v)) where
  from_place : (p : Path) (c : Cause) (k i : ℕ) (vs : Vals) → AtMember (λ v. P v p c) k vs i → k ≤ i
  from_place p c k i no_vals h = absurd h
  from_place p c k i (val v vs) (inl h) = let e = h.0 in omega arith
  from_place p c k i (val v vs) (inr h) = let le = from_place p c (k + 1) i vs h in omega arith

  abbrev Members : ℕ → Vals → Path → Cause → Type 0
  Members = MembersMisfit P

  later : (v : Val) (vs : Vals) (k : ℕ) (p : Path) (c : Cause) → Members (k + 1) vs p c → Members k (val v vs) p c
  later v vs k [] c h = h
  later v vs k (attr n ∷ p) c h = h
  later v vs k (member i ∷ p) c h = inr h

  past : (v : Val) (vs : Vals) (k : ℕ) (p : Path) (c : Cause) → H v → Members k (val v vs) p c → Members (k + 1) vs p c
  past v vs k [] c has h = h
  past v vs k (attr n ∷ p) c has h = h
  past v vs k (member i ∷ p) c has (inl h) = absurd (deny v p c h.1 has)
  past v vs k (member i ∷ p) c has (inr h) = h

  same_place : (k i : ℕ) → member i ≡ member k → i ≡ k
  same_place k i e = cc

  before_here : (v : Val) (vs : Vals) (k : ℕ) (g : Found) (q : Path) (d : Cause) → First (P v) g
      → PathBefore q (member k ∷ g.0) → Members k (val v vs) q d → ⊥
  before_here v vs k g [] d h b m = m
  before_here v vs k g (attr n ∷ q) d h b m = m
  before_here v vs k g (member i ∷ q) d h (inl b) (inl m) = let e = m.0 in omega arith
  before_here v vs k g (member i ∷ q) d h (inr b) (inl m) = h.1 q d b.1 m.1
  before_here v vs k g (member i ∷ q) d h (inl b) (inr m) = let le = from_place q d (k + 1) i vs m in omega arith
  before_here v vs k g (member i ∷ q) d h (inr b) (inr m) =
      let le = from_place q d (k + 1) i vs m in let e = same_place k i b.0 in omega arith

  member_step : (v : Val) (vs : Vals) (k : ℕ) (found rest : Option Found) → Exact (H v) (P v) found
      → Exact (AllVals H vs) (Members (k + 1) vs) rest
      → Exact (AllVals H (val v vs)) (Members k (val v vs))
      (or_else (option_map (λ g. behind_step (member k) g) found) rest)
  member_step v vs k None None h r = (h, r)
  member_step v vs k None (Some g) h r =
      (later v vs k g.0 g.1 r.0, λ q d b m. r.1 q d b (past v vs k q d h m))
  member_step v vs k (Some g) rest h r = (inl (refl, h.0), λ q d b m. before_here v vs k g q d h b m)

  members_exact : (vs : Vals) (k : ℕ) → Exact (AllVals H vs) (Members k vs) (members_misfit f k vs)
  members_exact no_vals k = tt
  members_exact (val v vs) k = member_step v vs k (f v) (members_misfit f (k + 1) vs)
      (exact v) (members_exact vs (k + 1))

  pub set_exact : (v : Val) → Exact (IsSet H v) (SetMisfit P v) (set_misfit f v)
  set_exact (values.Set vs) = members_exact vs 0
  set_exact _ = ((refl, refl), λ q d b g. nothing_before q b)

  -- ---- tags

  abbrev Tag : Text → Option Val → Path → Cause → Type 0
  Tag n found p c = AttributeMisfit P false found p c

  abbrev Tags : Entries → Path → Cause → Type 0
  Tags es = EntriesMisfit Tag es

  no_tag : (o : Option Val) (p : Path) (c : Cause) → o ≡ None → AttributeMisfit P false o p c → ⊥
  no_tag None p c e h = h
  no_tag (Some v) p c e h = absurd (cc)

  this_tag : (v : Val) (p : Path) (c : Cause) (o : Option Val) → o ≡ Some v → AttributeMisfit P false o p c → P v p c
  this_tag v p c o e h = let k : AttributeMisfit P false (Some v) p c = subst (λ x. AttributeMisfit P false x p c) e h
      in k

  -- the tags behind the first say what all say of other names
  tag_past : (n : Text) (v : Val) (es : Entries) (q : Path) (d : Cause) → H v → Rises (entry n v es)
      → Tags (entry n v es) q d → Tags es q d
  tag_past n v es [] d has up h = absurd (h.0 up)
  tag_past n v es (attr k ∷ q) d has up h = go (same_or_other n k)
    where
      go : (n ≡ k) ⊎ (n ≡ k → ⊥) → Tags es (attr k ∷ q) d
      go (inl e) = absurd (deny v q d (this_tag v q d (entry_at k (entry n v es))
          (subst (λ x. entry_at x (entry n v es) ≡ Some v) e (entry_here n v es)) h) has)
      go (inr e) = subst (λ x. AttributeMisfit P false x q d) (entry_other k n v es e) h
  tag_past n v es (member i ∷ q) d has up h = h

  tag_later : (n : Text) (v : Val) (es : Entries) (p : Path) (c : Cause) → Rises (entry n v es) → Tags es p c
      → Tags (entry n v es) p c
  tag_later n v es [] c up h = absurd (h.0 up.1)
  tag_later n v es (attr k ∷ p) c up h = go (same_or_other n k)
    where
      go : (n ≡ k) ⊎ (n ≡ k → ⊥) → Tags (entry n v es) (attr k ∷ p) c
      go (inl e) = absurd (no_tag (entry_at k es) p c
          (nothing_below k es (subst (λ x. AllEntries (λ m w. below x m) es) e up.0)) h)
      go (inr e) = subst (λ x. AttributeMisfit P false x p c) (sym (entry_other k n v es e)) h
  tag_later n v es (member i ∷ p) c up h = h

  same_attr : (k n : Text) → attr k ≡ attr n → k ≡ n
  same_attr k n e = cc

  before_tag : (n : Text) (v : Val) (es : Entries) (g : Found) (q : Path) (d : Cause) → Rises (entry n v es)
      → First (P v) g → PathBefore q (attr n ∷ g.0) → Tags (entry n v es) q d → ⊥
  before_tag n v es g [] d up h b m = m.0 up
  before_tag n v es g (member i ∷ q) d up h b m = m
  before_tag n v es g (attr k ∷ q) d up h (inl b) m = no_tag (entry_at k (entry n v es)) q d
      (nothing_below k (entry n v es) (b, all_above k n es b up.0)) m
  before_tag n v es g (attr k ∷ q) d up h (inr b) m = h.1 q d b.1 (this_tag v q d (entry_at k (entry n v es))
      (subst (λ x. entry_at x (entry n v es) ≡ Some v) (sym (same_attr k n b.0)) (entry_here n v es)) m)

  tag_step : (n : Text) (v : Val) (es : Entries) (found rest : Option Found) → Rises (entry n v es)
      → Exact (H v) (P v) found
      → Exact (AllEntries (λ n v. H v) es) (Tags es) rest
      → Exact (AllEntries (λ n v. H v) (entry n v es)) (Tags (entry n v es))
      (or_else (option_map (λ g. behind_step (attr n) g) found) rest)
  tag_step n v es None None up h r = (h, r)
  tag_step n v es None (Some g) up h r =
      (tag_later n v es g.0 g.1 up r.0, λ q d b m. r.1 q d b (tag_past n v es q d h up m))
  tag_step n v es (Some g) rest up h r = (
    subst (λ x. AttributeMisfit P false x g.0 g.1) (sym (entry_here n v es)) h.0,
    λ q d b m. before_tag n v es g q d up h b m,
  )

  each_exact : (es : Entries) → Rises es → Exact (AllEntries (λ n v. H v) es) (Tags es) (each_misfit f es)
  each_exact no_entries up = tt
  each_exact (entry n v es) up = tag_step n v es (f v) (each_misfit f es) up (exact v) (each_exact es up.1)

  tags_at : (es : Entries) (b : Bool) → rises es ≡ b
      → Exact (Rises es × AllEntries (λ n v. H v) es) (Tags es) (in_order_or b (each_misfit f es))
  tags_at es true e = go (each_misfit f es) (each_exact es (rising es e))
    where
      go : (o : Option Found) → Exact (AllEntries (λ n v. H v) es) (Tags es) o
          → Exact (Rises es × AllEntries (λ n v. H v) es) (Tags es) o
      go None h = (rising es e, h)
      go (Some g) h = h
  tags_at es false e = ((falling es e, refl), λ q d b g. nothing_before q b)

  pub tags_exact : (es : Entries)
      → Exact (Rises es × AllEntries (λ n v. H v) es) (Tags es) (in_order_or (rises es) (each_misfit f es))
  tags_exact es = tags_at es (rises es) refl
