-- The first misfit of attributes.
use Rattle.std.proofs.Common.{◌≡◌, Bool, true, false, [], ◌∷◌, Option, Some, None, inl, inr, refl, sym, subst}
use Rattle.std.specs.Prelude.{◌⊎◌, MatchOption, option_map}
use Rattle.std.specs.Ordering.{match_ordering}
use Rattle.std.specs.declared.cmp.Ordering.{Ordering}
use Rattle.std.specs.declared.cmp.Ordering.TheVariants.{Less, Equal, Greater}
use Rattle.cedar_data.specs.Text.{text_cmp}
use Rattle.cedar_data.proofs.Orders.{text_exact}
use Rattle.cedar_names.specs.Meaning.{PlainType, Attributes, no_more, attribute}
use Rattle.schema_inclusion_values.specs.Values.{Text, Name, Val, Entries, no_entries, entry, AllEntries, Rises}
use Rattle.schema_inclusion_values.specs.Values.{IsThere}
use Rattle.schema_inclusion_values.specs.Values.{RequiredThere, below, IsRec, Has, FieldHas}
use Rattle.schema_inclusion_values.specs.Values as values
use Rattle.schema_inclusion_values.specs.Formed.{AboveFields}
use Rattle.schema_inclusion_values.specs.Lost.{or_else}
use Rattle.schema_inclusion_reasons.specs.Places.{attr, member, Path, PathBefore}
use Rattle.schema_inclusion_reasons.specs.Misfits.{Cause, is_required, is_unknown, entry_at, EntriesMisfit}
use Rattle.schema_inclusion_reasons.specs.Misfits.{RecordMisfit}
use Rattle.schema_inclusion_reasons.specs.Misfits.{AttributeMisfit, IsMisfit, NamedMisfit}
use Rattle.schema_inclusion_reasons.specs.FirstMisfit.{Found, Named, behind_name, with_name, in_order_or, record_misfit}
use Rattle.schema_inclusion_reasons.specs.FirstMisfit.{required_or, rises}
use Rattle.schema_inclusion_reasons.proofs.Names.{same_or_other, other_above, below_after, turned_below, entry_here}
use Rattle.schema_inclusion_reasons.proofs.Names.{entry_other, nothing_below, weaker, all_above, rising, falling}
use Rattle.schema_inclusion_reasons.proofs.Firsts.{Exact, nothing_before}

same_attr : (k n : Text) → attr k ≡ attr n → k ≡ n
same_attr k n e = cc

above_after : (k m : Text) (fs : Attributes) → below k m → AboveFields m fs → AboveFields k fs
above_after k m no_more h a = tt
above_after k m (attribute n r t fs) h a = (below_after k m n h a.0, above_after k m fs h a.1)

there_later : (fs : Attributes) (n : Text) (v : Val) (es : Entries) → RequiredThere fs es
    → RequiredThere fs (entry n v es)
there_later no_more n v es h = tt
there_later (attribute m true t fs) n v es h = (inr h.0, there_later fs n v es h.1)
there_later (attribute m false t fs) n v es h = there_later fs n v es h

there_first : (m : Text) (r : Bool) (t : PlainType) (fs : Attributes) (v : Val) (es : Entries) → RequiredThere fs es
    → RequiredThere (attribute m r t fs) (entry m v es)
there_first m true t fs v es h = (inl refl, there_later fs m v es h)
there_first m false t fs v es h = there_later fs m v es h

module _ (Fits : Name → Text → Type 0) where
  -- what is at the name among the entries does not fit what the attributes say
  abbrev pub Here : Attributes → Entries → Text → Path → Cause → Type 0
  Here fs es n p c = NamedMisfit Fits fs n (entry_at n es) p c

  -- and nothing before it
  abbrev pub NamedFirst : Attributes → Entries → Named → Type 0
  NamedFirst fs es f = Here fs es f.0 f.1 f.2
      × ((k : Text) (q : Path) (d : Cause) → below k f.0 → Here fs es k q d → ⊥)
      × ((q : Path) (d : Cause) → PathBefore q f.1 → Here fs es f.0 q d → ⊥)

  abbrev pub NamedExact : Attributes → Entries → Option Named → Type 0
  NamedExact fs es found =
      MatchOption found (AllEntries (FieldHas Fits fs) es × RequiredThere fs es) (NamedFirst fs es)

  none_here : (n : Text) (fs : Attributes) (p : Path) (c : Cause) → AboveFields n fs → NamedMisfit Fits fs n None p c
      → ⊥
  none_here n no_more p c a h = h
  none_here n (attribute m r t fs) p c a (inl h) = other_above n m a.0 h.0
  none_here n (attribute m r t fs) p c a (inr h) = none_here n fs p c a.1 h.1

  unknown_here : (n : Text) (v : Val) (fs : Attributes) → AboveFields n fs
      → NamedMisfit Fits fs n (Some v) [] is_unknown
  unknown_here n v no_more a = (refl, refl)
  unknown_here n v (attribute m r t fs) a = inr (other_above n m a.0, unknown_here n v fs a.1)

  nothing_at : (k : Text) (fs : Attributes) (es : Entries) (q : Path) (d : Cause) → AboveFields k fs
      → AllEntries (λ m w. below k m) es → Here fs es k q d → ⊥
  nothing_at k fs es q d a all h = none_here k fs q d a
      (subst (λ x. NamedMisfit Fits fs k x q d) (nothing_below k es all) h)

  -- the first of the entries is of no attribute
  pub unknown_first : (fs : Attributes) (k : Text) (v : Val) (es : Entries) → AboveFields k fs
      → AllEntries (λ m w. below k m) es → NamedFirst fs (entry k v es) (k, [], is_unknown)
  unknown_first fs k v es a all = (
    subst (λ x. NamedMisfit Fits fs k x [] is_unknown) (sym (entry_here k v es)) (unknown_here k v fs a),
    λ j q d b g. nothing_at j fs (entry k v es) q d (above_after j k fs b a) (b, all_above j k es b all) g,
    λ q d b g. nothing_before q b,
  )

  -- what is first of the other attributes is first of all, where nothing is at this one
  module _ (m : Text) (r : Bool) (t : PlainType) (fs : Attributes) (all few : Entries) (other : (n : Text) → (m ≡ n → ⊥)
      → entry_at n all ≡ entry_at n few) (quiet : (q : Path) (d : Cause) → Here (attribute m r t fs) all m q d → ⊥)
      (calm : (q : Path) (d : Cause) → Here fs few m q d → ⊥) where
    down : (k : Text) (q : Path) (d : Cause) → (m ≡ k → ⊥) → Here (attribute m r t fs) all k q d → Here fs few k q d
    down k q d e (inl h) = absurd (e h.0)
    down k q d e (inr h) = subst (λ x. NamedMisfit Fits fs k x q d) (other k e) h.1

    no_less : (f : Named) → NamedFirst fs few f → (k : Text) (q : Path) (d : Cause) → below k f.0
        → Here (attribute m r t fs) all k q d → ⊥
    no_less f h k q d b g = go (same_or_other m k)
      where
        go : (m ≡ k) ⊎ (m ≡ k → ⊥) → ⊥
        go (inl e) = quiet q d (subst (λ x. Here (attribute m r t fs) all x q d) (sym e) g)
        go (inr e) = h.1 k q d b (down k q d e g)

    pub lifted : (f : Named) → NamedFirst fs few f → NamedFirst (attribute m r t fs) all f
    lifted f h =
        let e : m ≡ f.0 → ⊥ = λ e. calm f.1 f.2 (subst (λ x. Here fs few x f.1 f.2) (sym e) h.0) in (
          inr (e, subst (λ x. NamedMisfit Fits fs f.0 x f.1 f.2) (sym (other f.0 e)) h.0),
          no_less f h,
          λ q d b g. h.2 q d b (down f.0 q d e g),
        )

  module _ (fs : Attributes) (m : Text) (t : PlainType) (es : Entries) (above : AboveFields m fs)
      (all : AllEntries (λ k w. below m k) es) where
    required_first : NamedFirst (attribute m true t fs) es (m, [], is_required)
    required_first = (
      inl (
        refl,
        subst (λ x. AttributeMisfit (IsMisfit Fits t) true x [] is_required) (sym (nothing_below m es all))
            (refl, refl),
      ),
      λ j q d b g. nothing_at j (attribute m true t fs) es q d (b, above_after j m fs b above) (all_above j m es b all)
          g,
      λ q d b g. nothing_before q b,
    )

    may_lack : (q : Path) (d : Cause) → Here (attribute m false t fs) es m q d → ⊥
    may_lack q d (inl h) =
        let k : AttributeMisfit (IsMisfit Fits t) false None q d =
        subst (λ x. AttributeMisfit (IsMisfit Fits t) false x q d) (nothing_below m es all) h.1 in k
    may_lack q d (inr h) = h.0 refl

    skipped : (later : Option Named) → NamedExact fs es later → NamedExact (attribute m false t fs) es later
    skipped None h = (weaker (FieldHas Fits fs) (FieldHas Fits (attribute m false t fs)) (λ n w g. inr g) es h.0, h.1)
    skipped (Some f) h = lifted m false t fs es es (λ n e. refl) may_lack
        (λ q d g. nothing_at m fs es q d above all g) f h

    -- none of the entries is of the attribute
    pub absent_exact : (r : Bool) (later : Option Named) → NamedExact fs es later
        → NamedExact (attribute m r t fs) es (required_or r m later)
    absent_exact true later h = required_first
    absent_exact false later h = skipped later h

  module _ (fs : Attributes) (m : Text) (r : Bool) (t : PlainType) (v : Val) (es : Entries) (above : AboveFields m fs)
      (all : AllEntries (λ k w. below m k) es)
      (deny : (q : Path) (d : Cause) → IsMisfit Fits t v q d → Has Fits t v → ⊥) where
    at_it : (q : Path) (d : Cause) → Here (attribute m r t fs) (entry m v es) m q d → IsMisfit Fits t v q d
    at_it q d (inl h) =
        let k : AttributeMisfit (IsMisfit Fits t) r (Some v) q d =
        subst (λ x. AttributeMisfit (IsMisfit Fits t) r x q d) (entry_here m v es) h.1 in k
    at_it q d (inr h) = absurd (h.0 refl)

    -- the first of the entries is of the attribute
    pub present_exact : (found : Option Found) (later : Option Named) → Exact (Has Fits t v) (IsMisfit Fits t v) found
        → NamedExact fs es later
        → NamedExact (attribute m r t fs) (entry m v es)
        (or_else (option_map (λ g. with_name m g) found) later)
    present_exact None None h l = (
      (inl (refl, h), weaker (FieldHas Fits fs) (FieldHas Fits (attribute m r t fs)) (λ n w g. inr g) es l.0),
      there_first m r t fs v es l.1,
    )
    present_exact None (Some f) h l = lifted m r t fs (entry m v es) es (λ n e. entry_other n m v es e)
        (λ q d g. deny q d (at_it q d g) h) (λ q d g. nothing_at m fs es q d above all g) f l
    present_exact (Some g) later h l = (
      inl (refl, subst (λ x. AttributeMisfit (IsMisfit Fits t) r x g.0 g.1) (sym (entry_here m v es)) h.0),
      λ j q d b i. nothing_at j (attribute m r t fs) (entry m v es) q d (b, above_after j m fs b above)
          (b, all_above j m es b all) i,
      λ q d b i. h.1 q d b (at_it q d i),
    )

  -- the first entry k and the first attribute m
  pub by_order : (o : Ordering) (fs : Attributes) (m : Text) (r : Bool) (t : PlainType) (k : Text) (v : Val)
      (es : Entries)
      (found : Option Found) (later behind : Option Named) → text_cmp k m ≡ o → AboveFields m fs
      → Rises (entry k v es)
      → ((q : Path) (d : Cause) → IsMisfit Fits t v q d → Has Fits t v → ⊥)
      → Exact (Has Fits t v) (IsMisfit Fits t v) found → NamedExact fs es later → NamedExact fs (entry k v es) behind
      → NamedExact (attribute m r t fs) (entry k v es)
      (match_ordering o (Some (k, [], is_unknown)) (or_else (option_map (λ g. with_name m g) found) later)
      (required_or r m behind))
  by_order Less fs m r t k v es found later behind e above up deny h l s =
      unknown_first (attribute m r t fs) k v es (e, above_after k m fs e above) up.0
  by_order Equal fs m r t k v es found later behind e above up deny h l s =
      let same = text_exact k m e in
      subst (λ x. NamedExact (attribute m r t fs) (entry x v es)
      (or_else (option_map (λ g. with_name m g) found) later))
      (sym same) (present_exact fs m r t v es above (subst (λ x. AllEntries (λ n w. below x n) es) same up.0) deny
      found later h l)
  by_order Greater fs m r t k v es found later behind e above up deny h l s =
      absent_exact fs m t (entry k v es) above (
        turned_below k m e,
        all_above m k es (turned_below k m e)
            up.0,
      ) r behind s

  -- ---- records

  module _ (fs : Attributes) (f : Entries → Option Named)
      (exact : (es : Entries) → Rises es → NamedExact fs es (f es)) where
    before_named : (es : Entries) (g : Named) → Rises es → NamedFirst fs es g → (q : Path) (d : Cause)
        → PathBefore q (attr g.0 ∷ g.1) → EntriesMisfit (NamedMisfit Fits fs) es q d → ⊥
    before_named es g up h [] d b i = i.0 up
    before_named es g up h (member k ∷ q) d b i = i
    before_named es g up h (attr k ∷ q) d (inl b) i = h.1 k q d b i
    before_named es g up h (attr k ∷ q) d (inr b) i = h.2 q d b.1
        (subst (λ x. Here fs es x q d) (same_attr k g.0 b.0) i)

    in_order : (es : Entries) (found : Option Named) → Rises es → NamedExact fs es found
        → Exact (IsRec (FieldHas Fits fs) fs (values.Rec es)) (EntriesMisfit (NamedMisfit Fits fs) es)
        (option_map behind_name found)
    in_order es None up h = (up, h.0, h.1)
    in_order es (Some g) up h = (h.0, before_named es g up h)

    entries_exact : (es : Entries) (b : Bool) → rises es ≡ b
        → Exact (IsRec (FieldHas Fits fs) fs (values.Rec es)) (EntriesMisfit (NamedMisfit Fits fs) es)
        (in_order_or b (option_map behind_name (f es)))
    entries_exact es true e = in_order es (f es) (rising es e) (exact es (rising es e))
    entries_exact es false e = ((falling es e, refl), λ q d b g. nothing_before q b)

    pub record_exact : (v : Val)
        → Exact (IsRec (FieldHas Fits fs) fs v) (RecordMisfit (NamedMisfit Fits fs) v) (record_misfit f v)
    record_exact (values.Rec es) = entries_exact es (rises es) refl
    record_exact _ = ((refl, refl), λ q d b g. nothing_before q b)
