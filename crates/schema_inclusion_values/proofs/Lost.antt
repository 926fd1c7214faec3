-- What is lost between the parts of two meanings.
use Rattle.std.proofs.Common.{◌≡◌, Bool, true, false, cond, List, [], ◌∷◌, Option, Some, None, inl, inr, refl, sym}
use Rattle.std.proofs.Common.{subst}
use Rattle.std.specs.Prelude.{◌⊎◌, ◌||◌, ⊤, MatchOption, option_map}
use Rattle.std.specs.List.{AllByRecursion, list_any}
use Rattle.cedar_names.specs.Definitions.{same_name}
use Rattle.cedar_names.proofs.Defined.{equal_names, name_itself}
use Rattle.cedar_names.specs.Meaning.{PlainType, Attributes, no_more, attribute, SchemaMeaning}
use Rattle.schema_inclusion_values.specs.Values.{Text, Name, Val, Entries, no_entries, entry, AllEntries, Rises, IsRec}
use Rattle.schema_inclusion_values.specs.Values.{FieldHas, Has}
use Rattle.schema_inclusion_values.specs.Values as values
use Rattle.schema_inclusion_values.specs.Formed.{Distinct, DistinctFields, Formed, FormedFields}
use Rattle.schema_inclusion_values.specs.Ids.{AnyOf, Fits, IsNamed, HasChoices, some_id, lost_of, IsLostId}
use Rattle.schema_inclusion_values.specs.Admits.{HasTags, HasParents}
use Rattle.schema_inclusion_values.specs.Whole.{NamesAll, NamesEach, IsWholeType, IsWholeTag}
use Rattle.schema_inclusion_values.specs.Lost.{or_else, lost_member, entries_of, lost_type, lost_entries, one_tag}
use Rattle.schema_inclusion_values.specs.Lost.{lost_tags, lost_parent}
use Rattle.schema_inclusion_values.proofs.Values.{has_some}
use Rattle.schema_inclusion_values.proofs.Sound.{keeps}
use Rattle.schema_inclusion_values.proofs.Evidence.{shows}
use Rattle.schema_inclusion_values.proofs.Ids.{is_lost_id, some_id_fits}

-- nothing of A is no B, or this is one
abbrev pub Finds : {X : Type 0} → (X → Type 0) → (X → Type 0) → Option X → Type 0
Finds {X} A B found = MatchOption found ((x : X) → A x → B x) (λ x. A x × (B x → ⊥))

mutual
  pub formed : (m : SchemaMeaning) (t : PlainType) → HasChoices m → Distinct t → NamesAll m t
      → Formed (Fits m) (some_id m) t
  formed m PlainType.Bool full d h = tt
  formed m PlainType.Long full d h = tt
  formed m PlainType.String full d h = tt
  formed m (PlainType.Ext n) full d h = tt
  formed m (PlainType.Entity n) full d h = some_id_fits m n full h
  formed m (PlainType.Set t) full d h = formed m t full d h
  formed m (PlainType.Rec fs) full d h = formed_fields m fs full d h

  pub formed_fields : (m : SchemaMeaning) (fs : Attributes) → HasChoices m → DistinctFields fs → NamesEach m fs
      → FormedFields (Fits m) (some_id m) fs
  formed_fields m no_more full d h = tt
  formed_fields m (attribute n r t fs) full d h = (formed m t full d.0 h.0, d.1, formed_fields m fs full d.2 h.1)

rec_again : (P : Text → Val → Type 0) (fs : Attributes) (v : Val) → IsRec P fs v → values.Rec (entries_of v) ≡ v
rec_again P fs (values.Rec es) h = refl
rec_again P fs _ h = absurd h

abbrev is_entry : Entries → Type 0
is_entry no_entries = ⊥
is_entry (entry n v es) = ⊤

-- ---- members

module _ {A : Type 0} (same : A → A → Bool) (equal : (a b : A) → same a b ≡ true → a ≡ b) (itself : (a : A)
    → same a a ≡ true) where
  listed_at : (a x : A) (xs : List A) (b : Bool) → same a x ≡ b → (b || list_any (same a) xs) ≡ true
      → (list_any (same a) xs ≡ true → AnyOf (λ y. y ≡ a) xs) → (x ≡ a) ⊎ AnyOf (λ y. y ≡ a) xs
  listed_at a x xs true e h rest = inl (sym (equal a x e))
  listed_at a x xs false e h rest = inr (rest h)

  pub listed_any : (a : A) (xs : List A) → list_any (same a) xs ≡ true → AnyOf (λ y. y ≡ a) xs
  listed_any a [] h = absurd (cc)
  listed_any a (x ∷ xs) h = listed_at a x xs (same a x) refl h (listed_any a xs)

  any_at : (a x : A) (xs : List A) (b : Bool) → same a x ≡ b → (x ≡ a) ⊎ (list_any (same a) xs ≡ true)
      → (b || list_any (same a) xs) ≡ true
  any_at a x xs true e h = refl
  any_at a x xs false e (inl q) = let t = subst (λ y. same a y ≡ true) (sym q) (itself a) in cc
  any_at a x xs false e (inr h) = h

  pub any_listed : (a : A) (xs : List A) → AnyOf (λ y. y ≡ a) xs → list_any (same a) xs ≡ true
  any_listed a [] h = absurd h
  any_listed a (x ∷ xs) (inl q) = any_at a x xs (same a x) refl (inl q)
  any_listed a (x ∷ xs) (inr h) = any_at a x xs (same a x) refl (inr (any_listed a xs h))

  pub not_any : (a : A) (xs : List A) → list_any (same a) xs ≡ false → AnyOf (λ y. y ≡ a) xs → ⊥
  not_any a xs e h = let t = any_listed a xs h in cc

  abbrev Member : List A → A → Type 0
  Member xs a = AnyOf (λ y. y ≡ a) xs

  member_at : (a : A) (old new : List A) (b : Bool) (o : Option A) → list_any (same a) new ≡ b
      → Finds (Member old) (Member new) o
      → Finds (Member (a ∷ old)) (Member new) (cond (cond b false true) (Some a) o)
  member_at a old new true None e h = λ x g. go x g
    where
      go : (x : A) → (a ≡ x) ⊎ Member old x → Member new x
      go x (inl q) = subst (Member new) q (listed_any a new e)
      go x (inr g) = h x g
  member_at a old new true (Some x) e h = (inr h.0, h.1)
  member_at a old new false o e h = (inl refl, not_any a new e)

  pub member_lost : (old new : List A) → Finds (Member old) (Member new) (lost_member same old new)
  member_lost [] new = λ x g. absurd g
  member_lost (a ∷ old) new = member_at a old new (list_any (same a) new) (lost_member same old new) refl
      (member_lost old new)

module _ (old new : SchemaMeaning) (full : HasChoices old) where
  kept : (n : Name) → lost_of old new n ≡ None → (id : Text) → Fits old n id → Fits new n id
  kept n e = subst (IsLostId old new n) e (is_lost_id old new n)

  gone : (n : Name) (id : Text) → lost_of old new n ≡ Some id → Fits old n id × (Fits new n id → ⊥)
  gone n id e = subst (IsLostId old new n) e (is_lost_id old new n)

  found_type : (t u : PlainType) → Formed (Fits old) (some_id old) t → Distinct u → (o : Option Val)
      → lost_type old new t u ≡ o → Finds (Has (Fits old) t) (Has (Fits new) u) o
  found_type t u f d None e = keeps (Fits old) (Fits new) (some_id old) (lost_of old new) kept t u e
  found_type t u f d (Some v) e = shows (Fits old) (Fits new) (some_id old) (lost_of old new) gone t u f d v e

  -- every type of the old meaning has a value, and the check finds one that is lost, if there is one
  pub type_lost : (t u : PlainType) → IsWholeType old t → Distinct u
      → Finds (Has (Fits old) t) (Has (Fits new) u) (lost_type old new t u)
  type_lost t u w d = found_type t u (formed old t full w.0 w.1) d (lost_type old new t u) refl

  found_entries : (os ns : Attributes) (o : Option Val)
      → Finds (Has (Fits old) (PlainType.Rec os)) (Has (Fits new) (PlainType.Rec ns)) o
      → Finds (λ es. Has (Fits old) (PlainType.Rec os) (values.Rec es))
      (λ es. Has (Fits new) (PlainType.Rec ns) (values.Rec es)) (option_map entries_of o)
  found_entries os ns None h = λ es. h (values.Rec es)
  found_entries os ns (Some v) h = let again = rec_again (FieldHas (Fits old) os) os v h.0 in (
    subst (Has (Fits old) (PlainType.Rec os)) (sym again) h.0,
    λ g.
        h.1 (subst (Has (Fits new) (PlainType.Rec ns)) again g),
  )

  pub entries_lost : (os ns : Attributes) → IsWholeType old (PlainType.Rec os) → Distinct (PlainType.Rec ns)
      → Finds (λ es. Has (Fits old) (PlainType.Rec os) (values.Rec es))
      (λ es. Has (Fits new) (PlainType.Rec ns) (values.Rec es)) (lost_entries old new os ns)
  entries_lost os ns w d = found_entries os ns (lost_type old new (PlainType.Rec os) (PlainType.Rec ns))
      (type_lost (PlainType.Rec os) (PlainType.Rec ns) w d)

  -- ---- tags

  each_entry : (P Q : Text → Val → Type 0) → ((n : Text) (v : Val) → P n v → Q n v) → (es : Entries) → AllEntries P es
      → AllEntries Q es
  each_entry P Q f no_entries h = tt
  each_entry P Q f (entry n v es) h = (f n v h.0, each_entry P Q f es h.1)

  found_tag : (t u : PlainType) (o : Option Val) → Finds (Has (Fits old) t) (Has (Fits new) u) o
      → Finds (HasTags old (Some t)) (HasTags new (Some u)) (option_map one_tag o)
  found_tag t u None h = λ tags g. (g.0, each_entry _ _ (λ n v. h v) tags g.1)
  found_tag t u (Some v) h = (((tt, tt), (h.0, tt)), λ g. h.1 g.1.0)

  pub tags_lost : (t u : Option PlainType) → IsWholeTag old t → IsWholeTag new u
      → Finds (HasTags old t) (HasTags new u) (lost_tags old new t u)
  tags_lost None None w d = λ tags g. g
  tags_lost None (Some u) w d = λ tags g. subst (HasTags new (Some u)) (sym g) (tt, tt)
  tags_lost (Some t) None w d = (
    ((tt, tt), (has_some (Fits old) (some_id old) t (formed old t full w.0 w.1), tt)),
    λ g.
        subst is_entry g tt,
  )
  tags_lost (Some t) (Some u) w d = found_tag t u (lost_type old new t u) (type_lost t u w d.0)

  -- ---- parents

  abbrev HasParent : SchemaMeaning → List Name → Name × Text → Type 0
  HasParent m above p = AnyOf (λ a. a ≡ p.0) above × Fits m p.0 p.1

  parent_kept : (a : Name) (os ns : List Name) → AnyOf (λ x. x ≡ a) ns → lost_of old new a ≡ None → (p : Name × Text)
      → (a ≡ p.0) ⊎ AnyOf (λ x. x ≡ p.0) os → Fits old p.0 p.1
      → ((p : Name × Text) → HasParent old os p → HasParent new ns p) → HasParent new ns p
  parent_kept a os ns in_new e p (inl q) f rest = (
    subst (λ y. AnyOf (λ x. x ≡ y) ns) q in_new,
    kept p.0
        (subst (λ y. lost_of old new y ≡ None) q e) p.1 f,
  )
  parent_kept a os ns in_new e p (inr h) f rest = rest p (h, f)

  found_parent : (a : Name) (os ns : List Name) (l : Option Text) (o : Option (Name × Text)) → AnyOf (λ x. x ≡ a) ns
      → lost_of old new a ≡ l → Finds (HasParent old os) (HasParent new ns) o
      → Finds (HasParent old (a ∷ os)) (HasParent new ns) (or_else (option_map (λ id. (a, id)) l) o)
  found_parent a os ns None None in_new e h = λ p g. parent_kept a os ns in_new e p g.0 g.1 h
  found_parent a os ns None (Some p) in_new e h = ((inr h.0.0, h.0.1), h.1)
  found_parent a os ns (Some id) o in_new e h = ((inl refl, (gone a id e).0), λ g. (gone a id e).1 g.1)

  parent_at : (a : Name) (os ns : List Name) (b : Bool) (o : Option (Name × Text)) → list_any (same_name a) ns ≡ b
      → IsNamed old a → Finds (HasParent old os) (HasParent new ns) o
      → Finds (HasParent old (a ∷ os)) (HasParent new ns)
      (cond b (or_else (option_map (λ id. (a, id)) (lost_of old new a)) o) (Some (a, some_id old a)))
  parent_at a os ns true o e named h = found_parent a os ns (lost_of old new a) o
      (listed_any same_name equal_names name_itself a ns e) refl h
  parent_at a os ns false o e named h = (
    (inl refl, some_id_fits old a full named),
    λ g.
        not_any same_name equal_names name_itself a ns e g.0,
  )

  parent_lost : (os ns : List Name) → AllByRecursion (IsNamed old) os
      → Finds (HasParent old os) (HasParent new ns) (lost_parent old new os ns)
  parent_lost [] ns named = λ p g. absurd g.0
  parent_lost (a ∷ os) ns named = parent_at a os ns (list_any (same_name a) ns) (lost_parent old new os ns) refl named.0
      (parent_lost os ns named.1)

  each_of : {X : Type 0} (P Q : X → Type 0) → ((x : X) → P x → Q x) → (xs : List X) → AllByRecursion P xs
      → AllByRecursion Q xs
  each_of P Q f [] h = tt
  each_of P Q f (x ∷ xs) h = (f x h.0, each_of P Q f xs h.1)

  found_parents : (os ns : List Name) (o : Option (Name × Text)) → Finds (HasParent old os) (HasParent new ns) o
      → Finds (HasParents old os) (HasParents new ns) (option_map (λ p. p ∷ []) o)
  found_parents os ns None h = λ ps g. each_of (HasParent old os) (HasParent new ns) h ps g
  found_parents os ns (Some p) h = ((h.0, tt), λ g. h.1 g.0)

  pub parents_lost : (os ns : List Name) → AllByRecursion (IsNamed old) os
      → Finds (HasParents old os) (HasParents new ns) (option_map (λ p. p ∷ []) (lost_parent old new os ns))
  parents_lost os ns named = found_parents os ns (lost_parent old new os ns) (parent_lost os ns named)
