-- What is lost is a value of the old type, and no value of the new type.
use Rattle.std.proofs.Common.{◌≡◌, Bool, true, false, cond, Option, Some, None, inl, inr, refl, sym, subst}
use Rattle.std.specs.Prelude.{◌⊎◌, ◌&&◌, ◌||◌, option_map}
use Rattle.std.specs.Str.{bytes_eq}
use Rattle.cedar_names.specs.Definitions.{same_name}
use Rattle.cedar_names.proofs.Defined.{equal_names}
use Rattle.cedar_names.specs.Meaning.{PlainType, Attributes, no_more, attribute}
use Rattle.schema_inclusion_values.specs.Values.{Text, Name, Val, Vals, no_vals, val, Entries, no_entries, entry}
use Rattle.schema_inclusion_values.specs.Values.{AllEntries, IsThere, RequiredThere, below, Has, FieldHas}
use Rattle.schema_inclusion_values.specs.Values as values
use Rattle.schema_inclusion_values.specs.Checks.{some_value, some_entries, entries_with, is_required, all_required}
use Rattle.schema_inclusion_values.specs.Checks.{or_more, lost_record, lost_at, lost_value, lost_fields}
use Rattle.schema_inclusion_values.specs.Formed.{AboveFields, Distinct, DistinctFields, Formed, FormedFields}
use Rattle.schema_inclusion_values.proofs.Values.{same, apart, names_apart, not_below_itself, Typed, picked, picks_some}
use Rattle.schema_inclusion_values.proofs.Values.{picks_with, has_some}

some_inj : {A : Type 0} (a b : A) → Some a ≡ Some b → a ≡ b
some_inj a b e = cc

abbrev pub In : Text → PlainType → Attributes → Type 0
In m t no_more = ⊥
In m t (attribute n r u fs) = ((n ≡ m) × (u ≡ t)) ⊎ In m t fs

in_above : (n m : Text) (t : PlainType) (fs : Attributes) → AboveFields n fs → In m t fs → below n m
in_above n m t no_more h i = absurd i
in_above n m t (attribute k r u fs) h (inl e) = subst (λ x. below n x) e.0 h.0
in_above n m t (attribute k r u fs) h (inr i) = in_above n m t fs h.1 i

module _ (Old New : Name → Text → Type 0) (id_of : Name → Text) (lost : Name
    → Option Text) (gone : (n : Name) (id : Text) → lost n ≡ Some id → Old n id × (New n id → ⊥)) where
  typed_none : (n : Text) (v : Val) (fs : Attributes) → AboveFields n fs → Typed Old id_of n v fs
  typed_none n v no_more h = tt
  typed_none n v (attribute m r t fs) h =
      (λ e. absurd (not_below_itself n (subst (λ x. below n x) e h.0)), typed_none n v fs h.1)

  typed_in : (m : Text) (t : PlainType) (v : Val) (fs : Attributes) → FormedFields Old id_of fs → In m t fs
      → Has Old t v → Typed Old id_of m v fs
  typed_in m t v no_more h i has = absurd i
  typed_in m t v (attribute n r u fs) h (inl e) has = (
    λ _. subst (λ x. Has Old x v) (sym e.1) has,
    typed_none m v fs
        (subst (λ x. AboveFields x fs) e.0 h.1),
  )
  typed_in m t v (attribute n r u fs) h (inr i) has = (
    λ e. absurd (not_below_itself m (subst (λ x. below x m) e (in_above n m t fs h.1 i))),
    typed_in m t v fs h.2 i
        has,
  )

  past : (P : Text → Val → Type 0) (n : Text) (s : Val) (r : Bool) (es : Entries)
      → AllEntries P (cond r (entry n s es) es) → AllEntries P es
  past P n s true es h = h.1
  past P n s false es h = h

  entry_at : (P : Text → Val → Type 0) (m : Text) (t : PlainType) (w s : Val) (n : Text) (r : Bool) (u : PlainType)
      (fs : Attributes) (es : Entries) (b : Bool) → bytes_eq n m ≡ b → In m t (attribute n r u fs)
      → (In m t fs → AllEntries P es → P m w) → AllEntries P (cond b (entry n w es) (cond r (entry n s es) es)) → P m w
  entry_at P m t w s n r u fs es true e i rest h = subst (λ x. P x w) (same n m e) h.0
  entry_at P m t w s n r u fs es false e (inl i) rest h = absurd (apart n m e i.0)
  entry_at P m t w s n r u fs es false e (inr i) rest h = rest i (past P n s r es h)

  entry_of : (P : Text → Val → Type 0) (m : Text) (t : PlainType) (w : Val) (fs : Attributes) → In m t fs
      → AllEntries P (entries_with id_of m w fs) → P m w
  entry_of P m t w no_more i h = absurd i
  entry_of P m t w (attribute n r u fs) i h = entry_at P m t w (some_value id_of u) n r u fs _ (bytes_eq n m) refl i
      (entry_of P m t w fs) h

  -- ---- a attribute

  not_above : (n : Text) (w : Val) (ns : Attributes) → AboveFields n ns → FieldHas New ns n w → ⊥
  not_above n w no_more a h = h
  not_above n w (attribute m r u ns) a (inl h) = not_below_itself n (subst (λ x. below n x) h.0 a.0)
  not_above n w (attribute m r u ns) a (inr h) = not_above n w ns a.1 h

  module _ (f : PlainType → Option Val) (s w : Val) (m : Text) where
    refused_at : (n : Text) (r : Bool) (u : PlainType) (ns : Attributes) (b : Bool) → bytes_eq m n ≡ b
        → cond b (f u) (lost_at id_of lost f s m ns) ≡ Some w → DistinctFields (attribute n r u ns)
        → ((x : PlainType) → f x ≡ Some w → Distinct x → Has New x w → ⊥)
        → (lost_at id_of lost f s m ns ≡ Some w → FieldHas New ns m w → ⊥) → FieldHas New (attribute n r u ns) m w → ⊥
    refused_at n r u ns true e q d deny rest (inl h) = deny u q d.0 h.1
    refused_at n r u ns true e q d deny rest (inr h) = not_above n w ns d.1
        (subst (λ x. FieldHas New ns x w) (same m n e) h)
    refused_at n r u ns false e q d deny rest (inl h) = apart m n e (sym h.0)
    refused_at n r u ns false e q d deny rest (inr h) = rest q h

    refused : (ns : Attributes) → lost_at id_of lost f s m ns ≡ Some w → DistinctFields ns
        → ((x : PlainType) → f x ≡ Some w → Distinct x → Has New x w → ⊥) → FieldHas New ns m w → ⊥
    refused no_more q d deny h = h
    refused (attribute n r u ns) q d deny h = refused_at n r u ns (bytes_eq m n) refl q d deny
        (λ p. refused ns p d.2 deny) h

    had_at : (P : Val → Type 0) (u : PlainType) (ns : Attributes) (b : Bool)
        → cond b (f u) (lost_at id_of lost f s m ns) ≡ Some w → Distinct u
        → ((x : PlainType) → f x ≡ Some w → Distinct x → P w) → (lost_at id_of lost f s m ns ≡ Some w → P w) → P w
    had_at P u ns true q d give rest = give u q d
    had_at P u ns false q d give rest = rest q

    had_old : (P : Val → Type 0) (ns : Attributes) → lost_at id_of lost f s m ns ≡ Some w → DistinctFields ns → P s
        → ((x : PlainType) → f x ≡ Some w → Distinct x → P w) → P w
    had_old P no_more q d some give = subst P (some_inj _ _ q) some
    had_old P (attribute n r u ns) q d some give = had_at P u ns (bytes_eq m n) q d.0 give
        (λ p. had_old P ns p d.2 some give)

  -- ---- required fields

  not_there_at : (n m : Text) (r b : Bool) (s : Val) (fs : Attributes) → bytes_eq m n ≡ b
      → ((b && r) || is_required n fs) ≡ false → (is_required n fs ≡ false → IsThere n (some_entries id_of fs) → ⊥)
      → IsThere n (cond r (entry m s (some_entries id_of fs)) (some_entries id_of fs)) → ⊥
  not_there_at n m true true s fs e q rest h = absurd (cc)
  not_there_at n m true false s fs e q rest (inl h) = apart m n e h
  not_there_at n m true false s fs e q rest (inr h) = rest q h
  not_there_at n m false true s fs e q rest h = rest q h
  not_there_at n m false false s fs e q rest h = rest q h

  not_there : (n : Text) (fs : Attributes) → is_required n fs ≡ false → IsThere n (some_entries id_of fs) → ⊥
  not_there n no_more q h = h
  not_there n (attribute m r t fs) q h = not_there_at n m r (bytes_eq m n) (some_value id_of t) fs refl q
      (not_there n fs) h

  lacks_at : (os : Attributes) (n : Text) (b : Bool) (ns : Attributes) → is_required n os ≡ b
      → cond b (all_required os ns) false ≡ false
      → (all_required os ns ≡ false → RequiredThere ns (some_entries id_of os) → ⊥)
      → IsThere n (some_entries id_of os) × RequiredThere ns (some_entries id_of os) → ⊥
  lacks_at os n true ns q e rest h = rest e h.1
  lacks_at os n false ns q e rest h = not_there n os q h.0

  lacks : (os ns : Attributes) → all_required os ns ≡ false → RequiredThere ns (some_entries id_of os) → ⊥
  lacks os no_more e h = absurd (cc)
  lacks os (attribute n true u ns) e h = lacks_at os n (is_required n os) ns refl e (lacks os ns) h
  lacks os (attribute n false u ns) e h = lacks os ns e h

  -- ---- types

  abbrev pub Shows : PlainType → PlainType → Val → Type 0
  Shows t u v = Has Old t v × (Has New u v → ⊥)

  shows_ext : (m n : Text) (v : Val) (b : Bool) → bytes_eq m n ≡ b → cond b None (Some (values.Ext m)) ≡ Some v
      → Shows (PlainType.Ext m) (PlainType.Ext n) v
  shows_ext m n v true e q = absurd (cc)
  shows_ext m n v false e q = subst (Shows (PlainType.Ext m) (PlainType.Ext n)) (some_inj _ _ q) (refl, apart m n e)

  shows_kept : (m n : Name) (v : Val) → m ≡ n → (o : Option Text) → lost m ≡ o → option_map (λ id. values.Ref m id) o
      ≡ Some v → Shows (PlainType.Entity m) (PlainType.Entity n) v
  shows_kept m n v e None l q = absurd (cc)
  shows_kept m n v e (Some id) l q = subst (Shows (PlainType.Entity m) (PlainType.Entity n)) (some_inj _ _ q)
      ((refl, (gone m id l).0), λ h. (gone m id l).1 (subst (λ x. New x id) (sym e) h.1))

  shows_entity : (m n : Name) (v : Val) (b : Bool) → same_name m n ≡ b → Old m (id_of m)
      → cond b (option_map (λ id. values.Ref m id) (lost m)) (Some (values.Ref m (id_of m))) ≡ Some v
      → Shows (PlainType.Entity m) (PlainType.Entity n) v
  shows_entity m n v true e f q = shows_kept m n v (equal_names m n e) (lost m) refl q
  shows_entity m n v false e f q = subst (Shows (PlainType.Entity m) (PlainType.Entity n)) (some_inj _ _ q)
      ((refl, f), λ h. names_apart m n e h.0)

  shows_set : (t u : PlainType) (v : Val) (o : Option Val) → ((w : Val) → o ≡ Some w → Shows t u w)
      → option_map (λ w. values.Set (val w no_vals)) o ≡ Some v → Shows (PlainType.Set t) (PlainType.Set u) v
  shows_set t u v None ih q = absurd (cc)
  shows_set t u v (Some w) ih q = subst (Shows (PlainType.Set t) (PlainType.Set u)) (some_inj _ _ q)
      (((ih w refl).0, tt), λ h. (ih w refl).1 h.0)

  -- a record of the old fields that the new fields do not have
  abbrev Lost : Attributes → Attributes → Val → Type 0
  Lost all ns v = (es : Entries) × (values.Rec es ≡ v) × Has Old (PlainType.Rec all) (values.Rec es)
      × (AllEntries (FieldHas New ns) es → ⊥)

  shows_record : (os ns : Attributes) (v : Val) (b : Bool) (o : Option Val) → FormedFields Old id_of os
      → all_required os ns ≡ b → (o ≡ Some v → Lost os ns v) → lost_record id_of lost os b o ≡ Some v
      → Shows (PlainType.Rec os) (PlainType.Rec ns) v
  shows_record os ns v true o f e found q = let l = found q in subst (Shows (PlainType.Rec os) (PlainType.Rec ns)) l.1
      (l.2, λ h. l.3 h.1)
  shows_record os ns v false o f e found q = subst (Shows (PlainType.Rec os) (PlainType.Rec ns)) (some_inj _ _ q)
      (picked Old id_of os (some_entries id_of os) f (picks_some Old id_of os f), λ h. lacks os ns e h.2)

  one_or_more : (all ns : Attributes) (m : Text) (v : Val) (o p : Option Val)
      → ((w : Val) → o ≡ Some w → Lost all ns (values.Rec (entries_with id_of m w all))) → (p ≡ Some v → Lost all ns v)
      → or_more id_of lost (option_map (λ w. values.Rec (entries_with id_of m w all)) o) p ≡ Some v → Lost all ns v
  one_or_more all ns m v None p here later q = later q
  one_or_more all ns m v (Some w) p here later q = subst (Lost all ns) (some_inj _ _ q) (here w refl)

  mutual
    pub shows : (t u : PlainType) → Formed Old id_of t → Distinct u → (v : Val) → lost_value id_of lost t u ≡ Some v
        → Has Old t v × (Has New u v → ⊥)
    shows PlainType.Bool PlainType.Bool f d v q = absurd (cc)
    shows PlainType.Long PlainType.Long f d v q = absurd (cc)
    shows PlainType.String PlainType.String f d v q = absurd (cc)
    shows (PlainType.Ext m) (PlainType.Ext n) f d v q = shows_ext m n v (bytes_eq m n) refl q
    shows (PlainType.Entity m) (PlainType.Entity n) f d v q = shows_entity m n v (same_name m n) refl f q
    shows (PlainType.Set t) (PlainType.Set u) f d v q = shows_set t u v (lost_value id_of lost t u)
        (λ w e. shows t u f d w e) q
    shows (PlainType.Rec os) (PlainType.Rec ns) f d v q = shows_record os ns v (all_required os ns)
        (lost_fields id_of lost os os ns) f refl (fields_show os os ns f f (λ m t i. i) d v) q
    shows t u f d v q = subst (λ w. Has Old t w × (Has New u w → ⊥)) (some_inj _ _ q) (has_some Old id_of t f, λ h. h)

    fields_show : (all os ns : Attributes) → FormedFields Old id_of all → FormedFields Old id_of os
        → ((m : Text) (t : PlainType) → In m t os → In m t all) → DistinctFields ns → (v : Val)
        → lost_fields id_of lost all os ns ≡ Some v → Lost all ns v
    fields_show all no_more ns f g sub d v q = absurd (cc)
    fields_show all (attribute m r t os) ns f g sub d v q =
        one_or_more all ns m v (lost_at id_of lost (lost_value id_of lost t) (some_value id_of t) m ns)
        (lost_fields id_of lost all os ns)
        (λ w e.
        let inside = sub m t (inl (refl, refl)) in
        let has : Has Old t w = had_old (lost_value id_of lost t) (some_value id_of t) w m (Has Old t) ns e d
        (has_some Old id_of t g.0) (λ x p y. (shows t x g.0 y w p).0) in (
          entries_with id_of m w all,
          refl,
          picked Old id_of all (entries_with id_of m w all) f
              (picks_with Old id_of m w all f (typed_in m t w all f inside has)),
          λ h. refused (lost_value id_of lost t) (some_value id_of t) w m ns e d (λ x p y. (shows t x g.0 y w p).1)
              (entry_of (FieldHas New ns) m t w all inside h),
        ))
        (fields_show all os ns f g.2 (λ n x i. sub n x (inr i)) d v) q
