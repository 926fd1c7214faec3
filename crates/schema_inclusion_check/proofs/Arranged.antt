-- What is first lost is about the same, in whatever order the lists of a meaning stand.
use Rattle.std.proofs.Common.{◌≡◌, ℕ, Bool, true, false, cond, ◌||◌, List, [], ◌∷◌, map, Option, Some, None}
use Rattle.std.proofs.Common.{inl, inr, refl, sym, ap, ◌∙◌, subst}
use Rattle.std.specs.Prelude.{◌⊎◌, option_map}
use Rattle.std.specs.List.{list_any, find}
use Rattle.std.specs.Ordering.{ordering_reverse}
use Rattle.std.specs.Cmp.Lexicographic.{slice_cmp}
use Rattle.std.specs.declared.cmp.Ordering.{Ordering}
use Rattle.std.specs.declared.cmp.Ordering.TheVariants.{Less, Equal, Greater}
use Rattle.cedar_data.specs.Text.{text_cmp}
use Rattle.cedar_data.proofs.Orders.{then_equal, text_exact, texts_exact}
use Rattle.cedar_names.specs.CanonicalText.{in_order}
use Rattle.cedar_names.specs.Definitions.{same_name}
use Rattle.cedar_names.specs.Meaning.{PlainType, Attributes, EntityMeaning, ActionMeaning, SchemaMeaning}
use Rattle.schema_inclusion_values.specs.Values.{Text, Name, Entries}
use Rattle.schema_inclusion_values.specs.Ids.{AnyOf, with_ids, entity_ids, action_ids, all_ids, first_id, some_id}
use Rattle.schema_inclusion_values.specs.Ids.{lost_id, lost_of}
use Rattle.schema_inclusion_values.specs.Admits.{Action, EntityValue, RequestValue, ActionIn, SchemaValue, an_entity}
use Rattle.schema_inclusion_values.specs.Admits.{a_request, an_action}
use Rattle.schema_inclusion_values.specs.Admits.{action_order, IsInclusion}
use Rattle.schema_inclusion_values.specs.Lost.{or_else, first_of_each, first_refused, with_id, lost_entries, lost_tags}
use Rattle.schema_inclusion_values.specs.Lost.{lost_parent, lost_entity_between, lost_entity_to, lost_entity, lost}
use Rattle.schema_inclusion_values.specs.Lost.{lost_request, lost_action, entries_of, one_tag}
use Rattle.schema_inclusion_values.specs.Checks.{some_value, lost_value}
use Rattle.schema_inclusion_values.proofs.Requests.{action_total}
use Rattle.schema_inclusion_types.proofs.Ties.{names_decide, same_test}
use Rattle.schema_inclusion_check.specs.Ordered.{entity_in_order, action_in_order, meaning_in_order}
use Rattle.schema_inclusion_check.specs.Subjects.{subject, of_entity, of_request, of_action}
use Rattle.schema_inclusion_check.proofs.Keyed.{find_map}
use Rattle.schema_inclusion_check.proofs.Membership.{names_in, names_out}

-- ---- ids

entity_ids_same : (ty : Name) (es : List EntityMeaning) → entity_ids ty (map entity_in_order es) ≡ entity_ids ty es
entity_ids_same ty [] = refl
entity_ids_same ty (e ∷ es) = ap (λ ids. cond (same_name e.name ty) (with_ids e.choices ids) ids)
    (entity_ids_same ty es)

action_ids_same : (ty : Name) (xs : List ActionMeaning) → action_ids ty (map action_in_order xs) ≡ action_ids ty xs
action_ids_same ty [] = refl
action_ids_same ty (a ∷ xs) = ap (λ ids. cond (same_name a.ty ty) (a.id ∷ ids) ids) (action_ids_same ty xs)

ids_same : (m : SchemaMeaning) (ty : Name) → all_ids (meaning_in_order m) ty ≡ all_ids m ty
ids_same m ty = λ i. with_ids (entity_ids_same ty m.entities i) (Some (action_ids_same ty m.actions i))

some_same : (m : SchemaMeaning) → some_id (meaning_in_order m) ≡ some_id m
some_same m = λ i ty. first_id (ids_same m ty i)

lost_same : (m n : SchemaMeaning) → lost_of (meaning_in_order m) (meaning_in_order n) ≡ lost_of m n
lost_same m n = λ i ty. lost_id (ids_same m ty i) (ids_same n ty i)

-- ---- parents

any_to : (p : Name → Bool) (ns : List Name) → list_any p ns ≡ true → AnyOf (λ a. p a ≡ true) ns
any_to p [] h = absurd (cc)
any_to p (n ∷ ns) h = by (any_to p ns) (p n) refl h
  where
    by : (list_any p ns ≡ true → AnyOf (λ a. p a ≡ true) ns) → (b : Bool) → p n ≡ b → (b || list_any p ns) ≡ true
        → (p n ≡ true) ⊎ AnyOf (λ a. p a ≡ true) ns
    by more true e h = inl e
    by more false e h = inr (more h)

any_from : (p : Name → Bool) (ns : List Name) → AnyOf (λ a. p a ≡ true) ns → list_any p ns ≡ true
any_from p [] h = absurd h
any_from p (n ∷ ns) (inl e) = ap (λ b. b || list_any p ns) e
any_from p (n ∷ ns) (inr h) = by (p n) (any_from p ns h)
  where
    by : (b : Bool) → list_any p ns ≡ true → (b || list_any p ns) ≡ true
    by true e = refl
    by false e = e

any_same : (p : Name → Bool) (ns : List Name) → list_any p (in_order ns) ≡ list_any p ns
any_same p ns = same_test (list_any p (in_order ns)) (list_any p ns)
    (λ h. any_from p ns (names_out (λ a. p a ≡ true) ns (any_to p (in_order ns) h)))
    (λ h. any_from p (in_order ns) (names_in (λ a. p a ≡ true) ns (any_to p ns h)))

abbrev is_some : {A : Type 0} → Option A → Bool
is_some None = false
is_some (Some a) = true

abbrev is_gone : (Name → Option Text) → List Name → Name → Bool
is_gone gone ns a = cond (list_any (same_name a) ns) (is_some (gone a)) true

-- a parent is lost where one is gone
parent_gone : (m n : SchemaMeaning) (os ns : List Name)
    → is_some (lost_parent m n os ns) ≡ list_any (is_gone (lost_of m n) ns) os
parent_gone m n [] ns = refl
parent_gone m n (a ∷ os) ns = by (list_any (same_name a) ns) (lost_of m n a) (parent_gone m n os ns)
  where
    by : (b : Bool) (o : Option Text)
        → is_some (lost_parent m n os ns) ≡ list_any (is_gone (lost_of m n) ns) os
        → is_some (cond b (or_else (option_map (λ id. (a, id)) o) (lost_parent m n os ns)) (Some (a, some_id m a)))
        ≡ (cond b (is_some o) true || list_any (is_gone (lost_of m n) ns) os)
    by true None rest = rest
    by true (Some id) rest = refl
    by false o rest = refl

some_alike : {A B C : Type 0} (c : C) (o : Option A) (p : Option B) → is_some o ≡ is_some p
    → option_map (λ x. c) o ≡ option_map (λ x. c) p
some_alike c None None e = refl
some_alike c None (Some b) e = absurd (cc)
some_alike c (Some a) None e = absurd (cc)
some_alike c (Some a) (Some b) e = refl

-- ---- the entity of a value that is lost

abbrev key : EntityValue → Name × Text
key x = (x.ty, x.id)

or_map : {A B : Type 0} (f : A → B) (o p : Option A)
    → option_map f (or_else o p) ≡ or_else (option_map f o) (option_map f p)
or_map f None p = refl
or_map f (Some a) p = refl

abbrev keys : Name → Text → Option Text → Option Entries → Option Entries → Option (Name × Text) → Option Text
    → Option (Name × Text)
keys ty d f a t p i = or_else (option_map (λ id. (ty, id)) f) (or_else (option_map (λ x. (ty, d)) a)
    (or_else (option_map (λ x. (ty, d)) t) (or_else (option_map (λ x. (ty, d)) p) (option_map (λ id. (ty, id)) i))))

module _ (m n : SchemaMeaning) (o : EntityMeaning) where
  abbrev first : Text
  first = first_id o.choices

  chain : (f : Option Text) (a t : Option Entries) (p : Option (Name × Text)) (i : Option Text)
      → option_map key (or_else (option_map (λ id. with_id m n o id) f)
      (or_else (option_map (λ es. record (with_id m n o first) { attributes = es }) a)
      (or_else (option_map (λ es. record (with_id m n o first) { tags = es }) t)
      (or_else (option_map (λ p. record (with_id m n o first) { parents = p ∷ [] }) p)
      (option_map (λ id. with_id m n o id) i)))))
      ≡ keys o.name first f a t p i
  chain (Some id) a t p i = refl
  chain None (Some es) t p i = refl
  chain None None (Some es) p i = refl
  chain None None None (Some p) i = refl
  chain None None None None (Some id) = refl
  chain None None None None None = refl

  key_between : (k : EntityMeaning) → option_map key (lost_entity_between m n o k)
      ≡ keys o.name first (first_refused first k.choices) (lost_entries m n o.attributes k.attributes)
      (lost_tags m n o.tags k.tags) (lost_parent m n o.ancestors k.ancestors) (lost_id o.choices k.choices)
  key_between k = chain (first_refused first k.choices) (lost_entries m n o.attributes k.attributes)
      (lost_tags m n o.tags k.tags) (lost_parent m n o.ancestors k.ancestors) (lost_id o.choices k.choices)

module _ (m n : SchemaMeaning) where
  abbrev mo : SchemaMeaning
  mo = meaning_in_order m

  abbrev no : SchemaMeaning
  no = meaning_in_order n

  entries_same : (os ns : Attributes) → lost_entries mo no os ns ≡ lost_entries m n os ns
  entries_same os ns = λ i. by (some_same m i) (lost_same m n i)
    where
      by : (Name → Text) → (Name → Option Text) → Option Entries
      by some gone = option_map entries_of (lost_value some gone (PlainType.Rec os) (PlainType.Rec ns))

  tags_same : (t u : Option PlainType) → lost_tags mo no t u ≡ lost_tags m n t u
  tags_same None u = refl
  tags_same (Some t) None = λ i. Some (one_tag (some_value (some_same m i) t))
  tags_same (Some t) (Some u) = λ i. option_map one_tag (lost_value (some_same m i) (lost_same m n i) t u)

  parents_same : {C : Type 0} (c : C) (os ns : List Name)
      → option_map (λ x. c) (lost_parent mo no (in_order os) (in_order ns))
      ≡ option_map (λ x. c) (lost_parent m n os ns)
  parents_same c os ns = some_alike c (lost_parent mo no (in_order os) (in_order ns)) (lost_parent m n os ns)
      (parent_gone mo no (in_order os) (in_order ns)
      ∙ ((λ i. list_any (λ a. cond (any_same (same_name a) ns i) (is_some (lost_same m n i a)) true) (in_order os))
      ∙ (any_same (is_gone (lost_of m n) ns) os ∙ sym (parent_gone m n os ns))))

  between_same : (o k : EntityMeaning)
      → option_map key (lost_entity_between mo no (entity_in_order o) (entity_in_order k))
      ≡ option_map key (lost_entity_between m n o k)
  between_same o k =
      let d = first_id o.choices in
      key_between mo no (entity_in_order o) (entity_in_order k)
      ∙ ((λ i. or_else (option_map (λ id. (o.name, id)) (first_refused d k.choices))
      (or_else (option_map (λ x. (o.name, d)) (entries_same o.attributes k.attributes i))
      (or_else (option_map (λ x. (o.name, d)) (tags_same o.tags k.tags i))
      (or_else (parents_same (o.name, d) o.ancestors k.ancestors i)
      (option_map (λ id. (o.name, id)) (lost_id o.choices k.choices))))))
      ∙ sym (key_between m n o k))

  to_same : (o : EntityMeaning) (found : Option EntityMeaning)
      → option_map key (lost_entity_to mo no (entity_in_order o) (option_map entity_in_order found))
      ≡ option_map key (lost_entity_to m n o found)
  to_same o None = refl
  to_same o (Some k) = by k.is_external
    where
      by : (b : Bool) → option_map key (cond b (Some (with_id mo no (entity_in_order o) (first_id o.choices)))
          (lost_entity_between mo no (entity_in_order o) (entity_in_order k)))
          ≡ option_map key (cond b (Some (with_id m n o (first_id o.choices))) (lost_entity_between m n o k))
      by true = refl
      by false = between_same o k

  entity_same : (o : EntityMeaning) → option_map key (lost_entity mo no (entity_in_order o))
      ≡ option_map key (lost_entity m n o)
  entity_same o = by o.is_external (find (λ e. same_name e.name o.name) no.entities)
      (find (λ e. same_name e.name o.name) n.entities)
      (sym (find_map entity_in_order (λ e. same_name e.name o.name) (λ e. same_name e.name o.name) (λ e. refl)
      n.entities))
    where
      by : (b : Bool) (f g : Option EntityMeaning) → f ≡ option_map entity_in_order g
          → option_map key (cond b None (lost_entity_to mo no (entity_in_order o) f))
          ≡ option_map key (cond b None (lost_entity_to m n o g))
      by true f g e = refl
      by false f g e = ap (λ x. option_map key (lost_entity_to mo no (entity_in_order o) x)) e ∙ to_same o g

  entities_same : (es : List EntityMeaning)
      → option_map key (first_of_each (lost_entity mo no) (map entity_in_order es))
      ≡ option_map key (first_of_each (lost_entity m n) es)
  entities_same [] = refl
  entities_same (e ∷ es) =
      or_map key (lost_entity mo no (entity_in_order e)) (first_of_each (lost_entity mo no) (map entity_in_order es))
      ∙ ((λ i. or_else (entity_same e i) (entities_same es i))
      ∙ sym (or_map key (lost_entity m n e) (first_of_each (lost_entity m n) es)))

-- ---- the value that is first lost

abbrev entity_of : Option SchemaValue → Option (Name × Text)
entity_of None = None
entity_of (Some (an_entity x)) = Some (key x)
entity_of (Some (a_request x)) = None
entity_of (Some (an_action x)) = None

entity_lost : (m n : SchemaMeaning) → entity_of (lost m n) ≡ option_map key (first_of_each (lost_entity m n) m.entities)
entity_lost m n = by (first_of_each (lost_entity m n) m.entities) (first_of_each (lost_request m n) m.actions)
    (first_of_each (lost_action m n) m.actions)
  where
    by : (e : Option EntityValue) (r : Option RequestValue) (a : Option ActionIn)
        → entity_of (or_else (option_map an_entity e) (or_else (option_map a_request r) (option_map an_action a)))
        ≡ option_map key e
    by (Some x) r a = refl
    by None (Some x) a = refl
    by None None (Some x) = refl
    by None None None = refl

actions_equal : (a b : Action) → action_order a b ≡ Equal → a ≡ b
actions_equal a b e =
    let both = then_equal (slice_cmp text_cmp a.0 b.0) (text_cmp a.1 b.1) e in
    λ i. (texts_exact a.0 b.0 both.0 i, text_exact a.1 b.1 both.1 i)

neither_less : (a b : Action) → (action_order a b ≡ Less → ⊥) → (action_order b a ≡ Less → ⊥) → a ≡ b
neither_less a b f g = by (action_order a b) refl
  where
    by : (o : Ordering) → action_order a b ≡ o → a ≡ b
    by Less e = absurd (f e)
    by Equal e = actions_equal a b e
    by Greater e = absurd (g (action_total.antisymm b a ∙ ap ordering_reverse e))

some_equal : {A : Type 0} (a b : A) → Some a ≡ Some b → a ≡ b
some_equal a b e = cc

-- two values that are first lost are about the same, where they are about the same entity if about one
subject_same : (old new : SchemaMeaning) (x y : Option SchemaValue) → IsInclusion old new x → IsInclusion old new y
    → entity_of x ≡ entity_of y → option_map subject x ≡ option_map subject y
subject_same old new None None h k e = refl
subject_same old new None (Some y) h k e = absurd (k.0.1 (h y k.0.0))
subject_same old new (Some x) None h k e = absurd (h.0.1 (k x h.0.0))
subject_same old new (Some (an_entity x)) (Some (an_entity y)) h k e =
    ap (λ s. Some (of_entity s)) (some_equal (key x) (key y) e)
subject_same old new (Some (an_entity x)) (Some (a_request y)) h k e = absurd (k.1 (an_entity x) tt h.0)
subject_same old new (Some (an_entity x)) (Some (an_action y)) h k e = absurd (k.1 (an_entity x) tt h.0)
subject_same old new (Some (a_request x)) (Some (an_entity y)) h k e = absurd (h.1 (an_entity y) tt k.0)
subject_same old new (Some (a_request x)) (Some (a_request y)) h k e =
    ap (λ s. Some (of_request s)) (neither_less x.action y.action (λ less. k.1 (a_request x) less h.0)
    (λ less. h.1 (a_request y) less k.0))
subject_same old new (Some (a_request x)) (Some (an_action y)) h k e = absurd (k.1 (a_request x) tt h.0)
subject_same old new (Some (an_action x)) (Some (an_entity y)) h k e = absurd (h.1 (an_entity y) tt k.0)
subject_same old new (Some (an_action x)) (Some (a_request y)) h k e = absurd (h.1 (a_request y) tt k.0)
subject_same old new (Some (an_action x)) (Some (an_action y)) h k e =
    ap (λ s. Some (of_action s)) (neither_less x.action y.action (λ less. k.1 (an_action x) less h.0)
    (λ less. h.1 (an_action y) less k.0))

pub about_the_same : (m n : SchemaMeaning)
    → IsInclusion (meaning_in_order m) (meaning_in_order n) (lost m n)
    → IsInclusion (meaning_in_order m) (meaning_in_order n) (lost (meaning_in_order m) (meaning_in_order n))
    → option_map subject (lost m n) ≡ option_map subject (lost (meaning_in_order m) (meaning_in_order n))
about_the_same m n h k =
    let old = meaning_in_order m in
    let new = meaning_in_order n in
    subject_same old new (lost m n) (lost old new) h k
    (entity_lost m n ∙ (sym (entities_same m n m.entities) ∙ sym (entity_lost old new)))
