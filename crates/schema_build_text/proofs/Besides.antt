-- What stands beside the first action at or behind it in the walk, and holds the type, is what is captured.
use Rattle.std.proofs.Common.{◌≡◌, ℕ, Bool, true, false, ◌&&◌, ◌||◌, ◌==◌, length, List, [], ◌∷◌, ◌++◌, map}
use Rattle.std.proofs.Common.{cond, refl, ap, sym, ◌∙◌, subst, append_assoc, Option, Some, None}
use Rattle.std.proofs.Common.{if◌then◌else◌}
use Rattle.std.specs.Prelude.{MatchOption}
use Rattle.std.specs.Cmp.{first_so}
use Rattle.std.specs.Cmp.Lexicographic.{slice_cmp}
use Rattle.std.specs.List.{filter, flat_map, list_any, AllByRecursion}
use Rattle.std.specs.declared.cmp.Ordering.TheVariants.{Less}
use Rattle.std.specs.List.Sorted.{IsStrictlySortedBy}
use Rattle.std.proofs.lemmas.List.Elements.{filter-append}
use Rattle.cedar_data.specs.Text.{text_cmp}
use Rattle.cedar_data.proofs.Orders.{texts_total}
use Rattle.cedar_identifiers.specs.Names.{components_of, texts_of}
use Rattle.cedar_identifiers.specs.declared.id.Id.{Id}
use Rattle.cedar_identifiers.specs.declared.internal_name.InternalName.{InternalName}
use Rattle.cedar_names.specs.CanonicalText.{namespace}
use Rattle.cedar_names.specs.Definitions.{same_name}
use Rattle.cedar_names.proofs.Defined.{equal_names}
use Rattle.schema_build_errors.specs.declared.captured.ReferenceCaptured.{ReferenceCaptured}
use Rattle.schema_build_types.specs.Content.{EntityContent, ActionContent, SchemaContent}
use Rattle.schema_build_text.specs.Beside.{first_action, is_beside, is_captured_by, captured_before}
use Rattle.schema_build_text.specs.Captured.{item_holds, has_action, captured_in, captured_items, first_item, IsAbout}
use Rattle.schema_build_text.specs.Captured.{IsFirstOf}
use Rattle.schema_build_text.specs.Rows.{sorted_once}
use Rattle.schema_build_text.specs.Walk.{ItemContent, entity_type, action, namespace_of, items_of, items_in, walk}
use Rattle.schema_build_text.proofs.Grouped.{rises_sorted}
use Rattle.schema_build_text.proofs.Rowed.{in_order_is}
use Rattle.schema_build_text.proofs.Walked.{AreIn, apart, same_self, within}

abbrev Name : Type 0
Name = List (List ℕ)

-- the items of a namespace
abbrev is_in : Name → ItemContent → Bool
is_in n x = same_name n (namespace_of x)

abbrev held : Bool → ItemContent → Bool
held b x = b && item_holds x

put : (b : Bool) (x : ItemContent) (front behind all : List ItemContent) → all ≡ front ++ behind
    → (if b then x ∷ all else all) ≡ cond b (x ∷ front) front ++ behind
put true x front behind all e = ap (λ l. x ∷ l) e
put false x front behind all e = e

none_held : (xs : List ItemContent) → filter (held false) xs ≡ []
none_held [] = refl
none_held (x ∷ xs) = none_held xs

-- the first action behind entity types
action_behind : (n : Name) (es : List EntityContent) (rest : List ItemContent)
    → first_action (filter (is_in n) (map entity_type es) ++ rest) ≡ first_action rest
action_behind n [] rest = refl
action_behind n (e ∷ es) rest = by (action_behind n es rest) (is_in n (entity_type e))
  where
    by : first_action (filter (is_in n) (map entity_type es) ++ rest) ≡ first_action rest → (b : Bool)
        → first_action (cond b (entity_type e ∷ filter (is_in n) (map entity_type es))
        (filter (is_in n) (map entity_type es)) ++ rest) ≡ first_action rest
    by more true = more
    by more false = more

entities_part : (n : Name) (es : List EntityContent) (rest : List ItemContent)
    → captured_before (filter (is_in n) (map entity_type es) ++ rest)
    ≡ filter (held (is_beside (first_action rest) n)) (filter (is_in n) (map entity_type es)) ++ captured_before rest
entities_part n [] rest = refl
entities_part n (e ∷ es) rest = by (entities_part n es rest) (is_in n (entity_type e)) refl
  where
    by : captured_before (filter (is_in n) (map entity_type es) ++ rest)
        ≡ filter (held (is_beside (first_action rest) n)) (filter (is_in n) (map entity_type es))
        ++ captured_before rest
        → (b : Bool) → is_in n (entity_type e) ≡ b
        → captured_before (cond b (entity_type e ∷ filter (is_in n) (map entity_type es))
        (filter (is_in n) (map entity_type es)) ++ rest)
        ≡ filter (held (is_beside (first_action rest) n))
        (cond b (entity_type e ∷ filter (is_in n) (map entity_type es)) (filter (is_in n) (map entity_type es)))
        ++ captured_before rest
    by more true h =
        let x = entity_type e in
        let all = captured_before (filter (is_in n) (map entity_type es) ++ rest) in
        ap (λ m. if (is_beside m (namespace e.name) && item_holds x) then x ∷ all else all) (action_behind n es rest)
        ∙ (ap (λ k. if (is_beside (first_action rest) k && item_holds x) then x ∷ all else all)
        (sym (equal_names n (namespace e.name) h))
        ∙ put (held (is_beside (first_action rest) n) x) x
        (filter (held (is_beside (first_action rest) n)) (filter (is_in n) (map entity_type es)))
        (captured_before rest) all more)
    by more false h = more

actions_part : (n : Name) (us : List ActionContent) (rest : List ItemContent)
    → captured_before (filter (is_in n) (map action us) ++ rest)
    ≡ filter (held (is_beside (Some n) n)) (filter (is_in n) (map action us)) ++ captured_before rest
actions_part n [] rest = refl
actions_part n (u ∷ us) rest = by (actions_part n us rest) (is_in n (action u)) refl
  where
    by : captured_before (filter (is_in n) (map action us) ++ rest)
        ≡ filter (held (is_beside (Some n) n)) (filter (is_in n) (map action us)) ++ captured_before rest
        → (b : Bool) → is_in n (action u) ≡ b
        → captured_before (cond b (action u ∷ filter (is_in n) (map action us))
        (filter (is_in n) (map action us)) ++ rest)
        ≡ filter (held (is_beside (Some n) n))
        (cond b (action u ∷ filter (is_in n) (map action us)) (filter (is_in n) (map action us)))
        ++ captured_before rest
    by more true h =
        let x = action u in
        let all = captured_before (filter (is_in n) (map action us) ++ rest) in
        ap (λ k. if (is_beside (Some k) k && item_holds x) then x ∷ all else all)
        (sym (equal_names n (namespace u.ty) h))
        ∙ put (held (is_beside (Some n) n) x) x
        (filter (held (is_beside (Some n) n)) (filter (is_in n) (map action us))) (captured_before rest) all more
    by more false h = more

-- behind the entity types of a namespace stands an action of it where it has one
beside_actions : (k : List ℕ) (ks : Name) (us : List ActionContent) (rest : List ItemContent)
    → is_beside (first_action rest) (k ∷ ks) ≡ false
    → is_beside (first_action (filter (is_in (k ∷ ks)) (map action us) ++ rest)) (k ∷ ks)
    ≡ list_any (λ a. same_name (k ∷ ks) (namespace a.ty)) us
beside_actions k ks [] rest h = h
beside_actions k ks (u ∷ us) rest h = by (beside_actions k ks us rest h) (is_in (k ∷ ks) (action u)) refl
  where
    by : is_beside (first_action (filter (is_in (k ∷ ks)) (map action us) ++ rest)) (k ∷ ks)
        ≡ list_any (λ a. same_name (k ∷ ks) (namespace a.ty)) us
        → (b : Bool) → is_in (k ∷ ks) (action u) ≡ b
        → is_beside (first_action (cond b (action u ∷ filter (is_in (k ∷ ks)) (map action us))
        (filter (is_in (k ∷ ks)) (map action us)) ++ rest)) (k ∷ ks)
        ≡ (b || list_any (λ a. same_name (k ∷ ks) (namespace a.ty)) us)
    by more true e = e
    by more false e = more

no_actions : (n : Name) (us : List ActionContent) → list_any (λ a. same_name n (namespace a.ty)) us ≡ false
    → filter (is_in n) (map action us) ≡ []
no_actions n [] h = refl
no_actions n (u ∷ us) h = by (no_actions n us) (is_in n (action u)) h
  where
    by : (list_any (λ a. same_name n (namespace a.ty)) us ≡ false → filter (is_in n) (map action us) ≡ []) → (b : Bool)
        → (b || list_any (λ a. same_name n (namespace a.ty)) us) ≡ false
        → cond b (action u ∷ filter (is_in n) (map action us)) (filter (is_in n) (map action us)) ≡ []
    by more true h = absurd (cc)
    by more false h = more h

module _ (c : SchemaContent) where
  abbrev own_entities : Name → List ItemContent
  own_entities n = filter (is_in n) (map entity_type c.entities)

  abbrev own_actions : Name → List ItemContent
  own_actions n = filter (is_in n) (map action c.actions)

  items_are : (n : Name) → items_in c n ≡ own_entities n ++ own_actions n
  items_are n = filter-append (is_in n) (map entity_type c.entities) (map action c.actions)

  both_parts : (n : Name) (rest : List ItemContent) → is_beside (first_action rest) n ≡ false
      → filter (held (is_beside (first_action (own_actions n ++ rest)) n)) (own_entities n)
      ++ (filter (held (is_beside (Some n) n)) (own_actions n) ++ captured_before rest)
      ≡ captured_in c n ++ captured_before rest
  both_parts [] rest h = λ i. none_held (own_entities []) i ++ (none_held (own_actions []) i ++ captured_before rest)
  both_parts (k ∷ ks) rest h =
      ap (λ b. filter (held b) (own_entities (k ∷ ks))
      ++ (filter (held (is_beside (Some (k ∷ ks)) (k ∷ ks))) (own_actions (k ∷ ks)) ++ captured_before rest))
      (beside_actions k ks c.actions rest h)
      ∙ (ap (λ b. filter (held (has_action c (k ∷ ks))) (own_entities (k ∷ ks))
      ++ (filter (held b) (own_actions (k ∷ ks)) ++ captured_before rest)) (same_self (k ∷ ks))
      ∙ by (has_action c (k ∷ ks)) refl)
    where
      by : (b : Bool) → has_action c (k ∷ ks) ≡ b
          → filter (held b) (own_entities (k ∷ ks))
          ++ (filter item_holds (own_actions (k ∷ ks)) ++ captured_before rest)
          ≡ (if b then filter item_holds (items_in c (k ∷ ks)) else []) ++ captured_before rest
      by true e =
          sym (append_assoc (filter item_holds (own_entities (k ∷ ks))) (filter item_holds (own_actions (k ∷ ks)))
          (captured_before rest))
          ∙ ap (λ l. l ++ captured_before rest)
          (sym (filter-append item_holds (own_entities (k ∷ ks)) (own_actions (k ∷ ks)))
          ∙ ap (filter item_holds) (sym (items_are (k ∷ ks))))
      by false e = λ i. none_held (own_entities (k ∷ ks)) i
          ++ (filter item_holds (no_actions (k ∷ ks) c.actions e i) ++ captured_before rest)

  group_captured : (n : Name) (rest : List ItemContent) → is_beside (first_action rest) n ≡ false
      → captured_before (items_in c n ++ rest) ≡ captured_in c n ++ captured_before rest
  group_captured n rest h =
      ap (λ l. captured_before (l ++ rest)) (items_are n)
      ∙ (ap captured_before (append_assoc (own_entities n) (own_actions n) rest)
      ∙ (entities_part n c.entities (own_actions n ++ rest)
      ∙ (ap (λ l. filter (held (is_beside (first_action (own_actions n ++ rest)) n)) (own_entities n) ++ l)
      (actions_part n c.actions rest)
      ∙ both_parts n rest h)))

not_beside : (n k : Name) → same_name n k ≡ false → is_beside (Some k) n ≡ false
not_beside [] k h = refl
not_beside (m ∷ ms) k h = h

pub beside_nothing : (n : Name) → is_beside None n ≡ false
beside_nothing [] = refl
beside_nothing (m ∷ ms) = refl

-- the items of another namespace
past : (n k : Name) (zs rest : List ItemContent) → AreIn k zs → same_name n k ≡ false
    → is_beside (first_action rest) n ≡ false → is_beside (first_action (zs ++ rest)) n ≡ false
past n k [] rest a d h = h
past n k (entity_type e ∷ zs) rest a d h = past n k zs rest a.1 d h
past n k (action u ∷ zs) rest a d h = ap (λ m. is_beside (Some m) n) a.0 ∙ not_beside n k d

above : (c : SchemaContent) (n : Name) (ns : List Name) → AllByRecursion (λ k. slice_cmp text_cmp n k ≡ Less) ns
    → is_beside (first_action (flat_map (items_in c) ns)) n ≡ false
above c n [] b = beside_nothing n
above c n (k ∷ ks) b =
    past n k (items_in c k) (flat_map (items_in c) ks) (within k (items_of c)) (apart n k b.0) (above c n ks b.1)

groups_captured : (c : SchemaContent) (ns : List Name) → IsStrictlySortedBy (slice_cmp text_cmp) ns
    → captured_before (flat_map (items_in c) ns) ≡ flat_map (captured_in c) ns
unfolding IsStrictlySortedBy
groups_captured c [] r = refl
groups_captured c (n ∷ ns) r =
    group_captured c n (flat_map (items_in c) ns) (above c n ns r.0)
    ∙ ap (λ l. captured_in c n ++ l) (groups_captured c ns r.1)

pub walk_captured : (c : SchemaContent) → captured_before (walk c) ≡ captured_items c
walk_captured c =
    subst (λ l. captured_before (flat_map (items_in c) l) ≡ flat_map (captured_in c) l)
    (sym (in_order_is (map namespace_of (items_of c))))
    (groups_captured c (sorted_once (slice_cmp text_cmp) (map namespace_of (items_of c)))
    (rises_sorted texts_total (map namespace_of (items_of c))))

-- what is captured is of a namespace with a name
first_named : (zs : List ItemContent) (x : ItemContent) → first_item (captured_before zs) ≡ Some x
    → namespace_of x ≡ [] → ⊥
first_named [] x e h = absurd (cc)
first_named (z ∷ zs) x e h = by (first_named zs x) (is_captured_by (first_action (z ∷ zs)) z) refl e
  where
    by : (first_item (captured_before zs) ≡ Some x → namespace_of x ≡ [] → ⊥) → (b : Bool)
        → is_captured_by (first_action (z ∷ zs)) z ≡ b
        → first_item (if b then z ∷ captured_before zs else captured_before zs) ≡ Some x → ⊥
    by more true q f =
        let same : z ≡ x = cc in
        let beside = first_so (is_beside (first_action (z ∷ zs)) (namespace_of z)) (item_holds z) q in
        let clash : false ≡ true = ap (is_beside (first_action (z ∷ zs))) (sym (ap namespace_of same ∙ h)) ∙ beside in
        absurd (cc)
    by more false q f = more f h

pub captured_named : (c : SchemaContent) (x : ItemContent) → Some x ≡ first_item (captured_items c)
    → namespace_of x ≡ [] → ⊥
captured_named c x e h = first_named (walk c) x (ap first_item (walk_captured c) ∙ sym e) h

pub about_first : (found : Option ReferenceCaptured) (x : ItemContent) (zs : List ItemContent) → Some x ≡ first_item zs
    → (namespace_of x ≡ [] → ⊥) → MatchOption found (namespace_of x ≡ []) (IsAbout x)
    → MatchOption found (zs ≡ []) (IsFirstOf zs)
about_first None x zs e never h = absurd (never h)
about_first (Some captured) x [] e never h = absurd (cc)
about_first (Some captured) x (z ∷ zs) e never h = let same : x ≡ z = cc in subst (λ y. IsAbout y captured) same h

-- an item whose namespace has a name
beside_named : (name : InternalName) (m : Name) → (length name.others == 0) ≡ false
    → is_beside (Some m) (namespace (components_of name)) ≡ same_name (namespace (components_of name)) m
beside_named name m = by name.others
  where
    by : (os : List Id) → (length os == 0) ≡ false
        → is_beside (Some m) (namespace (name.first.text ∷ texts_of os))
        ≡ same_name (namespace (name.first.text ∷ texts_of os)) m
    by [] h = absurd (cc)
    by (o ∷ os) h = refl

pub told_beside : (x : ItemContent) (name : InternalName) (m : Name) (b : Bool)
    → namespace_of x ≡ namespace (components_of name) → (length name.others == 0) ≡ false
    → b ≡ same_name (namespace (components_of name)) m → is_captured_by (Some m) x ≡ (b && item_holds x)
told_beside x name m b e h f =
    ap (λ t. t && item_holds x) (ap (is_beside (Some m)) e ∙ (beside_named name m h ∙ sym f))
