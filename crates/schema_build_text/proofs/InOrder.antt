-- Items that are sorted by their namespaces, equal ones as they stood, stand in the order of the walk.
use Rattle.std.proofs.Common.{◌≡◌, ℕ, Bool, List, [], ◌∷◌, ◌++◌, map, cond, true, false, refl, ap, sym, ◌∙◌}
use Rattle.std.specs.Ordering.{is_eq, is_lt}
use Rattle.std.specs.Cmp.Lexicographic.{slice_cmp}
use Rattle.std.specs.List.{filter, flat_map}
use Rattle.std.specs.List.Sorted.{IsPermutation, IsSortedBy, IsStableBy}
use Rattle.std.proofs.lemmas.List.{map-append}
use Rattle.cedar_data.specs.Text.{text_cmp}
use Rattle.cedar_data.proofs.Lists.{map-map}
use Rattle.cedar_data.proofs.Orders.{texts_total}
use Rattle.cedar_identifiers.specs.Names.{components_of}
use Rattle.cedar_identifiers.specs.declared.internal_name.InternalName.{InternalName}
use Rattle.cedar_identifiers.specs.declared.name.Name.{Name}
use Rattle.cedar_names.specs.CanonicalText.{namespace}
use Rattle.cedar_names.specs.Definitions.{same_name}
use Rattle.cedar_names.specs.declared.entity_uid.EntityUID.{EntityUID}
use Rattle.schema_build_types.specs.Content.{SchemaContent, entity_content, action_content}
use Rattle.schema_build_types.specs.declared.entity_type.ValidatorEntityType.{ValidatorEntityType}
use Rattle.schema_build_types.specs.declared.entity_type.ValidatorEntityTypeKind.{ValidatorEntityTypeKind}
use Rattle.schema_build_types.specs.declared.entity_type.ValidatorEntityTypeKind.TheVariants as kind
use Rattle.schema_build_types.specs.declared.action.ValidatorActionId.{ValidatorActionId}
use Rattle.schema_build_types.specs.declared.action.ValidatorActionKind.{ValidatorActionKind}
use Rattle.schema_build_types.specs.declared.action.ValidatorActionKind.TheVariants as action
use Rattle.schema_build_text.specs.declared.items.Item.{Item}
use Rattle.schema_build_text.specs.declared.items.Item.TheVariants as lent
use Rattle.schema_build_text.specs.Items.{item_content}
use Rattle.schema_build_text.specs.Walk.{ItemContent, namespace_of, items_of, items_in, walk}
use Rattle.schema_build_text.specs.Rows.{sorted_once}
use Rattle.schema_build_text.proofs.Grouped.{grouped}
use Rattle.schema_build_text.proofs.Named.{namespaces_tie}
use Rattle.schema_build_text.proofs.Rowed.{in_order_is}

pub entity_named : (n : Name) (t : ValidatorEntityType) → (entity_content (n, t)).name ≡ components_of n.name
entity_named n t = by t.kind
  where
    by : (k : ValidatorEntityTypeKind)
        → (entity_content (n, record { ancestors = t.ancestors; kind = k })).name ≡ components_of n.name
    by (kind.Standard attributes more tags) = refl
    by (kind.Enum choices) = refl
    by kind.External = refl

pub action_named : (u : EntityUID) (t : ValidatorActionId) → (action_content (u, t)).ty ≡ components_of u.ty.name
action_named u t = by t.kind
  where
    by : (k : ValidatorActionKind)
        → (action_content (u, record { ancestors = t.ancestors; kind = k })).ty ≡ components_of u.ty.name
    by (action.Defined principals resources context) = refl
    by action.External = refl

-- the namespace of an item
abbrev pub key : Item → List (List ℕ)
key x = namespace_of (item_content x)

keyed : (x : Item) → (n : InternalName) × (key x ≡ namespace (components_of n))
keyed (lent.EntityType name ty) = (name.now.name, ap namespace (entity_named name.now ty.now))
keyed (lent.Action uid a) = (uid.now.ty.name, ap namespace (action_named uid.now a.now))

tie : (x y : Item) → same_name (key x) (key y) ≡ is_eq (slice_cmp text_cmp (key x) (key y))
tie x y =
    let p = keyed x in
    let q = keyed y in
    (λ i. same_name (p.1 i) (q.1 i)) ∙ (namespaces_tie p.0 q.0 ∙ sym (λ i. is_eq (slice_cmp text_cmp (p.1 i) (q.1 i))))

map_flat : {X A B : Type 0} (f : A → B) (g : X → List A) (xs : List X)
    → map f (flat_map g xs) ≡ flat_map (λ x. map f (g x)) xs
map_flat f g [] = refl
map_flat f g (x ∷ xs) = map-append f (g x) (flat_map g xs) ∙ ap (λ l. map f (g x) ++ l) (map_flat f g xs)

map_filter : {A B : Type 0} (f : A → B) (p : B → Bool) (xs : List A)
    → map f (filter (λ x. p (f x)) xs) ≡ filter p (map f xs)
map_filter f p [] = refl
map_filter f p (x ∷ xs) = by (map_filter f p xs) (p (f x))
  where
    by : map f (filter (λ x. p (f x)) xs) ≡ filter p (map f xs) → (b : Bool)
        → map f (cond b (x ∷ filter (λ x. p (f x)) xs) (filter (λ x. p (f x)) xs))
        ≡ cond b (f x ∷ filter p (map f xs)) (filter p (map f xs))
    by more true = ap (λ l. f x ∷ l) more
    by more false = more

-- one is below another where its namespace is
abbrev pub is_below : Item → Item → Bool
is_below x y = is_lt (slice_cmp text_cmp (key x) (key y))

pub in_walk_order : (c : SchemaContent) (xs ys : List Item) → map item_content xs ≡ items_of c → IsPermutation xs ys
    → IsSortedBy is_below ys → IsStableBy is_below xs ys → map item_content ys ≡ walk c
in_walk_order c xs ys e perm up stable =
    let ns = sorted_once (slice_cmp text_cmp) (map key xs) in
    let of = λ (n : List (List ℕ)) (x : ItemContent). same_name n (namespace_of x) in
    ap (map item_content) (grouped texts_total key same_name tie xs ys perm up stable)
    ∙ (map_flat item_content (λ n. filter (λ x. same_name n (key x)) xs) ns
    ∙ ((λ i. flat_map (λ n. (map_filter item_content (of n) xs ∙ ap (filter (of n)) e) i) ns)
    ∙ ap (flat_map (items_in c)) (ap (sorted_once (slice_cmp text_cmp))
    (sym (map-map namespace_of item_content xs) ∙ ap (map namespace_of) e)
    ∙ sym (in_order_is (map namespace_of (items_of c))))))
