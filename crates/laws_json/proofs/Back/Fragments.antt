-- What is written of sayable namespaces and fragments reads back.
use Rattle.std.proofs.Common.{◌≡◌, ℕ, ◌<◌, List, [], ◌∷◌, length, map, Option, Some, None}
use Rattle.std.proofs.Common.{arith}
use Rattle.std.proofs.Common.{refl, sym, ap, ◌∙◌, subst}
use Rattle.std.specs.Prelude.{codes, option_map}
use Rattle.std.specs.Cmp.Lexicographic.{slice_cmp, lists_total}
use Rattle.std.specs.List.{AllByRecursion}
use Rattle.std.specs.Str.{encode_utf8_all}
use Rattle.std.specs.declared.cmp.Ordering.TheVariants.{Less, Equal, Greater}
use Rattle.std.proofs.lemmas.Str.{chars-encodes}
use Rattle.serde_json.specs.Data.{Data, object, Members, no_members}
use Rattle.cedar_data.specs.Text.{text_cmp}
use Rattle.cedar_data.proofs.Orders.{text_total}
use Rattle.cedar_identifiers.specs.Names.{components_of}
use Rattle.cedar_identifiers.specs.declared.any_id.AnyId.{AnyId}
use Rattle.cedar_identifiers.specs.declared.name.Name.{Name}
use Rattle.cedar_identifiers.specs.declared.name_kind.NameKind.TheVariants as kind
use Rattle.cedar_identifiers.specs.declared.raw_name.RawName.{RawName}
use Rattle.cedar_identifiers.specs.declared.unreserved_id.UnreservedId.{UnreservedId}
use Rattle.cedar_identifiers.proofs.Unique.{one_name}
use Rattle.schema_json.specs.declared.common_type.CommonType.{CommonType}
use Rattle.schema_json.specs.declared.common_type.CommonTypeId.{CommonTypeId}
use Rattle.schema_json.specs.declared.entity_type.EntityType.{EntityType}
use Rattle.schema_json.specs.declared.action_type.ActionType.{ActionType}
use Rattle.schema_json.specs.declared.fragment.Fragment.{Fragment}
use Rattle.schema_json.specs.declared.fragment.NamespaceDefinition.{NamespaceDefinition}
use Rattle.schema_json.specs.Orders.{unreserved_cmp, common_cmp, namespace_cmp}
use Rattle.schema_json.specs.AsWritten.{as_written}
use Rattle.schema_json_values.specs.TypeValues.{object_of}
use Rattle.schema_json_values.specs.FragmentValues.{with_optional_value, with_object, common_entry, entity_entry}
use Rattle.schema_json_values.specs.FragmentValues.{action_entry}
use Rattle.schema_json_values.specs.FragmentValues.{namespace_value, namespace_entry, namespace_bytes, json_value}
use Rattle.schema_json_shapes.specs.declared.name_role.NameRole.TheVariants as role
use Rattle.schema_json_shapes.specs.declared.words.TypeSite.TheVariants.{Common}
use Rattle.schema_json_shapes.specs.Tables.{namespace_fields}
use Rattle.schema_json_shapes.specs.Walk.{Demand, unless, is_name, AllMet, demands, member_demands, object_demands}
use Rattle.schema_json_shapes.specs.Walk.{key_demands, fits_table, fragment, namespace, namespace_member, common_types}
use Rattle.schema_json_shapes.specs.Walk.{entity_types, entity_type, actions, action, typed, empty_annotated, annotated}
use Rattle.schema_json_shapes.specs.Walk.{or_next, namespace_key_demands}
use Rattle.schema_json_shapes.specs.Reads.{field_demands}
use Rattle.schema_json_shapes.specs.Said.{IsId, IsText, IsMap, IsMapOrNone}
use Rattle.schema_json_shapes.specs.Shapes.{IsCommonId, IsCommonType, IsEntityType, IsAction}
use Rattle.schema_json_shapes.specs.Shapes.{IsNamespaceKey, IsNamespace, JsonShape}
use Rattle.schema_json_shapes.proofs.Demands.{both_met}
use Rattle.schema_json_shapes.proofs.NamespaceOrder.{key_says}
use Rattle.laws_json.proofs.Current.NamesRead.{id_reads}
use Rattle.laws_translate.specs.BareFragments.{bare_declared, bare_entries, bare_common, bare_entity, bare_action}
use Rattle.laws_translate.specs.BareFragments.{bare_namespace, bare_fragment}
use Rattle.laws_json.specs.Back.Sayable as is_sayable
use Rattle.laws_json.proofs.Back.Fields.{Fields, made, get_made, known_field, fits, fit_field, made_met, Known}
use Rattle.laws_json.proofs.Back.Placed.{RisesBy, rises_from, all_met, says_map}
use Rattle.laws_json.proofs.Back.Names.{declared_reads, name_some, flipped, ids_apart, texts_apart}
use Rattle.laws_json.proofs.Back.Names.{not_less}
use Rattle.laws_json.proofs.Back.Notes.{notes_field, notes_value, notes_met}
use Rattle.laws_json.proofs.Back.Types.{components}
use Rattle.laws_json.proofs.Back.Entities.{notes_found, common_says, common_met, entity_met, entity_says}
use Rattle.laws_json.proofs.Back.Actions.{action_says, action_met}

abbrev CommonEntry : Type 0
CommonEntry = CommonTypeId × CommonType RawName

abbrev EntityEntry : Type 0
EntityEntry = UnreservedId × EntityType RawName

abbrev ActionEntry : Type 0
ActionEntry = List ℕ × ActionType RawName as_written

abbrev Space : Type 0
Space = NamespaceDefinition RawName as_written

-- ---- common types

commons_say : (es : List CommonEntry) → AllByRecursion (λ e. is_sayable.IsSayableCommon e.0 e.1) es
    → AllByRecursion (λ e. IsCommonId (common_entry components e).0 e.0
    × IsCommonType (common_entry components e).1 (bare_common e.1)) es
commons_say [] h = tt
commons_say (e ∷ es) h = ((id_reads e.0.id, common_says e.0 e.1 h.0), commons_say es h.1)

commons_keep : (es : List CommonEntry) → AllByRecursion (λ e. is_sayable.IsSayableCommon e.0 e.1) es
    → AllByRecursion (λ e. AllMet (key_demands common_types (common_entry components e).0)
    × AllMet (demands (typed Common) (common_entry components e).0 (common_entry components e).1)) es
commons_keep [] h = tt
commons_keep (e ∷ es) h = (
  ((((e.0.id.id.text ∷ []), id_reads e.0.id), (h.0.free, tt)), common_met e.0.id.id.text e.0 e.1 h.0),
  commons_keep es h.1,
)

abbrev commons_field : List CommonEntry → Option Data
commons_field [] = None
commons_field (e ∷ es) = Some (object_of (map (common_entry components) (e ∷ es)))

commons_value : (es : List CommonEntry) (ms : Members)
    → with_object (codes "commonTypes") (map (common_entry components) es) ms
    ≡ with_optional_value (codes "commonTypes") (commons_field es) ms
commons_value [] ms = refl
commons_value (e ∷ es) ms = refl

abbrev bare_commons : List CommonEntry → List CommonEntry
bare_commons es = bare_entries {K = CommonTypeId} (λ id. id) bare_common es

commons_map : (es : List CommonEntry) → RisesBy (λ x y. common_cmp x.0 y.0) es
    → AllByRecursion (λ e. is_sayable.IsSayableCommon e.0 e.1) es
    → IsMap common_cmp IsCommonId IsCommonType (object_of (map (common_entry components) es)) (bare_commons es)
commons_map es r h =
    says_map IsCommonId IsCommonType common_cmp
    (λ x y. flipped text_cmp text_total x.id.id.text y.id.id.text) (λ s x y. ids_apart s x.id y.id)
    (common_entry components) (λ e. let p : CommonEntry = (e.0, bare_common e.1) in p) es r (commons_say es h)

commons_found : (es : List CommonEntry) → RisesBy (λ x y. common_cmp x.0 y.0) es
    → AllByRecursion (λ e. is_sayable.IsSayableCommon e.0 e.1) es
    → IsMapOrNone common_cmp IsCommonId IsCommonType (or_next (commons_field es) None) (bare_commons es)
commons_found [] r h = refl
commons_found (e ∷ es) r h = commons_map (e ∷ es) r h

commons_met : (label : List ℕ) (es : List CommonEntry) → AllByRecursion (λ e. is_sayable.IsSayableCommon e.0 e.1) es
    → AllMet (field_demands common_types label (commons_field es))
commons_met label [] h = tt
commons_met label (e ∷ es) h =
    all_met (key_demands common_types) (λ k. typed Common) (common_entry components) (e ∷ es) no_members
    (commons_keep (e ∷ es) h) tt

-- ---- entity types

entities_say : (es : List EntityEntry) → AllByRecursion (λ e. is_sayable.IsSayableEntity e.1) es
    → AllByRecursion (λ e. IsId (entity_entry components e).0 e.0
    × IsEntityType (entity_entry components e).1 (bare_entity e.1)) es
entities_say [] h = tt
entities_say (e ∷ es) h = ((id_reads e.0, entity_says e.1 h.0), entities_say es h.1)

entities_keep : (es : List EntityEntry) → AllByRecursion (λ e. is_sayable.IsSayableEntity e.1) es
    → AllByRecursion (λ e. AllMet (key_demands entity_types (entity_entry components e).0)
    × AllMet (demands entity_type (entity_entry components e).0 (entity_entry components e).1)) es
entities_keep [] h = tt
entities_keep (e ∷ es) h = (
  ((((e.0.id.text ∷ []), id_reads e.0), tt), entity_met e.0.id.text e.1 h.0),
  entities_keep es h.1,
)

abbrev bare_entities : List EntityEntry → List EntityEntry
bare_entities es = bare_entries {K = UnreservedId} (λ id. id) bare_entity es

entities_map : (es : List EntityEntry) → RisesBy (λ x y. unreserved_cmp x.0 y.0) es
    → AllByRecursion (λ e. is_sayable.IsSayableEntity e.1) es
    → IsMap unreserved_cmp IsId IsEntityType (object_of (map (entity_entry components) es)) (bare_entities es)
entities_map es r h =
    says_map IsId IsEntityType unreserved_cmp (λ x y. flipped text_cmp text_total x.id.text y.id.text) ids_apart
    (entity_entry components) (λ e. let p : EntityEntry = (e.0, bare_entity e.1) in p) es r (entities_say es h)

-- ---- actions

actions_say : (es : List ActionEntry)
    → AllByRecursion (λ e. is_sayable.IsCharacters e.0 × is_sayable.IsSayableAction e.1) es
    → AllByRecursion (λ e. IsText (action_entry components e).0 e.0
    × IsAction (action_entry components e).1 (bare_action e.1)) es
actions_say [] h = tt
actions_say (e ∷ es) h = ((sym (chars-encodes e.0 h.0.0), action_says e.1 h.0.1), actions_say es h.1)

actions_keep : (es : List ActionEntry)
    → AllByRecursion (λ e. is_sayable.IsCharacters e.0 × is_sayable.IsSayableAction e.1) es
    → AllByRecursion (λ e. AllMet (key_demands actions (action_entry components e).0)
    × AllMet (demands action (action_entry components e).0 (action_entry components e).1)) es
actions_keep [] h = tt
actions_keep (e ∷ es) h = ((tt, action_met (encode_utf8_all e.0) e.1 h.0.1), actions_keep es h.1)

abbrev bare_actions : List ActionEntry → List ActionEntry
bare_actions es = bare_entries {K = List ℕ} (λ id. id) bare_action es

actions_map : (es : List ActionEntry) → RisesBy (λ x y. text_cmp x.0 y.0) es
    → AllByRecursion (λ e. is_sayable.IsCharacters e.0 × is_sayable.IsSayableAction e.1) es
    → IsMap text_cmp IsText IsAction (object_of (map (action_entry components) es)) (bare_actions es)
actions_map es r h =
    says_map IsText IsAction text_cmp (flipped text_cmp text_total) texts_apart
    (action_entry components) (λ e. let p : ActionEntry = (e.0, bare_action e.1) in p) es r (actions_say es h)

-- ---- namespaces

abbrev space_fields : Space → Fields
space_fields n =
    (codes "annotations", notes_field n.annotations.0) ∷ (codes "commonTypes", commons_field n.common_types)
    ∷ (codes "actions", Some (object_of (map (action_entry components) n.actions)))
    ∷ (codes "entityTypes", Some (object_of (map (entity_entry components) n.entity_types))) ∷ []

space_is : (n : Space) → namespace_value components n ≡ object (made (space_fields n))
space_is n =
    ap object (notes_value n.annotations.0 _
    ∙ ap (with_optional_value (codes "annotations") (notes_field n.annotations.0))
    (commons_value n.common_types _))

space_says : (key : Option Name) (n : Space) → is_sayable.IsSayableNamespace key n
    → IsNamespace (namespace_value components n) (bare_namespace n)
space_says key n p =
    let fs = space_fields n in
    subst (λ d. IsNamespace d (bare_namespace n)) (sym (space_is n)) (record {
      commons = subst (λ o. IsMapOrNone common_cmp IsCommonId IsCommonType o (bare_commons n.common_types))
          (sym (get_made (codes "commonTypes") fs))
          (commons_found n.common_types
          (rises_from text_cmp (λ (e : CommonEntry). e.0.id.id.text) n.common_types p.commons_rise) p.commons);
      entities = subst (λ o. IsMapOrNone unreserved_cmp IsId IsEntityType o (bare_entities n.entity_types))
          (sym (get_made (codes "entityTypes") fs))
          (entities_map n.entity_types
          (rises_from text_cmp (λ (e : EntityEntry). e.0.id.text) n.entity_types p.entities_rise) p.entities);
      actions = subst (λ o. IsMapOrNone text_cmp IsText IsAction o (bare_actions n.actions))
          (sym (get_made (codes "actions") fs))
          (actions_map n.actions (rises_from text_cmp (λ (e : ActionEntry). e.0) n.actions p.actions_rise) p.actions);
      annotated = notes_found fs n.annotations refl p.notes;
    })

unannotated : (label : List ℕ) (n : Space) → (label ≡ [] → n.annotations.0 ≡ [])
    → empty_annotated label (made (space_fields n)) ≡ None
unannotated [] n h =
    ap annotated (get_made (codes "annotations") (space_fields n))
    ∙ ap (λ (ns : List (AnyId × Option (List ℕ))). annotated (or_next (notes_field ns) None)) (h refl)
unannotated (c ∷ s) n h = refl

own_met : (label : List ℕ) (ms : Members) → AllMet (fits_table namespace_fields ms) → empty_annotated label ms ≡ None
    → AllMet (object_demands namespace label ms)
own_met label ms fit a =
    let notes : List Demand = unless (empty_annotated label ms) ∷ [] in
    let none : AllMet notes = (a, tt) in
    both_met (fits_table namespace_fields ms) notes fit none

space_met : (label : List ℕ) (key : Option Name) (n : Space) → (label ≡ [] → n.annotations.0 ≡ [])
    → is_sayable.IsSayableNamespace key n → AllMet (demands namespace label (namespace_value components n))
space_met label key n free p =
    let fs = space_fields n in
    let known : Known namespace_fields fs =
    known_field namespace_fields (codes "annotations") (notes_field n.annotations.0) _ refl
    (known_field namespace_fields (codes "commonTypes") (commons_field n.common_types) _ refl (refl, (refl, tt))) in
    subst (λ d. AllMet (demands namespace label d)) (sym (space_is n))
    (both_met (object_demands namespace label (made fs))
    (member_demands (key_demands namespace) namespace_member (made fs))
    (own_met label (made fs) (fits namespace_fields fs known refl) (unannotated label n free))
    (made_met (key_demands namespace) namespace_member fs
    (fit_field (key_demands namespace) namespace_member (codes "annotations") (notes_field n.annotations.0) _ tt
    (notes_met (codes "annotations") n.annotations.0)
    (fit_field (key_demands namespace) namespace_member (codes "commonTypes") (commons_field n.common_types) _ tt
    (commons_met (codes "commonTypes") n.common_types p.commons) (
      (
        tt,
        all_met (key_demands actions) (λ k. action) (action_entry components) n.actions no_members
            (actions_keep n.actions p.actions) tt,
      ),
      (
        (
          tt,
          all_met (key_demands entity_types) (λ k. entity_type) (entity_entry components) n.entity_types no_members
              (entities_keep n.entity_types p.entities) tt,
        ),
        tt,
      ),
    )))))

-- ---- fragments

abbrev SpaceEntry : Type 0
SpaceEntry = Option Name × Space

not_nil : {X : Type 0} (s : List ℕ) → 0 < length s → s ≡ [] → X
not_nil s h e = let no : 0 < length {A = ℕ} [] = subst (λ x. 0 < length x) e h in absurd (omega (arith, no))

label_free : (e : SpaceEntry) → is_sayable.IsSayableNamespace e.0 e.1 → namespace_bytes e.0 ≡ []
    → e.1.annotations.0 ≡ []
label_free (None, n) p h = p.unannotated refl
label_free (Some x, n) p h = not_nil (namespace_bytes (Some x)) (name_some x.name) h

key_back : (o : Option Name) → AllMet (namespace_key_demands (namespace_bytes o))
    × IsNamespaceKey (namespace_bytes o) (option_map bare_declared o)
key_back None = (tt, refl)
key_back (Some x) =
    let met : AllMet (is_name role.Namespace (namespace_bytes (Some x)) ∷ []) =
    ((components_of x.name, declared_reads x), tt) in
    key_says (namespace_bytes (Some x)) (bare_declared x) (name_some x.name) met (declared_reads x, refl)

abbrev bare_space : SpaceEntry → SpaceEntry
bare_space e = (option_map bare_declared e.0, bare_namespace e.1)

spaces_say : (es : List SpaceEntry) → AllByRecursion (λ e. is_sayable.IsSayableNamespace e.0 e.1) es
    → AllByRecursion (λ e. IsNamespaceKey (namespace_entry components e).0 (bare_space e).0
    × IsNamespace (namespace_entry components e).1 (bare_space e).1) es
spaces_say [] h = tt
spaces_say (e ∷ es) h = (((key_back e.0).1, space_says e.0 e.1 h.0), spaces_say es h.1)

spaces_keep : (es : List SpaceEntry) → AllByRecursion (λ e. is_sayable.IsSayableNamespace e.0 e.1) es
    → AllByRecursion (λ e. AllMet (key_demands fragment (namespace_entry components e).0)
    × AllMet (demands namespace (namespace_entry components e).0 (namespace_entry components e).1)) es
spaces_keep [] h = tt
spaces_keep (e ∷ es) h = (
  ((key_back e.0).0, space_met (namespace_bytes e.0) e.0 e.1 (label_free e h.0) h.0),
  spaces_keep es h.1,
)

equal_less : {X : Type 0} → Equal ≡ Less → X
equal_less e = absurd (cc)

greater_less : {X : Type 0} → Greater ≡ Less → X
greater_less e = absurd (cc)

spaces_flip : (x y : Option Name) → namespace_cmp x y ≡ Less → namespace_cmp y x ≡ Greater
spaces_flip None None h = equal_less h
spaces_flip None (Some b) h = refl
spaces_flip (Some a) None h = greater_less h
spaces_flip (Some a) (Some b) h =
    flipped (slice_cmp text_cmp) (lists_total text_total) (components_of a.name) (components_of b.name) h

spaces_apart : (s : List ℕ) (x y : Option Name) → IsNamespaceKey s x → IsNamespaceKey s y
    → namespace_cmp x y ≡ Less → ⊥
spaces_apart [] x y h k less = equal_less (sym (ap (λ o. namespace_cmp o y) h ∙ ap (namespace_cmp None) k) ∙ less)
spaces_apart (c ∷ s) x y h k less =
    let same = one_name (c ∷ s) kind.Name (components_of h.0.name) (components_of k.0.name) h.2.0 k.2.0 in
    not_less (slice_cmp text_cmp) (lists_total text_total) (components_of h.0.name) (components_of k.0.name) same
    (sym (ap (λ o. namespace_cmp o y) h.1 ∙ ap (namespace_cmp (Some h.0)) k.1) ∙ less)

bare_order : (a b : Option Name)
    → namespace_cmp (option_map bare_declared a) (option_map bare_declared b) ≡ namespace_cmp a b
bare_order None None = refl
bare_order None (Some b) = refl
bare_order (Some a) None = refl
bare_order (Some a) (Some b) = refl

all_bare : (x : SpaceEntry) (es : List SpaceEntry) → AllByRecursion (λ y. namespace_cmp x.0 y.0 ≡ Less) es
    → AllByRecursion (λ y. namespace_cmp (bare_space x).0 (bare_space y).0 ≡ Less) es
all_bare x [] h = tt
all_bare x (y ∷ ys) h = (bare_order x.0 y.0 ∙ h.0, all_bare x ys h.1)

bare_rise : (es : List SpaceEntry) → RisesBy (λ x y. namespace_cmp x.0 y.0) es
    → RisesBy (λ x y. namespace_cmp (bare_space x).0 (bare_space y).0) es
bare_rise [] h = tt
bare_rise (e ∷ es) h = (all_bare e es h.0, bare_rise es h.1)

pub fragment_back : (f : Fragment RawName as_written) → is_sayable.IsSayableFragment f
    → JsonShape (json_value components f) (bare_fragment f)
fragment_back f p = (
  all_met (key_demands fragment) (λ k. namespace) (namespace_entry components) f.0 no_members
      (spaces_keep f.0 p.each) tt,
  says_map IsNamespaceKey IsNamespace namespace_cmp spaces_flip spaces_apart (namespace_entry components)
      bare_space f.0
      (bare_rise f.0 (rises_from namespace_cmp (λ (e : SpaceEntry). e.0) f.0 p.names_rise)) (spaces_say f.0 p.each),
)
