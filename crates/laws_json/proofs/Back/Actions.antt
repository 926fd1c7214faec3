-- What is written of sayable actions reads back.
use Rattle.std.proofs.Common.{◌≡◌, ℕ, Bool, true, false, List, [], ◌∷◌, map, Option, Some, None}
use Rattle.std.proofs.Common.{refl, sym, ap, ◌∙◌, subst}
use Rattle.std.specs.Prelude.{codes, option_map, is_none, IfSome}
use Rattle.std.specs.Cmp.{first_so, second_so}
use Rattle.std.specs.List.{AllByRecursion}
use Rattle.std.specs.Str.{encode_utf8_all}
use Rattle.std.proofs.lemmas.Str.{chars-encodes}
use Rattle.serde_json.specs.Data.{Data, string, object, Members, no_members, put}
use Rattle.serde_json.specs.Find.{get_member}
use Rattle.cedar_identifiers.specs.declared.raw_name.RawName.{RawName}
use Rattle.schema_json.specs.declared.action_type.ActionEntityUID.{ActionEntityUID}
use Rattle.schema_json.specs.declared.action_type.ActionType.{ActionType}
use Rattle.schema_json.specs.declared.action_type.ApplySpec.{ApplySpec}
use Rattle.schema_json.specs.AsWritten.{as_written}
use Rattle.schema_json_values.specs.FragmentValues.{with_optional_value, list_of, name_value, names_value}
use Rattle.schema_json_values.specs.FragmentValues.{applies_to_value}
use Rattle.schema_json_values.specs.FragmentValues.{with_applies_to, with_type, action_id_value, with_parents}
use Rattle.schema_json_values.specs.FragmentValues.{action_value}
use Rattle.schema_json_shapes.specs.declared.name_role.NameRole.TheVariants as role
use Rattle.schema_json_shapes.specs.Tables.{action_fields, applies_to_fields, action_id_fields}
use Rattle.schema_json_shapes.specs.Walk.{Demand, unless, AllMet, demands, member_demands, object_demands, key_demands}
use Rattle.schema_json_shapes.specs.Walk.{fits_table, action, action_member, applies_to, applies_to_member, action_id}
use Rattle.schema_json_shapes.specs.Walk.{action_id_member, action_ids, or_null, named, is_given, not_external_action}
use Rattle.schema_json_shapes.specs.Walk.{external_conflict, or_next}
use Rattle.schema_json_shapes.specs.Reads.{field_demands}
use Rattle.schema_json_shapes.specs.Said.{IsOptional, IsList, IsNamed, not_null}
use Rattle.schema_json_shapes.specs.Shapes.{IsShapeOrNone, IsTextIn, AreKeys, IsActionId, IsAppliesTo, IsAction}
use Rattle.schema_json_shapes.proofs.Demands.{both_met}
use Rattle.laws_translate.specs.Bare.{bare_name, bare}
use Rattle.laws_translate.specs.BareFragments.{bare_spec, bare_ref, bare_action}
use Rattle.laws_json.specs.Back.Sayable as is_sayable
use Rattle.laws_json.proofs.Back.Fields.{Fields, made, get_made, known_field, fits, fit_field, made_met}
use Rattle.laws_json.proofs.Back.Fields.{external_in, external_made, Known}
use Rattle.laws_json.proofs.Back.Names.{raw_reads}
use Rattle.laws_json.proofs.Back.Notes.{notes_field, notes_value, notes_met}
use Rattle.laws_json.proofs.Back.Types.{components, or_none}
use Rattle.laws_json.proofs.Back.Records.{flag_field, flag_value, flag_met, shape_field, shape_value, shape_says}
use Rattle.laws_json.proofs.Back.Records.{shape_met}
use Rattle.laws_json.proofs.Back.Lists.{items_say, items_met, names_say, names_met, attributes_field}
use Rattle.laws_json.proofs.Back.Lists.{attributes_value}
use Rattle.laws_json.proofs.Back.Lists.{attributes_say, attributes_met}
use Rattle.laws_json.proofs.Back.Entities.{notes_found, flag_found}

abbrev Uid : Type 0
Uid = ActionEntityUID RawName as_written

-- ---- ids

abbrev type_field : Option RawName → Option Data
type_field None = None
type_field (Some n) = Some (name_value components n)

type_value : (o : Option RawName) (ms : Members)
    → with_type components o ms ≡ with_optional_value (codes "type") (type_field o) ms
type_value None ms = refl
type_value (Some n) ms = refl

type_says : (o : Option RawName) → IsOptional IsNamed (not_null (or_next (type_field o) None)) (option_map bare_name o)
type_says None = refl
type_says (Some n) = (bare_name n, raw_reads n, refl)

type_met : (label : List ℕ) (o : Option RawName)
    → AllMet (field_demands (or_null (named role.Name)) label (type_field o))
type_met label None = tt
type_met label (Some n) = ((components n, (raw_reads n).0), tt)

abbrev id_fields : Uid → Fields
id_fields u = (codes "type", type_field u.ty) ∷ (codes "id", Some (string (encode_utf8_all u.id))) ∷ []

id_is : (u : Uid) → action_id_value components u ≡ object (made (id_fields u))
id_is u = ap object (type_value u.ty (put (codes "id") (string (encode_utf8_all u.id)) no_members))

id_says : (u : Uid) → is_sayable.IsCharacters u.id → IsActionId (action_id_value components u) (bare_ref u)
id_says u h =
    let fs = id_fields u in
    subst (λ d. IsActionId d (bare_ref u)) (sym (id_is u)) (record {
      named = subst (λ o. IsTextIn o u.id) (sym (get_made (codes "id") fs)) (sym (chars-encodes u.id h));
      typed = subst (λ o. IsOptional IsNamed (not_null o) (option_map bare_name u.ty))
          (sym (get_made (codes "type") fs)) (type_says u.ty);
    })

id_met : (label : List ℕ) (u : Uid) → AllMet (demands action_id label (action_id_value components u))
id_met label u =
    let fs = id_fields u in
    let known : Known action_id_fields fs =
    known_field action_id_fields (codes "type") (type_field u.ty) _ refl (refl, tt) in
    subst (λ d. AllMet (demands action_id label d)) (sym (id_is u))
    (both_met (object_demands action_id label (made fs))
    (member_demands (key_demands action_id) action_id_member (made fs)) (fits action_id_fields fs known refl)
    (made_met (key_demands action_id) action_id_member fs
    (fit_field (key_demands action_id) action_id_member (codes "type") (type_field u.ty) _ tt
    (type_met (codes "type") u.ty) ((tt, tt), tt))))

ids_say : (us : List Uid) → is_sayable.AreSayableParents us
    → AllByRecursion (λ u. IsActionId (action_id_value components u) (bare_ref u)) us
ids_say [] h = tt
ids_say (u ∷ us) h = (id_says u h.0, ids_say us h.1)

ids_met : (label : List ℕ) (us : List Uid)
    → AllByRecursion (λ u. AllMet (demands action_id label (action_id_value components u))) us
ids_met label [] = tt
ids_met label (u ∷ us) = (id_met label u, ids_met label us)

abbrev parents_field : Option (List Uid) → Option Data
parents_field None = None
parents_field (Some us) = Some (list_of (map (action_id_value components) us))

parents_value : (o : Option (List Uid)) (ms : Members)
    → with_parents components o ms ≡ with_optional_value (codes "memberOf") (parents_field o) ms
parents_value None ms = refl
parents_value (Some us) ms = refl

parents_say : (o : Option (List Uid)) → IfSome o is_sayable.AreSayableParents
    → IsOptional (IsList IsActionId) (not_null (or_next (parents_field o) None)) (option_map (map bare_ref) o)
parents_say None h = refl
parents_say (Some us) h =
    (map bare_ref us, items_say IsActionId (action_id_value components) bare_ref us (ids_say us h), refl)

parents_met : (label : List ℕ) (o : Option (List Uid))
    → AllMet (field_demands (or_null action_ids) label (parents_field o))
parents_met label None = tt
parents_met label (Some us) = items_met action_id label (action_id_value components) us (ids_met label us)

-- ---- what an action applies to

abbrev spec_fields : ApplySpec RawName → Fields
spec_fields s =
    (codes "context", shape_field s.context.0)
    ∷ (codes "principalTypes", Some (names_value components s.principal_types))
    ∷ (codes "resourceTypes", Some (names_value components s.resource_types)) ∷ []

spec_is : (s : ApplySpec RawName) → applies_to_value components s ≡ object (made (spec_fields s))
spec_is s = ap object (shape_value (codes "context") s.context.0 _)

spec_says : (s : ApplySpec RawName) → is_sayable.IsSayableType s.context.0
    → IsAppliesTo (applies_to_value components s) (bare_spec s)
spec_says s p =
    let fs = spec_fields s in
    subst (λ d. IsAppliesTo d (bare_spec s)) (sym (spec_is s)) (record {
      resources = (
        names_value components s.resource_types,
        get_made (codes "resourceTypes") fs,
        names_say s.resource_types,
      );
      principals = (
        names_value components s.principal_types,
        get_made (codes "principalTypes") fs,
        names_say s.principal_types,
      );
      in_context = subst (λ o. IsShapeOrNone o (bare s.context.0))
          (sym (get_made (codes "context") fs ∙ or_none (shape_field s.context.0) None refl))
          (shape_says s.context.0 p);
    })

spec_met : (label : List ℕ) (s : ApplySpec RawName) → is_sayable.IsSayableType s.context.0
    → AllMet (demands applies_to label (applies_to_value components s))
spec_met label s p =
    let fs = spec_fields s in
    let known : Known applies_to_fields fs =
    known_field applies_to_fields (codes "context") (shape_field s.context.0) _ refl (refl, (refl, tt)) in
    subst (λ d. AllMet (demands applies_to label d)) (sym (spec_is s))
    (both_met (object_demands applies_to label (made fs))
    (member_demands (key_demands applies_to) applies_to_member (made fs)) (fits applies_to_fields fs known refl)
    (made_met (key_demands applies_to) applies_to_member fs
    (fit_field (key_demands applies_to) applies_to_member (codes "context") (shape_field s.context.0) _ tt
    (shape_met (codes "context") s.context.0 p) (
      (tt, names_met (codes "principalTypes") s.principal_types),
      ((tt, names_met (codes "resourceTypes") s.resource_types), tt),
    ))))

abbrev applies_field : Option (ApplySpec RawName) → Option Data
applies_field None = None
applies_field (Some s) = Some (applies_to_value components s)

applies_value : (o : Option (ApplySpec RawName)) (ms : Members)
    → with_applies_to components o ms ≡ with_optional_value (codes "appliesTo") (applies_field o) ms
applies_value None ms = refl
applies_value (Some s) ms = refl

applies_say : (o : Option (ApplySpec RawName)) → IfSome o (λ s. is_sayable.IsSayableType s.context.0)
    → IsOptional IsAppliesTo (not_null (or_next (applies_field o) None)) (option_map bare_spec o)
applies_say None h = refl
applies_say (Some s) h = (bare_spec s, spec_says s h, refl)

applies_met : (label : List ℕ) (o : Option (ApplySpec RawName)) → IfSome o (λ s. is_sayable.IsSayableType s.context.0)
    → AllMet (field_demands (or_null applies_to) label (applies_field o))
applies_met label None h = tt
applies_met label (Some s) h = spec_met label s h

-- ---- actions

abbrev fields_of : Option Data → Bool → Option Data → Option Data → Option Data → Fields
fields_of notes external parents applies attributes =
    (codes "annotations", notes) ∷ (codes "external", flag_field external) ∷ (codes "memberOf", parents)
    ∷ (codes "appliesTo", applies) ∷ (codes "attributes", attributes) ∷ []

action_free : (n : Option Data) (x : Bool) (p a t : Option Data) → (x ≡ true → (t ≡ None) × (a ≡ None))
    → external_in is_given not_external_action (fields_of n x p a t) ≡ None
action_free n false p a t h = refl
action_free n true p None None h = refl
action_free n true p (Some d) t h = let no = (h refl).1 in absurd (cc)
action_free n true p None (Some d) h = let no = (h refl).0 in absurd (cc)

own_met : (label : List ℕ) (ms : Members) → AllMet (fits_table action_fields ms)
    → external_conflict is_given not_external_action ms (get_member (codes "external") ms) ≡ None
    → AllMet (object_demands action label ms)
own_met label ms fit a =
    let conflicts : List Demand =
    unless (external_conflict is_given not_external_action ms (get_member (codes "external") ms)) ∷ [] in
    let none : AllMet conflicts = (a, tt) in
    both_met (fits_table action_fields ms) conflicts fit none

abbrev Action : Type 0
Action = ActionType RawName as_written

abbrev action_members : Action → Fields
action_members a =
    fields_of (notes_field a.annotations.0) a.external (parents_field a.member_of) (applies_field a.applies_to)
    (attributes_field a.attributes)

action_is : (a : Action) → action_value components a ≡ object (made (action_members a))
action_is a =
    ap object (notes_value a.annotations.0 _
    ∙ ap (with_optional_value (codes "annotations") (notes_field a.annotations.0))
    (flag_value a.external (codes "external") _ ∙ ap (with_optional_value (codes "external") (flag_field a.external))
    (parents_value a.member_of _ ∙ ap (with_optional_value (codes "memberOf") (parents_field a.member_of))
    (applies_value a.applies_to _ ∙ ap (with_optional_value (codes "appliesTo") (applies_field a.applies_to))
    (attributes_value a.attributes no_members)))))

no_attributes : (o : Option (List (List ℕ))) → is_none o ≡ true → attributes_field o ≡ None
no_attributes None h = refl
no_attributes (Some ts) h = absurd (cc)

no_spec : (o : Option (ApplySpec RawName)) → is_none o ≡ true → applies_field o ≡ None
no_spec None h = refl
no_spec (Some s) h = absurd (cc)

pub action_says : (a : Action) → is_sayable.IsSayableAction a → IsAction (action_value components a) (bare_action a)
action_says a p =
    let fs = action_members a in
    subst (λ d. IsAction d (bare_action a)) (sym (action_is a)) (record {
      attributed = subst (λ o. IsOptional AreKeys (not_null o) a.attributes) (sym (get_made (codes "attributes") fs))
          (attributes_say a.attributes p.attributes);
      applied = subst (λ o. IsOptional IsAppliesTo (not_null o) (option_map bare_spec a.applies_to))
          (sym (get_made (codes "appliesTo") fs)) (applies_say a.applies_to p.context);
      parents = subst (λ o. IsOptional (IsList IsActionId) (not_null o) (option_map (map bare_ref) a.member_of))
          (sym (get_made (codes "memberOf") fs)) (parents_say a.member_of p.parents);
      marked = flag_found fs a.external refl;
      annotated = notes_found fs a.annotations refl p.notes;
      placeless = refl;
    })

pub action_met : (label : List ℕ) (a : Action) → is_sayable.IsSayableAction a
    → AllMet (demands action label (action_value components a))
action_met label a p =
    let fs = action_members a in
    let n = notes_field a.annotations.0 in
    let m = parents_field a.member_of in
    let s = applies_field a.applies_to in
    let t = attributes_field a.attributes in
    let known : Known action_fields fs =
    known_field action_fields (codes "annotations") n _ refl
    (known_field action_fields (codes "external") (flag_field a.external) _ refl
    (known_field action_fields (codes "memberOf") m _ refl
    (known_field action_fields (codes "appliesTo") s _ refl
    (known_field action_fields (codes "attributes") t [] refl tt)))) in
    let free : a.external ≡ true → (t ≡ None) × (s ≡ None) = λ e. (
      no_attributes a.attributes (first_so (is_none a.attributes) (is_none a.applies_to) (p.bare e)),
      no_spec a.applies_to (second_so (is_none a.attributes) (is_none a.applies_to) (p.bare e)),
    ) in
    subst (λ d. AllMet (demands action label d)) (sym (action_is a))
    (both_met (object_demands action label (made fs)) (member_demands (key_demands action) action_member (made fs))
    (own_met label (made fs) (fits action_fields fs known refl)
    (external_made is_given not_external_action fs ∙ action_free n a.external m s t free))
    (made_met (key_demands action) action_member fs
    (fit_field (key_demands action) action_member (codes "annotations") n _ tt
    (notes_met (codes "annotations") a.annotations.0)
    (fit_field (key_demands action) action_member (codes "external") (flag_field a.external) _ tt
    (flag_met a.external (codes "external"))
    (fit_field (key_demands action) action_member (codes "memberOf") m _ tt
    (parents_met (codes "memberOf") a.member_of)
    (fit_field (key_demands action) action_member (codes "appliesTo") s _ tt
    (applies_met (codes "appliesTo") a.applies_to p.context)
    (fit_field (key_demands action) action_member (codes "attributes") t [] tt
    (attributes_met (codes "attributes") a.attributes) tt)))))))
