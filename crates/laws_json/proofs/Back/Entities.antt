-- What is written of sayable common types and entity types reads back.
use Rattle.std.proofs.Common.{◌≡◌, ◌≢◌, ℕ, Bool, true, false, List, [], ◌∷◌, map, Option, Some, None}
use Rattle.std.proofs.Common.{refl, sym, ap, ◌∙◌, subst}
use Rattle.std.specs.Prelude.{codes, option_map, is_none, IfSome}
use Rattle.std.specs.Cmp.{first_so, second_so}
use Rattle.serde_json.specs.Data.{Data, object, Members, no_members}
use Rattle.serde_json.specs.Find.{get_member}
use Rattle.cedar_data.specs.declared.loc.Loc.{Loc}
use Rattle.cedar_identifiers.specs.declared.annotations.Annotations.{Annotations}
use Rattle.cedar_identifiers.specs.declared.eid.Eid.{Eid}
use Rattle.cedar_identifiers.specs.declared.raw_name.RawName.{RawName}
use Rattle.schema_json.specs.Shapes.{is_empty_type}
use Rattle.schema_json.specs.declared.types.Type.{«Type»}
use Rattle.schema_json.specs.declared.common_type.CommonType.{CommonType}
use Rattle.schema_json.specs.declared.common_type.CommonTypeId.{CommonTypeId}
use Rattle.schema_json.specs.declared.entity_type.EntityType.{EntityType}
use Rattle.schema_json.specs.declared.entity_type.EntityTypeKind.{EntityTypeKind}
use Rattle.schema_json.specs.declared.entity_type.EntityTypeKind.TheVariants.{Standard, Enum}
use Rattle.schema_json.specs.declared.entity_type.StandardEntityType.{StandardEntityType}
use Rattle.schema_json_values.specs.TypeValues.{with_flag, with_annotations, type_members, type_value}
use Rattle.schema_json_values.specs.FragmentValues.{with_optional_value, list_of, name_value, choice_value}
use Rattle.schema_json_values.specs.FragmentValues.{common_type_value}
use Rattle.schema_json_values.specs.FragmentValues.{with_tags, kind_members, entity_type_value}
use Rattle.schema_json_shapes.specs.declared.words.TypeSite.TheVariants.{Plain, Common}
use Rattle.schema_json_shapes.specs.Tables.{entity_type_fields}
use Rattle.schema_json_shapes.specs.Walk.{AllMet, demands, member_demands, object_demands, key_demands, fits_table}
use Rattle.schema_json_shapes.specs.Walk.{typed}
use Rattle.schema_json_shapes.specs.Walk.{entity_type, entity_type_member, is_there, not_external_type, empty_enum}
use Rattle.schema_json_shapes.specs.Walk.{Demand, unless, external_conflict, enum_conflict, flag_or, or_next}
use Rattle.schema_json_shapes.specs.Reads.{field_demands}
use Rattle.schema_json_shapes.specs.Said.{IsOptional, IsListOrNone, IsNamed, IsAnnotationMap, IsType}
use Rattle.schema_json_shapes.specs.Shapes.{IsShapeOrNone, IsCommonType, IsEntityType, IsEntityTypeIn}
use Rattle.schema_json_shapes.proofs.Demands.{both_met}
use Rattle.laws_translate.specs.Bare.{bare_name, bare}
use Rattle.laws_translate.specs.BareFragments.{bare_common, bare_entity}
use Rattle.schema_json_walk.specs.Bare.{is_bare_kind}
use Rattle.laws_json.specs.Back.Sayable as is_sayable
use Rattle.laws_json.proofs.Back.Fields.{Fields, made, found, get_made, known_field, fits, fit_field, made_met}
use Rattle.laws_json.proofs.Back.Fields.{external_in, external_made, enum_made, Known}
use Rattle.laws_json.proofs.Back.Notes.{notes_field, notes_value, notes_say, notes_met}
use Rattle.laws_json.proofs.Back.Types.{components, beside, or_none}
use Rattle.laws_json.proofs.Back.Records.{type_back, flag_field, flag_value, flag_met, flag_back, alone, shape_field}
use Rattle.laws_json.proofs.Back.Records.{shape_value, shape_says, shape_met, shape_absent}
use Rattle.laws_json.proofs.Back.Lists.{list_field, list_value, parents_say, parents_met, choices_say, choices_met}

-- what is found among the annotations of an object
pub notes_found : (fs : Fields) (a : Annotations) → found (codes "annotations") fs ≡ or_next (notes_field a.0) None
    → is_sayable.AreSayableNotes a → IsAnnotationMap (get_member (codes "annotations") (made fs)) a
notes_found fs a e p =
    subst (λ o. IsAnnotationMap o a)
    (sym (get_made (codes "annotations") fs ∙ (e ∙ or_none (notes_field a.0) None refl))) (notes_say a p)

pub flag_found : (fs : Fields) (x : Bool) → found (codes "external") fs ≡ or_next (flag_field x) None
    → x ≡ flag_or false (get_member (codes "external") (made fs))
flag_found fs x e = flag_back x ∙ ap (flag_or false) (sym (get_made (codes "external") fs ∙ e))

-- ---- common types

common_is : (c : CommonType RawName)
    → with_annotations c.annotations.0 (type_members components c.ty)
    ≡ beside None (notes_field c.annotations.0) (type_members components c.ty)
common_is c = notes_value c.annotations.0 (type_members components c.ty)

pub common_says : (id : CommonTypeId) (c : CommonType RawName) → is_sayable.IsSayableCommon id c
    → IsCommonType (common_type_value components c) (bare_common c)
common_says id c p =
    let b = type_back c.ty p.type_is_sayable in
    let n = notes_field c.annotations.0 in
    subst (λ ms. IsCommonType (object ms) (bare_common c)) (sym (common_is c)) (record {
      says = b.says None n;
      annotated = subst (λ o. IsAnnotationMap o c.annotations) (sym (b.notes None n)) (notes_say c.annotations p.notes);
      placeless = refl;
    })

pub common_met : (label : List ℕ) (id : CommonTypeId) (c : CommonType RawName) → is_sayable.IsSayableCommon id c
    → AllMet (demands (typed Common) label (common_type_value components c))
common_met label id c p =
    subst (λ ms. AllMet (demands (typed Common) label (object ms))) (sym (common_is c))
    ((type_back c.ty p.type_is_sayable).met Common None (notes_field c.annotations.0) label (record {
      may = tt;
      flag_met = tt;
      notes_met = notes_met (codes "annotations") c.annotations.0;
    }))

-- ---- standard entity types

abbrev tags_field : Option («Type» RawName) → Option Data
tags_field None = None
tags_field (Some t) = Some (type_value components t)

tags_value : (o : Option («Type» RawName)) (ms : Members)
    → with_tags components o ms ≡ with_optional_value (codes "tags") (tags_field o) ms
tags_value None ms = refl
tags_value (Some t) ms = refl

tags_say : (o : Option («Type» RawName)) → IfSome o is_sayable.IsSayableType
    → IsOptional IsType (or_next (tags_field o) None) (option_map bare o)
tags_say None h = refl
tags_say (Some t) h = (bare t, (type_back t h).says None None, refl)

tags_met : (label : List ℕ) (o : Option («Type» RawName)) → IfSome o is_sayable.IsSayableType
    → AllMet (field_demands (typed Plain) label (tags_field o))
tags_met label None h = tt
tags_met label (Some t) h = (type_back t h).met Plain None None label alone

tags_absent : (o : Option («Type» RawName)) → is_none o ≡ true → tags_field o ≡ None
tags_absent None h = refl
tags_absent (Some t) h = absurd (cc)

abbrev standard_fields : Option Data → Bool → Option Data → Option Data → Option Data → Fields
standard_fields notes external tags shape parents =
    (codes "annotations", notes) ∷ (codes "external", flag_field external) ∷ (codes "tags", tags)
    ∷ (codes "shape", shape) ∷ (codes "memberOfTypes", parents) ∷ []

standard_free : (n : Option Data) (x : Bool) (t s p : Option Data) → (x ≡ true → (s ≡ None) × (t ≡ None))
    → external_in is_there not_external_type (standard_fields n x t s p) ≡ None
standard_free n false t s p h = refl
standard_free n true None None p h = refl
standard_free n true None (Some d) p h = let no = (h refl).0 in absurd (cc)
standard_free n true (Some d) s p h = let no = (h refl).1 in absurd (cc)

-- an entity type without conflicts
own_met : (label : List ℕ) (ms : Members) → AllMet (fits_table entity_type_fields ms)
    → external_conflict is_there not_external_type ms (get_member (codes "external") ms) ≡ None
    → enum_conflict ms (get_member (codes "enum") ms) ≡ None → empty_enum (get_member (codes "enum") ms) ≡ None
    → AllMet (object_demands entity_type label ms)
own_met label ms fit a b c =
    let conflicts : List Demand =
    unless (external_conflict is_there not_external_type ms (get_member (codes "external") ms))
    ∷ unless (enum_conflict ms (get_member (codes "enum") ms))
    ∷ unless (empty_enum (get_member (codes "enum") ms)) ∷ [] in
    let none : AllMet conflicts = (a, (b, (c, tt))) in
    both_met (fits_table entity_type_fields ms) conflicts fit none

standard_met : (label : List ℕ) (n : Option Data) (x : Bool) (t s p : Option Data)
    → (x ≡ true → (s ≡ None) × (t ≡ None))
    → AllMet (member_demands (key_demands entity_type) entity_type_member (made (standard_fields n x t s p)))
    → AllMet (demands entity_type label (object (made (standard_fields n x t s p))))
standard_met label n x t s p h m =
    let fs = standard_fields n x t s p in
    let known : Known entity_type_fields fs =
    known_field entity_type_fields (codes "annotations") n _ refl
    (known_field entity_type_fields (codes "external") (flag_field x) _ refl
    (known_field entity_type_fields (codes "tags") t _ refl
    (known_field entity_type_fields (codes "shape") s _ refl
    (known_field entity_type_fields (codes "memberOfTypes") p [] refl tt)))) in
    both_met (object_demands entity_type label (made fs))
    (member_demands (key_demands entity_type) entity_type_member (made fs))
    (own_met label (made fs) (fits entity_type_fields fs known refl)
    (external_made is_there not_external_type fs ∙ standard_free n x t s p h) (enum_made fs)
    (ap empty_enum (get_made (codes "enum") fs))) m

-- ---- both kinds

record KindBack (k : EntityTypeKind RawName) (x : Bool) (a : Annotations) : Type 0 where
  met : (label : List ℕ) → AllMet (demands entity_type label
      (object (with_annotations a.0 (with_flag x (codes "external") true (kind_members components k)))))
  says : (loc : Option Loc) → IsEntityTypeIn
      (with_annotations a.0 (with_flag x (codes "external") true (kind_members components k)))
      (bare_entity (record { kind = k; external = x; annotations = a; loc = loc }))

standard_is : (s : StandardEntityType RawName) (x : Bool) (a : Annotations)
    → with_annotations a.0 (with_flag x (codes "external") true (kind_members components (Standard s)))
    ≡ made (standard_fields (notes_field a.0) x (tags_field s.tags) (shape_field s.shape.0)
    (list_field (map (name_value components) s.member_of_types)))
standard_is s x a =
    notes_value a.0 _ ∙ ap (with_optional_value (codes "annotations") (notes_field a.0))
    (flag_value x (codes "external") _ ∙ ap (with_optional_value (codes "external") (flag_field x))
    (tags_value s.tags _ ∙ ap (with_optional_value (codes "tags") (tags_field s.tags))
    (shape_value (codes "shape") s.shape.0 _ ∙ ap (with_optional_value (codes "shape") (shape_field s.shape.0))
    (list_value (codes "memberOfTypes") (map (name_value components) s.member_of_types) no_members))))

standard_back : (s : StandardEntityType RawName) (x : Bool) (a : Annotations) → is_sayable.IsSayableKind (Standard s)
    → (x ≡ true → is_bare_kind (Standard s) ≡ true) → is_sayable.AreSayableNotes a → KindBack (Standard s) x a
standard_back s x a p b notes =
    let n = notes_field a.0 in
    let t = tags_field s.tags in
    let h = shape_field s.shape.0 in
    let l = list_field (map (name_value components) s.member_of_types) in
    let fs = standard_fields n x t h l in
    let is = standard_is s x a in
    record {
      met = λ label. subst (λ ms. AllMet (demands entity_type label (object ms))) (sym is)
          (standard_met label n x t h l
          (λ e. (
            shape_absent s.shape.0 (first_so (is_empty_type s.shape.0) (is_none s.tags) (b e)),
            tags_absent s.tags (second_so (is_empty_type s.shape.0) (is_none s.tags) (b e)),
          ))
          (made_met (key_demands entity_type) entity_type_member fs
          (fit_field (key_demands entity_type) entity_type_member (codes "annotations") n _ tt
          (notes_met (codes "annotations") a.0)
          (fit_field (key_demands entity_type) entity_type_member (codes "external") (flag_field x) _ tt
          (flag_met x (codes "external"))
          (fit_field (key_demands entity_type) entity_type_member (codes "tags") t _ tt
          (tags_met (codes "tags") s.tags p.1)
          (fit_field (key_demands entity_type) entity_type_member (codes "shape") h _ tt
          (shape_met (codes "shape") s.shape.0 p.0)
          (fit_field (key_demands entity_type) entity_type_member (codes "memberOfTypes") l [] tt
          (parents_met (codes "memberOfTypes") s.member_of_types) tt)))))));
      says = λ loc. subst (λ ms. IsEntityTypeIn ms
          (bare_entity (record { kind = Standard s; external = x; annotations = a; loc = loc }))) (sym is) (record {
            is_kind = record {
              no_enum = get_made (codes "enum") fs;
              parents = subst (λ o. IsListOrNone IsNamed o (map bare_name s.member_of_types))
                  (sym (get_made (codes "memberOfTypes") fs)) (parents_say s.member_of_types);
              shaped = subst (λ o. IsShapeOrNone o (bare s.shape.0))
                  (sym (get_made (codes "shape") fs ∙ or_none h None refl)) (shape_says s.shape.0 p.0);
              tagged = subst (λ o. IsOptional IsType o (option_map bare s.tags))
                  (sym (get_made (codes "tags") fs)) (tags_say s.tags p.1);
            };
            marked = flag_found fs x refl;
            annotated = notes_found fs a refl notes;
            placeless = refl;
          });
    }

abbrev enum_fields : Option Data → Bool → Data → Fields
enum_fields notes external choices =
    (codes "annotations", notes) ∷ (codes "external", flag_field external) ∷ (codes "enum", Some choices) ∷ []

enum_free : (n : Option Data) (x : Bool) (d : Data) → (x ≡ true → ⊥)
    → external_in is_there not_external_type (enum_fields n x d) ≡ None
enum_free n false d h = refl
enum_free n true d h = absurd (h refl)

some_choice : (cs : List Eid) → cs ≢ [] → empty_enum (Some (list_of (map choice_value cs))) ≡ None
some_choice [] h = absurd (h refl)
some_choice (c ∷ cs) h = refl

enum_is : (cs : List Eid) (x : Bool) (a : Annotations)
    → with_annotations a.0 (with_flag x (codes "external") true (kind_members components (Enum cs)))
    ≡ made (enum_fields (notes_field a.0) x (list_of (map choice_value cs)))
enum_is cs x a =
    notes_value a.0 _
    ∙ ap (with_optional_value (codes "annotations") (notes_field a.0)) (flag_value x (codes "external") _)

false_true : false ≡ true → ⊥
false_true e = cc

enum_back : (cs : List Eid) (x : Bool) (a : Annotations) → is_sayable.IsSayableKind (Enum cs)
    → (x ≡ true → is_bare_kind {N = RawName} (Enum cs) ≡ true) → is_sayable.AreSayableNotes a → KindBack (Enum cs) x a
enum_back cs x a p b notes =
    let n = notes_field a.0 in
    let d = list_of (map choice_value cs) in
    let fs = enum_fields n x d in
    let is = enum_is cs x a in
    let known : Known entity_type_fields fs =
    known_field entity_type_fields (codes "annotations") n _ refl
    (known_field entity_type_fields (codes "external") (flag_field x) _ refl (refl, tt)) in
    record {
      met = λ label. subst (λ ms. AllMet (demands entity_type label (object ms))) (sym is)
          (both_met (object_demands entity_type label (made fs))
          (member_demands (key_demands entity_type) entity_type_member (made fs))
          (own_met label (made fs) (fits entity_type_fields fs known refl)
          (external_made is_there not_external_type fs ∙ enum_free n x d (λ e. false_true (b e))) (enum_made fs)
          (ap empty_enum (get_made (codes "enum") fs) ∙ some_choice cs p.0))
          (made_met (key_demands entity_type) entity_type_member fs
          (fit_field (key_demands entity_type) entity_type_member (codes "annotations") n _ tt
          (notes_met (codes "annotations") a.0)
          (fit_field (key_demands entity_type) entity_type_member (codes "external") (flag_field x) _ tt
          (flag_met x (codes "external"))
          ((tt, choices_met (codes "enum") cs), tt)))));
      says = λ loc. subst (λ ms. IsEntityTypeIn ms
          (bare_entity (record { kind = Enum cs; external = x; annotations = a; loc = loc }))) (sym is) (record {
            is_kind = (d, get_made (codes "enum") fs, choices_say cs p.1);
            marked = flag_found fs x refl;
            annotated = notes_found fs a refl notes;
            placeless = refl;
          });
    }

kind_back : (k : EntityTypeKind RawName) (x : Bool) (a : Annotations) → is_sayable.IsSayableKind k
    → (x ≡ true → is_bare_kind k ≡ true) → is_sayable.AreSayableNotes a → KindBack k x a
kind_back (Standard s) x a p b notes = standard_back s x a p b notes
kind_back (Enum cs) x a p b notes = enum_back cs x a p b notes

pub entity_met : (label : List ℕ) (e : EntityType RawName) → is_sayable.IsSayableEntity e
    → AllMet (demands entity_type label (entity_type_value components e))
entity_met label e p = (kind_back e.kind e.external e.annotations p.kind_is_sayable p.bare p.notes).met label

pub entity_says : (e : EntityType RawName) → is_sayable.IsSayableEntity e
    → IsEntityType (entity_type_value components e) (bare_entity e)
entity_says e p = (kind_back e.kind e.external e.annotations p.kind_is_sayable p.bare p.notes).says e.loc
