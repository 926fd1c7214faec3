-- What is written of a sayable type reads back.
use Rattle.std.proofs.Common.{◌≡◌, ℕ, true, List, [], ◌∷◌, Option, Some, None, refl, sym, ap}
use Rattle.std.proofs.Common.{◌∙◌, subst}
use Rattle.std.specs.Prelude.{codes, ⊤}
use Rattle.serde_json.specs.Data.{Data, string, object, Members}
use Rattle.serde_json.specs.Find.{get_member}
use Rattle.cedar_data.specs.declared.loc.Loc.{Loc}
use Rattle.cedar_identifiers.specs.Names.{components_of}
use Rattle.cedar_identifiers.specs.declared.raw_name.RawName.{RawName}
use Rattle.cedar_identifiers.specs.declared.unreserved_id.UnreservedId.{UnreservedId}
use Rattle.cedar_identifiers.specs.NameReading.{ReadsAs}
use Rattle.cedar_identifiers.specs.declared.name_kind.NameKind.TheVariants as kind
use Rattle.schema_json.specs.declared.types.Type.{«Type»}
use Rattle.schema_json.specs.declared.types.Type.TheVariants.{Variant, CommonTypeRef}
use Rattle.schema_json.specs.declared.types.TypeVariant.TheVariants as variant
use Rattle.schema_json_values.specs.TypeValues.{name_bytes}
use Rattle.schema_json_values.specs.TypeValues.{type_members}
use Rattle.schema_json_values.specs.FragmentValues.{with_optional_value}
use Rattle.schema_json_values.proofs.Layers.{type_variant, type_common}
use Rattle.schema_json_values.proofs.Layers.{variant_entity, variant_either, variant_extension, variant_string}
use Rattle.schema_json_values.proofs.Layers.{variant_long, variant_boolean}
use Rattle.schema_json_shapes.specs.declared.words.TypeSite.{TypeSite}
use Rattle.schema_json_shapes.specs.declared.words.TypeSite.TheVariants.{Plain, Attribute, Common}
use Rattle.schema_json_shapes.specs.declared.words.TypeWord.{TypeWord}
use Rattle.schema_json_shapes.specs.declared.words.TypeWord.TheVariants as word
use Rattle.schema_json_shapes.specs.Tables.{word_of, site_fields, type_fields, is_field}
use Rattle.schema_json_shapes.specs.Walk.{AllMet, demands, typed, flag, annotations, type_member, word_fits}
use Rattle.schema_json_shapes.specs.Walk.{reference_fits, member_demands, text_in, or_next}
use Rattle.schema_json_shapes.specs.Reads.{field_demands}
use Rattle.schema_json_shapes.specs.Said.{HasWord}
use Rattle.schema_json_shapes.specs.Said.{IsType, string_type, long_type, boolean_type}
use Rattle.schema_json_shapes.specs.Said.{entity_type, either_type, extension_type, reference}
use Rattle.schema_json_shapes.proofs.Demands.{both_met}
use Rattle.laws_json.proofs.Current.NamesRead.{id_reads}
use Rattle.laws_translate.specs.Bare.{bare_name, bare}
use Rattle.laws_translate.proofs.BareTypes.{shape_bare, reference_bare, string_bare, long_bare, boolean_bare}
use Rattle.laws_translate.proofs.BareTypes.{entity_bare, either_bare, extension_bare}
use Rattle.laws_json.specs.Back.Sayable as is_sayable
use Rattle.laws_json.proofs.Back.Fields.{Fields, made, found, get_made, Known, complete, fits, AllFit, made_met}
use Rattle.laws_json.proofs.Back.Names.{raw_reads, name_bytes_are}

abbrev pub components : RawName → List (List ℕ)
components n = components_of n.name

-- ---- what stands beside the fields of a type

abbrev pub with_more : Option Data → Option Data → Fields → Fields
with_more required notes fs = (codes "required", required) ∷ (codes "annotations", notes) ∷ fs

-- an attribute has both, a common type has annotations
abbrev pub May : TypeSite → Option Data → Option Data → Type 0
May Plain None None = ⊤
May Plain _ _ = ⊥
May Common None notes = ⊤
May Common _ notes = ⊥
May Attribute required notes = ⊤

pub record More (site : TypeSite) (required notes : Option Data) : Type 0 where
  pub may : May site required notes
  pub flag_met : AllMet (field_demands flag (codes "required") required)
  pub notes_met : AllMet (field_demands annotations (codes "annotations") notes)

attribute_required : (w : TypeWord) → is_field (type_fields Attribute w) (codes "required") ≡ true
attribute_required word.String = refl
attribute_required word.Long = refl
attribute_required word.Boolean = refl
attribute_required word.Set = refl
attribute_required word.Record = refl
attribute_required word.Entity = refl
attribute_required word.EntityOrCommon = refl
attribute_required word.Extension = refl
attribute_required word.Reference = refl

attribute_notes : (w : TypeWord) → is_field (type_fields Attribute w) (codes "annotations") ≡ true
attribute_notes word.String = refl
attribute_notes word.Long = refl
attribute_notes word.Boolean = refl
attribute_notes word.Set = refl
attribute_notes word.Record = refl
attribute_notes word.Entity = refl
attribute_notes word.EntityOrCommon = refl
attribute_notes word.Extension = refl
attribute_notes word.Reference = refl

common_notes : (w : TypeWord) → is_field (type_fields Common w) (codes "annotations") ≡ true
common_notes word.String = refl
common_notes word.Long = refl
common_notes word.Boolean = refl
common_notes word.Set = refl
common_notes word.Record = refl
common_notes word.Entity = refl
common_notes word.EntityOrCommon = refl
common_notes word.Extension = refl
common_notes word.Reference = refl

more_known : (site : TypeSite) (w : TypeWord) (r n : Option Data) (fs : Fields) → May site r n
    → Known (type_fields site w) fs → Known (type_fields site w) (with_more r n fs)
more_known Plain w None None fs m h = h
more_known Plain w None (Some d) fs m h = absurd m
more_known Plain w (Some e) n fs m h = absurd m
more_known Common w None None fs m h = h
more_known Common w None (Some d) fs m h = (common_notes w, h)
more_known Common w (Some e) n fs m h = absurd m
more_known Attribute w None None fs m h = h
more_known Attribute w None (Some d) fs m h = (attribute_notes w, h)
more_known Attribute w (Some e) None fs m h = (attribute_required w, h)
more_known Attribute w (Some e) (Some d) fs m h = (attribute_required w, (attribute_notes w, h))

more_fit : (w : TypeWord) (r n : Option Data) (fs : Fields) → AllMet (field_demands flag (codes "required") r)
    → AllMet (field_demands annotations (codes "annotations") n) → AllFit (λ k. []) (type_member w) fs
    → AllFit (λ k. []) (type_member w) (with_more r n fs)
more_fit w None None fs f m h = h
more_fit w None (Some d) fs f m h = ((tt, m), h)
more_fit w (Some e) None fs f m h = ((tt, f), h)
more_fit w (Some e) (Some d) fs f m h = ((tt, f), ((tt, m), h))

-- no site needs more than the type
pub site_complete : (site : TypeSite) (fs : Fields) → complete (site_fields site) fs ≡ true
site_complete Plain fs = refl
site_complete Common fs = refl
site_complete Attribute fs = refl

-- ---- a type of these fields

type_met : (site : TypeSite) (s label : List ℕ) (fs : Fields) → found (codes "type") fs ≡ Some (string s)
    → Known (type_fields site (word_of s)) fs → complete (type_fields site (word_of s)) fs ≡ true
    → AllFit (λ k. []) (type_member (word_of s)) fs → AllMet (demands (typed site) label (object (made fs)))
type_met site s label fs e k c h =
    let there : get_member (codes "type") (made fs) ≡ Some (string s) = get_made (codes "type") fs ∙ e in
    both_met (word_fits site (made fs) (get_member (codes "type") (made fs))) _
    (subst (λ o. AllMet (word_fits site (made fs) o)) (sym there) (fits (type_fields site (word_of s)) fs k c))
    (subst (λ v. AllMet (member_demands (λ q. []) (type_member (word_of v)) (made fs))) (sym (ap text_in there))
    (made_met (λ q. []) (type_member (word_of s)) fs h))

pub or_none : (o found' : Option Data) → found' ≡ None → or_next o found' ≡ o
or_none None f e = e
or_none (Some d) f e = refl

-- the members of a type, with more beside them
abbrev pub beside : Option Data → Option Data → Members → Members
beside r n ms = with_optional_value (codes "required") r (with_optional_value (codes "annotations") n ms)

pub record TypeBack (t : «Type» RawName) : Type 0 where
  pub met : (site : TypeSite) (r n : Option Data) (label : List ℕ) → More site r n
      → AllMet (demands (typed site) label (object (beside r n (type_members components t))))
  pub says : (r n : Option Data) → IsType (object (beside r n (type_members components t))) (bare t)
  pub required : (r n : Option Data) → get_member (codes "required") (beside r n (type_members components t)) ≡ r
  pub notes : (r n : Option Data) → get_member (codes "annotations") (beside r n (type_members components t)) ≡ n

pub of_fields : (t : «Type» RawName) (s : List ℕ) (fs : Fields) → type_members components t ≡ made fs
    → found (codes "type") fs ≡ Some (string s) → found (codes "required") fs ≡ None
    → found (codes "annotations") fs ≡ None
    → ((site : TypeSite) → Known (type_fields site (word_of s)) fs)
    → ((site : TypeSite) (r n : Option Data) → complete (type_fields site (word_of s)) (with_more r n fs) ≡ true)
    → AllFit (λ k. []) (type_member (word_of s)) fs
    → ((r n : Option Data) → IsType (object (made (with_more r n fs))) (bare t)) → TypeBack t
of_fields t s fs e there no_flag no_notes k c h says = record {
  met = λ site r n label m. subst (λ ms. AllMet (demands (typed site) label (object (beside r n ms)))) (sym e)
      (type_met site s label (with_more r n fs) there
      (more_known site (word_of s) r n fs m.may (k site)) (c site r n)
      (more_fit (word_of s) r n fs m.flag_met m.notes_met h));
  says = λ r n. subst (λ ms. IsType (object (beside r n ms)) (bare t)) (sym e) (says r n);
  required = λ r n. subst (λ ms. get_member (codes "required") (beside r n ms) ≡ r) (sym e)
      (get_made (codes "required") (with_more r n fs) ∙ or_none r (found (codes "required") fs) no_flag);
  notes = λ r n. subst (λ ms. get_member (codes "annotations") (beside r n ms) ≡ n) (sym e)
      (get_made (codes "annotations") (with_more r n fs) ∙ or_none n (found (codes "annotations") fs) no_notes);
}

abbrev pub word_field : List ℕ → Fields
word_field w = (codes "type", Some (string w)) ∷ []

pub word_here : (w : List ℕ) (r n : Option Data) (fs : Fields) (v : TypeWord)
    → found (codes "type") fs ≡ Some (string w)
    → word_of w ≡ v → HasWord (made (with_more r n fs)) v
word_here w r n fs v e h =
    record { text = w; there = get_made (codes "type") (with_more r n fs) ∙ e; is_word = h }

pub string_back : (loc : Option Loc) → TypeBack (Variant variant.String loc)
string_back loc =
    of_fields (Variant variant.String loc) (codes "String") (word_field (codes "String"))
    (type_variant RawName components variant.String loc ∙ variant_string RawName components) refl refl refl
    (λ site. (refl, tt)) (λ site r n. site_complete site (with_more r n (word_field (codes "String")))) ((tt, tt), tt)
    (λ r n. subst (IsType (object (made (with_more r n (word_field (codes "String"))))))
    (sym (shape_bare _ _ string_bare loc))
    (string_type _ (word_here (codes "String") r n (word_field (codes "String")) word.String refl refl)))

pub long_back : (loc : Option Loc) → TypeBack (Variant variant.Long loc)
long_back loc =
    of_fields (Variant variant.Long loc) (codes "Long") (word_field (codes "Long"))
    (type_variant RawName components variant.Long loc ∙ variant_long RawName components) refl refl refl
    (λ site. (refl, tt)) (λ site r n. site_complete site (with_more r n (word_field (codes "Long")))) ((tt, tt), tt)
    (λ r n. subst (IsType (object (made (with_more r n (word_field (codes "Long"))))))
    (sym (shape_bare _ _ long_bare loc))
    (long_type _ (word_here (codes "Long") r n (word_field (codes "Long")) word.Long refl refl)))

pub boolean_back : (loc : Option Loc) → TypeBack (Variant variant.Boolean loc)
boolean_back loc =
    of_fields (Variant variant.Boolean loc) (codes "Boolean") (word_field (codes "Boolean"))
    (type_variant RawName components variant.Boolean loc ∙ variant_boolean RawName components) refl refl refl
    (λ site. (refl, tt)) (λ site r n. site_complete site (with_more r n (word_field (codes "Boolean")))) ((tt, tt), tt)
    (λ r n. subst (IsType (object (made (with_more r n (word_field (codes "Boolean"))))))
    (sym (shape_bare _ _ boolean_bare loc))
    (boolean_type _ (word_here (codes "Boolean") r n (word_field (codes "Boolean")) word.Boolean refl refl)))

-- ---- types with a name

abbrev name_fields : List ℕ → List ℕ → Fields
name_fields w s = (codes "name", Some (string s)) ∷ word_field w

pub entity_back : (loc : Option Loc) (n : RawName) → TypeBack (Variant (variant.Entity n) loc)
entity_back loc x =
    let s = name_bytes components x in
    let fs = name_fields (codes "Entity") s in
    of_fields (Variant (variant.Entity x) loc) (codes "Entity") fs
    (type_variant RawName components (variant.Entity x) loc ∙ variant_entity RawName components x) refl refl refl
    (λ site. (refl, (refl, tt))) (λ site r n. site_complete site (with_more r n fs))
    ((tt, ((components x, (raw_reads x).0), tt)), ((tt, tt), tt))
    (λ r n. subst (IsType (object (made (with_more r n fs)))) (sym (shape_bare _ _ (entity_bare x) loc))
    (entity_type _ s (bare_name x) (word_here (codes "Entity") r n fs word.Entity refl refl)
    (get_made (codes "name") (with_more r n fs)) (raw_reads x)))

pub either_back : (loc : Option Loc) (n : RawName) → TypeBack (Variant (variant.EntityOrCommon n) loc)
either_back loc x =
    let s = name_bytes components x in
    let fs = name_fields (codes "EntityOrCommon") s in
    of_fields (Variant (variant.EntityOrCommon x) loc) (codes "EntityOrCommon") fs
    (type_variant RawName components (variant.EntityOrCommon x) loc ∙ variant_either RawName components x)
    refl refl refl (λ site. (refl, (refl, tt))) (λ site r n. site_complete site (with_more r n fs))
    ((tt, ((components x, (raw_reads x).0), tt)), ((tt, tt), tt))
    (λ r n. subst (IsType (object (made (with_more r n fs)))) (sym (shape_bare _ _ (either_bare x) loc))
    (either_type _ s (bare_name x) (word_here (codes "EntityOrCommon") r n fs word.EntityOrCommon refl refl)
    (get_made (codes "name") (with_more r n fs)) (raw_reads x)))

pub extension_back : (loc : Option Loc) (id : UnreservedId) → TypeBack (Variant (variant.Extension id) loc)
extension_back loc x =
    let s = x.id.text in
    let fs = name_fields (codes "Extension") s in
    of_fields (Variant (variant.Extension x) loc) (codes "Extension") fs
    (type_variant RawName components (variant.Extension x) loc ∙ variant_extension RawName components x)
    refl refl refl (λ site. (refl, (refl, tt))) (λ site r n. site_complete site (with_more r n fs))
    ((tt, (((s ∷ []), id_reads x), tt)), ((tt, tt), tt))
    (λ r n. subst (IsType (object (made (with_more r n fs)))) (sym (shape_bare _ _ (extension_bare x) loc))
    (extension_type _ s x (word_here (codes "Extension") r n fs word.Extension refl refl)
    (get_made (codes "name") (with_more r n fs)) (id_reads x)))

-- ---- references

reference_met : (x : RawName) (s : List ℕ) → ReadsAs kind.InternalName s (components x) → (w : TypeWord)
    → w ≡ word.Reference → AllMet (reference_fits w s)
reference_met x s h w e = subst (λ v. AllMet (reference_fits v s)) (sym e) ((components x, h), tt)

pub reference_back : (loc : Option Loc) (n : RawName) → is_sayable.IsNoTypeWord n → TypeBack (CommonTypeRef n loc)
reference_back loc x free =
    let s = name_bytes components x in
    let fs = word_field s in
    let is : word_of s ≡ word.Reference = ap word_of (name_bytes_are x.name) ∙ free in
    of_fields (CommonTypeRef x loc) s fs (type_common RawName components x loc) refl refl refl
    (λ site. (refl, tt))
    (λ site r n. subst (λ w. complete (type_fields site w) (with_more r n fs) ≡ true) (sym is)
    (site_complete site (with_more r n fs)))
    (subst (λ w. AllFit (λ k. []) (type_member w) fs) (sym is)
    ((tt, reference_met x s (raw_reads x).0 (word_of s) is), tt))
    (λ r n. subst (IsType (object (made (with_more r n fs)))) (sym (reference_bare x loc))
    (reference _ s (bare_name x) (get_made (codes "type") (with_more r n fs)) is (raw_reads x)))
