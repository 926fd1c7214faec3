-- The members of each kind of type, one equation a layer.
use Rattle.std.proofs.Common.{◌≡◌, ℕ, ◌<◌, not, false, List, [], ◌∷◌, ◌+◌, length, get_or, drop}
use Rattle.std.proofs.Common.{map, codes, refl, ap, sym, ◌∙◌, Option}
use Rattle.std.proofs.lemmas.List.{drop_more}
use Rattle.serde_json.specs.Data.{Data, Members, object, string, put}
use Rattle.cedar_data.specs.declared.loc.Loc.{Loc}
use Rattle.cedar_identifiers.specs.declared.unreserved_id.UnreservedId.{UnreservedId}
use Rattle.schema_json.specs.declared.types.Type.{«Type»}
use Rattle.schema_json.specs.declared.types.Type.TheVariants.{Variant, CommonTypeRef}
use Rattle.schema_json.specs.declared.types.TypeVariant.{TypeVariant}
use Rattle.schema_json.specs.declared.types.TypeVariant.TheVariants.{Set, Record, Entity, EntityOrCommon, Extension}
use Rattle.schema_json.specs.declared.types.TypeVariant.TheVariants.{String, Long, Boolean}
use Rattle.schema_json.specs.declared.types.RecordType.{RecordType, out-RecordType, fold_out-RecordType}
use Rattle.schema_json.specs.declared.types.TypeOfAttribute.{TypeOfAttribute, out-TypeOfAttribute}
use Rattle.schema_json.specs.declared.types.TypeOfAttribute.{fold_out-TypeOfAttribute}
use Rattle.schema_json.proofs.Layers.{variant_made, reference_made, string_made, long_made, boolean_made, set_made}
use Rattle.schema_json.proofs.Layers.{record_made, entity_made, either_made, extension_made}
use Rattle.schema_json_values.specs.TypeValues.{put_all, type_layer, variant_layer, record_layer, attribute_layer}
use Rattle.schema_json_values.specs.TypeValues.{layer_entry, attribute_entry, attribute_members, type_members}
use Rattle.schema_json_values.specs.TypeValues.{variant_members, record_members, with_attributes, with_word, with_flag}
use Rattle.schema_json_values.specs.TypeValues.{with_annotations, name_bytes}

-- one member more
pub put_step : {X : Type 0} (f : X → List ℕ × Data) (es : List X) (i : ℕ) (x : X) (ms new : Members) → i < length es
    → x ≡ get_or es i x → new ≡ put (f x).0 (f x).1 ms
    → put_all (map f (drop (i + 1) es)) new ≡ put_all (map f (drop i es)) ms
put_step f es i x ms new h is e =
    let here : drop i es ≡ x ∷ drop (i + 1) es = drop_more es i x h ∙ ap (λ y. y ∷ drop (i + 1) es) (sym is) in
    ap (put_all (map f (drop (i + 1) es))) e ∙ sym (ap (λ d. put_all (map f d) ms) here)

module _ (N : Type 0) (names : N → List (List ℕ)) where
  entries_made : (es : List (List ℕ × TypeOfAttribute N))
      → map layer_entry (map (λ p. let q : List ℕ × Members = (p.0, attribute_members names p.1) in q) es)
      ≡ map (attribute_entry names) es
  entries_made [] = refl
  entries_made (e ∷ es) = ap (λ xs. attribute_entry names e ∷ xs) (entries_made es)

  pub record_out : (r : RecordType N)
      → record_members names r ≡ with_attributes (map (attribute_entry names) (out-RecordType N r).attributes)
      (out-RecordType N r).additional_attributes
  record_out r =
      fold_out-RecordType N Members Members Members Members (type_layer names) (variant_layer names)
      (record_layer names) (attribute_layer names) r
      ∙ ap (λ es. with_attributes es (out-RecordType N r).additional_attributes)
      (entries_made (out-RecordType N r).attributes)

  pub attribute_out : (a : TypeOfAttribute N)
      → attribute_members names a ≡ with_flag (not (out-TypeOfAttribute N a).required) (codes "required") false
      (with_annotations (out-TypeOfAttribute N a).annotations.0 (type_members names (out-TypeOfAttribute N a).ty))
  attribute_out a = fold_out-TypeOfAttribute N Members Members Members Members (type_layer names)
      (variant_layer names) (record_layer names) (attribute_layer names) a

  pub type_variant : (ty : TypeVariant N) (loc : Option Loc)
      → type_members names (Variant ty loc) ≡ variant_members names ty
  type_variant ty loc =
      variant_made N (type_layer names) (variant_layer names) (record_layer names) (attribute_layer names) ty loc

  pub type_common : (n : N) (loc : Option Loc)
      → type_members names (CommonTypeRef n loc) ≡ with_word (name_bytes names n)
  type_common n loc =
      reference_made N (type_layer names) (variant_layer names) (record_layer names) (attribute_layer names) n loc

  pub variant_set : (t : «Type» N)
      → variant_members names (Set t) ≡ put (codes "element") (object (type_members names t)) (with_word (codes "Set"))
  variant_set t = set_made N (type_layer names) (variant_layer names) (record_layer names) (attribute_layer names) t

  pub variant_record : (r : RecordType N)
      → variant_members names (Record r)
      ≡ with_attributes (map (attribute_entry names) (out-RecordType N r).attributes)
      (out-RecordType N r).additional_attributes
  variant_record r =
      record_made N (type_layer names) (variant_layer names) (record_layer names) (attribute_layer names) r
      ∙ record_out r

  pub variant_entity : (n : N) → variant_members names (Entity n)
      ≡ put (codes "name") (string (name_bytes names n)) (with_word (codes "Entity"))
  variant_entity n =
      entity_made N (type_layer names) (variant_layer names) (record_layer names) (attribute_layer names) n

  pub variant_either : (n : N) → variant_members names (EntityOrCommon n)
      ≡ put (codes "name") (string (name_bytes names n)) (with_word (codes "EntityOrCommon"))
  variant_either n =
      either_made N (type_layer names) (variant_layer names) (record_layer names) (attribute_layer names) n

  pub variant_extension : (id : UnreservedId)
      → variant_members names (Extension id) ≡ put (codes "name") (string id.id.text) (with_word (codes "Extension"))
  variant_extension id =
      extension_made N (type_layer names) (variant_layer names) (record_layer names) (attribute_layer names) id

  pub variant_string : variant_members names String ≡ with_word (codes "String")
  variant_string = string_made N (type_layer names) (variant_layer names) (record_layer names) (attribute_layer names)

  pub variant_long : variant_members names Long ≡ with_word (codes "Long")
  variant_long = long_made N (type_layer names) (variant_layer names) (record_layer names) (attribute_layer names)

  pub variant_boolean : variant_members names Boolean ≡ with_word (codes "Boolean")
  variant_boolean =
      boolean_made N (type_layer names) (variant_layer names) (record_layer names) (attribute_layer names)
