-- What is written of annotations reads back.
use Rattle.std.proofs.Common.{◌≡◌, ℕ, List, [], ◌∷◌, map, Option, Some, None, refl, sym, ap, subst, map-id}
use Rattle.std.specs.Prelude.{codes, IfSome}
use Rattle.std.specs.List.{AllByRecursion}
use Rattle.std.proofs.lemmas.Str.{chars-encodes}
use Rattle.serde_json.specs.Data.{Data, Members, no_members}
use Rattle.cedar_data.specs.Text.{text_cmp}
use Rattle.cedar_data.proofs.Orders.{text_total}
use Rattle.cedar_identifiers.specs.declared.annotations.Annotations.{Annotations}
use Rattle.cedar_identifiers.specs.declared.any_id.AnyId.{AnyId}
use Rattle.schema_json.specs.Orders.{annotation_key_cmp}
use Rattle.schema_json_values.specs.TypeValues.{object_of, annotation_entry, text_or_null, with_annotations}
use Rattle.schema_json_values.specs.FragmentValues.{with_optional_value}
use Rattle.schema_json_shapes.specs.Said.{IsMap, IsAnnotationMap, IsAnyId, IsAnnotation}
use Rattle.schema_json_shapes.specs.Walk.{AllMet, demands, annotation, annotations, key_demands}
use Rattle.schema_json_shapes.specs.Reads.{field_demands}
use Rattle.laws_json.proofs.Current.NamesRead.{key_reads}
use Rattle.laws_json.specs.Back.Sayable.{IsCharacters, AreSayableNotes}
use Rattle.laws_json.proofs.Back.Names.{flipped, keys_apart}
use Rattle.laws_json.proofs.Back.Placed.{RisesBy, rises_from, all_met, says_map}

-- the member of the annotations, where there are any
abbrev pub notes_field : List (AnyId × Option (List ℕ)) → Option Data
notes_field [] = None
notes_field (a ∷ as') = Some (object_of (map annotation_entry (a ∷ as')))

pub notes_value : (notes : List (AnyId × Option (List ℕ))) (ms : Members)
    → with_annotations notes ms ≡ with_optional_value (codes "annotations") (notes_field notes) ms
notes_value [] ms = refl
notes_value (a ∷ as') ms = refl

value_says : (v : Option (List ℕ)) → IfSome v IsCharacters → IsAnnotation (text_or_null v) v
value_says None h = refl
value_says (Some t) h = ap Some (sym (chars-encodes t h))

each_says : (notes : List (AnyId × Option (List ℕ))) → AllByRecursion (λ n. IfSome n.1 IsCharacters) notes
    → AllByRecursion (λ n. IsAnyId (annotation_entry n).0 n.0 × IsAnnotation (annotation_entry n).1 n.1) notes
each_says [] h = tt
each_says (n ∷ ns) h = ((key_reads n.0, value_says n.1 h.0), each_says ns h.1)

map_says : (notes : List (AnyId × Option (List ℕ))) → RisesBy (λ x y. annotation_key_cmp x.0 y.0) notes
    → AllByRecursion (λ n. IfSome n.1 IsCharacters) notes
    → IsMap annotation_key_cmp IsAnyId IsAnnotation (object_of (map annotation_entry notes)) notes
map_says notes r h =
    subst (IsMap annotation_key_cmp IsAnyId IsAnnotation (object_of (map annotation_entry notes))) (map-id notes)
    (says_map IsAnyId IsAnnotation annotation_key_cmp (λ x y. flipped text_cmp text_total x.text y.text) keys_apart
    annotation_entry (λ n. n) notes r (each_says notes h))

notes_say_at : (notes : List (AnyId × Option (List ℕ))) → RisesBy (λ x y. annotation_key_cmp x.0 y.0) notes
    → AllByRecursion (λ n. IfSome n.1 IsCharacters) notes
    → IsAnnotationMap (notes_field notes) (record { 0 = notes })
notes_say_at [] r h = refl
notes_say_at (n ∷ ns) r h = map_says (n ∷ ns) r h

pub notes_say : (a : Annotations) → AreSayableNotes a → IsAnnotationMap (notes_field a.0) a
notes_say a p = notes_say_at a.0 (rises_from text_cmp (λ n. n.0.text) a.0 p.rise) p.values

value_met : (k : List ℕ) (v : Option (List ℕ)) → AllMet (demands annotation k (text_or_null v))
value_met k None = tt
value_met k (Some t) = tt

each_met : (notes : List (AnyId × Option (List ℕ)))
    → AllByRecursion (λ n. AllMet (key_demands annotations (annotation_entry n).0)
    × AllMet (demands annotation (annotation_entry n).0 (annotation_entry n).1)) notes
each_met [] = tt
each_met (n ∷ ns) = (((((n.0.text ∷ []), key_reads n.0), tt), value_met n.0.text n.1), each_met ns)

pub notes_met : (label : List ℕ) (notes : List (AnyId × Option (List ℕ)))
    → AllMet (field_demands annotations label (notes_field notes))
notes_met label [] = tt
notes_met label (n ∷ ns) =
    all_met (key_demands annotations) (λ k. annotation) annotation_entry (n ∷ ns) no_members (each_met (n ∷ ns)) tt
