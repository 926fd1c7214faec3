-- A type in whose walk stands no open record is closed.
use Rattle.std.proofs.Common.{◌≡◌, ℕ, Bool, true, false, not, List, [], ◌∷◌, map, Option, refl, ap, ◌∙◌, subst, ◌&&◌}
use Rattle.std.specs.List.{AllByRecursion}
use Rattle.std.proofs.lemmas.Bool.{and_from}
use Rattle.cedar_data.specs.declared.loc.Loc.{Loc}
use Rattle.cedar_data.proofs.Every.{all_front, all_back}
use Rattle.cedar_identifiers.specs.declared.raw_name.RawName.{RawName}
use Rattle.schema_json.specs.Shapes.{attributes_of, is_open}
use Rattle.schema_json.specs.declared.types.Type.{«Type», Type-F, out-Type, map-Type, fold_out-Type}
use Rattle.schema_json.specs.declared.types.TypeVariant.{TypeVariant}
use Rattle.schema_json.specs.declared.types.RecordType.{RecordType, fold_out-RecordType}
use Rattle.schema_json.specs.declared.types.TypeOfAttribute.{TypeOfAttribute, fold_out-TypeOfAttribute}
use Rattle.schema_json.proofs.Layers.{Layers, variant_made, reference_made, string_made, long_made, boolean_made}
use Rattle.schema_json.proofs.Layers.{set_made, record_made, entity_made, either_made, extension_made, each_type}
use Rattle.schema_json.proofs.Layers.{each_variant}
use Rattle.schema_json_walk.proofs.Layers.{type_walked, record_walked, variant_walked, set_walked, attribute_walked}
use Rattle.schema_json_walk.specs.Parts.{Part, open_record}
use Rattle.schema_json_walk.specs.Walk.{itself, visit_where, of_type}
use Rattle.schema_json_walk.specs.Walk.{of_variant, of_record, of_attribute, of_entries}
use Rattle.schema_print.specs.Printable.{IsClosedPart}
use Rattle.laws_print.specs.Printed.Textual.{all_hold, closed_layer, closed_variant_layer}
use Rattle.laws_print.specs.Printed.Textual.{closed_record_layer, closed_attribute_layer, is_closed_type}
use Rattle.laws_print.specs.Printed.Textual.{is_closed_variant, is_closed_record, is_closed_attribute}

abbrev N : Type 0
N = RawName

abbrev Parts : Type 0
Parts = List (Part N)

abbrev AreClosed : Parts → Type 0
AreClosed = AllByRecursion IsClosedPart

abbrev Entry : Type 0
Entry = List ℕ × TypeOfAttribute N

abbrev P : «Type» N → Type 0
P s = AreClosed (of_type itself s) → is_closed_type s ≡ true

abbrev P1 : TypeVariant N → Type 0
P1 v = AreClosed (of_variant itself v) → is_closed_variant v ≡ true

abbrev P2 : RecordType N → Type 0
P2 r = AreClosed (of_record itself r) → is_closed_record r ≡ true

abbrev P3 : TypeOfAttribute N → Type 0
P3 a = AreClosed (of_attribute itself a) → is_closed_attribute a ≡ true

-- the attributes of a record
abbrev pub closed_entries : List Entry → List (List ℕ × Bool)
closed_entries es = map (λ p. let q : List ℕ × Bool = (p.0, is_closed_attribute p.1) in q) es

pub record_told : (r : RecordType N)
    → is_closed_record r ≡ (not (is_open r) && all_hold (closed_entries (attributes_of r)))
record_told r =
    fold_out-RecordType N Bool Bool Bool Bool closed_layer closed_variant_layer closed_record_layer
    closed_attribute_layer r

entries_closed : (es : List Entry) → AllByRecursion (λ e. P3 e.1) es → AreClosed (of_entries itself es)
    → all_hold (closed_entries es) ≡ true
entries_closed [] each h = refl
entries_closed (e ∷ es) each h =
    let first = of_attribute itself e.1 in
    and_from (is_closed_attribute e.1) (all_hold (closed_entries es))
    (each.0 (all_front IsClosedPart first (of_entries itself es) h))
    (entries_closed es each.1 (all_back IsClosedPart first (of_entries itself es) h))

not_open : (more : Bool) → AreClosed (visit_where itself more open_record) → not more ≡ true
not_open true h = absurd h.0
not_open false h = refl

layers : Layers N P P1 P2 P3
layers =
    let f = closed_layer in
    let g = closed_variant_layer in
    let h = closed_record_layer in
    let k = closed_attribute_layer in
    record {
      variant = λ v loc inner c. variant_made N f g h k v loc ∙ inner (subst AreClosed (type_walked itself v loc) c);
      reference = λ n loc c. reference_made N f g h k n loc;
      string = λ c. string_made N f g h k;
      long = λ c. long_made N f g h k;
      boolean = λ c. boolean_made N f g h k;
      set = λ t inner c. set_made N f g h k t ∙ inner (subst AreClosed (set_walked itself t) c);
      fields = λ r inner c. record_made N f g h k r ∙ inner (subst AreClosed (variant_walked itself r) c);
      entity = λ n c. entity_made N f g h k n;
      either = λ n c. either_made N f g h k n;
      extension = λ id c. extension_made N f g h k id;
      entries = λ r each c.
          let es = attributes_of r in
          let parts = subst AreClosed (record_walked itself r) c in
          record_told r
          ∙ and_from (not (is_open r)) (all_hold (closed_entries es))
          (not_open (is_open r) (all_front IsClosedPart (visit_where itself (is_open r) open_record)
          (of_entries itself es) parts))
          (entries_closed es each (all_back IsClosedPart (visit_where itself (is_open r) open_record)
          (of_entries itself es) parts));
      attribute = λ a inner c.
          fold_out-TypeOfAttribute N Bool Bool Bool Bool f g h k a
          ∙ inner (subst AreClosed (attribute_walked itself a) c);
    }

-- a type without open records
pub type_closed : (s : «Type» N) → AreClosed (of_type itself s) → is_closed_type s ≡ true
type_closed = each_type N P P1 P2 P3 layers

variant_closed : (v : TypeVariant N) → AreClosed (of_variant itself v) → is_closed_variant v ≡ true
variant_closed = each_variant N P P1 P2 P3 layers

-- a type that is no reference to a common type is closed where its shape is
pub outside_closed : (s : «Type» N) (v : TypeVariant N) (loc : Option Loc) → out-Type N s ≡ Type-F.Variant v loc
    → AreClosed (of_variant itself v) → is_closed_type s ≡ true
outside_closed s v loc e h =
    fold_out-Type N Bool Bool Bool Bool closed_layer closed_variant_layer closed_record_layer closed_attribute_layer s
    ∙ (ap closed_outer e ∙ variant_closed v h)
  where
    closed_outer : Type-F N («Type» N) (TypeVariant N) (RecordType N) (TypeOfAttribute N) → Bool
    closed_outer o = closed_layer (map-Type N _ _ _ _ _ _ _ _ is_closed_type is_closed_variant is_closed_record
        is_closed_attribute o)
