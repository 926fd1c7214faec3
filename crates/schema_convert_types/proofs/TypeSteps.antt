-- The equations of what types and attributes become.
use Rattle.std.proofs.Common.{◌≡◌, ℕ, List, Option, map, sym, ap, ◌∙◌}
use Rattle.cedar_data.specs.Span.{Span}
use Rattle.cedar_data.specs.declared.node.Node.{Node}
use Rattle.cedar_data.proofs.Lists.{map-map}
use Rattle.cedar_identifiers.specs.declared.annotations.Annotations.{Annotations}
use Rattle.cedar_identifiers.specs.declared.raw_name.RawName.{RawName}
use Rattle.schema_syntax_tree.specs.declared.annotated.Annotated.{Annotated}
use Rattle.schema_syntax_tree.specs.declared.path.Path.{Path}
use Rattle.schema_syntax_tree.specs.declared.types.AttrDecl.{AttrDecl, out-AttrDecl}
use Rattle.schema_syntax_tree.specs.declared.types.Type.{«Type»}
use Rattle.schema_syntax_tree.specs.declared.types.Type.TheVariants.{Set, Ident, Record, rolls-Set, rolls-Ident}
use Rattle.schema_syntax_tree.specs.declared.types.Type.TheVariants.{rolls-Record}
use Rattle.schema_syntax_tree.specs.declared.types.Type.TheOpen.{Type-F}
use Rattle.schema_syntax_tree.specs.declared.types.Type.TheFolds.{fold-roll-Type, fold_out-AttrDecl}
use Rattle.schema_json.specs.declared.types.Type.{«Type» as Shape}
use Rattle.schema_json.specs.declared.types.Type.TheVariants as shape
use Rattle.schema_json.specs.declared.types.TypeVariant.TheVariants as variant
use Rattle.schema_json.specs.declared.types.TypeOfAttribute.{roll-TypeOfAttribute}
use Rattle.schema_convert_types.specs.Names.{raw_name_of}
use Rattle.schema_convert_types.specs.Types.{AttributeEntry, record_type, translated_type}
use Rattle.schema_convert_types.specs.Types.{translated_attribute, type_at, attribute_beside, attribute_of}

pub set_at : (n : Node «Type») (loc : Option Span)
    → type_at (Set n) loc ≡ shape.Variant (variant.Set (type_at n.node n.loc)) loc
unfolding type_at
set_at n loc = ap (λ t. type_at t loc) (sym (rolls-Set n))
    ∙ ap (λ (f : Option Span → Shape RawName). f loc)
    (fold-roll-Type (Option Span → Shape RawName) (Annotations → AttributeEntry) translated_type translated_attribute
    (Type-F.Set n))

pub ident_at : (path : Path) (loc : Option Span)
    → type_at (Ident path) loc ≡ shape.Variant (variant.EntityOrCommon (raw_name_of path)) loc
unfolding type_at
ident_at path loc = ap (λ t. type_at t loc) (sym (rolls-Ident path))
    ∙ ap (λ (f : Option Span → Shape RawName). f loc)
    (fold-roll-Type (Option Span → Shape RawName) (Annotations → AttributeEntry) translated_type translated_attribute
    (Type-F.Ident path))

pub record_at : (attributes : List (Node (Annotated AttrDecl))) (loc : Option Span)
    → type_at (Record attributes) loc ≡ record_type (map attribute_of attributes) loc
unfolding type_at attribute_beside
record_at attributes loc =
    let step = ap (λ t. type_at t loc) (sym (rolls-Record attributes))
    ∙ ap (λ (f : Option Span → Shape RawName). f loc)
    (fold-roll-Type (Option Span → Shape RawName) (Annotations → AttributeEntry) translated_type translated_attribute
    (Type-F.Record attributes)) in
    step ∙ ap (λ entries. record_type entries loc) (map-map _ _ attributes)

pub attribute_is : (a : AttrDecl) (notes : Annotations)
    → attribute_beside a notes ≡ (
      (out-AttrDecl a).name.node,
      roll-TypeOfAttribute RawName
          (record {
            ty = type_at (out-AttrDecl a).ty.node (out-AttrDecl a).ty.loc;
            annotations = notes;
            required = (out-AttrDecl a).required;
          }),
    )
unfolding type_at attribute_beside
attribute_is a notes = ap (λ (f : Annotations → AttributeEntry). f notes)
    (fold_out-AttrDecl (Option Span → Shape RawName) (Annotations → AttributeEntry) translated_type
    translated_attribute a)

-- an attribute whose parts were made
pub attribute_made : (n : Node (Annotated AttrDecl)) (ty : Shape RawName) (notes : Annotations) (name : List ℕ)
    → ty ≡ type_at (out-AttrDecl n.node.item).ty.node (out-AttrDecl n.node.item).ty.loc → notes ≡ n.node.annotations
    → name ≡ (out-AttrDecl n.node.item).name.node
    → (let made : AttributeEntry = (
      name,
      roll-TypeOfAttribute RawName
          (record { ty = ty; annotations = notes; required = (out-AttrDecl n.node.item).required }),
    ) in made) ≡ attribute_of n
attribute_made n ty notes name e f g =
    let required = (out-AttrDecl n.node.item).required in
    (λ i. (g i, roll-TypeOfAttribute RawName (record { ty = e i; annotations = f i; required = required })))
    ∙ sym (attribute_is n.node.item n.node.annotations)
