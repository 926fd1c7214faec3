-- A tree's type that says what is written becomes a fragment's type that says it.
use Rattle.std.proofs.Common.{◌≡◌, ℕ, Bool, true, false, not, ◌&&◌, ◌||◌, List, [], ◌∷◌, map, Option, Some, None}
use Rattle.std.proofs.Common.{is_some, refl, sym, ap, ◌∙◌, subst, true≢false, if◌then◌else◌}
use Rattle.std.specs.BTreeMap.{is_at}
use Rattle.std.specs.List.Sorted.{IsStrictlySortedBy}
use Rattle.std.specs.Map.{lookup, keys_of}
use Rattle.std.specs.Option.{option_or}
use Rattle.cedar_data.specs.Maps.{map_of, last_at}
use Rattle.cedar_data.specs.Span.{Span}
use Rattle.cedar_data.specs.Text.{text_cmp}
use Rattle.cedar_data.specs.declared.node.Node.{Node}
use Rattle.cedar_data.proofs.Orders.{text_total, text_exact}
use Rattle.cedar_identifiers.specs.Names.{components_of, texts_of}
use Rattle.cedar_identifiers.specs.declared.id.Id.{Id}
use Rattle.cedar_identifiers.specs.declared.raw_name.RawName.{RawName}
use Rattle.schema_syntax_tree.specs.declared.annotated.Annotated.{Annotated}
use Rattle.schema_syntax_tree.specs.declared.types.AttrDecl.{AttrDecl, out-AttrDecl}
use Rattle.schema_syntax_tree.specs.declared.types.Type.{«Type»}
use Rattle.schema_syntax_reader.specs.Leaves.{Notes}
use Rattle.schema_json.specs.Shapes.{attributes_of}
use Rattle.schema_json.specs.declared.types.Type.{«Type» as Shape}
use Rattle.schema_json.specs.declared.types.RecordType.{RecordType, out-RecordType, out-roll-RecordType, RecordType-F}
use Rattle.schema_json.specs.declared.types.TypeOfAttribute.{TypeOfAttribute, roll-TypeOfAttribute, out-TypeOfAttribute}
use Rattle.schema_json.specs.declared.types.TypeOfAttribute.{out-roll-TypeOfAttribute, TypeOfAttribute-F}
use Rattle.schema_json.specs.declared.types.TypeVariant.{TypeVariant}
use Rattle.laws_written.specs.Written.{WrittenType, WrittenAttributes, rec}
use Rattle.laws_written.specs.PrintedDecls.{IsSome}
use Rattle.laws_written.specs.Shows.{ShowsType, shows_path, shows_set, shows_record, ShowsAttributes, shows_none}
use Rattle.laws_written.specs.Shows.{shows_more}
use Rattle.schema_convert_types.specs.Names.{raw_name_of, name_of_ids}
use Rattle.schema_convert_types.specs.Types.{AttributeEntry, record_of, record_type, type_at, attribute_of}
use Rattle.schema_convert_types.proofs.TypeSteps.{set_at, ident_at, record_at, attribute_is}
use Rattle.laws_translate.specs.Named.{IsNamedType, AreNamedAttributes}
use Rattle.laws_translate.specs.TypesSay.{TypeSays, AttributeSays, ByTest, has_attribute, is_last_attribute}
use Rattle.laws_translate.proofs.Maps.{lookup_map, map_rises}
use Rattle.laws_translate.proofs.Same.{IsAttribute}

-- a path has an id
pub named : (ids : List Id) (loc : Option Span) → IsSome (texts_of ids)
    → components_of (name_of_ids ids loc) ≡ texts_of ids
named [] loc h = absurd h
named (i ∷ ids) loc h = refl

abbrev Attribute-F : Type 0
Attribute-F = TypeOfAttribute-F RawName (Shape RawName) (TypeVariant RawName) (RecordType RawName)
    (TypeOfAttribute RawName)

abbrev Record-F : Type 0
Record-F = RecordType-F RawName (Shape RawName) (TypeVariant RawName) (RecordType RawName) (TypeOfAttribute RawName)

-- what is beside a name, in front of what was found
abbrev in_front : Bool → TypeOfAttribute RawName → Option (TypeOfAttribute RawName) → Option (TypeOfAttribute RawName)
in_front test a found = option_or found (if test then Some a else None)

in_front_is : (test : Bool) (a : TypeOfAttribute RawName) (found : Option (TypeOfAttribute RawName))
    → is_some (in_front test a found) ≡ (is_some found || test)
in_front_is true a None = refl
in_front_is false a None = refl
in_front_is true a (Some x) = refl
in_front_is false a (Some x) = refl

chosen : (test has : Bool) (found : Option (TypeOfAttribute RawName)) (a : TypeOfAttribute RawName)
    (Here There : Option (TypeOfAttribute RawName) → Type 0)
    → is_some found ≡ has → Here (Some a) → There found
    → ByTest (test && not has) (Here (in_front test a found)) (There (in_front test a found))
chosen true true None a Here There e h t = absurd (true≢false (sym e))
chosen true false None a Here There e h t = h
chosen true true (Some x) a Here There e h t = t
chosen true false (Some x) a Here There e h t = absurd (true≢false e)
chosen false has None a Here There e h t = t
chosen false has (Some x) a Here There e h t = t

-- what a node of an attribute becomes, beside its name
abbrev made_of : Node (Annotated AttrDecl) → Attribute-F
made_of y =
    record {
      ty = type_at (out-AttrDecl y.node.item).ty.node (out-AttrDecl y.node.item).ty.loc;
      annotations =
          y.node.annotations;
      required = (out-AttrDecl y.node.item).required;
    }

abbrev attribute_made : Node (Annotated AttrDecl) → TypeOfAttribute RawName
attribute_made y = roll-TypeOfAttribute RawName (made_of y)

entry_is : (y : Node (Annotated AttrDecl)) (n : List ℕ) → (out-AttrDecl y.node.item).name.node ≡ n
    → attribute_of y ≡ (let e : AttributeEntry = (n, attribute_made y) in e)
entry_is y n name = attribute_is y.node.item y.node.annotations
    ∙ ap {A = List ℕ} {B = AttributeEntry} (λ m. (m, attribute_made y)) name

abbrev found_in : List ℕ → List (Node (Annotated AttrDecl)) → Option (TypeOfAttribute RawName)
found_in name ys = last_at (is_at (text_cmp name)) (map attribute_of ys)

found_more : (y : Node (Annotated AttrDecl)) (ys : List (Node (Annotated AttrDecl))) (n name : List ℕ)
    → (out-AttrDecl y.node.item).name.node ≡ n
    → found_in name (y ∷ ys) ≡ in_front (is_at (text_cmp name) n) (attribute_made y) (found_in name ys)
found_more y ys n name e = ap {A = AttributeEntry} (λ p. in_front (is_at (text_cmp name) p.0) p.1 (found_in name ys))
    (entry_is y n e)

has_one : {ys : List (Node (Annotated AttrDecl))} {xs : WrittenAttributes} → ShowsAttributes ys xs → (name : List ℕ)
    → is_some (found_in name ys) ≡ has_attribute name xs
has_one shows_none name = refl
has_one (shows_more y {ys = ys} {n = n} e required ty notes others) name =
    ap is_some (found_more y ys n name e)
    ∙ (in_front_is (is_at (text_cmp name) n) (attribute_made y) (found_in name ys)
    ∙ ap (λ b. b || is_at (text_cmp name) n) (has_one others name))

here : (y : Node (Annotated AttrDecl)) (ns : Notes) (r : Bool) (t : WrittenType)
    → (out-AttrDecl y.node.item).required ≡ r
    → TypeSays (type_at (out-AttrDecl y.node.item).ty.node (out-AttrDecl y.node.item).ty.loc) t
    → y.node.annotations.0 ≡ ns → IsAttribute ns r t (Some (attribute_made y))
here y ns r t required ty notes =
    let back : out-TypeOfAttribute RawName (attribute_made y) ≡ made_of y =
    out-roll-TypeOfAttribute RawName (made_of y) in (
      attribute_made y,
      refl,
      subst (λ (a : Attribute-F). TypeSays a.ty t) (sym back) ty,
      ap (λ (a : Attribute-F). a.annotations.0) back ∙ notes,
      ap (λ (a : Attribute-F). a.required) back ∙ required,
    )

-- a record of entries says what the last entry of each name says
pub record_says : (es : List AttributeEntry) (xs : WrittenAttributes) (loc : Option Span)
    → ((name : List ℕ) → AttributeSays name (last_at (is_at (text_cmp name)) es) xs)
    → TypeSays (record_type es loc) (rec xs)
record_says es xs loc h =
    let made : Record-F = record { attributes = map_of text_cmp es; additional_attributes = false } in
    let back : out-RecordType RawName (record_of es) ≡ made = out-roll-RecordType RawName made in
    let whole : attributes_of (record_of es) ≡ map_of text_cmp es = ap (λ (r : Record-F). r.attributes) back in (
      record_of es,
      loc,
      refl,
      ap (λ (r : Record-F). r.additional_attributes) back,
      subst (λ l. IsStrictlySortedBy text_cmp (keys_of l)) (sym whole)
          (map_rises (TypeOfAttribute RawName) text_cmp text_total text_exact (λ n. n) es),
      λ name. subst (λ found. AttributeSays name found xs)
          (sym (ap (lookup (is_at (text_cmp name))) whole
          ∙ lookup_map (TypeOfAttribute RawName) text_cmp text_total text_exact (λ n. n) name es)) (h name),
    )

mutual
  pub type_says : {n : «Type»} {t : WrittenType} → ShowsType n t → IsNamedType t → (loc : Option Span)
      → TypeSays (type_at n loc) t
  type_says (shows_path p) h loc = (raw_name_of p, loc, ident_at p loc, named p.ids p.loc h)
  type_says (shows_set n k) h loc = (type_at n.node n.loc, loc, set_at n loc, type_says k h n.loc)
  type_says (shows_record ys {xs = xs} k) h loc =
      subst (λ s. TypeSays s (rec xs)) (sym (record_at ys loc))
      (record_says (map attribute_of ys) xs loc (attributes_say k h))

  pub attributes_say : {ys : List (Node (Annotated AttrDecl))} {xs : WrittenAttributes} → ShowsAttributes ys xs
      → AreNamedAttributes xs → (name : List ℕ)
      → AttributeSays name (last_at (is_at (text_cmp name)) (map attribute_of ys)) xs
  attributes_say shows_none h name = refl
  attributes_say (shows_more y {ys = ys} {ns = ns} {n = n} {r = r} {t = t} {xs = xs} e required ty notes others)
      h name =
      subst (λ found. ByTest (is_last_attribute name n xs) (IsAttribute ns r t found) (AttributeSays name found xs))
      (sym (found_more y ys n name e))
      (chosen (is_at (text_cmp name) n) (has_attribute name xs) (found_in name ys) (attribute_made y)
      (IsAttribute ns r t) (λ found. AttributeSays name found xs)
      (has_one others name) (here y ns r t required (type_says ty h.0 (out-AttrDecl y.node.item).ty.loc) notes)
      (attributes_say others h.1 name))
