-- What is written of a type, the type says in the form that its text has.
use Rattle.std.proofs.Common.{◌≡◌, ℕ, Bool, true, false, not, ◌&&◌, ◌||◌, List, [], ◌∷◌, map, Option, Some, refl, sym}
use Rattle.std.proofs.Common.{ap, ◌∙◌, subst, cond, true≢false}
use Rattle.std.specs.BTreeMap.{is_at}
use Rattle.std.specs.Cmp.{first_so, second_so}
use Rattle.std.specs.List.{AllByRecursion}
use Rattle.std.specs.List.Sorted.{IsStrictlySortedBy}
use Rattle.std.specs.Map.{lookup, keys_of}
use Rattle.std.specs.Ordering.{is_eq}
use Rattle.std.specs.declared.cmp.Ordering.TheVariants.{Less}
use Rattle.std.proofs.lemmas.Map.Keys.{sorted_head, sorted_tail}
use Rattle.std.proofs.lemmas.Bool.{not-true}
use Rattle.cedar_data.specs.Span.{Span}
use Rattle.cedar_data.specs.Text.{text_cmp}
use Rattle.cedar_data.proofs.Orders.{equal_from, text_exact}
use Rattle.cedar_identifiers.specs.Names.{components_of}
use Rattle.cedar_identifiers.specs.declared.raw_name.RawName.{RawName}
use Rattle.schema_syntax_reader.specs.Leaves.{Notes}
use Rattle.schema_json.specs.Shapes.{attributes_of, is_open}
use Rattle.schema_json.specs.declared.types.Type.{«Type», Type-F, out-Type, roll-Type}
use Rattle.schema_json.specs.declared.types.Type.TheVariants as shape
use Rattle.schema_json.specs.declared.types.TypeVariant.{TypeVariant, TypeVariant-F, out-TypeVariant, roll-TypeVariant}
use Rattle.schema_json.specs.declared.types.TypeVariant.TheVariants as variant
use Rattle.schema_json.specs.declared.types.RecordType.{RecordType, RecordType-F, out-RecordType, roll-RecordType}
use Rattle.schema_json.specs.declared.types.RecordType.{out-roll-RecordType, fold_out-RecordType}
use Rattle.schema_json.specs.declared.types.TypeOfAttribute.{TypeOfAttribute, TypeOfAttribute-F, out-TypeOfAttribute}
use Rattle.schema_json.specs.declared.types.TypeOfAttribute.{roll-TypeOfAttribute, out-roll-TypeOfAttribute}
use Rattle.schema_json.specs.declared.types.TypeOfAttribute.{fold_out-TypeOfAttribute}
use Rattle.laws_written.specs.Written.{WrittenType, WrittenAttributes, path, set, rec, no_more, attribute}
use Rattle.laws_translate.specs.TypesSay.{TypeSays, AttributeSays, ByTest, has_attribute, is_last_attribute}
use Rattle.schema_print_text.specs.PrintedTypes.{PrintedAttribute, printed_attributes, type_layer, variant_layer}
use Rattle.schema_print_text.specs.PrintedTypes.{record_layer, attribute_layer, printed_type, printed_variant}
use Rattle.schema_print_text.specs.PrintedTypes.{printed_record, printed_attribute, printed_entries}
use Rattle.laws_print.specs.Printed.CedarForm.{builtin_name, bool_name, long_name, string_name, cedar_layer}
use Rattle.laws_print.specs.Printed.CedarForm.{cedar_variant_layer, cedar_type, cedar_variant, cedar_record}
use Rattle.laws_print.specs.Printed.CedarForm.{cedar_attribute}
use Rattle.laws_print.specs.Printed.Textual.{components_written, all_hold, closed_layer, closed_variant_layer}
use Rattle.laws_print.specs.Printed.Textual.{closed_record_layer, closed_attribute_layer, is_closed_type}
use Rattle.laws_print.specs.Printed.Textual.{is_closed_variant, is_closed_record, is_closed_attribute, attribute_names}
use Rattle.laws_print.specs.Printed.Textual.{IsRisingType, AreRisingAttributes, IsTextualType}
use Rattle.laws_print.proofs.Printed.Folds.{Outer, Inner, inner_made, type_made, variant_made, name_bytes}

abbrev pub Entry : Type 0
Entry = List ℕ × TypeOfAttribute RawName

abbrev cedar_entry : Entry → Entry
cedar_entry e = (e.0, cedar_attribute e.1)

abbrev closed_entry : Entry → List ℕ × Bool
closed_entry e = (e.0, is_closed_attribute e.1)

abbrev pub printed : «Type» RawName → WrittenType
printed = printed_type components_written

abbrev pub entries_printed : List Entry → WrittenAttributes
entries_printed = printed_entries components_written

-- what a type is, in this form and as it is written
pub data CedarView (s : «Type» RawName) : Type 0 where
  reference : (n : RawName) (loc : Option Span) → cedar_type s ≡ shape.Variant (variant.EntityOrCommon n) loc
      → printed s ≡ path (components_of n.name) → CedarView s
  of_set : (e : «Type» RawName) (loc : Option Span) → cedar_type s ≡ shape.Variant (variant.Set (cedar_type e)) loc
      → printed s ≡ set (printed e) → is_closed_type s ≡ is_closed_type e → CedarView s
  of_record : (r : RecordType RawName) (loc : Option Span)
      → cedar_type s ≡ shape.Variant (variant.Record (cedar_record r)) loc
      → printed s ≡ rec (entries_printed (attributes_of r))
      → is_closed_type s ≡ is_closed_record r → CedarView s

entries_made : (es : List Entry)
    → printed_attributes
    (map (λ p. let q : List ℕ × PrintedAttribute = (p.0, printed_attribute components_written p.1) in q) es)
    ≡ entries_printed es
entries_made [] = refl
entries_made (e ∷ es) =
    let a = printed_attribute components_written e.1 in
    ap (λ xs. attribute a.notes e.0 a.required a.ty xs) (entries_made es)

record_printed : (r : RecordType RawName) → printed_record components_written r ≡ entries_printed (attributes_of r)
record_printed r =
    fold_out-RecordType RawName WrittenType WrittenType WrittenAttributes PrintedAttribute
    (type_layer components_written) (variant_layer components_written) (record_layer components_written)
    (attribute_layer components_written) r
    ∙ entries_made (attributes_of r)

abbrev pub PrintedAs : PrintedAttribute → TypeOfAttribute RawName → Type 0
PrintedAs p a =
    p ≡ record {
      notes = (out-TypeOfAttribute RawName a).annotations.0;
      required =
          (out-TypeOfAttribute RawName a).required;
      ty = printed (out-TypeOfAttribute RawName a).ty;
    }

pub attribute_printed : (a : TypeOfAttribute RawName) → PrintedAs (printed_attribute components_written a) a
attribute_printed a =
    fold_out-TypeOfAttribute RawName WrittenType WrittenType WrittenAttributes PrintedAttribute
    (type_layer components_written) (variant_layer components_written) (record_layer components_written)
    (attribute_layer components_written) a

module _ (s : «Type» RawName) where
  variant_cedar : (v : TypeVariant RawName) (loc : Option Span) → out-Type RawName s ≡ Type-F.Variant v loc
      → cedar_type s ≡ shape.Variant (cedar_variant v) loc
  variant_cedar v loc e = type_made cedar_layer cedar_variant_layer (roll-RecordType RawName)
      (roll-TypeOfAttribute RawName) s (Type-F.Variant v loc) e ∙ shape.rolls-Variant (cedar_variant v) loc

  variant_printed : (v : TypeVariant RawName) (loc : Option Span) → out-Type RawName s ≡ Type-F.Variant v loc
      → printed s ≡ printed_variant components_written v
  variant_printed v loc e = type_made (type_layer components_written) (variant_layer components_written)
      (record_layer components_written) (attribute_layer components_written) s (Type-F.Variant v loc) e

  variant_closed : (v : TypeVariant RawName) (loc : Option Span) → out-Type RawName s ≡ Type-F.Variant v loc
      → is_closed_type s ≡ is_closed_variant v
  variant_closed v loc e = type_made closed_layer closed_variant_layer closed_record_layer closed_attribute_layer s
      (Type-F.Variant v loc) e

cedar_inner : (v : TypeVariant RawName) (o : Inner) → out-TypeVariant RawName v ≡ o
    → cedar_variant v ≡ inner_made cedar_layer cedar_variant_layer (roll-RecordType RawName)
    (roll-TypeOfAttribute RawName) o
cedar_inner v o e = variant_made cedar_layer cedar_variant_layer (roll-RecordType RawName)
    (roll-TypeOfAttribute RawName) v o e

printed_inner : (v : TypeVariant RawName) (o : Inner) → out-TypeVariant RawName v ≡ o
    → printed_variant components_written v ≡ inner_made (type_layer components_written)
    (variant_layer components_written) (record_layer components_written) (attribute_layer components_written) o
printed_inner v o e = variant_made (type_layer components_written) (variant_layer components_written)
    (record_layer components_written) (attribute_layer components_written) v o e

closed_inner : (v : TypeVariant RawName) (o : Inner) → out-TypeVariant RawName v ≡ o
    → is_closed_variant v ≡ inner_made closed_layer closed_variant_layer closed_record_layer closed_attribute_layer o
closed_inner v o e = variant_made closed_layer closed_variant_layer closed_record_layer closed_attribute_layer v o e

module _ (s : «Type» RawName) (v : TypeVariant RawName) (loc : Option Span)
    (e : out-Type RawName s ≡ Type-F.Variant v loc) where
  as_reference : (n : RawName) → cedar_variant v ≡ roll-TypeVariant RawName (TypeVariant-F.EntityOrCommon n)
      → printed_variant components_written v ≡ path (components_of n.name) → CedarView s
  as_reference n c p =
      reference n loc
      (variant_cedar s v loc e ∙ ap (λ (x : TypeVariant RawName). shape.Variant x loc)
      (c ∙ variant.rolls-EntityOrCommon n)) (variant_printed s v loc e ∙ p)

  view_inner : (o : Inner) → out-TypeVariant RawName v ≡ o → CedarView s
  view_inner TypeVariant-F.String f = as_reference string_name (cedar_inner v TypeVariant-F.String f)
      (printed_inner v TypeVariant-F.String f)
  view_inner TypeVariant-F.Long f = as_reference long_name (cedar_inner v TypeVariant-F.Long f)
      (printed_inner v TypeVariant-F.Long f)
  view_inner TypeVariant-F.Boolean f = as_reference bool_name (cedar_inner v TypeVariant-F.Boolean f)
      (printed_inner v TypeVariant-F.Boolean f)
  view_inner (TypeVariant-F.Extension x) f = as_reference (builtin_name x.id)
      (cedar_inner v (TypeVariant-F.Extension x) f) (printed_inner v (TypeVariant-F.Extension x) f)
  view_inner (TypeVariant-F.Entity n) f = as_reference n (cedar_inner v (TypeVariant-F.Entity n) f)
      (printed_inner v (TypeVariant-F.Entity n) f ∙ ap path (name_bytes n.name))
  view_inner (TypeVariant-F.EntityOrCommon n) f =
      as_reference n (cedar_inner v (TypeVariant-F.EntityOrCommon n) f)
      (printed_inner v (TypeVariant-F.EntityOrCommon n) f ∙ ap path (name_bytes n.name))
  view_inner (TypeVariant-F.Set t) f =
      of_set t loc
      (variant_cedar s v loc e ∙ ap (λ (x : TypeVariant RawName). shape.Variant x loc)
      (cedar_inner v (TypeVariant-F.Set t) f ∙ variant.rolls-Set (cedar_type t)))
      (variant_printed s v loc e ∙ printed_inner v (TypeVariant-F.Set t) f)
      (variant_closed s v loc e ∙ closed_inner v (TypeVariant-F.Set t) f)
  view_inner (TypeVariant-F.Record r) f =
      of_record r loc
      (variant_cedar s v loc e ∙ ap (λ (x : TypeVariant RawName). shape.Variant x loc)
      (cedar_inner v (TypeVariant-F.Record r) f ∙ variant.rolls-Record (cedar_record r)))
      (variant_printed s v loc e ∙ (printed_inner v (TypeVariant-F.Record r) f ∙ ap rec (record_printed r)))
      (variant_closed s v loc e ∙ closed_inner v (TypeVariant-F.Record r) f)

view_outer : (s : «Type» RawName) (o : Outer) → out-Type RawName s ≡ o → CedarView s
view_outer s (Type-F.Variant v loc) e = view_inner s v loc e (out-TypeVariant RawName v) refl
view_outer s (Type-F.CommonTypeRef n loc) e =
    reference n loc
    (type_made cedar_layer cedar_variant_layer (roll-RecordType RawName) (roll-TypeOfAttribute RawName) s
    (Type-F.CommonTypeRef n loc) e
    ∙ (ap (λ (x : TypeVariant RawName). roll-Type RawName (Type-F.Variant x loc)) (variant.rolls-EntityOrCommon n)
    ∙ shape.rolls-Variant (variant.EntityOrCommon n) loc))
    (type_made (type_layer components_written) (variant_layer components_written) (record_layer components_written)
    (attribute_layer components_written) s (Type-F.CommonTypeRef n loc) e ∙ ap path (name_bytes n.name))

pub view : (s : «Type» RawName) → CedarView s
view s = view_outer s (out-Type RawName s) refl

-- a record in this form
abbrev Made : Type 0
Made = RecordType-F RawName («Type» RawName) (TypeVariant RawName) (RecordType RawName) (TypeOfAttribute RawName)

abbrev record_made : RecordType RawName → Made
record_made r = record { attributes = map cedar_entry (attributes_of r); additional_attributes = is_open r }

record_is : (r : RecordType RawName) → out-RecordType RawName (cedar_record r) ≡ record_made r
record_is r =
    ap (out-RecordType RawName)
    (fold_out-RecordType RawName («Type» RawName) (TypeVariant RawName) (RecordType RawName)
    (TypeOfAttribute RawName) cedar_layer cedar_variant_layer (roll-RecordType RawName)
    (roll-TypeOfAttribute RawName) r)
    ∙ out-roll-RecordType RawName (record_made r)

abbrev MadeAttribute : Type 0
MadeAttribute = TypeOfAttribute-F RawName («Type» RawName) (TypeVariant RawName) (RecordType RawName)
    (TypeOfAttribute RawName)

abbrev attribute_made : TypeOfAttribute RawName → MadeAttribute
attribute_made a =
    record {
      ty = cedar_type (out-TypeOfAttribute RawName a).ty;
      annotations =
          (out-TypeOfAttribute RawName a).annotations;
      required = (out-TypeOfAttribute RawName a).required;
    }

attribute_is : (a : TypeOfAttribute RawName) → out-TypeOfAttribute RawName (cedar_attribute a) ≡ attribute_made a
attribute_is a =
    ap (out-TypeOfAttribute RawName)
    (fold_out-TypeOfAttribute RawName («Type» RawName) (TypeVariant RawName) (RecordType RawName)
    (TypeOfAttribute RawName) cedar_layer cedar_variant_layer (roll-RecordType RawName)
    (roll-TypeOfAttribute RawName) a)
    ∙ out-roll-TypeOfAttribute RawName (attribute_made a)

closed_record_is : (r : RecordType RawName) → is_closed_record r ≡
    (not (is_open r) && all_hold (map closed_entry (attributes_of r)))
closed_record_is r =
    fold_out-RecordType RawName Bool Bool Bool Bool closed_layer closed_variant_layer closed_record_layer
    closed_attribute_layer r

closed_attribute_is : (a : TypeOfAttribute RawName)
    → is_closed_attribute a ≡ is_closed_type (out-TypeOfAttribute RawName a).ty
closed_attribute_is a =
    fold_out-TypeOfAttribute RawName Bool Bool Bool Bool closed_layer closed_variant_layer closed_record_layer
    closed_attribute_layer a

names_printed : (es : List Entry) → attribute_names (entries_printed es) ≡ keys_of es
names_printed [] = refl
names_printed (e ∷ es) = ap (λ l. e.0 ∷ l) (names_printed es)

keys_kept : (es : List Entry) → keys_of (map cedar_entry es) ≡ keys_of es
keys_kept [] = refl
keys_kept (e ∷ es) = ap (λ l. e.0 ∷ l) (keys_kept es)

none_greater : (name : List ℕ) (es : List Entry) → AllByRecursion (λ y. text_cmp name y ≡ Less) (keys_of es)
    → has_attribute name (entries_printed es) ≡ false
none_greater name [] h = refl
none_greater name (e ∷ es) h = (λ i. none_greater name es h.1 i || is_eq (h.0 i))

abbrev IsAttributeOf : Notes → Bool → WrittenType → Option (TypeOfAttribute RawName) → Type 0
IsAttributeOf ns required t found =
    (a : TypeOfAttribute RawName) × (found ≡ Some a) × TypeSays (out-TypeOfAttribute RawName a).ty t
    × ((out-TypeOfAttribute RawName a).annotations.0 ≡ ns) × ((out-TypeOfAttribute RawName a).required ≡ required)

-- whether an attribute is the last of its name, where the names rise
chosen : (test has : Bool) (a : TypeOfAttribute RawName) (rest : Option (TypeOfAttribute RawName))
    (Here There : Option (TypeOfAttribute RawName) → Type 0)
    → (test ≡ true → has ≡ false) → Here (Some a) → There rest
    → ByTest (test && not has) (Here (cond test (Some a) rest)) (There (cond test (Some a) rest))
chosen true true a rest Here There none h t = absurd (true≢false (none refl))
chosen true false a rest Here There none h t = h
chosen false has a rest Here There none h t = t

pub path_is : (a b : List (List ℕ)) → path a ≡ path b → a ≡ b
path_is a b h = cc

pub set_is : (a b : WrittenType) → set a ≡ set b → a ≡ b
set_is a b h = cc

pub record_attributes : (a b : WrittenAttributes) → rec a ≡ rec b → a ≡ b
record_attributes a b h = cc

-- what is of one kind is not of another
abbrev pub IsNoPath : WrittenType → Type 0
IsNoPath (path p) = ⊥
IsNoPath (set t) = Unit {0}
IsNoPath (rec xs) = Unit {0}

abbrev pub IsNoSet : WrittenType → Type 0
IsNoSet (path p) = Unit {0}
IsNoSet (set t) = ⊥
IsNoSet (rec xs) = Unit {0}

abbrev pub IsNoRecord : WrittenType → Type 0
IsNoRecord (path p) = Unit {0}
IsNoRecord (set t) = Unit {0}
IsNoRecord (rec xs) = ⊥

abbrev pub HasMore : WrittenAttributes → Type 0
HasMore no_more = ⊥
HasMore (attribute ns n r t xs) = Unit {0}

pub no_path : {X : Type 0} (t : WrittenType) (p : List (List ℕ)) → t ≡ path p → IsNoPath t → X
no_path t p e h = absurd (subst IsNoPath e h)

pub no_set : {X : Type 0} (t u : WrittenType) → t ≡ set u → IsNoSet t → X
no_set t u e h = absurd (subst IsNoSet e h)

pub no_record : {X : Type 0} (t : WrittenType) (xs : WrittenAttributes) → t ≡ rec xs → IsNoRecord t → X
no_record t xs e h = absurd (subst IsNoRecord e h)

pub no_none : {X : Type 0} (xs : WrittenAttributes) → xs ≡ no_more → HasMore xs → X
no_none xs e h = absurd (subst HasMore e h)

-- an attribute that is another has its parts
pub record Alike (ns ms : Notes) (n m : List ℕ) (r q : Bool) (t u : WrittenType)
    (xs ys : WrittenAttributes) : Type 0 where
  pub notes : ns ≡ ms
  pub name : n ≡ m
  pub required : r ≡ q
  pub ty : t ≡ u
  pub others : xs ≡ ys

pub alike : (ns ms : Notes) (n m : List ℕ) (r q : Bool) (t u : WrittenType) (xs ys : WrittenAttributes)
    → attribute ns n r t xs ≡ attribute ms m q u ys → Alike ns ms n m r q t u xs ys
alike ns ms n m r q t u xs ys h = record { notes = cc; name = cc; required = cc; ty = cc; others = cc }

mutual
  pub type_says : (t : WrittenType) (s : «Type» RawName) → CedarView s → printed s ≡ t → is_closed_type s ≡ true
      → IsRisingType t → TypeSays (cedar_type s) t
  type_says (path p) s (reference n loc c e) w h up = let same : components_of n.name ≡ p =
      path_is (components_of n.name) p (sym e ∙ w) in (n, loc, c, same)
  type_says (path p) s (of_set x loc c e f) w h up = no_path (set (printed x)) p (sym e ∙ w) tt
  type_says (path p) s (of_record r loc c e f) w h up =
      no_path (rec (entries_printed (attributes_of r))) p (sym e ∙ w) tt
  type_says (set t) s (reference n loc c e) w h up = no_set (path (components_of n.name)) t (sym e ∙ w) tt
  type_says (set t) s (of_set x loc c e f) w h up =
      (cedar_type x, loc, c, type_says t x (view x) (set_is (printed x) t (sym e ∙ w)) (sym f ∙ h) up)
  type_says (set t) s (of_record r loc c e f) w h up = no_set (rec (entries_printed (attributes_of r))) t (sym e ∙ w) tt
  type_says (rec xs) s (reference n loc c e) w h up = no_record (path (components_of n.name)) xs (sym e ∙ w) tt
  type_says (rec xs) s (of_set x loc c e f) w h up = no_record (set (printed x)) xs (sym e ∙ w) tt
  type_says (rec xs) s (of_record r loc c e f) w h up =
      let these : entries_printed (attributes_of r) ≡ xs =
      record_attributes (entries_printed (attributes_of r)) xs (sym e ∙ w) in
      let closed : (not (is_open r) && all_hold (map closed_entry (attributes_of r))) ≡ true =
      sym (closed_record_is r) ∙ (sym f ∙ h) in
      let keys : IsStrictlySortedBy text_cmp (keys_of (attributes_of r)) =
      subst (IsStrictlySortedBy text_cmp) (sym (ap attribute_names these) ∙ names_printed (attributes_of r)) up.0 in
      let whole : attributes_of (cedar_record r) ≡ map cedar_entry (attributes_of r) =
      ap (λ (m : Made). m.attributes) (record_is r) in (
        cedar_record r,
        loc,
        c,
        ap (λ (m : Made). m.additional_attributes) (record_is r)
            ∙ not-true (is_open r) (first_so (not (is_open r)) (all_hold (map closed_entry (attributes_of r))) closed),
        subst (IsStrictlySortedBy text_cmp) (sym (ap keys_of whole ∙ keys_kept (attributes_of r))) keys,
        λ name. subst (λ es. AttributeSays name (lookup (is_at (text_cmp name)) es) xs) (sym whole)
            (entries_say xs (attributes_of r) these
            (second_so (not (is_open r)) (all_hold (map closed_entry (attributes_of r))) closed) keys up.1 name),
      )

  entries_say : (xs : WrittenAttributes) (es : List Entry) → entries_printed es ≡ xs
      → all_hold (map closed_entry es) ≡ true → IsStrictlySortedBy text_cmp (keys_of es) → AreRisingAttributes xs
      → (name : List ℕ) → AttributeSays name (lookup (is_at (text_cmp name)) (map cedar_entry es)) xs
  entries_say no_more [] w h keys up name = refl
  entries_say no_more (e ∷ es) w h keys up name = no_none (entries_printed (e ∷ es)) w tt
  entries_say (attribute ns n r t xs) [] w h keys up name = no_none (attribute ns n r t xs) (sym w) tt
  entries_say (attribute ns n r t xs) (e ∷ es) w h keys up name =
      let p = printed_attribute components_written e.1 in
      let same = alike p.notes ns e.0 n p.required r p.ty t (entries_printed es) xs w in
      let out = out-TypeOfAttribute RawName e.1 in
      let is : PrintedAs p e.1 = attribute_printed e.1 in
      let closed : is_closed_type out.ty ≡ true = sym (closed_attribute_is e.1)
      ∙ first_so (is_closed_attribute e.1) (all_hold (map closed_entry es)) h in
      let inner : TypeSays (cedar_type out.ty) t =
      type_says t out.ty (view out.ty) (sym (ap (λ (q : PrintedAttribute). q.ty) is) ∙ same.ty) closed up.0 in
      let back = attribute_is e.1 in
      let here : IsAttributeOf ns r t (Some (cedar_attribute e.1)) = (
        cedar_attribute e.1,
        refl,
        subst (λ (a : MadeAttribute). TypeSays a.ty t) (sym back) inner,
        ap (λ (a : MadeAttribute). a.annotations.0) back
            ∙ (sym (ap (λ (q : PrintedAttribute). q.notes) is) ∙ same.notes),
        ap (λ (a : MadeAttribute). a.required) back
            ∙ (sym (ap (λ (q : PrintedAttribute). q.required) is) ∙ same.required),
      ) in
      let there = entries_say xs es same.others
      (second_so (is_closed_attribute e.1) (all_hold (map closed_entry es)) h)
      (sorted_tail text_cmp e.0 (keys_of es) keys) up.1 name in
      let none : is_at (text_cmp name) e.0 ≡ true → has_attribute name xs ≡ false = λ q.
      let from : name ≡ e.0 = text_exact name e.0 (equal_from (text_cmp name e.0) q) in
      ap (has_attribute name) (sym same.others)
      ∙ none_greater name es
      (subst (λ m. AllByRecursion (λ y. text_cmp m y ≡ Less) (keys_of es)) (sym from)
      (sorted_head text_cmp e.0 (keys_of es) keys)) in
      let rest = lookup (is_at (text_cmp name)) (map cedar_entry es) in
      subst (λ m. ByTest (is_last_attribute name m xs)
      (IsAttributeOf ns r t (cond (is_at (text_cmp name) e.0) (Some (cedar_attribute e.1)) rest))
      (AttributeSays name (cond (is_at (text_cmp name) e.0) (Some (cedar_attribute e.1)) rest) xs)) same.name
      (chosen (is_at (text_cmp name) e.0) (has_attribute name xs) (cedar_attribute e.1) rest (IsAttributeOf ns r t)
      (λ found. AttributeSays name found xs) none here there)

-- what is written of a textual type
pub textual_says : (s : «Type» RawName) → IsTextualType s → TypeSays (cedar_type s) (printed s)
textual_says s h = type_says (printed s) s (view s) refl h.0 h.1
