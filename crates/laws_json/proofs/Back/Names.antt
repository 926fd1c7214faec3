-- Names and words are read from what is written of them, and one key has one place in its order.
use Rattle.std.proofs.Common.{◌≡◌, ℕ, ◌<◌, List, [], ◌∷◌, ◌++◌, length, length-append}
use Rattle.std.proofs.Common.{refl, sym, ap, ◌∙◌, subst, arith}
use Rattle.std.specs.Prelude.{codes}
use Rattle.std.specs.Cmp.{IsTotalOrder, tied_itself}
use Rattle.std.specs.Ordering.{ordering_reverse}
use Rattle.std.specs.Str.{IsAscii, encode_utf8_all}
use Rattle.std.specs.declared.cmp.Ordering.{Ordering}
use Rattle.std.specs.declared.cmp.Ordering.TheVariants.{Less, Equal, Greater}
use Rattle.std.proofs.lemmas.Str.{IsAscii-append, encodes-IsAscii}
use Rattle.std.proofs.lemmas.Str.Ascii.{IsAscii-cons}
use Rattle.cedar_data.specs.Text.{text_cmp}
use Rattle.cedar_data.proofs.Ascii.{word_ascii}
use Rattle.cedar_data.proofs.Orders.{text_total}
use Rattle.cedar_identifiers.specs.Names.{texts_of, components_of, name_text}
use Rattle.cedar_identifiers.specs.NameReading.{ReadsAs}
use Rattle.cedar_identifiers.specs.declared.any_id.AnyId.{AnyId}
use Rattle.cedar_identifiers.specs.declared.id.Id.{Id}
use Rattle.cedar_identifiers.specs.declared.internal_name.InternalName.{InternalName}
use Rattle.cedar_identifiers.specs.declared.name.Name.{Name}
use Rattle.cedar_identifiers.specs.declared.name_kind.NameKind.TheVariants as kind
use Rattle.cedar_identifiers.specs.declared.raw_name.RawName.{RawName}
use Rattle.cedar_identifiers.specs.declared.unreserved_id.UnreservedId.{UnreservedId}
use Rattle.cedar_identifiers.proofs.Unique.{one_name}
use Rattle.cedar_identifiers.proofs.Ids.{id_is_word}
use Rattle.schema_json.specs.Orders.{annotation_key_cmp}
use Rattle.schema_json_shapes.specs.Said.{IsRawName, IsId, IsAnyId, IsText}
use Rattle.laws_json.proofs.Current.NamesRead.{internal_reads, name_reads, word_some}
use Rattle.laws_translate.specs.Bare.{bare_name}

-- ---- texts of names are ASCII

texts_ascii : (i : Id) (ids : List Id) → IsAscii (name_text (texts_of (i ∷ ids)))
texts_ascii i [] = word_ascii i.text (id_is_word i.text i.word)
texts_ascii i (j ∷ ids) =
    let tail = name_text (texts_of (j ∷ ids)) in
    IsAscii-append i.text (codes "::" ++ tail) (word_ascii i.text (id_is_word i.text i.word))
    (IsAscii-cons 58 (58 ∷ tail) (omega arith) (IsAscii-cons 58 tail (omega arith) (texts_ascii j ids)))

pub name_bytes_are : (n : InternalName)
    → encode_utf8_all (name_text (components_of n)) ≡ name_text (components_of n)
name_bytes_are n = encodes-IsAscii (name_text (components_of n)) (texts_ascii n.first n.others)

pub raw_reads : (n : RawName) → IsRawName (encode_utf8_all (name_text (components_of n.name))) (bare_name n)
raw_reads n = (
  subst (λ s. ReadsAs kind.InternalName s (components_of n.name)) (sym (name_bytes_are n.name)) (internal_reads n.name),
  refl,
)

pub declared_reads : (n : Name)
    → ReadsAs kind.Name (encode_utf8_all (name_text (components_of n.name))) (components_of n.name)
declared_reads n =
    subst (λ s. ReadsAs kind.Name s (components_of n.name)) (sym (name_bytes_are n.name)) (name_reads n)

text_some : (i : Id) (ids : List Id) → 0 < length (name_text (texts_of (i ∷ ids)))
text_some i [] = word_some i.text (id_is_word i.text i.word)
text_some i (j ∷ ids) =
    let tail = codes "::" ++ name_text (texts_of (j ∷ ids)) in
    omega (arith, word_some i.text (id_is_word i.text i.word), length-append i.text tail)

pub name_some : (n : InternalName) → 0 < length (encode_utf8_all (name_text (components_of n)))
name_some n = subst (λ s. 0 < length s) (sym (name_bytes_are n)) (text_some n.first n.others)

-- ---- the orders of keys

less_equal : Less ≡ Equal → ⊥
less_equal e = cc

-- what is less than another is another
pub not_less : {K : Type 0} (R : K → K → Ordering) (o : IsTotalOrder R) (x y : K) → x ≡ y → R x y ≡ Less → ⊥
not_less R o x y e h = less_equal (sym h ∙ (ap (R x) (sym e) ∙ tied_itself o x))

pub flipped : {K : Type 0} (R : K → K → Ordering) (o : IsTotalOrder R) (x y : K) → R x y ≡ Less → R y x ≡ Greater
flipped R o x y h = o.antisymm y x ∙ ap ordering_reverse h

only_word : (v w : List ℕ) → v ∷ [] ≡ w ∷ [] → v ≡ w
only_word v w e = cc

pub keys_apart : (s : List ℕ) (x y : AnyId) → IsAnyId s x → IsAnyId s y → annotation_key_cmp x y ≡ Less → ⊥
keys_apart s x y h k =
    not_less text_cmp text_total x.text y.text
    (only_word x.text y.text (one_name s kind.AnyId (x.text ∷ []) (y.text ∷ []) h k))

pub ids_apart : (s : List ℕ) (x y : UnreservedId) → IsId s x → IsId s y → text_cmp x.id.text y.id.text ≡ Less → ⊥
ids_apart s x y h k =
    not_less text_cmp text_total x.id.text y.id.text
    (only_word x.id.text y.id.text (one_name s kind.UnreservedId (x.id.text ∷ []) (y.id.text ∷ []) h k))

pub texts_apart : (s x y : List ℕ) → IsText s x → IsText s y → text_cmp x y ≡ Less → ⊥
texts_apart s x y h k = not_less text_cmp text_total x y (h ∙ sym k)
