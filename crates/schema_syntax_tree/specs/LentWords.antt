-- Lent words and annotations, compared by the bytes of their texts.
use Rattle.std.specs.Prelude.{ℕ, nat_eq, Bool, ◌&&◌, List, Option}
use Rattle.std.specs.Cmp.Lexicographic.{pointwise, slice_cmp}
use Rattle.std.specs.Option.{option_eq, option_cmp}
use Rattle.std.specs.Ordering.{nat_cmp, on, ordering_then}
use Rattle.std.specs.declared.cmp.Ordering.{Ordering}
use Rattle.std.specs.Str.{encode_utf8_all}
use Rattle.cedar_data.specs.Text.{text_cmp}
use Rattle.cedar_identifiers.specs.declared.id.Id.{Id}
use Rattle.cedar_identifiers.specs.declared.any_id.AnyId.{AnyId}

-- the bytes of a word's text in UTF-8
abbrev pub id_utf8 : Id → List ℕ
id_utf8 id = encode_utf8_all id.text

-- the bytes in UTF-8 of the text of any word, be it reserved or not
abbrev pub any_id_utf8 : AnyId → List ℕ
any_id_utf8 id = encode_utf8_all id.text

-- a key and the value that stands behind it, where one does
abbrev pub LentNote : Type 0
LentNote = AnyId × Option (List ℕ)

-- the key of an annotation
abbrev pub note_key : LentNote → AnyId
note_key note = note.0

-- the value of an annotation, where it has one
abbrev pub note_value : LentNote → Option (List ℕ)
note_value note = note.1

-- two keys are equal where the bytes of their texts are
abbrev pub note_key_eq : AnyId → AnyId → Bool
note_key_eq = on any_id_utf8 (pointwise nat_eq)

-- two values are equal where both are absent, or the bytes of both texts are equal
abbrev pub note_value_eq : Option (List ℕ) → Option (List ℕ) → Bool
note_value_eq = option_eq (on encode_utf8_all (pointwise nat_eq))

-- the order of keys: by the bytes of their texts
abbrev pub note_key_cmp : AnyId → AnyId → Ordering
note_key_cmp = on any_id_utf8 (slice_cmp nat_cmp)

-- the order of values: an absent one comes first, and texts go by their bytes
abbrev pub note_value_cmp : Option (List ℕ) → Option (List ℕ) → Ordering
note_value_cmp = option_cmp text_cmp

-- two annotations are equal where their keys are, and their values
abbrev pub note_eq : LentNote → LentNote → Bool
note_eq p q = note_key_eq p.0 q.0 && note_value_eq p.1 q.1

-- the order of annotations: by their keys, then by their values
abbrev pub note_cmp : LentNote → LentNote → Ordering
note_cmp p q = ordering_then (note_key_cmp p.0 q.0) (note_value_cmp p.1 q.1)
