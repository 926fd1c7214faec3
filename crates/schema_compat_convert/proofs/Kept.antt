-- Each value stands under its key, as before; and no attribute is greater than the greatest.
use Rattle.std.proofs.Common.{◌≡◌, ℕ, ◌≤◌, List, [], ◌∷◌, refl, sym, subst, arith}
use Rattle.std.specs.Map.{keys_of, values_of}
use denote.Param.Weighed.{most}
use Rattle.cedar_identifiers.specs.declared.raw_name.RawName.{RawName}
use Rattle.schema_json.specs.declared.types.Type.{«Type»}
use Rattle.schema_json.specs.declared.types.TypeOfAttribute.{TypeOfAttribute}
use Rattle.schema_compat_types.specs.declared.types.TypeOfAttribute.{TypeOfAttribute as OldAttribute}
use Rattle.schema_compat_types.specs.declared.types.TypeOfAttribute as OldAttributes
use Rattle.schema_compat_convert.specs.Converted.{converted_attribute, TypeBecomes, AttributesBecome, no_attribute}
use Rattle.schema_compat_convert.specs.Converted.{next_attribute}
use Rattle.schema_compat_convert.specs.Converted.{ValuesBecome}

pub values_keys : {K V W : Type 0} (Becomes : V → W → Type 0) (es : List (K × V)) (fs : List (K × W))
    → ValuesBecome Becomes es fs → keys_of fs ≡ keys_of es
values_keys Becomes [] [] h = refl
values_keys Becomes [] (f ∷ fs) h = absurd h
values_keys Becomes (e ∷ es) [] h = absurd h
values_keys Becomes (e ∷ es) (f ∷ fs) h = λ i. h.0.0 i ∷ values_keys Becomes es fs h.1 i

pub attributes_keys : (es : List (List ℕ × OldAttribute)) (fs : List (List ℕ × TypeOfAttribute RawName))
    → AttributesBecome es fs → keys_of fs ≡ keys_of es
attributes_keys es fs no_attribute = refl
attributes_keys es fs (next_attribute k a t more others says h) = λ i. k ∷ attributes_keys more others h i

-- one attribute more
pub attribute_next : (k : List ℕ) (a : OldAttribute) (t : «Type» RawName) (b : TypeOfAttribute RawName)
    (es : List (List ℕ × OldAttribute)) (fs : List (List ℕ × TypeOfAttribute RawName))
    → TypeBecomes (OldAttributes.out-TypeOfAttribute a).ty t
    → b ≡ converted_attribute t (OldAttributes.out-TypeOfAttribute a).required → AttributesBecome es fs
    → AttributesBecome ((k, a) ∷ es) ((k, b) ∷ fs)
attribute_next k a t b es fs says is h =
    subst (λ x. AttributesBecome ((k, a) ∷ es) ((k, x) ∷ fs)) (sym is) (next_attribute k a t es fs says h)

-- nor are those behind it
pub rest_most : {K A : Type 0} (f : A → ℕ) (left rest : List (K × A)) (x : K × A) (n : ℕ) → left ≡ x ∷ rest
    → most f (values_of left) ≤ n → most f (values_of rest) ≤ n
rest_most f [] rest x n is h = absurd cc
rest_most f (e ∷ es) rest x n is h =
    let same : es ≡ rest = cc in
    let below : most f (values_of es) ≤ n = omega (arith, h) in
    subst (λ l. most f (values_of l) ≤ n) same below
