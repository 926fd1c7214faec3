-- What the object of a type says is one.
use Rattle.std.proofs.Common.{◌≡◌, ℕ, Bool, true, false, List, ◌∷◌, Some, refl, sym, ap, ◌∙◌, subst}
use Rattle.std.specs.Prelude.{codes}
use Rattle.std.specs.Str.{chars}
use Rattle.serde_json.specs.Data.{null, boolean, number, string, array, object, Members}
use Rattle.serde_json.specs.Find.{get_member}
use Rattle.cedar_data.specs.Maps.{map_of}
use Rattle.cedar_data.specs.Text.{text_cmp}
use Rattle.schema_compat_types.specs.declared.types.SchemaType.{SchemaType}
use Rattle.schema_compat_types.specs.declared.types.SchemaType.TheVariants.{Variant, TypeDef}
use Rattle.schema_compat_types.specs.declared.types.SchemaTypeVariant.{SchemaTypeVariant}
use Rattle.schema_compat_types.specs.declared.types.SchemaTypeVariant.TheVariants as variant
use Rattle.schema_compat_types.specs.declared.types.TypeOfAttribute.{TypeOfAttribute, out-TypeOfAttribute}
use Rattle.schema_compat_types.specs.declared.types.TypeOfAttribute.{roll-TypeOfAttribute, roll-out-TypeOfAttribute}
use Rattle.schema_json_shapes.specs.declared.words.TypeWord.{TypeWord}
use Rattle.schema_json_shapes.specs.declared.words.TypeWord.TheVariants as word
use Rattle.schema_json_shapes.specs.Tables.{word_of}
use Rattle.schema_json_shapes.specs.Walk.{flag_or}
use Rattle.schema_json_shapes.specs.Said.{HasWord}
use Rattle.laws_json.proofs.Current.OneShape.{one_string, one_object, Once}
use Rattle.schema_compat_shapes.specs.OldTypes.{reads_as_shape, SaysOldType, old_variant, old_reference}
use Rattle.schema_compat_shapes.specs.OldTypes.{SaysOldVariant, old_string, old_long, old_boolean, old_set, old_record}
use Rattle.schema_compat_shapes.specs.OldTypes.{old_entity, old_extension, SayOldAttributes, no_old_attribute}
use Rattle.schema_compat_shapes.specs.OldTypes.{next_old_attribute}
use Rattle.schema_compat_shapes.specs.OldParts.{InObject, IsOldType}

-- what holds of the members of an object is one
pub in_object_once : {X : Type 0} (P : Members → X → Type 0)
    → ((ms : Members) (x y : X) → P ms x → P ms y → x ≡ y) → Once (InObject P)
in_object_once P one null x y h k = absurd h
in_object_once P one (boolean b) x y h k = absurd h
in_object_once P one (number n) x y h k = absurd h
in_object_once P one (string s) x y h k = absurd h
in_object_once P one (array ds) x y h k = absurd h
in_object_once P one (object ms) x y h k = one ms x y h k

abbrev AttributeEntry : Type 0
AttributeEntry = List ℕ × TypeOfAttribute

abbrev is_open : Members → Bool
is_open ms = flag_or false (get_member (codes "additionalAttributes") ms)

-- what the members of a shape of this word say
abbrev SaysBy : TypeWord → Members → SchemaTypeVariant → Type 0
SaysBy word.String ms v = v ≡ variant.String
SaysBy word.Long ms v = v ≡ variant.Long
SaysBy word.Boolean ms v = v ≡ variant.Boolean
SaysBy word.Set ms v = (inner : Members) × (t : SchemaType) × (get_member (codes "element") ms ≡ Some (object inner))
    × SaysOldType false inner t × (v ≡ variant.Set t)
SaysBy word.Record ms v = (inner : Members) × (es : List AttributeEntry)
    × (get_member (codes "attributes") ms ≡ Some (object inner)) × SayOldAttributes inner es
    × (v ≡ variant.Record (map_of text_cmp es) (is_open ms))
SaysBy word.Entity ms v = (s : List ℕ) × (get_member (codes "name") ms ≡ Some (string s))
    × (v ≡ variant.Entity (chars s))
SaysBy word.Extension ms v = (s : List ℕ) × (get_member (codes "name") ms ≡ Some (string s))
    × (v ≡ variant.Extension (chars s))
SaysBy word.EntityOrCommon ms v = ⊥
SaysBy word.Reference ms v = ⊥

-- what goes by one word goes by another of the same object
at_word : (ms : Members) (v : SchemaTypeVariant) (w u : TypeWord) → HasWord ms w → HasWord ms u → SaysBy u ms v
    → SaysBy w ms v
at_word ms v w u h k says =
    let same : w ≡ u = sym h.is_word ∙ (ap word_of (one_string h.text k.text (sym h.there ∙ k.there)) ∙ k.is_word) in
    subst (λ x. SaysBy x ms v) (sym same) says

by_word : (ms : Members) (v : SchemaTypeVariant) (w : TypeWord) → HasWord ms w → SaysOldVariant ms v → SaysBy w ms v
by_word ms v w h (old_string _ k) = at_word ms v w word.String h k refl
by_word ms v w h (old_long _ k) = at_word ms v w word.Long h k refl
by_word ms v w h (old_boolean _ k) = at_word ms v w word.Boolean h k refl
by_word ms v w h (old_set _ inner t k at says) = at_word ms v w word.Set h k (inner, t, at, says, refl)
by_word ms v w h (old_record _ inner es k at says) = at_word ms v w word.Record h k (inner, es, at, says, refl)
by_word ms v w h (old_entity _ s k at) = at_word ms v w word.Entity h k (s, at, refl)
by_word ms v w h (old_extension _ s k at) = at_word ms v w word.Extension h k (s, at, refl)

true_false : true ≡ false → ⊥
true_false e = cc

-- an object reads as a shape or does not
either_way : (as_attribute : Bool) (ms : Members) (s u : List ℕ) → get_member (codes "type") ms ≡ Some (string s)
    → get_member (codes "type") ms ≡ Some (string u) → reads_as_shape as_attribute (word_of s) ms ≡ true
    → reads_as_shape as_attribute (word_of u) ms ≡ false → ⊥
either_way as_attribute ms s u there at reads fails =
    true_false (sym reads ∙ (ap (λ x. reads_as_shape as_attribute (word_of x) ms) (one_string s u (sym there ∙ at))
    ∙ fails))

mutual
  pub one_old_type : (as_attribute : Bool) (ms : Members) (t u : SchemaType) → SaysOldType as_attribute ms t
      → SaysOldType as_attribute ms u → t ≡ u
  one_old_type b ms t u (old_variant _ _ s v there reads says) (old_variant _ _ r w at too told) =
      ap Variant (one_old_variant ms v w says told)
  one_old_type b ms t u (old_variant _ _ s v there reads says) (old_reference _ _ r at fails) =
      absurd (either_way b ms s r there at reads fails)
  one_old_type b ms t u (old_reference _ _ s there fails) (old_variant _ _ r w at reads told) =
      absurd (either_way b ms r s at there reads fails)
  one_old_type b ms t u (old_reference _ _ s there fails) (old_reference _ _ r at not) =
      ap (λ x. TypeDef (chars x)) (one_string s r (sym there ∙ at))

  one_old_variant : (ms : Members) (v w : SchemaTypeVariant) → SaysOldVariant ms v → SaysOldVariant ms w → v ≡ w
  one_old_variant ms v w (old_string _ h) k = sym (by_word ms w word.String h k)
  one_old_variant ms v w (old_long _ h) k = sym (by_word ms w word.Long h k)
  one_old_variant ms v w (old_boolean _ h) k = sym (by_word ms w word.Boolean h k)
  one_old_variant ms v w (old_set _ inner t h at says) k =
      let x = by_word ms w word.Set h k in
      let same : x.0 ≡ inner = one_object x.0 inner (sym x.2 ∙ at) in
      ap variant.Set (one_old_type false inner t x.1 says (subst (λ z. SaysOldType false z x.1) same x.3)) ∙ sym x.4
  one_old_variant ms v w (old_record _ inner es h at says) k =
      let x = by_word ms w word.Record h k in
      let same : x.0 ≡ inner = one_object x.0 inner (sym x.2 ∙ at) in
      ap (λ z. variant.Record (map_of text_cmp z) (is_open ms))
      (old_attributes_once inner es x.1 says (subst (λ z. SayOldAttributes z x.1) same x.3)) ∙ sym x.4
  one_old_variant ms v w (old_entity _ s h at) k =
      let x = by_word ms w word.Entity h k in
      ap (λ z. variant.Entity (chars z)) (one_string s x.0 (sym at ∙ x.1)) ∙ sym x.2
  one_old_variant ms v w (old_extension _ s h at) k =
      let x = by_word ms w word.Extension h k in
      ap (λ z. variant.Extension (chars z)) (one_string s x.0 (sym at ∙ x.1)) ∙ sym x.2

  old_attributes_once : (ms : Members) (es fs : List AttributeEntry) → SayOldAttributes ms es → SayOldAttributes ms fs
      → es ≡ fs
  old_attributes_once ms es fs no_old_attribute no_old_attribute = refl
  old_attributes_once ms es fs (next_old_attribute k beside rest a as' h mark hs)
      (next_old_attribute _ _ _ b bs g marked gs) =
      let out : out-TypeOfAttribute a ≡ out-TypeOfAttribute b = λ i. record {
        ty = one_old_type true beside (out-TypeOfAttribute a).ty (out-TypeOfAttribute b).ty h g i;
        required = (mark ∙ sym marked) i;
      } in
      let same : a ≡ b = sym (roll-out-TypeOfAttribute a)
      ∙ (ap roll-TypeOfAttribute out ∙ roll-out-TypeOfAttribute b) in
      λ i. (chars k, same i) ∷ old_attributes_once rest as' bs hs gs i

pub one_type_value : Once IsOldType
one_type_value = in_object_once (SaysOldType false) (one_old_type false)
