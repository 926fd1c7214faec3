-- Types whose fields read, and what they say.
use Rattle.std.proofs.Common.{◌≡◌, ℕ, Bool, true, false, List, ◌∷◌, Option, Some, None, String, Global, sym}
use Rattle.std.proofs.Common.{ap, subst}
use Rattle.std.proofs.lemmas.Bool.{and_parts}
use Rattle.std.specs.Prelude.{codes}
use Rattle.std.specs.Str.{chars}
use Rattle.serde_json.specs.Data.{Data, null, boolean, number, string, array, object, Members, member}
use Rattle.serde_json.specs.Find.{get_member, as_object}
use Rattle.serde_json.specs.View.{view, members_view}
use Rattle.serde_json.proofs.Views.{Entry}
use Rattle.serde_json.specs.declared.value.Value.{Value}
use Rattle.cedar_data.specs.Maps.{map_of}
use Rattle.cedar_data.specs.Text.{text_cmp}
use Rattle.schema_json_shapes.specs.declared.words.TypeWord.TheVariants as word
use Rattle.schema_json_shapes.specs.Walk.{flag_or}
use Rattle.schema_json_shapes.specs.Said.{IsText, HasWord, AreEntries, no_entry, next_entry}
use Rattle.schema_json_shapes.proofs.Objects.{an_object}
use Rattle.schema_compat_types.specs.declared.types.SchemaTypeVariant.TheVariants as variant
use Rattle.schema_compat_types.specs.declared.types.TypeOfAttribute.{TypeOfAttribute}
use Rattle.schema_compat_shapes.specs.OldTypes.{object_members, is_old_attribute, are_all_attributes}
use Rattle.schema_compat_shapes.specs.OldTypes.{SaysOldVariant, SayOldAttributes}
use Rattle.schema_compat_shapes.specs.OldTypes.{old_record, no_old_attribute, next_old_attribute}
use Rattle.schema_compat_shapes.specs.OldParts.{IsOldAttribute}

-- ---- objects that are there

pub object_there : (o : Option Data) (ms : Members) → Some ms ≡ object_members o → o ≡ Some (object ms)
object_there None ms e = absurd (cc)
object_there (Some d) ms e = ap Some (sym (an_object d ms e))

-- ---- attributes

-- of attributes that are left the first is one, and so are the others
pub next_attribute : (es : List Entry) (key : String Global) (v : Value) (left : List Entry)
    → are_all_attributes (members_view es) ≡ true → es ≡ (key, v) ∷ left
    → (is_old_attribute (as_object (view v)) ≡ true) × (are_all_attributes (members_view left) ≡ true)
next_attribute es key v left h e = and_parts (is_old_attribute (as_object (view v)))
    (are_all_attributes (members_view left))
    (subst (λ xs. are_all_attributes (members_view xs) ≡ true) e h)

abbrev AttributeEntry : Type 0
AttributeEntry = List ℕ × TypeOfAttribute

one_attribute : (k : List ℕ) (d : Data) (ms : Members) (name : List ℕ) (a : TypeOfAttribute) (es : List AttributeEntry)
    → name ≡ chars k → IsOldAttribute d a → SayOldAttributes ms es → SayOldAttributes (member k d ms) ((name, a) ∷ es)
one_attribute k null ms name a es e h g = absurd h
one_attribute k (boolean b) ms name a es e h g = absurd h
one_attribute k (number x) ms name a es e h g = absurd h
one_attribute k (string s) ms name a es e h g = absurd h
one_attribute k (array ds) ms name a es e h g = absurd h
one_attribute k (object beside) ms name a es e h g =
    subst (λ n. SayOldAttributes (member k (object beside) ms) ((n, a) ∷ es)) (sym e)
    (next_old_attribute k beside ms a es h.says h.marked g)

pub attributes_said : (ms : Members) (es : List AttributeEntry) → AreEntries IsText IsOldAttribute ms es
    → SayOldAttributes ms es
attributes_said _ _ no_entry = no_old_attribute
attributes_said _ _ (next_entry k d ms name a es is h g) = one_attribute k d ms name a es is h (attributes_said ms es g)

pub record_said : (ms inner : Members) (es attributes : List AttributeEntry) (is_open : Bool) → HasWord ms word.Record
    → get_member (codes "attributes") ms ≡ Some (object inner) → SayOldAttributes inner es
    → attributes ≡ map_of text_cmp es → is_open ≡ flag_or false (get_member (codes "additionalAttributes") ms)
    → SaysOldVariant ms (variant.Record attributes is_open)
record_said ms inner es attributes is_open w there h is o =
    subst (λ (xs : List AttributeEntry). SaysOldVariant ms (variant.Record xs is_open)) (sym is)
    (subst (λ b. SaysOldVariant ms (variant.Record (map_of text_cmp es) b)) (sym o) (old_record ms inner es w there h))
