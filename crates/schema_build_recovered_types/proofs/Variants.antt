-- What is recovered of a type, and what it lacks, by its outermost layer.
use Rattle.std.proofs.Common.{◌≡◌, ℕ, Bool, true, List, [], refl, sym, ap, ◌∙◌, subst, None, Some}
use Rattle.cedar_identifiers.specs.declared.name.Name.{Name}
use Rattle.cedar_identifiers.specs.declared.raw_name.RawName.{RawName}
use Rattle.cedar_identifiers.specs.declared.unreserved_id.UnreservedId.{UnreservedId}
use Rattle.schema_json.specs.declared.types.Type as written
use Rattle.schema_json.specs.declared.types.TypeVariant.{TypeVariant}
use Rattle.schema_json.specs.declared.types.TypeVariant.TheVariants as shape
use Rattle.schema_build_errors.specs.declared.recovery_error.RecoveryError.{RecoveryError}
use Rattle.schema_build_errors.specs.declared.recovery_error.RecoveryError.TheVariants as error
use Rattle.schema_build_types.specs.declared.types.Type.{«Type»}
use Rattle.schema_build_types.specs.declared.types.Type.TheVariants as built
use Rattle.schema_build_types.specs.Content.{TypeContent, type_content, attributes_content, names_content}
use Rattle.schema_build_types.specs.Content as said
use Rattle.schema_build_types.specs.Lacks.{type_lacks, attribute_lacks}
use Rattle.schema_build_types.proofs.Contents.{any_bool_says, long_says, string_says, unknown_says, set_says}
use Rattle.schema_build_types.proofs.Contents.{record_says, entity_says, extension_says}
use Rattle.schema_build_text.specs.Readings.{plain_type}
use Rattle.schema_build_recovered_types.specs.RecoveredTypes.{IsRecoveredType}
use Rattle.schema_build_recovered_types.specs.FirstLacks.{IsFirstLack}

-- what holds of what a type says
pub says_so : (P : TypeContent → Type 0) (t v : «Type») (s : TypeContent) → t ≡ v → type_content v ≡ s → P s
    → P (type_content t)
says_so P t v s e f h = subst P (sym (ap type_content e ∙ f)) h

abbrev pub Is : «Type» → TypeVariant RawName → Type 0
Is t x = IsRecoveredType (plain_type (type_content t)) (written.Variant x None)

abbrev pub IsWhole : «Type» → Type 0
IsWhole t = type_lacks (type_content t) ≡ []

abbrev pub IsLacking : «Type» → RecoveryError → Type 0
IsLacking t e = IsFirstLack (type_lacks (type_content t)) e

abbrev Plain : TypeVariant RawName → TypeContent → Type 0
Plain x s = IsRecoveredType (plain_type s) (written.Variant x None)

pub bool_is : (t : «Type») → t ≡ built.AnyBool → Is t shape.Boolean
bool_is t e = says_so (Plain shape.Boolean) t built.AnyBool said.AnyBool e any_bool_says refl

pub bool_whole : (t : «Type») → t ≡ built.AnyBool → IsWhole t
bool_whole t e = says_so (λ s. type_lacks s ≡ []) t built.AnyBool said.AnyBool e any_bool_says refl

pub long_is : (t : «Type») → t ≡ built.Long → Is t shape.Long
long_is t e = says_so (Plain shape.Long) t built.Long said.Long e long_says refl

pub long_whole : (t : «Type») → t ≡ built.Long → IsWhole t
long_whole t e = says_so (λ s. type_lacks s ≡ []) t built.Long said.Long e long_says refl

pub string_is : (t : «Type») → t ≡ built.String → Is t shape.String
string_is t e = says_so (Plain shape.String) t built.String said.String e string_says refl

pub string_whole : (t : «Type») → t ≡ built.String → IsWhole t
string_whole t e = says_so (λ s. type_lacks s ≡ []) t built.String said.String e string_says refl

-- sets
pub set_is : (t v : «Type») (x : written.«Type» RawName) → t ≡ built.Set (Some v)
    → IsRecoveredType (plain_type (type_content v)) x → Is t (shape.Set x)
set_is t v x e h =
    says_so (Plain (shape.Set x)) t (built.Set (Some v)) (said.Set (type_content v)) e (set_says v) (x, refl, h)

pub set_whole : (t v : «Type») → t ≡ built.Set (Some v) → IsWhole v → IsWhole t
set_whole t v e h =
    says_so (λ s. type_lacks s ≡ []) t (built.Set (Some v)) (said.Set (type_content v)) e (set_says v) h

pub unknown_lacking : (t : «Type») → t ≡ built.Set None → IsLacking t error.UnknownElement
unknown_lacking t e =
    says_so (λ s. IsFirstLack (type_lacks s) error.UnknownElement) t (built.Set None) said.SetOfUnknown e unknown_says
    ([], refl)

pub open_lacking : (t : «Type») (attrs : List (List ℕ × («Type» × Bool))) (more : Bool) → t ≡ built.Record attrs more
    → more ≡ true → IsLacking t error.Unsupported
open_lacking t attrs more e open' =
    says_so (λ s. IsFirstLack (type_lacks s) error.Unsupported) t (built.Record attrs more)
    (said.Rec (attributes_content attrs) more) e (record_says attrs more)
    (subst (λ m. IsFirstLack (type_lacks (said.Rec (attributes_content attrs) m)) error.Unsupported) (sym open')
    (attribute_lacks (attributes_content attrs), refl))

-- entities
pub entity_so : (P : TypeContent → Type 0) (t : «Type») (names : List Name) → t ≡ built.Entity names
    → P (said.Entity (names_content names)) → P (type_content t)
entity_so P t names e h =
    says_so P t (built.Entity names) (said.Entity (names_content names)) e (entity_says names) h

pub entity_is : (t : «Type») (names : List Name) (x : TypeVariant RawName) → t ≡ built.Entity names
    → IsRecoveredType (plain_type (said.Entity (names_content names))) (written.Variant x None) → Is t x
entity_is t names x e h = entity_so (Plain x) t names e h

-- extension types
pub extension_is : (t : «Type») (name copy : UnreservedId) → t ≡ built.Extension name → copy ≡ name
    → Is t (shape.Extension copy)
extension_is t name copy e same =
    says_so (Plain (shape.Extension copy)) t (built.Extension name) (said.Ext name.id.text) e (extension_says name)
    (copy, refl, ap (λ n. n.id.text) same)
