-- What the parts of a type say together.
use Rattle.std.proofs.Common.{◌≡◌, Bool, false, List, Some, sym, subst}
use Rattle.std.specs.Prelude.{codes}
use Rattle.serde_json.specs.Data.{Data, null, boolean, number, string, array, object, Members}
use Rattle.serde_json.specs.Find.{get_member}
use Rattle.cedar_identifiers.specs.declared.annotations.Annotations.{Annotations}
use Rattle.cedar_identifiers.specs.declared.raw_name.RawName.{RawName}
use Rattle.cedar_identifiers.specs.declared.unreserved_id.UnreservedId.{UnreservedId}
use Rattle.schema_json.specs.declared.types.Type.{«Type»}
use Rattle.schema_json.specs.declared.types.TypeVariant.TheVariants as variant
use Rattle.schema_json_shapes.specs.declared.words.TypeWord.TheVariants as word
use Rattle.schema_json_shapes.specs.Walk.{flag_or}
use Rattle.schema_json_shapes.specs.Said.{IsType, IsNamed, IsWordNamed, HasWord, HasAttributes, SaysTyped, plain}
use Rattle.schema_json_shapes.specs.Said.{record_with, entity_type, either_type, extension_type, set_type, record_type}
use Rattle.schema_json_shapes.proofs.Attributes.{AttributeEntry}

pub entity_says : (ms : Members) (d : Data) (n : RawName) → HasWord ms word.Entity
    → get_member (codes "name") ms ≡ Some d → IsNamed d n → IsType (object ms) (plain (variant.Entity n))
entity_says ms null n w e h = absurd h
entity_says ms (boolean b) n w e h = absurd h
entity_says ms (number x) n w e h = absurd h
entity_says ms (string s) n w e h = entity_type ms s n w e h
entity_says ms (array ds) n w e h = absurd h
entity_says ms (object os) n w e h = absurd h

pub either_says : (ms : Members) (d : Data) (n : RawName) → HasWord ms word.EntityOrCommon
    → get_member (codes "name") ms ≡ Some d → IsNamed d n → IsType (object ms) (plain (variant.EntityOrCommon n))
either_says ms null n w e h = absurd h
either_says ms (boolean b) n w e h = absurd h
either_says ms (number x) n w e h = absurd h
either_says ms (string s) n w e h = either_type ms s n w e h
either_says ms (array ds) n w e h = absurd h
either_says ms (object os) n w e h = absurd h

pub extension_says : (ms : Members) (d : Data) (id : UnreservedId) → HasWord ms word.Extension
    → get_member (codes "name") ms ≡ Some d → IsWordNamed d id → IsType (object ms) (plain (variant.Extension id))
extension_says ms null n w e h = absurd h
extension_says ms (boolean b) n w e h = absurd h
extension_says ms (number x) n w e h = absurd h
extension_says ms (string s) n w e h = extension_type ms s n w e h
extension_says ms (array ds) n w e h = absurd h
extension_says ms (object os) n w e h = absurd h

pub typed_says : (d : Data) (t : «Type» RawName) (a : Annotations) (r : Bool) → SaysTyped d t a r → IsType d t
typed_says null t a r h = absurd h
typed_says (boolean b) t a r h = absurd h
typed_says (number x) t a r h = absurd h
typed_says (string s) t a r h = absurd h
typed_says (array ds) t a r h = absurd h
typed_says (object ms) t a r h = h.says

pub set_says : (ms : Members) (d : Data) (t e : «Type» RawName) (a : Annotations) (r : Bool) → HasWord ms word.Set
    → get_member (codes "element") ms ≡ Some d → SaysTyped d t a r → e ≡ t → IsType (object ms) (plain (variant.Set e))
set_says ms d t e a r w f h same =
    subst (λ x. IsType (object ms) (plain (variant.Set x))) (sym same) (set_type ms d t w f (typed_says d t a r h))

pub record_says : (ms : Members) (d : Data) (es : List AttributeEntry) (is_open : Bool) → HasWord ms word.Record
    → get_member (codes "attributes") ms ≡ Some d → HasAttributes d es
    → is_open ≡ flag_or false (get_member (codes "additionalAttributes") ms) → IsType (object ms) (record_with es is_open)
record_says ms null es b w e h o = absurd h
record_says ms (boolean c) es b w e h o = absurd h
record_says ms (number x) es b w e h o = absurd h
record_says ms (string s) es b w e h o = absurd h
record_says ms (array ds) es b w e h o = absurd h
record_says ms (object attributes) es b w e h o =
    let flag = flag_or false (get_member (codes "additionalAttributes") ms) in
    subst (λ x. IsType (object ms) (record_with es x)) (sym o)
    (subst (λ (xs : List AttributeEntry). IsType (object ms) (record_with xs flag)) (sym h.2)
    (record_type ms attributes h.0 w e h.1))
