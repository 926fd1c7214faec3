-- A type of the shape that its word gives, or a reference.
use Rattle.std.proofs.Common.{◌≡◌, ℕ, List, Option, Some, None, sym, ap, ◌∙◌, subst}
use Rattle.std.specs.Prelude.{codes}
use Rattle.serde_json.specs.Data.{string, object, Members}
use Rattle.serde_json.specs.Find.{get_member}
use Rattle.cedar_identifiers.specs.declared.raw_name.RawName.{RawName}
use Rattle.schema_json.specs.declared.types.Type.{«Type»}
use Rattle.schema_json.specs.declared.types.TypeVariant.{TypeVariant}
use Rattle.schema_json_shapes.specs.declared.words.TypeWord.{TypeWord}
use Rattle.schema_json_shapes.specs.Tables.{word_of}
use Rattle.schema_json_shapes.specs.Walk.{AllMet, reference_fits}
use Rattle.schema_json_shapes.specs.Said.{IsType, reference}
use Rattle.schema_json_shapes.specs.Inner.{IsInner, inner_demands, made_demands, IsMade}

pub made_fits : (w : TypeWord) (s : List ℕ) (ms : Members) (shape : Option (TypeVariant RawName)) → w ≡ word_of s
    → IsInner w ms shape → made_demands shape s ≡ reference_fits (word_of s) s
made_fits w s ms None e h = ap (λ v. reference_fits v s) (sym h ∙ e)
made_fits w s ms (Some v) e h = sym (ap (λ u. reference_fits u s) (sym e) ∙ h.0 s)

pub made_says : (w : TypeWord) (s : List ℕ) (ms : Members) (shape : Option (TypeVariant RawName)) (t : «Type» RawName)
    → get_member (codes "type") ms ≡ Some (string s) → w ≡ word_of s → IsInner w ms shape → IsMade shape s t
    → IsType (object ms) t
made_says w s ms None t there e h m = subst (IsType (object ms)) (sym m.2) (reference ms s m.0 there (sym e ∙ h) m.1)
made_says w s ms (Some v) t there e h m = subst (IsType (object ms)) (sym m) h.1

-- without a shape it is a reference
pub made_none : (shape : Option (TypeVariant RawName)) (s : List ℕ) (t : «Type» RawName) → shape ≡ None
    → AllMet (made_demands None s) → IsMade None s t → AllMet (made_demands shape s) × IsMade shape s t
made_none shape s t e h m = subst (λ x. AllMet (made_demands x s) × IsMade x s t) (sym e) (h, m)

-- what holds of a word holds of what is equal to it
pub shape_says : (w v : TypeWord) (ms : Members) (o : Option (TypeVariant RawName)) → w ≡ v
    → AllMet (inner_demands v ms) → IsInner v ms o → AllMet (inner_demands w ms) × IsInner w ms o
shape_says w v ms o e h i = subst (λ x. AllMet (inner_demands x ms) × IsInner x ms o) (sym e) (h, i)
