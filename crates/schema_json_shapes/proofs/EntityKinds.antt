-- Kinds of entity types, shapes and choices.
use Rattle.std.proofs.Common.{◌≡◌, ℕ, Bool, true, false, cond, List, Option, Some, None, refl, sym, ap, ◌∙◌, subst}
use Rattle.std.specs.Prelude.{codes}
use Rattle.serde_json.specs.Data.{Data, null, boolean, number, string, array, object, Members}
use Rattle.serde_json.specs.Find.{get_member}
use Rattle.cedar_identifiers.specs.declared.eid.Eid.{Eid}
use Rattle.cedar_identifiers.specs.declared.raw_name.RawName.{RawName}
use Rattle.schema_json.specs.Shapes.{record_type, empty_record}
use Rattle.schema_json.specs.declared.types.Type.{«Type»}
use Rattle.schema_json.specs.declared.entity_type.EntityTypeKind.{EntityTypeKind}
use Rattle.schema_json_shapes.specs.declared.shape_fault.ShapeFault.{ShapeFault}
use Rattle.schema_json_shapes.specs.declared.shape_fault.ShapeFault.TheVariants.{EmptyEnum}
use Rattle.schema_json_shapes.specs.Walk.{is_empty_list, empty_enum}
use Rattle.schema_json_shapes.specs.Said.{IsNamed, IsChoice, IsList, IsListOrNone, IsOptional, IsType}
use Rattle.schema_json_shapes.specs.Shapes.{IsShapeOrNone, IsKind, IsTextIn}
use Rattle.schema_json_shapes.specs.EntityKinds.{kind_from}

pub optional_some : {X : Type 0} (P : Data → X → Type 0) (o : Option Data) (x : X) → IsOptional P o (Some x)
    → (d : Data) × (o ≡ Some d) × P d x
optional_some P None x h = absurd (cc)
optional_some P (Some d) x h = let same : h.0 ≡ x = cc in (d, refl, subst (P d) same h.1)

pub optional_none : {X : Type 0} (P : Data → X → Type 0) (o : Option Data) → IsOptional P o None → o ≡ None
optional_none P None h = refl
optional_none P (Some d) h = absurd (cc)

pub shape_some : (o : Option Data) (t : «Type» RawName) → IsOptional IsType o (Some t) → IsShapeOrNone o t
shape_some o t h = let p = optional_some IsType o t h in subst (λ x. IsShapeOrNone x t) (sym p.1) p.2

pub shape_none : (o : Option Data) (t : «Type» RawName) → IsOptional IsType o None → t ≡ record_type empty_record
    → IsShapeOrNone o t
shape_none o t h e = subst (λ x. IsShapeOrNone x t) (sym (optional_none IsType o h)) e

kind_at : (ms : Members) (choices : Option (List Eid)) (parents : List RawName) (shape : «Type» RawName)
    (tags : Option («Type» RawName))
    → IsOptional (IsList IsChoice) (get_member (codes "enum") ms) choices
    → IsListOrNone IsNamed (get_member (codes "memberOfTypes") ms) parents
    → IsShapeOrNone (get_member (codes "shape") ms) shape → IsOptional IsType (get_member (codes "tags") ms) tags
    → IsKind ms (kind_from choices parents shape tags)
kind_at ms (Some choices) parents shape tags c p s t =
    let q = optional_some (IsList IsChoice) (get_member (codes "enum") ms) choices c in (q.0, q.1, q.2)
kind_at ms None parents shape tags c p s t =
    record {
      no_enum = optional_none (IsList IsChoice) (get_member (codes "enum") ms) c;
      parents = p;
      shaped = s;
      tagged = t;
    }

pub kind_says : (ms : Members) (choices : Option (List Eid)) (parents : List RawName) (shape : «Type» RawName)
    (tags : Option («Type» RawName)) (kind : EntityTypeKind RawName)
    → kind ≡ kind_from choices parents shape tags
    → IsOptional (IsList IsChoice) (get_member (codes "enum") ms) choices
    → IsListOrNone IsNamed (get_member (codes "memberOfTypes") ms) parents
    → IsShapeOrNone (get_member (codes "shape") ms) shape → IsOptional IsType (get_member (codes "tags") ms) tags
    → IsKind ms kind
kind_says ms choices parents shape tags kind e c p s t =
    subst (IsKind ms) (sym e) (kind_at ms choices parents shape tags c p s t)

-- ---- choices

pub choice_says : (d : Data) (t : List ℕ) (e : Eid) → e.0 ≡ t → IsTextIn (Some d) t → IsChoice d e
choice_says null t e is h = absurd h
choice_says (boolean b) t e is h = absurd h
choice_says (number x) t e is h = absurd h
choice_says (string s) t e is h = is ∙ h
choice_says (array ds) t e is h = absurd h
choice_says (object ms) t e is h = absurd h

not_empty_at : (b : Bool) (e : ShapeFault) → cond b (Some e) None ≡ None → b ≡ false
not_empty_at true e h = absurd (cc)
not_empty_at false e h = refl

pub not_empty : (o : Option Data) (d : Data) → Some d ≡ o → empty_enum o ≡ None → is_empty_list d ≡ false
not_empty o d e h = not_empty_at (is_empty_list d) EmptyEnum (ap empty_enum e ∙ h)
