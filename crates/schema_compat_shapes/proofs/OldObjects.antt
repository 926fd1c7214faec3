-- Values that are objects, and fields that may be absent.
use Rattle.std.proofs.Common.{◌≡◌, ℕ, List, Option, Some, None, Result, refl, subst}
use Rattle.serde_json.specs.Data.{Data, null, boolean, number, string, array, object, Members}
use Rattle.serde_json.specs.Find.{as_object}
use Rattle.schema_json_shapes.specs.declared.shape_fault.ShapeFault.{ShapeFault}
use Rattle.schema_json_shapes.specs.Walk.{Demand, AllMet, wrong_type}
use Rattle.schema_json_shapes.specs.Said.{IsOptional}
use Rattle.schema_json_shapes.specs.Reads.{IsDemandFault, ReadsValue}
use Rattle.schema_json_shapes.specs.Entries.{of_object}
use Rattle.schema_json_shapes.proofs.Objects.{an_object}
use Rattle.schema_compat_shapes.specs.OldWalk.{at_field}
use Rattle.schema_compat_shapes.specs.OldParts.{InObject}

pub not_an_object : (own : Members → List Demand) (n : List ℕ) (d : Data) (e : ShapeFault) → None ≡ as_object d
    → IsDemandFault (wrong_type n) e → IsDemandFault (of_object own n d) e
not_an_object own n null e h f = f
not_an_object own n (boolean b) e h f = f
not_an_object own n (number x) e h f = f
not_an_object own n (string s) e h f = f
not_an_object own n (array ds) e h f = f
not_an_object own n (object ms) e h f = absurd (cc)

-- what is read of an object is read of the value
pub reads_members : {A : Type 0} (result : Result A ShapeFault) (own : Members → List Demand) (n : List ℕ) (d : Data)
    (ms : Members) (P : Members → A → Type 0) → Some ms ≡ as_object d → ReadsValue result (own ms) (P ms)
    → ReadsValue result (of_object own n d) (InObject P d)
reads_members result own n d ms P e h =
    subst (λ x. ReadsValue result (of_object own n x) (InObject P x)) (an_object d ms e) h

module _ {X : Type 0} (part : List ℕ → Data → List Demand) (n : List ℕ) (P : Data → X → Type 0) where
  -- what is read of a field that is there
  pub field_some : (o : Option Data) (d : Data) (x : X) → Some d ≡ o → AllMet (part n d) → P d x
      → AllMet (at_field part n o) × IsOptional P o (Some x)
  field_some o d x e m p =
      subst (λ q. AllMet (at_field part n q) × IsOptional P q (Some x)) e (m, (x, p, refl))
