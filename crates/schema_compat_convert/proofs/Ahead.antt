-- Items that are converted one after another.
use Rattle.std.proofs.Common.{◌≡◌, List, [], ◌∷◌, ◌++◌, length, sym, ap, ◌∙◌, subst, append_assoc, append-nil}
use Rattle.std.proofs.Common.{arith}
use Rattle.std.specs.List.{flat_map}
use Rattle.schema_json_shapes.specs.declared.shape_fault.ShapeFault.{ShapeFault}
use Rattle.schema_json_shapes.specs.Walk.{Demand, AllMet}
use Rattle.schema_json_shapes.specs.Reads.{IsDemandFault}
use Rattle.schema_json_shapes.proofs.Demands.{both_met, fails, passes}

module _ {A B : Type 0} (asks : A → List Demand) (Become : List A → List B → Type 0) where
  -- what is left of the items, all of them, and what was made so far
  pub record Ahead (left all : List A) (made : List B) : Type 0 where
    pub met : AllMet (flat_map asks left) → AllMet (flat_map asks all)
    pub unmet : (e : ShapeFault) → IsDemandFault (flat_map asks left) e → IsDemandFault (flat_map asks all) e
    pub becomes : (more : List B) → Become left more → Become all (made ++ more)

  -- the first of what is left has a fault
  pub first_fails : (x : A) (left rest all : List A) (made : List B) (e : ShapeFault) → Ahead left all made
      → left ≡ x ∷ rest → IsDemandFault (asks x) e → IsDemandFault (flat_map asks all) e
  first_fails x left rest all made e ahead is fault =
      ahead.unmet e (subst (λ l. IsDemandFault (flat_map asks l) e) (sym is)
      (fails (asks x) (flat_map asks rest) e fault))

  -- the first of what is left becomes something
  pub first_passes : (x : A) (y : B) (left rest all : List A) (made made' : List B) → Ahead left all made
      → left ≡ x ∷ rest → AllMet (asks x) → ((more : List B) → Become rest more → Become (x ∷ rest) (y ∷ more))
      → made' ≡ made ++ y ∷ [] → Ahead rest all made'
  first_passes x y left rest all made made' ahead is met next pushed = record {
    met = λ h. ahead.met (subst (λ l. AllMet (flat_map asks l)) (sym is)
        (both_met (asks x) (flat_map asks rest) met h));
    unmet = λ e h. ahead.unmet e (subst (λ l. IsDemandFault (flat_map asks l) e) (sym is)
        (passes (asks x) (flat_map asks rest) e met h));
    becomes = λ more h. subst (Become all) (sym (append_assoc made (y ∷ []) more) ∙ ap (λ l. l ++ more) (sym pushed))
        (ahead.becomes (y ∷ more) (subst (λ l. Become l (y ∷ more)) (sym is) (next more h)));
  }

  -- nothing is left
  pub none_ahead : (left all : List A) (made : List B) → Ahead left all made → length left ≡ 0 → Become [] []
      → AllMet (flat_map asks all) × Become all made
  none_ahead [] all made ahead over none =
      (ahead.met tt, subst (Become all) (append-nil made) (ahead.becomes [] none))
  none_ahead (x ∷ left) all made ahead over none = absurd (omega arith)
