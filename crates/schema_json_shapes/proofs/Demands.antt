-- Demands in a row.
use Rattle.std.proofs.Common.{◌≡◌, List, [], ◌∷◌, ◌++◌, Result, inl, inr, sym, subst, ◌∙◌, ℕ, zero, suc}
use Rattle.std.proofs.Common.{true≢false}
use Rattle.std.specs.Result.{IsErrAnd}
use Rattle.std.specs.Prelude.{⊤}
use Rattle.std.proofs.lemmas.Result.{err_from_is_err_and}
use Rattle.std.proofs.lemmas.Option.{none-some}
use Rattle.schema_json_shapes.specs.declared.shape_fault.ShapeFault.{ShapeFault}
use Rattle.schema_json_shapes.specs.Walk.{Demand, unless, is_name, no_keyword, IsMet, IsUnmet, AllMet, FirstUnmet}
use Rattle.schema_json_shapes.specs.Reads.{IsDemandFault, ReadsValue}

pub both_met : (ds es : List Demand) → AllMet ds → AllMet es → AllMet (ds ++ es)
both_met [] es p q = q
both_met (d ∷ ds) es p q = (p.0, both_met ds es p.1 q)

pub first_met : (ds es : List Demand) → AllMet (ds ++ es) → AllMet ds
first_met [] es h = tt
first_met (d ∷ ds) es h = (h.0, first_met ds es h.1)

pub second_met : (ds es : List Demand) → AllMet (ds ++ es) → AllMet es
second_met [] es h = h
second_met (d ∷ ds) es h = second_met ds es h.1

first_unmet : (ds es : List Demand) (e : ShapeFault) → FirstUnmet ds e → FirstUnmet (ds ++ es) e
first_unmet [] es e h = absurd h
first_unmet (d ∷ ds) es e (inl h) = inl h
first_unmet (d ∷ ds) es e (inr h) = inr (h.0, first_unmet ds es e h.1)

later_unmet : (ds es : List Demand) (e : ShapeFault) → AllMet ds → FirstUnmet es e → FirstUnmet (ds ++ es) e
later_unmet [] es e p h = h
later_unmet (d ∷ ds) es e p h = inr (p.0, later_unmet ds es e p.1 h)

-- the first of two rows has this fault
pub fails : (ds es : List Demand) (e : ShapeFault) → IsDemandFault ds e → IsDemandFault (ds ++ es) e
fails ds es e (inl m) = inl m
fails ds es e (inr h) = inr (first_unmet ds es e h)

-- the first of two rows is met
pub passes : (ds es : List Demand) (e : ShapeFault) → AllMet ds → IsDemandFault es e → IsDemandFault (ds ++ es) e
passes ds es e p (inl m) = inl m
passes ds es e p (inr h) = inr (later_unmet ds es e p h)

-- ---- rows of demands, one behind the other

abbrev pub rows : List Demand → List (List Demand) → List Demand
rows ds [] = ds
rows ds (es ∷ others) = ds ++ rows es others

-- This follows if the rows before the one at this place are met and that one has this fault, and if each is met.
abbrev pub IfFails : ℕ → List Demand → List (List Demand) → ShapeFault → Type 0 → Type 0
IfFails zero ds others e G = IsDemandFault ds e → G
IfFails (suc k) ds [] e G = ⊤
IfFails (suc k) ds (es ∷ others) e G = AllMet ds → IfFails k es others e G

abbrev pub IfEachMet : List Demand → List (List Demand) → Type 0 → Type 0
IfEachMet ds [] G = AllMet ds → G
IfEachMet ds (es ∷ others) G = AllMet ds → IfEachMet es others G

pub row_fails : (k : ℕ) (ds : List Demand) (others : List (List Demand)) (e : ShapeFault) (G : Type 0)
    → (IsDemandFault (rows ds others) e → G) → IfFails k ds others e G
row_fails zero ds [] e G f = f
row_fails zero ds (es ∷ others) e G f = λ h. f (fails ds (rows es others) e h)
row_fails (suc k) ds [] e G f = tt
row_fails (suc k) ds (es ∷ others) e G f = λ m.
    row_fails k es others e G (λ h. f (passes ds (rows es others) e m h))

pub rows_met : (ds : List Demand) (others : List (List Demand)) (G : Type 0) → (AllMet (rows ds others) → G)
    → IfEachMet ds others G
rows_met ds [] G f = f
rows_met ds (es ∷ others) G f = λ m. rows_met es others G (λ h. f (both_met ds (rows es others) m h))

-- what the exit of a `?` returns
pub refused : {A : Type 0} (r : Result A ShapeFault) (e : ShapeFault) (ds : List Demand) (P : A → Type 0)
    → IsErrAnd r (λ x. x ≡ e) → IsDemandFault ds e → ReadsValue r ds P
refused r e ds P h f = let p = err_from_is_err_and r h in
    subst (λ x. ReadsValue x ds P) (sym p.1) (subst (IsDemandFault ds) (sym p.2) f)

pub row_refused : {A : Type 0} (P : A → Type 0) (ds : List Demand) (others : List (List Demand)) (k : ℕ)
    (r : Result A ShapeFault) (e : ShapeFault) → IsErrAnd r (λ x. x ≡ e)
    → IfFails k ds others e (ReadsValue r (rows ds others) P)
row_refused P ds others k r e h = row_fails k ds others e _ (refused r e (rows ds others) P h)

pub one_met : (d : Demand) (e : ShapeFault) → IsMet d → IsUnmet d e → ⊥
one_met (unless o) e m u = none-some e (sym m ∙ u)
one_met (is_name r s) e m u = u.no_name m
one_met (no_keyword s) e m u = true≢false (sym u.0 ∙ m)

-- demands that are all met have no fault
pub met_or_unmet : (ds : List Demand) (e : ShapeFault) → AllMet ds → FirstUnmet ds e → ⊥
met_or_unmet [] e m u = u
met_or_unmet (d ∷ ds) e m (inl u) = one_met d e m.0 u
met_or_unmet (d ∷ ds) e m (inr u) = met_or_unmet ds e m.1 u.1
