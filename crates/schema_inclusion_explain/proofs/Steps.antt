-- Steps, the innermost first.
use Rattle.std.proofs.Common.{◌≡◌, List, [], ◌∷◌, ◌++◌, map, length, refl, ap, sym, ◌∙◌, arith}
use Rattle.std.proofs.lemmas.List.{append-nil}
use Rattle.schema_inclusion_reasons.specs.Places.{Path}
use Rattle.schema_inclusion_explain.specs.Held.{held_step, outwards}
use Rattle.schema_inclusion_explain.specs.declared.places.Step.{Step}

-- the last step is the outermost
pub outermost : (ss : List Step) (s : Step) (p : Path) → outwards (ss ++ s ∷ []) p ≡ held_step s ∷ outwards ss p
outermost [] s p = refl
outermost (t ∷ ss) s p = outermost ss s (held_step t ∷ p)

glued : (path : List Step) (s : Step) (p : Path) → map held_step (path ++ s ∷ []) ++ p
    ≡ map held_step path ++ (held_step s ∷ p)
glued [] s p = refl
glued (t ∷ path) s p = ap (λ q. held_step t ∷ q) (glued path s p)

-- the last of the steps goes to the end of the path
pub step_over : (path old new : List Step) (s : Step) (all : Path) → old ≡ new ++ s ∷ []
    → map held_step path ++ outwards old [] ≡ all → map held_step (path ++ s ∷ []) ++ outwards new [] ≡ all
step_over path old new s all e h = glued path s (outwards new [])
    ∙ (ap (λ o. map held_step path ++ o) (sym (ap (λ ss. outwards ss []) e ∙ outermost new s [])) ∙ h)

pub all_over : (path old new : List Step) (all : Path) → old ≡ new ++ [] → length new ≡ 0
    → map held_step path ++ outwards old [] ≡ all → map held_step path ≡ all
all_over path old [] all e n h = sym (append-nil (map held_step path))
    ∙ (ap (λ o. map held_step path ++ outwards o []) (sym e) ∙ h)
all_over path old (s ∷ new) all e n h = absurd (omega arith)
