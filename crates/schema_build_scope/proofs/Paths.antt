-- Paths over one relation as paths over another.
use Rattle.std.proofs.Common.{List, [], ◌∷◌, subst}
use Rattle.schema_build_graph.specs.Paths.{Leads, Reaches}

module _ {A B : Type 0} (E : A → A → Type 0) (F : B → B → Type 0) (R : A → B → Type 0)
    (step : (a c : A) (x : B) → E a c → R a x → (y : B) × R c y × F x y) where
  leads_alike : (steps : List A) (a b : A) (x : B) → R a x → Leads E a steps b
      → (more : List B) × (y : B) × R b y × Leads F x more y
  leads_alike [] a b x r same = ([], x, subst (λ c. R c x) same r, λ i. x)
  leads_alike (c ∷ steps) a b x r (e, l) =
      let s = step a c x e r in
      let t = leads_alike steps c b s.0 s.1 l in
      (s.0 ∷ t.0, t.1, t.2, (s.2, t.3))

  -- where each step has one beside it, a path has one beside it
  pub reaches_alike : (a b : A) (x : B) → R a x → Reaches E a b → (y : B) × R b y × Reaches F x y
  reaches_alike a b x r (c, rest, (e, l)) =
      let s = step a c x e r in
      let t = leads_alike rest c b s.0 s.1 l in
      (t.1, t.2, (s.0, t.0, (s.2, t.3)))

-- the first step of a path
pub first_step : {A : Type 0} (E : A → A → Type 0) (a b : A) → Reaches E a b → (c : A) × E a c
first_step E a b (c, rest, (e, l)) = (c, e)
