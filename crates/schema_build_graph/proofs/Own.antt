-- Whether a vertex is a target of itself.
use Rattle.std.proofs.Common.{◌≡◌, ◌<◌, ℕ, Bool, List, length, get_or, sym, ◌∙◌, subst, Contains, Vec, eqb}
use Rattle.std.specs.Bool.{Decides}
use Rattle.std.specs.List.{IsAnyAnswer}
use Rattle.std.specs.declared.alloc.Global.{Global}
use Rattle.std.proofs.lemmas.List.Elements.{contains_decides, Decides-contains}
use Rattle.std.proofs.lemmas.Bool.Decides.{Decides-eqb}
use Rattle.schema_build_graph.specs.Graph.{HasEdge}
use Rattle.schema_build_graph.proofs.Found.{targets_at}

decided : (xs : List ℕ) (x : ℕ) (r : Bool) → IsAnyAnswer (λ y b. eqb y x ≡ b) xs r → Decides r (Contains xs x)
decided xs x r h = Decides-contains xs x r (contains_decides eqb Decides-eqb xs x r h)

pub own_target : (graph : List (Vec ℕ Global)) (v : ℕ) (row : Vec ℕ Global) (items : List ℕ) (r : Bool)
    → v < length graph
    → row ≡ get_or graph v row → items ≡ row.items → IsAnyAnswer (λ y b. eqb y v ≡ b) items r
    → Decides r (HasEdge graph v v)
own_target graph v row items r h is same answer =
    subst (λ xs. Decides r (Contains xs v)) (same ∙ sym (targets_at graph v row h is)) (decided items v r answer)
