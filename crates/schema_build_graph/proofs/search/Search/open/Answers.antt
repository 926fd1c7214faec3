use Rattle.std.proofs.Common.{◌≡◌, ◌++◌, ◌∷◌, [], length, length-append, refl, sym, ap, ◌∙◌, arith}
use Rattle.std.proofs.Math.ListN.{set}
use Rattle.schema_build_graph.specs.Graph.{targets_of}
use Rattle.schema_build_graph.specs.declared.search.State.TheVariants.{Open}
use Rattle.schema_build_graph.proofs.Found.{targets_at}
use Rattle.schema_build_graph.proofs.States.{weight_opened}
use Rattle.schema_build_graph.proofs.Turns.{opened}
use Rattle.schema_build_graph.proofs.search.Search.open.Goals as goal

pub returns-clause-searched : goal.returns-clause-searched
returns-clause-searched c =
    let s = c.args.self.now in
    let v = c.args.vertex in
    let row : targets_of c.args.graph.now v
    ≡ c.deref.result.now = targets_at c.args.graph.now v c.index-graph-vertex.result
    (c.requires.searched.range v refl) c.index-graph-vertex.is ∙ sym c.deref.ensures.value in
    let many : c.len.result ≡ length s.standing.items = omega (arith, c.len.ensures, s.standing.ok.0) in
    let many' : c.len-2.result ≡ length s.standing.items = omega (arith, c.len-2.ensures, s.standing.ok.0) in
    let left : c.len-3.result ≡ length s.targets.items = omega (arith, c.len-3.ensures, s.targets.ok.0) in
    let states : set s.states.items v (Open c.len.result) ≡ set s.states.items v
    (Open (length s.standing.items)) = ap (λ n. set s.states.items v (Open n)) many in
    let targets : c.extend_from_slice.new.self.items ≡ s.targets.items
    ++ targets_of c.args.graph.now v = c.in_ok-extend_from_slice.ensures.items
    ∙ ap (λ xs. s.targets.items ++ xs) (sym row) in
    let groups : c.push.new.self.items ≡ s.groups.items
    ++ record { standing = length s.standing.items; targets = length s.targets.items } ∷ [] =
    c.in_ok-push.ensures.items
    ∙ ap (λ n. s.groups.items ++ record { standing = n; targets = c.len-3.result } ∷ []) many'
    ∙ ap (λ n. s.groups.items ++ record { standing = length s.standing.items; targets = n } ∷ []) left in
    rw (states, c.in_ok-push-2.ensures.items, targets, groups)
    (opened c.args.graph.now s.states.items s.standing.items s.targets.items s.groups.items s.done.items v
    c.requires.searched c.requires.new)

pub returns-clause-smaller : goal.returns-clause-smaller
returns-clause-smaller c =
    let s = c.args.self.now in
    let v = c.args.vertex in
    let row : length c.deref.result.now ≡ length c.index-graph-vertex.result.items = ap length c.deref.ensures.value in
    weight_opened c.args.graph.now s.states.items v c.len.result c.index-graph-vertex.result s.targets.items
    c.extend_from_slice.new.self.items s.groups.items c.push.new.self.items
    (c.requires.searched.range v refl)
    (omega (arith, c.requires.searched.same, c.requires.searched.range v refl)) c.index-graph-vertex.is c.requires.new
    (omega (
      arith,
      row,
      ap length c.in_ok-extend_from_slice.ensures.items,
      length-append s.targets.items
          c.deref.result.now,
    ))
    (omega (
      arith,
      ap length c.in_ok-push.ensures.items,
      length-append s.groups.items
          (record { standing = c.len-2.result; targets = c.len-3.result } ∷ []),
    ))
