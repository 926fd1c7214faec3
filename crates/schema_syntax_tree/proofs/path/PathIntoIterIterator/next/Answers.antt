use Rattle.std.proofs.Common.{◌≡◌, ◌∷◌, ap, ◌∙◌, sym, arith}
use Rattle.std.proofs.lemmas.Grind.{common_steps}
use Rattle.cedar_data.specs.declared.node.Node.{Node}
use Rattle.cedar_identifiers.specs.declared.id.Id.{Id}
use Rattle.schema_syntax_tree.specs.Paths.{nodes_left}
use Rattle.schema_syntax_tree.proofs.path.PathIntoIterIterator.next.Goals as goal

pub returns-clause-steps : goal.returns-clause-steps
returns-clause-steps c =
    let first : Node Id = record { node = c.match-take.id; loc = c.match-take.self.loc } in
    let left : nodes_left c.args.self.now ≡ first ∷ nodes_left c.match-take.self = grind (arith, common_steps) in
    left ∙ ap (λ node. node ∷ nodes_left c.match-take.self) (sym c.with_maybe_source_loc.ensures)
