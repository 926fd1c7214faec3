use Rattle.std.proofs.Common.{reverse, arith}
use Rattle.std.proofs.lemmas.List.{length-reverse}
use Rattle.schema_layout_pieces.proofs.Depths.{depth_few}
use Rattle.schema_layout_pieces.proofs.context.Context.open.Goals as goal

pub overflow_add-self : goal.overflow_add-self
overflow_add-self c =
    let items = c.self.inside.brackets.items in
    omega (
      arith,
      c.self.invariant,
      depth_few (reverse items),
      length-reverse items,
      c.braces_of.ensures.few,
      c.in_ok-push.ensures.len,
    )
