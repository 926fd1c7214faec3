use Rattle.std.proofs.Common.{refl}
use Rattle.cedar_data.proofs.loc.Loc.snippet.Goals as goal

pub range-requires-clause-end_boundary : goal.range-requires-clause-end_boundary
range-requires-clause-end_boundary c = c.is_char_boundary-2.ensures.test.0 c.if-not-is_char_boundary-2.false

pub returns-clause-some : goal.returns-clause-some
returns-clause-some c =
    rw (← c.self.view_is) (
      λ _. (
        c.is_char_boundary.ensures.test.0 c.if-not-is_char_boundary.false,
        c.is_char_boundary-2.ensures.test.0 c.if-not-is_char_boundary-2.false,
      ),
      λ _. refl,
    )
