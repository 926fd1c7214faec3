use Rattle.std.proofs.Common.{ap, sym, subst, ◌∙◌}
use Rattle.std.specs.Str.{chars}
use Rattle.cedar_data.specs.Text.{IsTextFront}
use Rattle.cedar_data.specs.Held.{held_bytes}
use Rattle.cedar_data.proofs.Cut.{cut_place, cut_front}
use Rattle.cedar_data.proofs.text.Text.truncate.Goals as goal

pub truncate-requires : goal.truncate-requires
truncate-requires c =
    let is : IsTextFront (chars (held_bytes c.self.inside.held)) c.args.len c.requires.0 = subst
    (λ t. IsTextFront t c.args.len c.requires.0) (sym c.self.view_is) c.requires.1 in
    λ within. cut_place (held_bytes c.self.inside.held) c.as_str-text.ensures.text c.args.len c.requires.0 is

pub returns : goal.returns
returns c = λ front given.
    let is : IsTextFront (chars (held_bytes c.self.inside.held)) c.args.len front = subst
    (λ t. IsTextFront t c.args.len front) (sym c.self.view_is) given in
    ap chars c.truncate.ensures
    ∙ cut_front (held_bytes c.self.inside.held) c.as_str-text.ensures.text c.args.len front is
