use Rattle.std.proofs.Common.{sym, ◌∙◌}
use Rattle.cedar_identifiers.proofs.Blanks.{space_from_char}
use Rattle.cedar_identifiers.proofs.name_pieces.past_space.Goals as goal

pub returns-then-is_whitespace : goal.returns-then-is_whitespace
returns-then-is_whitespace c =
    let h = space_from_char c.args.text.now _ c.in-Some.first c.utf8.text
    (sym c.chars-chars.ensures.rest ∙ c.in-Some.ensures.steps.0)
    (sym c.is_whitespace.ensures ∙ c.if-is_whitespace.true) in
    (h.1, c.as_str.ensures ∙ h.2)
