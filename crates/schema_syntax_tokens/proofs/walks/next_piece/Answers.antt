use Rattle.std.proofs.Common.{◌≡◌, ◌++◌, length, sym, ap, ◌∙◌, subst}
use Rattle.std.specs.Char.{encode_utf8}
use Rattle.schema_syntax_tokens.specs.Escapes.{NoEscape, IsEscapeTo}
use Rattle.schema_syntax_tokens.proofs.Lawful.{boundary_after_escape}
use Rattle.std.specs.Str.{IsUtf8}
use Rattle.std.proofs.lemmas.Str.{IsUtf8-drop}
use Rattle.schema_syntax_tokens.proofs.Gone.{begins_escape, no_piece_nil, no_piece_stuck}
use Rattle.schema_syntax_tokens.proofs.walks.next_piece.Goals as goal

pub split_at-requires : goal.split_at-requires
split_at-requires c = boundary_after_escape c.args.rest.now c.in-Some.len c.in-Some.character c.utf8.rest
    (subst (λ t. IsEscapeTo t c.in-Some.len c.in-Some.character) c.as_bytes.ensures.value c.in-Some.ensures)

pub returns-in-Some-clause-cases : goal.returns-in-Some-clause-cases
returns-in-Some-clause-cases c =
    begins_escape c.args.rest.now c.split_at.result.1.now c.in-Some.len c.in-Some.character
    (subst (λ t. IsEscapeTo t c.in-Some.len c.in-Some.character) c.as_bytes.ensures.value c.in-Some.ensures)
    c.split_at.ensures.back

pub returns-in-None-next-clause-cases : goal.returns-in-None-next-clause-cases
returns-in-None-next-clause-cases c =
    no_piece_nil c.args.rest.now (ap length (sym c.chars-chars.ensures.rest) ∙ c.in-None-next.ensures.steps.0.0)

pub returns-then-character-eq92-clause-cases : goal.returns-then-character-eq92-clause-cases
returns-then-character-eq92-clause-cases c =
    let begins : c.args.rest.now ≡ encode_utf8 c.in-Some-next.character
    ++ c.next.new.self.rest.now = sym c.chars-chars.ensures.rest ∙ c.in-Some-next.ensures.steps.0 in
    let slash : c.args.rest.now ≡ encode_utf8 92 ++ c.next.new.self.rest.now = begins
    ∙ ap (λ x. encode_utf8 x ++ c.next.new.self.rest.now) c.if-character-eq92.true in
    no_piece_stuck c.args.rest.now c.next.new.self.rest.now slash
    (subst (λ t. NoEscape t) c.as_bytes.ensures.value c.in-None.ensures)

pub returns-in-Some-clause-text : goal.returns-in-Some-clause-text
returns-in-Some-clause-text c =
    let cut = boundary_after_escape c.args.rest.now c.in-Some.len c.in-Some.character c.utf8.rest
    (subst (λ t. IsEscapeTo t c.in-Some.len c.in-Some.character) c.as_bytes.ensures.value c.in-Some.ensures) in
    subst (λ t. IsUtf8 t) (sym c.split_at.ensures.back) (IsUtf8-drop c.args.rest.now c.in-Some.len c.utf8.rest cut)
