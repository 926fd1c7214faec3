use Rattle.std.proofs.lemmas.Grind.{common_steps}
use Rattle.std.proofs.Common.{MatchOption, subst, arith}
use Rattle.schema_syntax_tokens.specs.Scans.{NoForm, IsLongest}
use Rattle.schema_syntax_tokens.proofs.scanner.token_of.Goals as goal

pub returns-then-first-eq34 : goal.returns-then-first-eq34
returns-then-first-eq34 c =
    subst (λ bytes. MatchOption c.string_of.result (NoForm bytes) (λ t. IsLongest bytes t.0 t.1))
    c.as_bytes-bytes.ensures.value c.string_of.ensures

pub returns : goal.returns
returns c = subst (λ bytes. MatchOption c.mark_of.result (NoForm bytes) (λ t. IsLongest bytes t.0 t.1))
    c.as_bytes-bytes.ensures.value c.mark_of.ensures

pub returns-then-is_empty : goal.returns-then-is_empty
returns-then-is_empty c = grind (arith, common_steps)
