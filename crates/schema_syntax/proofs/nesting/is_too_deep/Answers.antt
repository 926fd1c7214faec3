use Rattle.std.proofs.Common.{◌≡◌, ◌∙◌, ◌+◌, ◌<◌, true, false, refl, sym, ap, arith, drop, length, slice_index_or}
use Rattle.std.proofs.lemmas.Bool.{lt-ltb, cond-true}
use Rattle.std.proofs.lemmas.List.{at_drop_all, at_drop_more}
use Rattle.std.proofs.lemmas.Grind.{common_steps}
use Rattle.schema_syntax_tokens.specs.TokenLists.{kinds_of}
use Rattle.schema_syntax.specs.Nesting.{opens, closes, IsTooDeep}
use Rattle.schema_syntax.specs.declared.nesting.TheConstants.{DEEPEST}
use Rattle.schema_syntax.proofs.Depths.{one, deep_from, deep_found, deep_finds}
use Rattle.schema_syntax.proofs.nesting.is_too_deep.Goals.{then-opens, else-opens, then-closes, else-closes}
use Rattle.schema_syntax.proofs.nesting.is_too_deep.Goals as goal

pub returns-then-closed-opened : goal.returns-then-closed-opened
returns-then-closed-opened c =
    let t : deep_from 0 0 (kinds_of c.args.tokens.now) ≡ true = grind (arith, common_steps, lt-ltb) in
    (λ _. deep_found (kinds_of c.args.tokens.now) t, λ _. refl)

pub returns : goal.returns
returns c =
    let none : false ≡ deep_from 0 0 (kinds_of c.args.tokens.now) =
    sym (at_drop_all (λ ts. deep_from c.loop-token.opened c.loop-token.closed (kinds_of ts)) c.args.tokens.now c.loop-token.token-index
    c.loop-token-test.false) ∙ c.loop-token.invariant.0 in
    (λ e. deep_found (kinds_of c.args.tokens.now) (sym none ∙ e), λ d. none ∙ deep_finds (kinds_of c.args.tokens.now) d)
