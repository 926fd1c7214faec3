use Rattle.std.proofs.lemmas.Grind.{common_steps}
use Rattle.std.proofs.Common.{◌-◌, ◌≤◌, ◌≡◌, true, List, [], ◌∷◌, length, take, drop, get_or, ap, sym, ◌∙◌, arith}
use Rattle.std.proofs.lemmas.List.{take_all}
use Rattle.schema_syntax_tokens.specs.declared.token.Token.{Token}
use Rattle.schema_syntax_grammar.specs.declared.token_kind.TokenKind.TheVariants.{Equals}
use Rattle.schema_syntax_grammar.specs.Grammar.{same_kind}
use Rattle.schema_syntax_parser.specs.Reading.{shape_at, some_record, record_at}
use Rattle.schema_syntax_parser.proofs.types.shape.Goals as goal

-- what stands behind an equals sign
behind_equals : (ts : List Token) (first : Token) → 1 ≤ length ts → first ≡ get_or ts 0 first → true ≡ same_kind Equals first.kind
    → shape_at ts ≡ some_record (record_at (take (length ts - 1) (drop 1 ts)))
unfolding shape_at
behind_equals [] first some is kind = absurd (omega (arith, some))
behind_equals (t ∷ ts) first some is kind =
    rw (← is, ← kind)
    (ap (λ l. some_record (record_at l)) (sym (take_all (length (t ∷ ts) - 1) (drop 1 (t ∷ ts)) (omega arith))))

pub returns-in_ok-attrs-in-len1-up : goal.returns-in_ok-attrs-in-len1-up
returns-in_ok-attrs-in-len1-up c =
    behind_equals _ _ c.in-len1-up.len_at_least c.first-item.is c.if-is_of.ensures
    ∙ ap some_record c.in_ok-attrs-in-len1-up.ensures

pub returns-in_default : goal.returns-in_default
unfolding shape_at
returns-in_default c = grind (arith, common_steps)

pub returns-in_err-attrs-in-len1-up : goal.returns-in_err-attrs-in-len1-up
unfolding shape_at
returns-in_err-attrs-in-len1-up c = grind (arith, common_steps)

pub returns-in_ok-attrs-in-len1-up-2 : goal.returns-in_ok-attrs-in-len1-up-2
unfolding shape_at
returns-in_ok-attrs-in-len1-up-2 c = grind (arith, common_steps)
