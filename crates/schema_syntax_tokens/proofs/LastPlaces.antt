-- The last of some tokens.
use Rattle.std.proofs.Common.{◌≡◌, ◌-◌, ◌≤◌, List, [], ◌∷◌, length, get_or, refl, arith}
use Rattle.schema_syntax_tokens.specs.declared.token.Token.{Token}
use Rattle.schema_syntax_tokens.specs.TokenLists.{end_of}

end_at : (t : Token) (u : List Token) (d : Token) → (get_or (t ∷ u) (length u) d).loc.end ≡ end_of t u
end_at t [] d = refl
end_at t (s ∷ u) d = end_at s u d

-- where the last of the tokens behind a first one ends
pub last_of : (t : Token) (u : List Token) (d : Token) → 1 ≤ length u
    → end_of t u ≡ (get_or u (length u - 1) d).loc.end
last_of t [] d h = absurd (omega (arith, h))
last_of t (s ∷ u) d h = let n : length (s ∷ u) - 1 ≡ length u = omega arith in rw (n, end_at s u d) refl
