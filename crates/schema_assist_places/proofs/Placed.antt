-- The place behind all the tokens, as the stack tells it.
use Rattle.std.proofs.Common.{◌≡◌, ℕ, ◌≤◌, List, [], ◌∷◌, length, map, take, Option, Some, None, sym, subst}
use Rattle.std.specs.Prelude.{MatchOption}
use Rattle.schema_syntax_grammar.specs.declared.token_kind.TokenKind.{TokenKind}
use Rattle.schema_syntax_grammar.specs.declared.token_kind.TokenKind.TheVariants.{Identifier}
use Rattle.schema_syntax_grammar.specs.declared.symbol.Symbol.{Symbol}
use Rattle.schema_syntax_grammar.specs.declared.symbol.Symbol.TheVariants.{Schema}
use Rattle.schema_syntax_grammar.specs.Machine.{run}
use Rattle.schema_assist_places.specs.declared.duty.Duty.TheVariants.{Begins}
use Rattle.schema_assist_places.specs.declared.place.Place.{Place}
use Rattle.schema_assist_places.specs.declared.role.Role.{Role}
use Rattle.schema_assist_places.specs.Behind.{IsPlaceBehind}
use Rattle.schema_assist_places.specs.Homes.{StandsIn}
use Rattle.schema_assist_places.specs.Trace.{taken, space_of}
use Rattle.schema_assist_places.proofs.Walk.{stands_at_end, none_at_end}

-- a word that the stack takes in a role stands there, and where it takes none, none does
pub placed : {T : Type 0} (f : T → TokenKind) (tokens : List T) (i : ℕ) (stack : List Symbol) (space : Option ℕ)
    → length tokens ≤ i → run (Schema ∷ []) (take i (map f tokens)) ≡ Some stack
    → space_of (take i (map f tokens)) ≡ space → (o : Option Place)
    → MatchOption o ((role : Role) → taken stack Identifier ≡ Begins role → ⊥)
    (λ p. (taken stack Identifier ≡ Begins p.role) × (p.space ≡ space)) → IsPlaceBehind (map f tokens) o
placed f tokens i stack space all e h None none = none_at_end f tokens i stack space all e h none
placed f tokens i stack space all e h (Some p) (t, s) =
    subst (StandsIn (map f tokens) p.role) (sym s) (stands_at_end f tokens i stack space all e h p.role t)
