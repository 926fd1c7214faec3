-- What is said of what may stand behind kinds.
use Rattle.std.specs.Prelude.{ℕ, ◌<◌, List, Option, MatchOption, length}
use Rattle.schema_syntax_grammar.specs.Fault.{IsFault}
use Rattle.schema_syntax_grammar.specs.declared.token_kind.TokenKind.{TokenKind}
use Rattle.schema_syntax_grammar.specs.declared.token_kind.TheConstants.{ALL_KINDS}
use Rattle.schema_assist_places.specs.declared.place.Place.{Place}
use Rattle.schema_assist_places.specs.declared.place.Stopped.{Stopped}
use Rattle.schema_assist_places.specs.declared.place.Stopped.TheVariants.{Fault, Memory}
use Rattle.schema_assist_places.specs.declared.role.Role.{Role}
use Rattle.schema_assist_places.specs.Homes.{StandsIn}

-- the word that may come next in a role, or that none may
abbrev pub IsPlaceBehind : List TokenKind → Option Place → Type 0
IsPlaceBehind kinds place = MatchOption place ((role : Role) (space : Option ℕ) → StandsIn kinds role space → ⊥)
    (λ p. StandsIn kinds p.role p.space)

-- one of the kinds stands where no schema has it, or memory is out
abbrev pub IsStop : List TokenKind → Stopped → Type 0
IsStop kinds (Fault fault) = (fault.place < length kinds)
    × IsFault ALL_KINDS kinds fault.place fault.expected.items
IsStop kinds Memory = Unit {0}
