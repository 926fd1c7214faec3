-- Why the sites of a text were not read.
use Rattle.std.specs.Prelude.{◌≡◌, ◌≤◌, ℕ, true, List, [], ◌∷◌, Some}
use Rattle.schema_syntax_grammar.specs.Grammar.{is_word_kind}
use Rattle.cedar_identifiers.specs.Words.{is_reserved}
use Rattle.schema_syntax_tokens.specs.declared.token.Token.{Token}
use Rattle.schema_syntax_tokens.specs.Scans.{IsPlaced}
use Rattle.schema_syntax_errors.specs.declared.user_error.UserError.{UserError}
use Rattle.schema_syntax_errors.specs.declared.user_error.UserError.TheVariants.{ReservedIdentifierUsed, StringEscape}
use Rattle.schema_syntax_reader.specs.Sites.{Site}
use Rattle.schema_syntax_reader.specs.Leaves.{word_at}
use Rattle.schema_syntax_reader.specs.UserFaults.{FaultAt, IsBadEscapeAt}
use Rattle.schema_syntax_reader.specs.Placed.{IsFirstSiteFault}
use Rattle.schema_syntax_reader.specs.declared.stopped.Stopped.{Stopped}
use Rattle.schema_syntax_reader.specs.declared.stopped.Stopped.TheVariants.{Memory, User}

-- the first of the faults is met, unless memory ran out
abbrev pub IsStopped : List ℕ → List Site → Stopped → Type 0
IsStopped source sites Memory = Unit {0}
IsStopped source sites (User fault) = IsFirstSiteFault source sites fault

-- of the faults of a site, the one that ends first
pub record IsFaultOf (source : List ℕ) (site : Site) (fault : UserError) : Type 0 where
  pub end : ℕ
  pub here : FaultAt source site fault end
  pub least : (other : UserError) (later : ℕ) → FaultAt source site other later → end ≤ later

abbrev pub IsStoppedAt : List ℕ → Site → Stopped → Type 0
IsStoppedAt source site Memory = Unit {0}
IsStoppedAt source site (User fault) = IsFaultOf source site fault

-- a word stands at its place
abbrev pub IsPlacedWord : List ℕ → Token → Type 0
IsPlacedWord source t = IsPlaced source t × (is_word_kind t.kind ≡ true)

-- a word is reserved
abbrev pub IsReservedStop : List ℕ → Token → Stopped → Type 0
IsReservedStop source t Memory = Unit {0}
IsReservedStop source t (User fault) =
    (is_reserved (word_at source t) ≡ true)
    × (fault ≡ ReservedIdentifierUsed (record { node = word_at source t; loc = Some t.loc }))

-- no backslash of the string begins no escape
abbrev pub NoBadEscapeAt : List ℕ → Token → Type 0
NoBadEscapeAt source t = (at : ℕ) → IsBadEscapeAt source t at → ⊥

-- a string has an unlawful escape
abbrev pub IsEscapeStop : List ℕ → Token → Stopped → Type 0
IsEscapeStop source t Memory = Unit {0}
IsEscapeStop source t (User fault) =
    (at : ℕ) × IsBadEscapeAt source t at
    × (fault ≡ StringEscape (record { node = record { at = at } ∷ []; loc = Some t.loc }))
