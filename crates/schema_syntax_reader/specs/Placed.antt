-- What the scanner and the grammar say of the sites of a text, and which sites have no fault.
use Rattle.std.specs.Prelude.{◌≡◌, ◌≤◌, ℕ, true, List, [], ◌∷◌, ◌++◌, Option, None, Some}
use Rattle.std.specs.List.{All, flat_map}
use Rattle.std.specs.Option.{option_to_list}
use Rattle.schema_syntax_grammar.specs.declared.token_kind.TokenKind.TheVariants.{StringLit}
use Rattle.schema_syntax_grammar.specs.Grammar.{is_word_kind, is_ident, is_name_kind}
use Rattle.schema_syntax_tokens.specs.declared.token.Token.{Token}
use Rattle.schema_syntax_tokens.specs.Scans.{IsPlaced}
use Rattle.schema_syntax_parser.specs.declared.syntax.AnnotationSyntax.{AnnotationSyntax}
use Rattle.schema_syntax_errors.specs.declared.user_error.UserError.{UserError}
use Rattle.schema_syntax_reader.specs.Sites.{Site, word, text, annotations, empty}
use Rattle.schema_syntax_reader.specs.UserFaults.{FaultAt}

-- each token ends no later than those behind it
abbrev pub Rise : List Token → Type 0
Rise [] = Unit {0}
Rise (t ∷ ts) = All (λ s. t.loc.end ≤ s.loc.end) ts × Rise ts

-- the tokens of annotations, without the marks
abbrev pub note_tokens : List AnnotationSyntax → List Token
note_tokens list = flat_map (λ a. a.key ∷ option_to_list a.value) list

-- tokens as the scanner leaves them: each stands in the text, and ends no later than those behind it
pub record AreScanned (source : List ℕ) (tokens : List Token) : Type 0 where
  pub placed : All (IsPlaced source) tokens
  pub rise : Rise tokens

-- tokens of this part of a syntax, as the scanner leaves them
abbrev pub IsScanned : {A : Type 0} → (List Token → A → Type 0) → List ℕ → A → Type 0
IsScanned P source part = (tokens : List Token) × P tokens part × AreScanned source tokens

-- a name stands at its place
abbrev pub IsPlacedName : List ℕ → Token → Type 0
IsPlacedName source t = IsPlaced source t × (is_name_kind t.kind ≡ true)

-- a string stands at its place
abbrev pub IsPlacedString : List ℕ → Token → Type 0
IsPlacedString source t = IsPlaced source t × (t.kind ≡ StringLit)

-- the value of an annotation, where it has one, is a string that stands at its place
abbrev pub IsPlacedValue : List ℕ → Option Token → Type 0
IsPlacedValue source None = Unit {0}
IsPlacedValue source (Some t) = IsPlacedString source t

-- the key and the value of an annotation stand at their places
abbrev pub IsPlacedNote : List ℕ → AnnotationSyntax → Type 0
IsPlacedNote source a = IsPlaced source a.key × (is_word_kind a.key.kind ≡ true) × IsPlacedValue source a.value

-- the tokens of the site stand at their places, of the kinds that it asks for; those of annotations are in order
abbrev pub IsPlacedSite : List ℕ → Site → Type 0
IsPlacedSite source (word t) = IsPlaced source t × (is_ident t.kind ≡ true)
IsPlacedSite source (text t) = IsPlacedString source t
IsPlacedSite source (annotations list) = All (IsPlacedNote source) list × Rise (note_tokens list)
IsPlacedSite source (empty brackets) = Unit {0}

-- the site has no fault
abbrev pub NoSiteFault : List ℕ → Site → Type 0
NoSiteFault source site = (fault : UserError) (end : ℕ) → FaultAt source site fault end → ⊥

-- the first of the sites that has a fault, and of its faults the one that ends first
pub record IsFirstSiteFault (source : List ℕ) (sites : List Site) (fault : UserError) : Type 0 where
  pub front : List Site
  pub site : Site
  pub back : List Site
  pub end : ℕ
  pub split : sites ≡ front ++ site ∷ back
  pub before : All (NoSiteFault source) front
  pub here : FaultAt source site fault end
  pub least : (other : UserError) (later : ℕ) → FaultAt source site other later → end ≤ later
