-- What may stand at a place of a text.
use Rattle.std.specs.Prelude.{◌↔◌, ℕ, List, Option, slice_range}
use Rattle.std.specs.List.{Contains}
use Rattle.std.specs.List.Sorted.{IsStrictlySortedBy}
use Rattle.cedar_data.specs.Span.{Span}
use Rattle.cedar_data.specs.Text.{text_cmp}
use Rattle.cedar_names.specs.declared.extension_table.ExtensionTable.{ExtensionTable}
use Rattle.schema_syntax_grammar.specs.Grammar.{IsExpected}
use Rattle.schema_syntax_grammar.specs.declared.token_kind.TheConstants.{ALL_KINDS}
use Rattle.schema_syntax_tokens.specs.TokenLists.{kinds_of}
use Rattle.schema_syntax_tokens.specs.declared.token.Token.{Token}
use Rattle.schema_assist_places.specs.Homes.{StandsIn}
use Rattle.schema_assist_places.specs.Names.{path_of}
use Rattle.schema_assist_places.specs.declared.role.Role.{Role}
use Rattle.schema_assist_words.specs.Before.{StandBefore}
use Rattle.schema_assist_words.specs.Namespaces.{written_words}
use Rattle.schema_assist_offers.specs.Offers.{Known, offers, Completes}
use Rattle.schema_assist.specs.declared.assistance.Assistance.{Assistance}

-- the words of the namespace whose word `namespace` is at this place of the tokens
abbrev pub words_around : List ℕ → List Token → Option ℕ → List (List ℕ)
words_around text front home = written_words text (path_of (λ t. t.kind) front home)

-- The text spells a name that may stand behind the tokens: the name is known and may be written in the role and the
-- namespace that stand there, and its spelling begins with the partial word.
pub record IsNameBehind (text : List ℕ) (front : List Token) (partial : Span) (known : Known)
    (table : ExtensionTable) (s : List ℕ) : Type 0 where
  pub role : Role
  pub home : Option ℕ
  pub stands : StandsIn (kinds_of front) role home
  pub offered : offers known table role (words_around text front home) s
  pub begins : Completes s (slice_range text partial.start partial.end)

-- The place of the partial word, the kinds that may stand in its place, and the names that do: all of them, and no
-- other. The names rise.
pub record IsAssistance (text : List ℕ) (at : ℕ) (known : Known) (table : ExtensionTable) (a : Assistance)
    : Type 0 where
  pub front : List Token
  pub before : StandBefore text at a.partial front
  pub expected : IsExpected ALL_KINDS (kinds_of front) a.expected.items
  pub rising : IsStrictlySortedBy text_cmp a.names.items
  pub names : (s : List ℕ) → (Contains a.names.items s ↔ IsNameBehind text front a.partial known table s)
