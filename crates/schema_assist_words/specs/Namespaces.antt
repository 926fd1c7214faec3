-- The name of a namespace, as words of a text.
use Rattle.std.specs.Prelude.{◌≡◌, ℕ, Bool, true, false, ◌⊎◌, List, [], ◌∷◌, ◌++◌, Option, slice_range, MatchOption}
use Rattle.std.specs.Prelude.{if◌then◌else◌}
use Rattle.std.specs.List.{list_all}
use Rattle.cedar_identifiers.specs.Names.{components_of}
use Rattle.cedar_identifiers.specs.Words.{is_id}
use Rattle.cedar_identifiers.specs.declared.internal_name.InternalName.{InternalName}
use Rattle.schema_syntax_grammar.specs.Grammar.{is_word_kind}
use Rattle.schema_syntax_tokens.specs.declared.token.Token.{Token}

-- the words among the tokens, as they stand in the text
abbrev pub written_words : List ℕ → List Token → List (List ℕ)
written_words text [] = []
written_words text (t ∷ ts) =
    if is_word_kind t.kind then slice_range text t.loc.start t.loc.end ∷ written_words text ts
    else written_words text ts

-- there are no words, or one of them is no name
abbrev pub NoName : List (List ℕ) → Type 0
NoName words = (words ≡ []) ⊎ (list_all is_id words ≡ false)

-- the words are those of this name, or of none
abbrev pub IsNameOfWords : List (List ℕ) → Option InternalName → Type 0
IsNameOfWords words name = MatchOption name (NoName words) (λ n. components_of n ≡ words)

-- the word is added, where it is a name
abbrev pub IsWordAdded : List (List ℕ) → List (List ℕ) → List ℕ → Bool → Type 0
IsWordAdded old new word true = (is_id word ≡ true) × (new ≡ old ++ word ∷ [])
IsWordAdded old new word false = is_id word ≡ false

-- the words are added, where each is a name
abbrev pub AreWordsAdded : List (List ℕ) → List (List ℕ) → List (List ℕ) → Bool → Type 0
AreWordsAdded old new words true = new ≡ old ++ words
AreWordsAdded old new words false = list_all is_id words ≡ false
