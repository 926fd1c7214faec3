-- Which lexemes say which annotations, in the order of the text, and which notes by rising keys these make.
use Rattle.std.specs.Prelude.{◌≡◌, ◌≢◌, ℕ, true, List, [], ◌∷◌, ◌++◌, Option, Some, None, length, map}
use Rattle.std.specs.List.{AllByRecursion}
use Rattle.std.specs.List.Sorted.{IsStrictlySortedBy}
use Rattle.std.specs.Map.{lookup}
use Rattle.std.specs.Str.{bytes_eq}
use Rattle.cedar_data.specs.Text.{text_cmp}
use Rattle.schema_syntax_grammar.specs.Grammar.{is_word_kind}
use Rattle.schema_syntax_grammar.specs.declared.token_kind.TokenKind.TheVariants.{StringLit, At, LParen, RParen}
use Rattle.schema_syntax_tokens.specs.Escapes.{Unescapes}
use Rattle.schema_syntax_tokens.specs.Laid.{Lexeme}
use Rattle.schema_syntax_reader.specs.Leaves.{Notes}

-- a key, with its value where it has one
abbrev pub Note : Type 0
Note = List ℕ × Option (List ℕ)

-- {'@' Word ['(' STR ')']}
pub data AreNotesOf : List Lexeme → List Note → Type 0 where
  no_note : AreNotesOf [] []
  bare_note : {a k : Lexeme} {u : List Lexeme} {notes : List Note} → a.kind ≡ At → is_word_kind k.kind ≡ true
      → AreNotesOf u notes → AreNotesOf (a ∷ k ∷ u) ((k.text, None) ∷ notes)
  valued_note : {a k o v c : Lexeme} {u : List Lexeme} {notes : List Note} (body : List ℕ) {value : List ℕ}
      → a.kind ≡ At → is_word_kind k.kind ≡ true → o.kind ≡ LParen → v.kind ≡ StringLit
      → v.text ≡ 34 ∷ (body ++ 34 ∷ []) → Unescapes body value → c.kind ≡ RParen → AreNotesOf u notes
      → AreNotesOf (a ∷ k ∷ o ∷ v ∷ c ∷ u) ((k.text, Some value) ∷ notes)

-- none of these notes has the key of this one
abbrev pub HaveOtherNotes : Note → List Note → Type 0
HaveOtherNotes n notes = AllByRecursion (λ (m : Note). n.0 ≢ m.0) notes

-- no key stands twice
abbrev pub AreApart : List Note → Type 0
AreApart [] = Unit {0}
AreApart (n ∷ notes) = HaveOtherNotes n notes × AreApart notes

-- the notes are those that are written, by rising keys, and no key is written twice
pub record AreArranged (written : List Note) (notes : Notes) : Type 0 where
  pub sorted : IsStrictlySortedBy text_cmp (map (λ n. n.0.text) notes)
  pub as_many : length notes ≡ length written
  pub each : AllByRecursion (λ (n : Note). lookup (λ key. bytes_eq key.text n.0) notes ≡ Some n.1) written
  pub apart : AreApart written

-- the lexemes say annotations that make these notes
pub record SpellNotes (u : List Lexeme) (notes : Notes) : Type 0 where
  pub written : List Note
  pub spell : AreNotesOf u written
  pub arranged : AreArranged written notes
