-- What words, strings and annotations stand for.
use Rattle.std.specs.Prelude.{◌≡◌, ℕ, List, [], ◌∷◌, ◌++◌, Option, Some, None, slice_range, length, map}
use Rattle.std.specs.List.{All}
use Rattle.std.specs.List.Sorted.{IsStrictlySortedBy}
use Rattle.std.specs.Map.{lookup}
use Rattle.std.specs.Str.{chars, bytes_eq}
use Rattle.cedar_data.specs.Text.{text_cmp}
use Rattle.cedar_identifiers.specs.declared.any_id.AnyId.{AnyId}
use Rattle.schema_syntax_tokens.specs.declared.token.Token.{Token}
use Rattle.schema_syntax_tokens.specs.Escapes.{Unescapes}
use Rattle.schema_syntax_parser.specs.declared.syntax.AnnotationSyntax.{AnnotationSyntax}

-- the characters at the token's place
abbrev pub word_at : List ℕ → Token → List ℕ
word_at text t = chars (slice_range text t.loc.start t.loc.end)

-- what stands between the quotes at the token's place
abbrev pub IsBodyAt : List ℕ → Token → List ℕ → Type 0
IsBodyAt text t body = slice_range text t.loc.start t.loc.end ≡ 34 ∷ (body ++ 34 ∷ [])

-- the string at the token's place stands for these characters
abbrev pub IsStringAt : List ℕ → Token → List ℕ → Type 0
IsStringAt text t value = (body : List ℕ) × IsBodyAt text t body × Unescapes body value

-- annotations by their keys, each with a value or without one
abbrev pub Notes : Type 0
Notes = List (AnyId × Option (List ℕ))

-- the value that is written, where one is
abbrev pub IsNoteValue : List ℕ → Option Token → Option (List ℕ) → Type 0
IsNoteValue text None None = Unit {0}
IsNoteValue text (Some t) (Some value) = IsStringAt text t value
IsNoteValue text _ _ = ⊥

-- the notes give the annotation's key its value
abbrev pub HasNote : List ℕ → Notes → AnnotationSyntax → Type 0
HasNote text notes a = (value : Option (List ℕ))
    × (lookup (λ key. bytes_eq key.text (word_at text a.key)) notes ≡ Some value) × IsNoteValue text a.value value

-- the notes are those of the annotations, by rising keys
pub record AreNotes (text : List ℕ) (annotations : List AnnotationSyntax) (notes : Notes) : Type 0 where
  pub sorted : IsStrictlySortedBy text_cmp (map (λ note. note.0.text) notes)
  pub as_many : length notes ≡ length annotations
  pub each : All (HasNote text notes) annotations
