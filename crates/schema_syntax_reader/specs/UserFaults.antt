-- What a syntax may not have, and where each of these faults ends.
use Rattle.std.specs.Prelude.{◌≡◌, ℕ, ◌+◌, ◌≤◌, true, List, [], ◌∷◌, ◌++◌, Some}
use Rattle.std.specs.List.{All}
use Rattle.cedar_data.specs.Span.{Span}
use Rattle.cedar_identifiers.specs.Words.{is_reserved}
use Rattle.cedar_identifiers.specs.declared.any_id.AnyId.{AnyId}
use Rattle.schema_syntax_tokens.specs.declared.token.Token.{Token}
use Rattle.schema_syntax_tokens.specs.Escapes.{BadEscape}
use Rattle.schema_syntax_parser.specs.declared.syntax.AnnotationSyntax.{AnnotationSyntax}
use Rattle.schema_syntax_parser.specs.declared.syntax.ItemSyntax.{ItemSyntax}
use Rattle.schema_syntax_errors.specs.declared.user_error.UserError.{UserError}
use Rattle.schema_syntax_errors.specs.declared.user_error.UserError.TheVariants.{EmptyList, StringEscape}
use Rattle.schema_syntax_errors.specs.declared.user_error.UserError.TheVariants.{ReservedIdentifierUsed}
use Rattle.schema_syntax_errors.specs.declared.user_error.UserError.TheVariants.{DuplicateAnnotations}
use Rattle.schema_syntax_reader.specs.Sites.{Site, word, text, annotations, empty, sites_of}
use Rattle.schema_syntax_reader.specs.Leaves.{word_at, IsBodyAt}

-- the first backslash of the string that begins no escape, by its place in the text
abbrev pub IsBadEscapeAt : List ℕ → Token → ℕ → Type 0
IsBadEscapeAt source t at = (body : List ℕ) × (place : ℕ) × IsBodyAt source t body × BadEscape body place
    × (at ≡ t.loc.start + 1 + place)

-- the annotation has another key
abbrev pub IsOtherKey : List ℕ → List ℕ → AnnotationSyntax → Type 0
IsOtherKey source key a = word_at source a.key ≡ key → ⊥

-- The fault of a site, one case for each kind of it, with the end of the token that ends it.
pub data FaultAt (source : List ℕ) : Site → UserError → ℕ → Type 0 where
  -- `enum []` and `appliesTo {}`, from bracket to bracket
  empty_list : (brackets : Span)
      → FaultAt source (empty brackets) (EmptyList (record { node = tt; loc = Some brackets })) brackets.end
  -- a name that is a reserved word
  reserved : (t : Token) → is_reserved (word_at source t) ≡ true
      → FaultAt source (word t) (ReservedIdentifierUsed (record { node = word_at source t; loc = Some t.loc }))
      t.loc.end
  -- a string with an unlawful escape
  escape : (t : Token) (at : ℕ) → IsBadEscapeAt source t at
      → FaultAt source (text t) (StringEscape (record { node = record { at = at } ∷ []; loc = Some t.loc })) t.loc.end
  -- the value of an annotation with an unlawful escape
  note_escape : {list : List AnnotationSyntax} (front back : List AnnotationSyntax) (key t : Token) (at : ℕ)
      → list ≡ front ++ record { key = key; value = Some t } ∷ back → IsBadEscapeAt source t at
      → FaultAt source (annotations list)
      (StringEscape (record { node = record { at = at } ∷ []; loc = Some t.loc })) t.loc.end
  -- a key that an annotation before it has already
  duplicate : {list : List AnnotationSyntax} (front middle back : List AnnotationSyntax)
      (first second : AnnotationSyntax) (key : AnyId)
      → list ≡ front ++ first ∷ (middle ++ second ∷ back) → word_at source first.key ≡ key.text
      → word_at source second.key ≡ key.text
      → All (IsOtherKey source key.text) front → All (IsOtherKey source key.text) middle
      → FaultAt source (annotations list)
      (DuplicateAnnotations key (record { node = tt; loc = Some first.key.loc })
      (record { node = tt; loc = Some second.key.loc })) second.key.loc.end

-- some site of the syntax has the fault, which ends there
abbrev pub HasUserFault : List ℕ → List ItemSyntax → UserError → ℕ → Type 0
HasUserFault source items fault end =
    (front : List Site) × (site : Site) × (back : List Site) × (sites_of items ≡ front ++ site ∷ back)
    × FaultAt source site fault end

-- the fault that ends first
pub record IsFirstUserFault (source : List ℕ) (items : List ItemSyntax) (fault : UserError) : Type 0 where
  pub end : ℕ
  pub has : HasUserFault source items fault end
  pub first : (other : UserError) (later : ℕ) → HasUserFault source items other later → end ≤ later

-- no site of the syntax has a fault
abbrev pub IsLawful : List ℕ → List ItemSyntax → Type 0
IsLawful source items = (fault : UserError) (end : ℕ) → HasUserFault source items fault end → ⊥
