-- Annotations read from a text.
use Rattle.std.specs.Prelude.{◌≡◌, ℕ, List, [], ◌∷◌, ◌++◌, Option, None, Some}
use Rattle.std.specs.List.{AllZip}
use Rattle.std.specs.Option.{option_map}
use Rattle.cedar_data.specs.declared.node.Node.{Node}
use Rattle.schema_syntax_tokens.specs.declared.token.Token.{Token}
use Rattle.schema_syntax_parser.specs.declared.syntax.AnnotationSyntax.{AnnotationSyntax}
use Rattle.schema_syntax_errors.specs.declared.user_error.UserError.{UserError}
use Rattle.schema_syntax_reader.specs.declared.stopped.Stopped.TheVariants.{User}
use Rattle.schema_syntax_reader.specs.Leaves.{word_at, IsNoteValue}
use Rattle.schema_syntax_reader.specs.Stops.{NoBadEscapeAt, IsEscapeStop}
use Rattle.schema_syntax_reader.specs.Deduplicated.{Placed, placed_key, key_place, value_of}

-- no backslash of the value begins no escape
abbrev pub NoBadValue : List ℕ → Option Token → Type 0
NoBadValue source None = Unit {0}
NoBadValue source (Some t) = NoBadEscapeAt source t

-- the value has this fault
abbrev pub IsBadValue : List ℕ → Option Token → UserError → Type 0
IsBadValue source None fault = ⊥
IsBadValue source (Some t) fault = IsEscapeStop source t (User fault)

-- the value is read, or has the fault
abbrev pub IsValueOr : List ℕ → Option Token → Option (Node (List ℕ)) → Option UserError → Type 0
IsValueOr source value found None = IsNoteValue source value (option_map (λ v. v.node) found) × NoBadValue source value
IsValueOr source value found (Some fault) = IsBadValue source value fault

-- the key is read, with its place
abbrev pub IsKeyRead : List ℕ → AnnotationSyntax → Placed → Type 0
IsKeyRead source a p = ((placed_key p).text ≡ word_at source a.key) × (key_place p ≡ Some a.key.loc)

-- and the value too
pub record IsRead (source : List ℕ) (a : AnnotationSyntax) (p : Placed) : Type 0 where
  pub key : IsKeyRead source a p
  pub value : IsNoteValue source a.value (value_of p)
  pub lawful : NoBadValue source a.value

-- an annotation is read, or its key alone where its value has the fault
abbrev pub IsReadOr : List ℕ → AnnotationSyntax → Placed → Option UserError → Type 0
IsReadOr source a p None = IsRead source a p
IsReadOr source a p (Some fault) = IsKeyRead source a p × IsBadValue source a.value fault

-- all are read up to the first value with a fault
pub record AreReadTo (source : List ℕ) (list : List AnnotationSyntax) (read : List Placed)
    (fault : UserError) : Type 0 where
  pub front : List AnnotationSyntax
  pub here : AnnotationSyntax
  pub back : List AnnotationSyntax
  pub before : List Placed
  pub last : Placed
  pub split : list ≡ front ++ here ∷ back
  pub split_read : read ≡ before ++ last ∷ []
  pub each : AllZip (IsRead source) front before
  pub key : IsKeyRead source here last
  pub bad : IsBadValue source here.value fault

-- all are read, or those up to the first value with a fault
abbrev pub AreRead : List ℕ → List AnnotationSyntax → List Placed → Option UserError → Type 0
AreRead source list read None = AllZip (IsRead source) list read
AreRead source list read (Some fault) = AreReadTo source list read fault
