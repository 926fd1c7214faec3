-- How a text reads as a name, and what keeps it from being one.
use Rattle.std.specs.Prelude.{◌≡◌, ◌≢◌, ℕ, Bool, true, false, ◌||◌, List, [], ◌∷◌, ◌++◌, Option, Some, None}
use Rattle.std.specs.Prelude.{option_and_then, codes, find, if◌then◌else◌}
use Rattle.std.specs.Str.{bytes_eq}
use Rattle.cedar_data.specs.Rows.{joined_by}
use Rattle.cedar_identifiers.specs.Words.{is_reserved, is_cedar}
use Rattle.cedar_data.specs.Words.{is_word}
use Rattle.cedar_identifiers.specs.NamePieces.{BeginsWith, NothingStands}
use Rattle.cedar_identifiers.specs.declared.name_kind.NameKind.{NameKind}
use Rattle.cedar_identifiers.specs.declared.name_kind.NameKind.TheVariants.{AnyId, Id, UnreservedId, InternalName, Name}
use Rattle.cedar_identifiers.specs.declared.name_fault.NameFault.{NameFault}
use Rattle.cedar_identifiers.specs.declared.name_fault.NameFault.TheVariants.{End, Token, Invalid, NotNormalized}
use Rattle.cedar_identifiers.specs.declared.name_fault.NameFault.TheVariants.{Reserved, Memory}

-- one word, and no `::`
abbrev pub is_single : NameKind → Bool
is_single AnyId = true
is_single Id = true
is_single UnreservedId = true
is_single InternalName = false
is_single Name = false

-- no component may be this word
abbrev pub refuses : NameKind → List ℕ → Bool
refuses AnyId w = false
refuses Id w = is_reserved w
refuses UnreservedId w = is_reserved w || is_cedar w
refuses InternalName w = is_reserved w
refuses Name w = is_reserved w || is_cedar w

-- Whether a word is due behind the piece, from whether one is due before it; none where the piece cannot stand. A name
-- is a word, then any number of `::` and a word.
abbrev pub due_next : Bool → Bool → List ℕ → Option Bool
due_next single true p = if is_word p then Some false else None
due_next single false p = if single then None else (if bytes_eq p (codes "::") then Some true else None)

-- whether a word is due behind these pieces, from whether one is due before them; none where one of them cannot stand
abbrev pub due_behind : Bool → Bool → List (List ℕ) → Option Bool
due_behind single due [] = Some due
due_behind single due (p ∷ ps) = option_and_then (λ d. due_behind single d ps) (due_next single due p)

-- the words with `::` between two
abbrev pub separated : List (List ℕ) → List (List ℕ)
separated [] = []
separated (w ∷ []) = w ∷ []
separated (w ∷ v ∷ ws) = w ∷ codes "::" ∷ separated (v ∷ ws)

-- but for blanks, the text is these words with `::` between two
pub record HasWords (kind : NameKind) (text : List ℕ) (words : List (List ℕ)) : Type 0 where
  pub pieces : BeginsWith text (separated words) []
  pub whole : due_behind (is_single kind) true (separated words) ≡ Some false

-- the text is a name of these words
pub record ReadsAs (kind : NameKind) (text : List ℕ) (words : List (List ℕ)) : Type 0 where
  pub has : HasWords kind text words
  pub allowed : find (refuses kind) words ≡ None
  pub normal : text ≡ joined_by (codes "::") words

-- What keeps a text from being a name. `Invalid` and `Token` are at the first place where no piece stands, or one that
-- cannot stand behind the pieces before it; `End` is a word missing at the end. Then come the first word that the
-- components may not be, and blanks. Memory may be out, whatever the text is.
abbrev pub NameFaultOf : NameKind → List ℕ → NameFault → Type 0
NameFaultOf kind text Invalid =
    (pieces : List (List ℕ)) × (due : Bool) × (rest : List ℕ) × BeginsWith text pieces rest
    × (due_behind (is_single kind) true pieces ≡ Some due) × NothingStands rest
NameFaultOf kind text (Token t) =
    (pieces : List (List ℕ)) × (due : Bool) × (rest : List ℕ) × BeginsWith text (pieces ++ t ∷ []) rest
    × (due_behind (is_single kind) true pieces ≡ Some due) × (due_next (is_single kind) due t ≡ None)
NameFaultOf kind text End = (pieces : List (List ℕ)) × BeginsWith text pieces []
    × (due_behind (is_single kind) true pieces ≡ Some true)
NameFaultOf kind text (Reserved w) =
    (words : List (List ℕ)) × HasWords kind text words × (find (refuses kind) words ≡ Some w)
NameFaultOf kind text NotNormalized =
    (words : List (List ℕ)) × HasWords kind text words × (find (refuses kind) words ≡ None)
    × (text ≢ joined_by (codes "::") words)
NameFaultOf kind text Memory = Unit {0}
