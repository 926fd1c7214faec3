-- What stands at the front of a text, and why reading stops there.
use Rattle.std.specs.Prelude.{◌≡◌, ℕ, Bool, true, List, [], ◌∷◌, Some, None, find, map}
use Rattle.cedar_identifiers.specs.NameReading.{due_next, refuses, HasWords}
use Rattle.cedar_identifiers.specs.declared.any_id.AnyId.{AnyId}
use Rattle.cedar_identifiers.specs.declared.name_kind.NameKind.{NameKind}
use Rattle.cedar_identifiers.specs.declared.name_fault.NameFault.{NameFault}
use Rattle.cedar_identifiers.specs.declared.name_fault.NameFault.TheVariants.{End, Token, Invalid, NotNormalized}
use Rattle.cedar_identifiers.specs.declared.name_fault.NameFault.TheVariants.{Reserved, Memory}
use Rattle.cedar_identifiers.specs.NamePieces.{BeginsWith, NothingStands}
use Rattle.cedar_identifiers.specs.declared.name_pieces.Front.{Front}
use Rattle.cedar_identifiers.specs.declared.name_pieces.Front.TheVariants.{Over, Nothing, Piece}

-- behind blanks, the end, no piece, or this piece and what follows it
abbrev pub IsFront : List ℕ → Front → Type 0
IsFront text Over = BeginsWith text [] []
IsFront text Nothing = (rest : List ℕ) × BeginsWith text [] rest × NothingStands rest
IsFront text (Piece p after) = BeginsWith text (p.now ∷ []) after.now

-- what keeps the reading from going on there, where a word is due or not
abbrev pub StopsAt : Bool → Bool → List ℕ → NameFault → Type 0
StopsAt single due text Invalid = (rest : List ℕ) × BeginsWith text [] rest × NothingStands rest
StopsAt single due text (Token t) = (rest : List ℕ) × BeginsWith text (t ∷ []) rest × (due_next single due t ≡ None)
StopsAt single due text End = BeginsWith text [] [] × (due ≡ true)
StopsAt single due text (Reserved w) = ⊥
StopsAt single due text NotNormalized = ⊥
StopsAt single due text Memory = Unit {0}

abbrev pub word_texts : List AnyId → List (List ℕ)
word_texts words = map (λ w. w.text) words

-- the first of the words that no component may be
abbrev pub IsRefusedWord : NameKind → List (List ℕ) → NameFault → Type 0
IsRefusedWord kind words Invalid = ⊥
IsRefusedWord kind words (Token t) = ⊥
IsRefusedWord kind words End = ⊥
IsRefusedWord kind words (Reserved w) = find (refuses kind) words ≡ Some w
IsRefusedWord kind words NotNormalized = ⊥
IsRefusedWord kind words Memory = Unit {0}

-- the text has these words, and none is refused
pub record AreAllowed (kind : NameKind) (text : List ℕ) (words : List (List ℕ)) : Type 0 where
  pub has : HasWords kind text words
  pub allowed : find (refuses kind) words ≡ None
