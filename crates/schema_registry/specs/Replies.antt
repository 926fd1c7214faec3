-- The replies to messages, by their meanings. A message is its bytes.
use Rattle.std.specs.Prelude.{◌≡◌, ◌++◌, ℕ, List, [], ◌∷◌, codes, decimal, slice_get, Some, IsUtf8}
use Rattle.cedar_messages.specs.Messages.{AreMessages}
use Rattle.cedar_names.specs.Meaning.{SchemaMeaning}
use Rattle.cedar_names.specs.declared.extension_table.ExtensionTable.{ExtensionTable}
use Rattle.cedar_schema_core.specs.Meanings.{TextMeaning}

-- the message is a text with this meaning
pub record Means (table : ExtensionTable) (message : List ℕ) (m : SchemaMeaning) : Type 0 where
  pub utf8 : IsUtf8 message
  pub means : TextMeaning message table m

-- the meaning is among these
abbrev pub IsAmong : List SchemaMeaning → SchemaMeaning → Type 0
IsAmong seen m = (place : ℕ) × (slice_get seen place ≡ Some m)

-- Behind messages with the meanings that were seen, these messages come, and then all meanings are these: each once, in
-- the order in which they first came.
pub data ComeTo (table : ExtensionTable) : List SchemaMeaning → List (List ℕ) → List SchemaMeaning → Type 0 where
  no_more : (seen : List SchemaMeaning) → ComeTo table seen [] seen
  meaningless : (seen : List SchemaMeaning) (message : List ℕ) (rest : List (List ℕ)) (all : List SchemaMeaning)
      → ((m : SchemaMeaning) → Means table message m → ⊥) → ComeTo table seen rest all
      → ComeTo table seen (message ∷ rest) all
  again : (seen : List SchemaMeaning) (message : List ℕ) (rest : List (List ℕ)) (all : List SchemaMeaning)
      (m : SchemaMeaning) → Means table message m → IsAmong seen m → ComeTo table seen rest all
      → ComeTo table seen (message ∷ rest) all
  first : (seen : List SchemaMeaning) (message : List ℕ) (rest : List (List ℕ)) (all : List SchemaMeaning)
      (m : SchemaMeaning) → Means table message m → (IsAmong seen m → ⊥) → ComeTo table (seen ++ m ∷ []) rest all
      → ComeTo table seen (message ∷ rest) all

-- the different meanings of the messages, in the order in which they first come
abbrev pub AreMeanings : ExtensionTable → List (List ℕ) → List SchemaMeaning → Type 0
AreMeanings table messages all = ComeTo table [] messages all

-- the line of an entry
abbrev pub entry_line : ℕ → List ℕ
entry_line id = codes "entry " ++ decimal id

-- The message has the entry with this id among messages with these meanings: the place of its meaning. So many other
-- meanings came before the first message with it.
pub record HasEntry (table : ExtensionTable) (all : List SchemaMeaning) (message : List ℕ) (id : ℕ) : Type 0 where
  pub meaning : SchemaMeaning
  pub means : Means table message meaning
  pub place : slice_get all id ≡ Some meaning

-- the line that answers a message among messages with these meanings
pub data IsReply (table : ExtensionTable) (all : List SchemaMeaning) (message : List ℕ) : List ℕ → Type 0 where
  not_text : (IsUtf8 message → ⊥) → IsReply table all message (codes "not text")
  refused : IsUtf8 message → ((m : SchemaMeaning) → Means table message m → ⊥)
      → IsReply table all message (codes "refused")
  entry : (id : ℕ) → HasEntry table all message id → IsReply table all message (entry_line id)

-- the line for each message, one behind another, as characters
pub data AreReplies (table : ExtensionTable) (all : List SchemaMeaning) : List (List ℕ) → List ℕ → Type 0 where
  no_messages : AreReplies table all [] []
  next : (message line : List ℕ) (rest : List (List ℕ)) (more : List ℕ) → IsReply table all message line
      → AreReplies table all rest more → AreReplies table all (message ∷ rest) ((line ++ codes "\n") ++ more)

-- the bytes are messages, and this answers them
pub record AreAllReplies (table : ExtensionTable) (bytes out : List ℕ) : Type 0 where
  pub messages : List (List ℕ)
  pub meanings : List SchemaMeaning
  pub are : AreMessages bytes messages
  pub mean : AreMeanings table messages meanings
  pub replies : AreReplies table meanings messages out
