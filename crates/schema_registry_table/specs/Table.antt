-- The rows in which a registry keeps its entries. Texts are their bytes.
use Rattle.std.specs.Prelude.{◌≡◌, ◌≤◌, ℕ, pos, false, List, length, slice_get, Some, IsTrue, refl}
use Rattle.std.specs.List.{Contains}
use Rattle.std.specs.Coded.{Coded, code_by, coded×, coded_ℕ}
use Rattle.sha2.specs.Sha256.{sha256}
use Rattle.sqlite.specs.Effect.{Database}
use Rattle.sqlite.specs.Held.{Held, held_code}
use Rattle.sqlite.specs.Order.{Row, column, bytes}
use Rattle.sqlite.specs.State.{State, HasCleanDisk, Survives}
use Rattle.sqlite.specs.View.{doubt}
use Rattle.sqlite.specs.declared.types.Value.TheVariants.{Int, Text, Blob}
use Rattle.schema_registry_entries.specs.Entries.{IsEntered}
use Rattle.schema_registry_table.specs.Statements.{entry_schema}

-- the row keeps this text with this id, beside the SHA-256 of the text
pub record IsEntryRow (id : ℕ) (text : List ℕ) (row : Row) : Type 0 where
  pub id_is : column row 0 ≡ Int (pos id)
  pub sum_is : column row 2 ≡ Blob (sha256 text)
  pub text_is : column row 3 ≡ Text text

-- The rows keep these texts: each row that of a text with its place as id, and each text has a row.
pub record AreRowsOf (texts : List (List ℕ)) (rows : List Row) : Type 0 where
  pub each : (row : Row) → Contains rows row
      → (id : ℕ) × (text : List ℕ) × (slice_get texts id ≡ Some text) × IsEntryRow id text row
  pub all : (id : ℕ) (text : List ℕ) → slice_get texts id ≡ Some text
      → (row : Row) × Contains rows row × IsEntryRow id text row

-- the database is the table of a registry with these texts and nothing else
pub record Keeps (db : Database) (texts : List (List ℕ)) : Type 0 where
  pub schema_is : db.schema ≡ entry_schema
  pub rows : AreRowsOf texts (db.trees 0)

-- the connection is open, what it shows is committed, and it keeps these texts
pub record Rests (s : State) (texts : List (List ℕ)) : Type 0 where
  pub is_open : IsTrue s.is_open
  pub autocommit : s.in_transaction ≡ false
  pub settled : s.now ≡ s.committed
  pub keeps : Keeps s.committed texts

-- the connection keeps these texts unless a fault has shut it
abbrev pub Stands : State → List (List ℕ) → Type 0
Stands s texts = (s.in_transaction ≡ false) × (IsTrue s.is_open → Rests s texts)

-- the row of a list shows this text with this id, beside the SHA-256 of the text
pub record IsListedRow (id : ℕ) (text : List ℕ) (row : Row) : Type 0 where
  pub id_is : column row 0 ≡ Int (pos id)
  pub sum_is : column row 1 ≡ Blob (sha256 text)
  pub text_is : column row 2 ≡ Text text

-- the bytes that a listed row shows as its text
abbrev pub text_in : Row → List ℕ
text_in row = bytes (column row 2)

-- a call that only reads keeps the texts, and a crash in it leaves what one could leave before
pub record LeavesTexts (old new : State) : Type 0 where
  pub stands : HasCleanDisk new → (texts : List (List ℕ)) → Stands old texts → Stands new texts
  pub clean : doubt old.is_clean ≤ doubt new.is_clean
  pub survives : (texts : List (List ℕ)) → Rests old texts → Survives old new (λ _. ⊥)

-- a connection, and how many texts it keeps
pub record TableState (S : Type 0) : Type 0 where
  pub held : Held S
  pub count : ℕ

-- how a proof tells the states of tables apart
abbrev pub table_code : {S : Type 0} → Coded S → Coded (TableState S)
table_code {S} store = code_by (Held S × ℕ) (coded× (held_code store) coded_ℕ) (λ t. (t.held, t.count))
    (λ p. record { held = p.0; count = p.1 }) (λ _. refl)

-- the connection keeps so many texts, as long as the disk is clean
abbrev pub KeepsMany : State → ℕ → Type 0
KeepsMany s count = HasCleanDisk s → (texts : List (List ℕ)) × Stands s texts × (length texts ≡ count)

-- the text was entered into the texts that the one connection keeps, which are then those that the other keeps
pub record EntersText (old new : State) (text : List ℕ) (place : ℕ) : Type 0 where
  pub texts : List (List ℕ)
  pub all : List (List ℕ)
  pub before : Rests old texts
  pub after : Rests new all
  pub entered : IsEntered text texts place all
