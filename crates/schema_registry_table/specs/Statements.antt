-- The statements over the table of a registry, and the schema that the first of them makes.
use Rattle.std.specs.Prelude.{ℕ, Bool, List, [], ◌∷◌, true, false, Some, codes}
use Rattle.sqlite.specs.Collation.TheVariants.{Binary}
use Rattle.sqlite.specs.Kind.{Kind}
use Rattle.sqlite.specs.Kind.TheVariants.{Integer, Text, Blob}
use Rattle.sqlite.specs.Schema.{Schema}
use Rattle.sqlite.specs.Table.{Table}
use Rattle.sqlite.specs.declared.types.Value.TheVariants.{Null}
use Rattle.sqlite_schema.specs.declared.schema.Column.{Column}
use Rattle.sqlite_schema.specs.declared.schema.Index.{Index}
use Rattle.sqlite_value.specs.Keys.{plain}

-- makes the table
abbrev pub create_text : List ℕ
create_text = codes "CREATE TABLE entry (id INTEGER PRIMARY KEY, sum BLOB NOT NULL UNIQUE, text TEXT NOT NULL) STRICT"

-- finds the id of a text by its sum
abbrev pub find_text : List ℕ
find_text = codes "SELECT id FROM entry WHERE sum = ?1 AND text = ?2"

-- adds a row
abbrev pub insert_text : List ℕ
insert_text = codes "INSERT INTO entry VALUES (?1, ?2, ?3)"

-- shows the text with an id
abbrev pub show_text : List ℕ
show_text = codes "SELECT text FROM entry WHERE id = ?1"

-- lists all rows by their ids
abbrev pub list_text : List ℕ
list_text = codes "SELECT id, sum, text FROM entry ORDER BY id"

-- a connection to an empty file
abbrev pub no_schema : Schema
no_schema = record { tables = []; indexes = []; views = [] }

-- a column of a strict table, with no default
abbrev pub entry_column : List ℕ → Kind → Bool → Column
entry_column name kind not_null =
    record { name = name; kind = kind; is_strict = true; not_null = not_null; default = Null; collation = Binary }

-- the table that `create_text` describes
abbrev pub entry_table : Table
entry_table = record {
  name = codes "entry";
  tree = 0;
  columns = entry_column (codes "id") Integer false ∷ entry_column (codes "sum") Blob true
      ∷ entry_column (codes "text") Text true ∷ [];
  key = Some 0;
  primary = 0 ∷ [];
  uniques = (2 ∷ []) ∷ [];
  orders = plain ∷ [];
  checks = [];
  references = [];
  computed = [];
  stamps = record { places = []; terms = []; formats = [] };
  is_counted = false;
}

-- the index of the table's sums, which find a text
abbrev pub entry_index : Index
entry_index =
    record {
      name = codes "sqlite_autoindex_entry_1";
      tree = 1;
      table = 0;
      columns = 2 ∷ [];
      order = plain;
      is_unique = true;
    }

-- the schema of a file that has this table and nothing else
abbrev pub entry_schema : Schema
entry_schema = record { tables = entry_table ∷ []; indexes = entry_index ∷ []; views = [] }
