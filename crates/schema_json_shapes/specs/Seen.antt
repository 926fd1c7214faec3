-- The code's tables as those of the definitions.
use Rattle.std.specs.Prelude.{List, ℕ, map}
use Rattle.std.specs.Borrow.{Bor}
use Rattle.schema_json_shapes.specs.Tables.{Field}
use Rattle.schema_json_shapes.specs.declared.tables.Field.{Field as CodeField}

-- a table of the code as one of the definitions: each field's name, and whether it is needed
abbrev pub table : List CodeField → List Field
table fs = map (λ f. record { name = f.name.now; needed = f.needed }) fs

-- the names that are lent
abbrev pub name_texts : List (Bor (List ℕ)) → List (List ℕ)
name_texts ns = map (λ n. n.now) ns
