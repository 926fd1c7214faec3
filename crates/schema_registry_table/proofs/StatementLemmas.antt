-- What the statements over the table are read as.
use Rattle.std.proofs.Common.{◌≡◌, ℕ, pos, negsuc, List, [], ◌∷◌, codes, false, None, Ok, refl}
use Rattle.sqlite.specs.Listing.{understood, reads_listing}
use Rattle.sqlite.specs.Term.{Term, lit, col, op2}
use Rattle.sqlite.specs.Query.{Query, inner, end}
use Rattle.sqlite.specs.Source.TheVariants.{Values}
use Rattle.sqlite.specs.Command.TheVariants.{Insert, Select, CreateTable}
use Rattle.sqlite.specs.Compile.{table_defined_by}
use Rattle.sqlite.specs.declared.types.Value.TheVariants.{Null, Int}
use Rattle.sqlite.specs.Collation.TheVariants.{Binary}
use Rattle.sqlite_value.specs.declared.keys.Key.{Key}
use Rattle.sqlite_sql.specs.declared.ops.BinaryOp.TheVariants.{Compare}
use Rattle.sqlite_sql.specs.declared.ops.CompareOp.TheVariants.{Eq}
use Rattle.sqlite_tied.specs.Compute.{everything}
use Rattle.sqlite.proofs.Callers.{IsPlain, command_of, statement_of}
use Rattle.schema_registry_table.specs.Statements.{create_text, find_text, insert_text, show_text, list_text}
use Rattle.schema_registry_table.specs.Statements.{no_schema, entry_table, entry_schema}

pub create_is : (command_of (understood no_schema create_text) ≡ CreateTable)
    × (statement_of create_text (understood no_schema create_text) ≡ create_text)
    × (table_defined_by create_text ≡ Ok entry_table)
unfolding understood everything
create_is = (refl, refl, refl)

abbrev pub insert_terms : List Term
insert_terms = col 0 0 ∷ lit Null ∷ col 0 1 ∷ col 0 2 ∷ []

pub insert_is : command_of (understood entry_schema insert_text) ≡ Insert 0 (Values insert_terms 4)
unfolding understood everything
insert_is = refl

-- a query over the table that groups nothing and has no limit
abbrev pub one_table : List Term → List Term → List (Term × Key) → Query
one_table filter project order = record {
  from = inner 0 end;
  filter = filter;
  group = None;
  project = project;
  distinct = false;
  collations = [];
  order = order;
  limit = lit (Int (negsuc 0));
  offset = lit (Int (pos 0));
}

abbrev pub is_param : ℕ → ℕ → Term
is_param at param = op2 (Compare Eq Binary) (col 1 at) (col 0 param)

abbrev pub find_query : Query
find_query = one_table (is_param 2 0 ∷ is_param 3 1 ∷ []) (col 1 0 ∷ []) []

pub find_is : (command_of (understood entry_schema find_text) ≡ Select (record { lets = []; body = find_query })
    (codes "id" ∷ []))
    × (reads_listing entry_schema find_text ≡ false)
unfolding understood everything
find_is = (refl, refl)

abbrev pub show_query : Query
show_query = one_table (is_param 0 0 ∷ []) (col 1 3 ∷ []) []

pub show_is : (command_of (understood entry_schema show_text) ≡ Select (record { lets = []; body = show_query })
    (codes "text" ∷ []))
    × (reads_listing entry_schema show_text ≡ false)
unfolding understood everything
show_is = (refl, refl)

abbrev pub list_query : Query
list_query = one_table [] (col 1 0 ∷ col 1 2 ∷ col 1 3 ∷ [])
    ((col 1 0, record { collation = Binary; descending = false }) ∷ [])

pub list_is : (command_of (understood entry_schema list_text) ≡ Select (record { lets = []; body = list_query })
    (codes "id" ∷ codes "sum" ∷ codes "text" ∷ []))
    × (reads_listing entry_schema list_text ≡ false)
unfolding understood everything
list_is = (refl, refl)

pub plain_create : IsPlain (understood no_schema create_text)
unfolding understood everything
plain_create = (refl, refl)

pub plain_insert : IsPlain (understood entry_schema insert_text)
unfolding understood everything
plain_insert = (refl, refl)

pub plain_find : IsPlain (understood entry_schema find_text)
unfolding understood everything
plain_find = (refl, refl)

pub plain_show : IsPlain (understood entry_schema show_text)
unfolding understood everything
plain_show = (refl, refl)

pub plain_list : IsPlain (understood entry_schema list_text)
unfolding understood everything
plain_list = (refl, refl)
