-- What stands on a sheet so far.
use Rattle.std.specs.Prelude.{◌≡◌, ℕ, Bool, ◌||◌, ◌++◌, nat_lt, if◌then◌else◌, List, [], length, string_bytes}
use Rattle.std.specs.List.{flat_map}
use Rattle.cedar_schema_cli_sheets.specs.Sheets.{Item, item_text, shown_items}
use Rattle.cedar_schema_cli_sheets.specs.declared.sheet.Sheet.{Sheet}
use Rattle.cedar_schema_cli_words.specs.declared.asked.Form.{Form}

-- what is written of a report behind so many others
abbrev pub text_if_shown : Form → Bool → ℕ → Item → List ℕ
text_if_shown form all count item = if all || nat_lt count 100 then item_text form item else []

-- the sheet has got these reports: they are counted, and those to be written are written
pub record HasItems (sheet : Sheet) (items : List Item) : Type 0 where
  pub counted : sheet.count ≡ length items
  pub written : string_bytes sheet.out ≡ flat_map (item_text sheet.form) (shown_items sheet.all items)

-- the sheet has got these reports behind those that it had
pub record Gets (old new : Sheet) (more : List Item) : Type 0 where
  pub form : new.form ≡ old.form
  pub all : new.all ≡ old.all
  pub items : (items : List Item) → HasItems old items → HasItems new (items ++ more)
