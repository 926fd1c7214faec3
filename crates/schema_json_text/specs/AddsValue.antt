-- How a text grows as a value is written.
use Rattle.std.specs.Prelude.{String}
use Rattle.serde_json.specs.Data.{Data}
use Rattle.serde_json.specs.Written.{compact_text}
use Rattle.schema_json_quotes.specs.Adds.{Adds}

-- the compact text of the value is added
abbrev pub AddsValue : {Z : Type 0} → String Z → String Z → Data → Type 0
AddsValue old new value = Adds old new (compact_text value)
