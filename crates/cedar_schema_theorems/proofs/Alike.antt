-- A text that is translated alike means the same.
use Rattle.std.specs.Prelude.{ℕ, List}
use Rattle.cedar_identifiers.specs.declared.raw_name.RawName.{RawName}
use Rattle.cedar_names.specs.Meaning.{SchemaMeaning}
use Rattle.cedar_names.specs.declared.extension_table.ExtensionTable.{ExtensionTable}
use Rattle.schema_json.specs.declared.fragment.Fragment.{Fragment}
use Rattle.schema_json.specs.AsWritten.{as_written}
use Rattle.schema_convert_errors.specs.declared.warnings.SchemaWarning.{SchemaWarning}
use Rattle.schema_convert.specs.Translated.{IsTranslationOfText}
use Rattle.schema_build_checks.specs.Rows.{Never}
use Rattle.schema_build_parts.specs.BuildFaults.{BuildFault}
use Rattle.schema_build.specs.FaultsTold.{IsInOrder}
use Rattle.schema_build.specs.Meaning.{FragmentMeaning}
use Rattle.laws_build.specs.Orders.Alike.{DeclareTheSame}
use Rattle.laws_build.specs.Orders.Texts.{HaveTheSameTokens, IsTranslatedAlike}
use Rattle.cedar_schema_core.specs.Meanings.{TextMeaning}

abbrev Frag : Type 0
Frag = Fragment RawName as_written

module _ (means : (f g : Frag) (table : ExtensionTable) (m : SchemaMeaning) → DeclareTheSame f g → IsInOrder g
    → FragmentMeaning f table m → FragmentMeaning g table m)
    (faultless : (f g : Frag) (table : ExtensionTable) → DeclareTheSame f g → Never (BuildFault f table)
    → Never (BuildFault g table)) where
  pub alike_means : (text other : List ℕ) (table : ExtensionTable)
      → ((f : Frag) (warnings : List SchemaWarning) → IsTranslationOfText text table f warnings
      → IsTranslatedAlike other table f) → (m : SchemaMeaning) → TextMeaning text table m → TextMeaning other table m
  alike_means text other table translate m t =
      let a = translate t.fragment t.translated.0 t.translated.1 in
      record {
        fragment = a.fragment;
        translated = (a.warnings, a.translated);
        faultless = faultless t.fragment a.fragment table a.same t.faultless;
        means = means t.fragment a.fragment table m a.same a.ordered t.means;
        uncaptured = t.uncaptured;
      }

-- where one text has the tokens of another, the other has those of the one
pub tokens_back : (text other : List ℕ) → HaveTheSameTokens text other → HaveTheSameTokens other text
tokens_back text other h = record { lexemes = h.lexemes; first = h.second; second = h.first }
