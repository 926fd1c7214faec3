-- What a command writes of a text that is recovered.
use Rattle.std.proofs.Common.{◌≡◌, ◌++◌, ℕ, List, [], refl, ap, ap₂, ◌∙◌}
use Rattle.std.specs.Prelude.{codes, decimal, length}
use Rattle.std.specs.Str.{chars, encode_utf8_all}
use Rattle.std.proofs.lemmas.Str.{encodes-append, encodes-IsAscii}
use Rattle.cedar_data.proofs.Ascii.{chars-from_test, IsAscii-from_test}
use Rattle.cedar_data.specs.declared.text.Text.{Text}
use Rattle.cedar_names.specs.declared.extension_table.ExtensionTable.{ExtensionTable}
use Rattle.schema_convert_errors.specs.declared.warnings.SchemaWarning.{SchemaWarning}
use Rattle.cedar_schema_core.specs.declared.command.Command.TheVariants.{Recover, Check, ToJson, FromJson, Generate}
use Rattle.cedar_schema_core.specs.declared.json_texts.JsonForm.{JsonForm}
use Rattle.cedar_schema_core.specs.declared.recover.Recovered.{Recovered}
use Rattle.cedar_schema_core.specs.Answers.{IsWrittenBy}
use Rattle.cedar_schema_core.specs.Json.{IsJsonOfText, IsRecoveredJson}
use Rattle.cedar_schema_core.specs.Recovery.{IsRecovered}

line_end : encode_utf8_all (chars (codes "\n")) ≡ codes "\n"
line_end =
    ap encode_utf8_all (chars-from_test (codes "\n") refl)
    ∙ encodes-IsAscii (codes "\n") (IsAscii-from_test (codes "\n") refl)

module _ (text : List ℕ) (table : ExtensionTable) where
  -- `recover` writes the canonical text
  pub text_written : (r : Recovered) → IsRecovered text table r
      → IsWrittenBy (Recover table) text (encode_utf8_all r.text) r.warnings.items
  text_written r h = record { writes = (h.meaning, h.means, h.warns, h.canonical) }

  -- `check` writes the counts
  pub counts_written : (r : Recovered) (line : List ℕ) → IsRecovered text table r
      → encode_utf8_all line ≡ decimal r.entity_types
      ++ (codes " entity types, " ++ (decimal r.actions ++ codes " actions\n"))
      → IsWrittenBy (Check table) text (encode_utf8_all line) r.warnings.items
  counts_written r line h is = record {
    writes = (
      h.meaning,
      h.means,
      h.warns,
      is ∙ (λ i. decimal (h.entity_types i)
          ++ (codes " entity types, " ++ (decimal (h.actions i) ++ codes " actions\n"))),
    );
  }

  -- `generate` writes the counts and both lengths
  pub made_written : (size read : ℕ) (r : Recovered) (line : List ℕ) → IsRecovered text table r → read ≡ length text
      → encode_utf8_all line ≡ decimal read ++ (codes " bytes in, " ++ (decimal r.entity_types
      ++ (codes " entity types, " ++ (decimal r.actions ++ (codes " actions, "
      ++ (decimal (length (encode_utf8_all r.text)) ++ codes " bytes out\n"))))))
      → IsWrittenBy (Generate size table) text (encode_utf8_all line) r.warnings.items
  made_written size read r line h long is = record {
    writes = (
      h.meaning,
      h.means,
      h.warns,
      is ∙ (λ i. decimal (long i) ++ (codes " bytes in, " ++ (decimal (h.entity_types i)
          ++ (codes " entity types, " ++ (decimal (h.actions i) ++ (codes " actions, "
          ++ (decimal (length (h.canonical i)) ++ codes " bytes out\n"))))))),
    );
  }

  -- `to-json` writes the JSON and the end of the line
  pub json_written : (json line : Text) (w : List SchemaWarning) → IsJsonOfText text table json
      → line ≡ json ++ chars (codes "\n") → w ≡ [] → IsWrittenBy (ToJson table) text (encode_utf8_all line) w
  json_written json line w h is none = record {
    writes = (
      h.0,
      h.1,
      none,
      ap encode_utf8_all is ∙ (encodes-append json (chars (codes "\n")) ∙ ap₂ (λ x y. x ++ y) h.2 line_end),
    );
  }

  -- `from-json` and `from-deprecated` write the canonical text
  pub json_recovered : (form : JsonForm) (r : Recovered) → IsRecoveredJson form text table r
      → IsWrittenBy (FromJson form table) text (encode_utf8_all r.text) r.warnings.items
  json_recovered form r h = record { writes = (h.meaning, h.means, h.no_warnings, h.canonical) }
