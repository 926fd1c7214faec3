-- Two schemas that are built of texts say the same exactly where the texts have one meaning.
use Rattle.std.proofs.Common.{◌≡◌, ◌↔◌, ℕ, Bool, true, List, sym, ap, ◌∙◌}
use Rattle.cedar_names.specs.Meaning.{SchemaMeaning}
use Rattle.cedar_names.specs.declared.extension_table.ExtensionTable.{ExtensionTable}
use Rattle.schema_build_types.specs.Content.{content}
use Rattle.schema_build_types.specs.Standing.{schema_as_built}
use Rattle.schema_build_text.specs.Readings.{schema_reading}
use Rattle.schema_build.specs.Schemas.{SchemaLists}
use Rattle.schema_same.specs.Same.{BuildsText, HasMeaning, IsSameAnswer}

-- what the text means, which the schema stands for
pub meant : (text : List ℕ) (table : ExtensionTable) (s : SchemaLists) → BuildsText text table s
    → HasMeaning text table
meant text table s (warnings, h) = (
  h.builds.0,
  record {
    fragment = h.fragment;
    translated = (warnings, h.translated);
    faultless = h.faultless;
    means = h.builds.1;
  },
)

module _ (read_back : (m : SchemaMeaning) → schema_reading (schema_as_built m) ≡ m) where
  pub answered : (first second : List ℕ) (table : ExtensionTable) (s t : SchemaLists) → BuildsText first table s
      → BuildsText second table t → (same : Bool)
      → (same ≡ true ↔ content s.entity_types s.actions ≡ content t.entity_types t.actions)
      → IsSameAnswer first second table same
  unfolding meant
  answered first second table s t (warnings, h) (others, k) same says = record {
    one = h.builds.0;
    other = k.builds.0;
    one_means = (meant first table s (warnings, h)).1;
    other_means = (meant second table t (others, k)).1;
    answer = (
      λ e. sym (read_back h.builds.0)
          ∙ (ap schema_reading (sym h.builds.2 ∙ (says.0 e ∙ k.builds.2)) ∙ read_back k.builds.0),
      λ e. says.1 (h.builds.2 ∙ (ap schema_as_built e ∙ sym k.builds.2)),
    );
  }
