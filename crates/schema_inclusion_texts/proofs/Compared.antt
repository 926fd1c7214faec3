-- What is first lost between two schemas that are built of texts answers whether the new one admits all.
use Rattle.std.proofs.Common.{◌≡◌, ℕ, List, Option, sym, ap, ◌∙◌, subst}
use Rattle.std.specs.Option.{option_map}
use Rattle.cedar_identifiers.specs.declared.name.Name.{Name}
use Rattle.cedar_names.specs.Meaning.{SchemaMeaning}
use Rattle.cedar_names.specs.declared.entity_uid.EntityUID.{EntityUID}
use Rattle.cedar_names.specs.declared.extension_table.ExtensionTable.{ExtensionTable}
use Rattle.schema_build_types.specs.Content.{content}
use Rattle.schema_build_types.specs.Standing.{schema_as_built}
use Rattle.schema_build_types.specs.declared.action.ValidatorActionId.{ValidatorActionId}
use Rattle.schema_build_types.specs.declared.entity_type.ValidatorEntityType.{ValidatorEntityType}
use Rattle.schema_build_text.specs.Readings.{schema_reading}
use Rattle.schema_build.specs.Schemas.{SchemaLists}
use Rattle.laws_inclusion.specs.TextMeans.{TextMeans}
use Rattle.schema_inclusion_values.specs.Admits.{SchemaValue, IsInclusion}
use Rattle.schema_inclusion_values.specs.Lost.{lost}
use Rattle.schema_inclusion_values.specs.Settled.{IsSettled}
use Rattle.schema_inclusion_check.specs.Raw.{raw_meaning}
use Rattle.schema_inclusion_check.specs.Subjects.{subject}
use Rattle.schema_inclusion_texts.specs.Builds.{BuildsText, lost_between}
use Rattle.schema_inclusion_texts.specs.Inclusions.{IsInclusionAnswer, HasMeaning}

-- what the text means, which the schema stands for
pub meant : (text : List ℕ) (table : ExtensionTable) (s : SchemaLists) → BuildsText text table s
    → HasMeaning text table
meant text table s (warnings, h) = (
  h.builds.0,
  record {
    fragment = h.fragment;
    translated = (warnings, h.translated);
    faultless = h.faultless;
    means = h.builds.1;
  },
)

module _
    (settled : (text : List ℕ) (table : ExtensionTable) (m : SchemaMeaning) → TextMeans text table m → IsSettled m)
    (read_back : (m : SchemaMeaning) → schema_reading (schema_as_built m) ≡ m)
    (first : (es fs : List (Name × ValidatorEntityType)) (xs ys : List (EntityUID × ValidatorActionId))
    (old new : SchemaMeaning) → schema_reading (content es xs) ≡ old → schema_reading (content fs ys) ≡ new
    → IsSettled old → IsSettled new → IsInclusion old new (lost (raw_meaning es xs) (raw_meaning fs ys)))
    (about : (es fs : List (Name × ValidatorEntityType)) (xs ys : List (EntityUID × ValidatorActionId))
    (old new : SchemaMeaning) → schema_reading (content es xs) ≡ old → schema_reading (content fs ys) ≡ new
    → IsSettled old → IsSettled new
    → option_map subject (lost (raw_meaning es xs) (raw_meaning fs ys)) ≡ option_map subject (lost old new)) where
  reads : (text : List ℕ) (table : ExtensionTable) (s : SchemaLists) (h : BuildsText text table s)
      → schema_reading (content s.entity_types s.actions) ≡ (meant text table s h).0
  unfolding meant
  reads text table s (warnings, h) = ap schema_reading h.builds.2 ∙ read_back h.builds.0

  pub answered : (old_text new_text : List ℕ) (table : ExtensionTable) (s t : SchemaLists)
      → BuildsText old_text table s → BuildsText new_text table t → (found : Option SchemaValue)
      → found ≡ lost_between s t → IsInclusionAnswer old_text new_text table found
  answered old_text new_text table s t h k found is =
      let old = meant old_text table s h in
      let new = meant new_text table t k in
      let so = settled old_text table old.0 old.1 in
      let sn = settled new_text table new.0 new.1 in
      record {
        old = old.0;
        new = new.0;
        old_means = old.1;
        new_means = new.1;
        inclusion = subst (IsInclusion old.0 new.0) (sym is) (first s.entity_types t.entity_types s.actions t.actions
            old.0 new.0 (reads old_text table s h) (reads new_text table t k) so sn);
        chosen = ap (option_map subject) is ∙ about s.entity_types t.entity_types s.actions t.actions old.0 new.0
            (reads old_text table s h) (reads new_text table t k) so sn;
      }
