-- A run that is done keeps the meaning of its input.
use Rattle.std.proofs.Common.{◌↔◌, ℕ, List, Bool, true, sym, subst}
use Rattle.cedar_names.specs.CanonicalText.{schema_text}
use Rattle.cedar_names.specs.Meaning.{SchemaMeaning}
use Rattle.cedar_names.specs.declared.extension_table.ExtensionTable.{ExtensionTable}
use Rattle.laws_build.specs.Closure.HalfFilled.{IsHalfFilled}
use Rattle.cedar_schema_core.specs.declared.command.Command.{Command}
use Rattle.cedar_schema_core.specs.declared.command.Command.TheVariants.{Recover, Check, ToJson, FromJson, Generate}
use Rattle.cedar_schema_core.specs.declared.json_texts.JsonForm.{JsonForm}
use Rattle.cedar_schema_core.specs.Commands.{Asks}
use Rattle.cedar_schema_core.specs.Json.{JsonMeaning}
use Rattle.cedar_schema_core.specs.Meanings.{TextMeaning}
use Rattle.cedar_runs.specs.Runs.{Device}
use Rattle.cedar_schema_core.specs.Run.{Completed, KeepsMeaning}

module _ (same : (closing : Bool) (text : List ℕ) (table : ExtensionTable) (m : SchemaMeaning)
    → TextMeaning text table m → TextMeaning (schema_text closing m) table m)
    (json : (closing : Bool) (form : JsonForm) (text : List ℕ) (table : ExtensionTable) (m : SchemaMeaning)
    → JsonMeaning form text table m → TextMeaning (schema_text closing m) table m ↔ (¬ IsHalfFilled m))
    (source out err : Device) where
  keeps : (c : Command) → Completed c source out err → KeepsMeaning c source out
  keeps (Recover table) done =
      let m = done.writes.writes.0 in
      let means = done.writes.writes.1 in
      let written = done.writes.writes.3 in
      record {
        bytes = done.bytes;
        meaning = m;
        text = done.text;
        read = done.works.read;
        means = means;
        written = done.written;
        keeps = subst (λ t. TextMeaning t table m) (sym written) (same true done.bytes table m means);
      }
  keeps (Check table) done = tt
  keeps (ToJson table) done = tt
  keeps (Generate size table) done = tt
  keeps (FromJson form table) done =
      let m = done.writes.writes.0 in
      let means = done.writes.writes.1 in
      let written = done.writes.writes.3 in
      record {
        bytes = done.bytes;
        meaning = m;
        text = done.text;
        read = done.works.read;
        means = means;
        written = done.written;
        keeps = subst (λ t. TextMeaning t table m ↔ (¬ IsHalfFilled m)) (sym written)
            (json true form done.bytes table m means);
      }

  pub kept : (words : List (List ℕ)) → (c : Command) × Asks words c × Completed c source out err
      → (c : Command) × Asks words c × KeepsMeaning c source out
  kept words (c, asked, done) = (c, asked, keeps c done)
