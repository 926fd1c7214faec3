use Rattle.std.proofs.Common.{◌≤◌}
use Rattle.serde_json.specs.Data.{depth}
use Rattle.serde_json.specs.Read.{max_depth}
use Rattle.serde_json.specs.Written.{compact_text}
use Rattle.cedar_identifiers.specs.declared.raw_name.RawName.{RawName}
use Rattle.schema_json.specs.declared.fragment.Fragment.{Fragment}
use Rattle.schema_json.specs.AsWritten.{as_written}
use Rattle.schema_json_values.specs.FragmentValues.{json_value}
use Rattle.schema_json_io.specs.Texts.{Holds}
use Rattle.laws_json.proofs.Current.OneReading.{said_or_refused}
use Rattle.laws_json.proofs.Current.Written.{text_holds}
use Rattle.laws_translate.specs.BareFragments.{bare_fragment}
use Rattle.laws_json.proofs.Back.Reading.{text_said, text_alone}
use Rattle.laws_json.proofs.Back.Types.{components}
use Rattle.laws_json.proofs.written_values.written_texts_are_read.Goals as goal

held : (f : Fragment RawName as_written) → depth (json_value components f) ≤ max_depth
    → Holds (compact_text (json_value components f)) (json_value components f)
held f shallow = text_holds RawName components f shallow

pub returns : goal.returns
returns c = record {
  said = λ f p shallow. text_said (compact_text (json_value components f)) f p (held f shallow);
  alone = λ f g p shallow k. text_alone (compact_text (json_value components f)) f g p (held f shallow) k;
  refused = λ f e p shallow n k.
      said_or_refused (compact_text (json_value components f)) (bare_fragment f)
      e (text_said (compact_text (json_value components f)) f p (held f shallow)) n k;
}
