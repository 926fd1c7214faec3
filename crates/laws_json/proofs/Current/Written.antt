-- The compact text of the value of a fragment holds the value.
use Rattle.std.proofs.Common.{ℕ, ◌≤◌, List}
use Rattle.serde_json.specs.Data.{depth}
use Rattle.serde_json.specs.Read.{max_depth}
use Rattle.serde_json.specs.Written.{compact_text}
use Rattle.cedar_identifiers.specs.declared.name_text.NameText as named
use Rattle.schema_json.specs.declared.fragment.Fragment.{Fragment}
use Rattle.schema_json_io.specs.Texts.{Holds}
use Rattle.schema_json_values.specs.FragmentValues.{json_value}
use Rattle.laws_json.proofs.Current.Compact.{text_read, no_repeat}
use Rattle.laws_json.proofs.Current.NoFloats.{fragment_whole}
use Rattle.laws_json.proofs.Current.Tidy.{fragment_tidy}

module _ (N : Type 0) (names : N → List (List ℕ)) {G : named.Ghosts N} where
  pub text_holds : (f : Fragment N G) → depth (json_value names f) ≤ max_depth
      → Holds (compact_text (json_value names f)) (json_value names f)
  text_holds f shallow =
      let d = json_value names f in
      let tidy = fragment_tidy N names f in
      record { reads = text_read d tidy shallow; once = no_repeat d tidy shallow; whole = fragment_whole N names f }
