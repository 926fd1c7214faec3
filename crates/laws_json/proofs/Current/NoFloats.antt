-- No value that is written has a float.
use Rattle.std.proofs.Common.{◌≡◌, ℕ, List, false}
use Rattle.serde_json.specs.Written.{has_float}
use Rattle.cedar_identifiers.specs.declared.name_text.NameText as named
use Rattle.schema_json.specs.declared.fragment.Fragment.{Fragment}
use Rattle.schema_json_values.specs.FragmentValues.{json_value}
use Rattle.laws_json.proofs.Current.Tidied.{whole}
use Rattle.laws_json.proofs.Current.Tidy.{fragment_tidy}

module _ (N : Type 0) (names : N → List (List ℕ)) {G : named.Ghosts N} where
  pub fragment_whole : (f : Fragment N G) → has_float (json_value names f) ≡ false
  fragment_whole f = whole (json_value names f) (fragment_tidy N names f)
