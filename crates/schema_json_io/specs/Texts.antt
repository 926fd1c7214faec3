-- The fragment that a JSON text or value says. A text is its list of bytes.
use Rattle.std.specs.Prelude.{◌≡◌, ℕ, List, false, Some}
use Rattle.serde_json.specs.Data.{Data}
use Rattle.serde_json.specs.Read.{read}
use Rattle.serde_json.specs.Written.{has_float}
use Rattle.cedar_identifiers.specs.declared.name_text.NameText as ghosts
use Rattle.cedar_identifiers.specs.declared.raw_name.RawName.{RawName}
use Rattle.schema_json.specs.declared.fragment.Fragment.{Fragment}
use Rattle.schema_json_keys.specs.Keys.{RepeatedKey}
use Rattle.schema_json_shapes.specs.Shapes.{JsonShape}

-- no key comes again in its object
abbrev pub HasNoRepeat : List ℕ → Type 0
HasNoRepeat text = (name : List ℕ) → ¬ RepeatedKey text name

-- the text is this JSON value, without a repeated key and without a float
pub record Holds (text : List ℕ) (d : Data) : Type 0 where
  pub reads : read text ≡ Some d
  pub once : HasNoRepeat text
  pub whole : has_float d ≡ false

module _ {G : ghosts.Ghosts RawName} where
  -- the value has no float, is lawful, and says the fragment
  abbrev pub ValueShape : Data → Fragment RawName G → Type 0
  ValueShape d f = (has_float d ≡ false) × JsonShape d f

  -- the text is JSON without a repeated key and without a float, and its value is lawful and says the fragment
  abbrev pub TextShape : List ℕ → Fragment RawName G → Type 0
  TextShape text f = (d : Data) × Holds text d × JsonShape d f
