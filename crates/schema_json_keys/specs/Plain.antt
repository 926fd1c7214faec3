-- What stands at the tokens of a JSON text, where no object has a key twice and nothing is a number.
use Rattle.std.specs.Prelude.{◌≡◌, ℕ, List, Option, Some, None, false}
use Rattle.json.specs.Json as json
use Rattle.json.specs.Token.{Token}
use Rattle.serde_json.specs.Data.{Data, Items, Members}
use Rattle.serde_json.specs.Read.{of_json, of_items, of_members, read}
use Rattle.serde_json.specs.Written.{has_float}
use Rattle.schema_json_keys.specs.Keys.{keys_of, items_keys, members_keys, RepeatedKey}
use Rattle.schema_json_keys.specs.Computed.{first_again}
use Rattle.schema_json_keys.specs.Numbers.{has_number, items_have_number, members_have_number}

-- a value is what was read, this data, and these tokens follow
pub record IsPlainValue (found : Option (json.Json × List Token)) (d : Data) (rest : List Token) : Type 0 where
  pub value : json.Json
  pub stands : found ≡ Some (value, rest)
  pub reads : of_json value ≡ Some d
  pub once : first_again (keys_of value) ≡ None
  pub numberless : has_number value ≡ false

-- the items of an array are what was read, these data, and these tokens follow
pub record ArePlainItems (found : Option (json.Items × List Token)) (ds : Items) (rest : List Token) : Type 0 where
  pub items : json.Items
  pub stands : found ≡ Some (items, rest)
  pub reads : of_items items ≡ Some ds
  pub once : first_again (items_keys items) ≡ None
  pub numberless : items_have_number items ≡ false

-- the members of an object, behind earlier ones with these keys, are what was read; put among the old members they make
-- all of these, and these tokens follow
pub record ArePlainMembers (earlier : List (List ℕ)) (old : Members) (found : Option (json.Members × List Token))
    (all : Members) (rest : List Token) : Type 0 where
  pub members : json.Members
  pub stands : found ≡ Some (members, rest)
  pub reads : of_members members old ≡ Some all
  pub once : first_again (members_keys earlier members) ≡ None
  pub numberless : members_have_number members ≡ false

-- the text is this data, no object in it has a key twice, and none of its numbers is a float
pub record IsPlainText (text : List ℕ) (d : Data) : Type 0 where
  pub reads : read text ≡ Some d
  pub once : (name : List ℕ) → ¬ RepeatedKey text name
  pub whole : has_float d ≡ false
