-- Whether a JSON text has a number in it.
use Rattle.std.specs.Prelude.{◌≡◌, ℕ, List, Bool, true, false, Some, ◌||◌}
use Rattle.json.specs.Json.{Json, null, boolean, number, string, array, object, Items, no_items, item, Members}
use Rattle.json.specs.Json.{no_members, member, document}

-- some value in it is a number
abbrev mutual
  pub has_number : Json → Bool
  has_number null = false
  has_number (boolean b) = false
  has_number (number s) = true
  has_number (string s) = false
  has_number (array js) = items_have_number js
  has_number (object ms) = members_have_number ms

  pub items_have_number : Items → Bool
  items_have_number no_items = false
  items_have_number (item j js) = has_number j || items_have_number js

  pub members_have_number : Members → Bool
  members_have_number no_members = false
  members_have_number (member k j ms) = has_number j || members_have_number ms

-- the text is JSON, and no value in it is a number
abbrev pub HasNoNumber : List ℕ → Type 0
HasNoNumber text = (j : Json) × (document text ≡ Some j) × (has_number j ≡ false)
