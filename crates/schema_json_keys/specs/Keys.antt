-- The keys of a JSON text in their order, and the first of them that its object has had before.
use Rattle.std.specs.Prelude.{◌≡◌, ℕ, List, [], ◌∷◌, ◌++◌, Some, All, Contains}
use Rattle.json.specs.Json.{Json, null, boolean, number, string, array, object, Items, no_items, item, Members}
use Rattle.json.specs.Json.{no_members, member, document}

-- a key, with its escapes read, and the keys that stand before it in the same object
pub record Key : Type 0 where
  pub name : List ℕ
  pub earlier : List (List ℕ)

-- all keys, in the order of the text
abbrev mutual
  pub keys_of : Json → List Key
  keys_of null = []
  keys_of (boolean b) = []
  keys_of (number s) = []
  keys_of (string s) = []
  keys_of (array js) = items_keys js
  keys_of (object ms) = members_keys [] ms

  pub items_keys : Items → List Key
  items_keys no_items = []
  items_keys (item j js) = keys_of j ++ items_keys js

  pub members_keys : List (List ℕ) → Members → List Key
  members_keys earlier no_members = []
  members_keys earlier (member k j ms) =
      record { name = k; earlier = earlier } ∷ (keys_of j ++ members_keys (earlier ++ k ∷ []) ms)

-- its object has had it before
abbrev pub ComesAgain : Key → Type 0
ComesAgain k = Contains k.earlier k.name

-- the first of the keys that comes again is this name
pub record FirstAgain (keys : List Key) (name : List ℕ) : Type 0 where
  pub before : List Key
  pub again : Key
  pub after : List Key
  pub stands : keys ≡ before ++ again ∷ after
  pub first : All (λ k. ¬ ComesAgain k) before
  pub comes_again : ComesAgain again
  pub named : again.name ≡ name

-- the text is JSON, and the first of its keys that comes again is this one
abbrev pub RepeatedKey : List ℕ → List ℕ → Type 0
RepeatedKey text name = (j : Json) × (document text ≡ Some j) × FirstAgain (keys_of j) name
