-- The orders of words, names and actions, and what they keep.
use Rattle.std.specs.Prelude.{◌≡◌, ℕ, List, ◌∷◌, [], ◌++◌}
use Rattle.std.proofs.Common.{ap, ◌∙◌}
use Rattle.std.specs.declared.cmp.Ordering.{Ordering}
use Rattle.std.specs.declared.cmp.Ordering.TheVariants.{Less, Greater}
use Rattle.std.specs.Ordering.{ordering_then, ordering_reverse}
use Rattle.std.specs.Cmp.{IsTotalOrder, on_total, then_total}
use Rattle.std.specs.Cmp.Lexicographic.{slice_cmp, lists_total, options_total}
use Rattle.std.specs.Option.{option_cmp}
use Rattle.std.specs.Str.{encode_utf8_all}
use Rattle.std.proofs.lemmas.Cmp.{nat_list_cmp_total}
use Rattle.cedar_data.specs.Text.{text_cmp}
use Rattle.cedar_identifiers.specs.declared.id.Id.{Id}
use Rattle.cedar_identifiers.specs.declared.internal_name.InternalName.{InternalName}
use Rattle.cedar_identifiers.specs.declared.name.Name.{Name}
use Rattle.cedar_names.specs.declared.entity_uid.EntityUID.{EntityUID}

-- the order of words: by the bytes of their texts
abbrev pub id_text_order : Id → Id → Ordering
id_text_order i j = text_cmp i.text j.text

-- the words of a name, the outermost first
abbrev pub ids_of : InternalName → List Id
ids_of name = name.first ∷ name.others

-- the order of names: by their words in turn
abbrev pub names_in_order : InternalName → InternalName → Ordering
names_in_order x y = slice_cmp id_text_order (ids_of x) (ids_of y)

-- the words of the name with this last word behind a namespace
abbrev pub ids_behind : InternalName → Id → List Id
ids_behind namespace last = namespace.first ∷ (namespace.others ++ last ∷ [])

-- what actions are ordered by: the words of the type, and the id
abbrev pub ActionKey : Type 0
ActionKey = List Id × List ℕ

-- the order of the keys of actions: by the words of the types in turn, then by the bytes of the ids
abbrev pub keys_in_order : ActionKey → ActionKey → Ordering
keys_in_order a b = ordering_then (slice_cmp id_text_order a.0 b.0) (text_cmp a.1 b.1)

-- the key of an action: the words of its type, and its id
abbrev pub action_key : EntityUID → ActionKey
action_key uid = (ids_of uid.ty.name, uid.eid.0)

-- the order of actions: by their types, then by the bytes of their ids
abbrev pub uids_in_order : EntityUID → EntityUID → Ordering
uids_in_order x y = keys_in_order (action_key x) (action_key y)

-- the order of words is total
pub id_text_total : IsTotalOrder id_text_order
id_text_total = on_total (λ (i : Id). encode_utf8_all i.text) nat_list_cmp_total

-- the order of lists of words, by their words in turn, is total
pub ids_total : IsTotalOrder (slice_cmp id_text_order)
ids_total = lists_total id_text_total

-- the order of the keys of actions is total
pub keys_total : IsTotalOrder keys_in_order
keys_total = then_total (on_total (λ (a : ActionKey). a.0) ids_total)
    (on_total (λ (a : ActionKey). encode_utf8_all a.1) nat_list_cmp_total)

-- the order of names is total
pub names_total : IsTotalOrder names_in_order
names_total = on_total ids_of ids_total

-- the order of names that may be absent, an absent one first, is total
pub places_total : IsTotalOrder (option_cmp (λ (x y : Name). names_in_order x.name y.name))
places_total = options_total (on_total (λ (n : Name). n.name) names_total)

-- the order of actions is total
pub uids_total : IsTotalOrder uids_in_order
uids_total = on_total action_key keys_total

-- items are in the order of their keys, and something is sought by a key
module _ {T K : Type 0} {R : K → K → Ordering} (o : IsTotalOrder R) (key : T → K) (sought : K) where
  -- an item below one that is below what is sought is below it
  pub is_below : (x y : T) → R (key x) (key y) ≡ Less → R (key y) sought ≡ Less → R (key x) sought ≡ Less
  is_below x y first second = o.trans (key x) (key y) sought first second

  -- an item above one that is above what is sought is above it
  pub is_above : (x y : T) → R (key x) (key y) ≡ Less → R (key x) sought ≡ Greater → R (key y) sought ≡ Greater
  is_above x y first second =
      o.antisymm (key y) sought ∙ ap ordering_reverse
      (o.trans sought (key x) (key y) (o.antisymm sought (key x) ∙ ap ordering_reverse second) first)
