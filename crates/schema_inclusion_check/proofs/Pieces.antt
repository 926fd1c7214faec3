-- What is lost of an entity, piece by piece.
use Rattle.std.proofs.Common.{◌≡◌, ℕ, ◌+◌, ◌<◌, Bool, true, false, cond, List, [], ◌∷◌, map, length, drop, get_or}
use Rattle.std.proofs.Common.{Option}
use Rattle.std.proofs.Common.{Some, None, refl, sym, ap, ◌∙◌}
use Rattle.std.specs.List.{list_any}
use Rattle.std.specs.Option.{option_map}
use Rattle.cedar_names.specs.Definitions.{same_name}
use Rattle.cedar_names.specs.Meaning.{PlainType, Attributes, EntityMeaning, ActionMeaning, SchemaMeaning}
use Rattle.schema_inclusion_values.specs.Admits.{EntityValue, SchemaValue, an_entity}
use Rattle.schema_inclusion_values.specs.Checks.{some_value, some_entries, lost_value}
use Rattle.schema_inclusion_values.specs.Ids.{some_id, lost_of, first_id, lost_id}
use Rattle.schema_inclusion_values.specs.Lost.{or_else, entries_of, one_tag, first_refused, lost_type, lost_entries}
use Rattle.schema_inclusion_values.specs.Lost.{lost_tags, lost_parent, with_id, lost_entity_between, lost_member}
use Rattle.schema_inclusion_values.specs.Lost.{request_with, some_context, lost_request_between}
use Rattle.schema_inclusion_values.specs.Seen.{value_of, entries_value}
use Rattle.schema_inclusion_values.specs.Values.{Text, Name, Val, Rec, Entries}
use Rattle.schema_inclusion_values.specs.declared.val.Val as held
use Rattle.schema_inclusion_types.specs.Ids.{id_in, lost_in}
use Rattle.schema_inclusion_types.specs.declared.ids.TypeIds.{TypeIds}
use Rattle.cedar_identifiers.specs.Names.{components_of}
use Rattle.cedar_identifiers.specs.declared.name.Name as named
use Rattle.schema_build_text.proofs.Rowed.{dropped}
use Rattle.schema_inclusion_check.specs.Raw.{raw_names}
use Rattle.schema_inclusion_check.specs.Told.{IsTold}

back_from : (o : Option (List (Text × held.Val)))
    → option_map entries_of (option_map (λ es. Rec (entries_value es)) o) ≡ option_map entries_value o
back_from None = refl
back_from (Some es) = refl

module _ (rows : List (named.Name × TypeIds)) (m n : SchemaMeaning) (told : IsTold rows m n) where
  pub type_told : (t u : PlainType) → lost_value (id_in rows) (lost_in rows) t u ≡ lost_type m n t u
  type_told t u = λ i. lost_value (told.0 i) (told.1 i) t u

  pub some_told : (t : PlainType) → some_value (id_in rows) t ≡ some_value (some_id m) t
  some_told t = λ i. some_value (told.0 i) t

  pub some_entries_told : (fs : Attributes) → some_entries (id_in rows) fs ≡ some_entries (some_id m) fs
  some_entries_told fs = λ i. some_entries (told.0 i) fs

  pub entries_told : (os ns : Attributes) (o : Option (List (Text × held.Val)))
      → option_map (λ es. Rec (entries_value es)) o
      ≡ lost_value (id_in rows) (lost_in rows) (PlainType.Rec os) (PlainType.Rec ns)
      → option_map entries_value o ≡ lost_entries m n os ns
  entries_told os ns o e = sym (back_from o)
      ∙ ap (option_map entries_of) (e ∙ type_told (PlainType.Rec os) (PlainType.Rec ns))

  pub tags_told : (t u : PlainType) (o : Option held.Val)
      → option_map value_of o ≡ lost_value (id_in rows) (lost_in rows) t u
      → option_map one_tag (option_map value_of o) ≡ lost_tags m n (Some t) (Some u)
  tags_told t u o e = ap (option_map one_tag) (e ∙ type_told t u)

  -- one ancestor, and those behind it
  pub parent_step : (old : List named.Name) (ns : List (List (List ℕ))) (i : ℕ) (d : named.Name) → i < length old
      → d ≡ get_or old i d → (b : Bool) → list_any (same_name (components_of d.name)) ns ≡ b → (l : Option (List ℕ))
      → lost_in rows (components_of d.name) ≡ l → lost_parent m n (raw_names (drop i old)) ns
      ≡ cond b (or_else (option_map (λ id. (components_of d.name, id)) l)
      (lost_parent m n (raw_names (drop (i + 1) old)) ns))
      (Some (components_of d.name, id_in rows (components_of d.name)))
  parent_step old ns i d h e b is l found =
      let a = components_of d.name in
      let behind = lost_parent m n (raw_names (drop (i + 1) old)) ns in
      ap (λ xs. lost_parent m n (raw_names xs) ns) (dropped old i d h e)
      ∙ (λ j. cond (is j) (or_else (option_map (λ id. (a, id)) ((sym (ap (λ f. f a) told.1) ∙ found) j)) behind)
      (Some (a, ap (λ f. f a) (sym told.0) j)))

module _ (m n : SchemaMeaning) (o k : EntityMeaning) where
  abbrev some : EntityValue
  some = with_id m n o (first_id o.choices)

  -- which of them is found first
  pub chain : (a : Option Text) (b c : Option Entries) (d : Option (Name × Text)) (e : Option Text)
      → first_refused (first_id o.choices) k.choices ≡ a → lost_entries m n o.attributes k.attributes ≡ b
      → lost_tags m n o.tags k.tags ≡ c → lost_parent m n o.ancestors k.ancestors ≡ d → lost_id o.choices k.choices ≡ e
      → lost_entity_between m n o k
      ≡ or_else (option_map (λ id. with_id m n o id) a) (or_else (option_map (λ es. record some { attributes = es }) b)
      (or_else (option_map (λ es. record some { tags = es }) c)
      (or_else (option_map (λ p. record some { parents = p ∷ [] }) d) (option_map (λ id. with_id m n o id) e))))
  chain a b c d e p q r s t = λ i. or_else (option_map (λ id. with_id m n o id) (p i))
      (or_else (option_map (λ es. record some { attributes = es }) (q i))
      (or_else (option_map (λ es. record some { tags = es }) (r i))
      (or_else (option_map (λ p. record some { parents = p ∷ [] }) (s i)) (option_map (λ id. with_id m n o id) (t i)))))

module _ (m n : SchemaMeaning) (o k : ActionMeaning) (p r : Name) where
  -- which of them is found first
  pub request_chain : (a b : Option Name) (c : Option Entries) → lost_member same_name o.principals k.principals ≡ a
      → lost_member same_name o.resources k.resources ≡ b → lost_entries m n o.context k.context ≡ c
      → lost_request_between m n o k p r
      ≡ or_else (option_map (λ q. request_with m n o q r (some_context m n o)) a)
      (or_else (option_map (λ q. request_with m n o p q (some_context m n o)) b)
      (option_map (λ es. request_with m n o p r es) c))
  request_chain a b c f g h = λ i. or_else (option_map (λ q. request_with m n o q r (some_context m n o)) (f i))
      (or_else (option_map (λ q. request_with m n o p q (some_context m n o)) (g i))
      (option_map (λ es. request_with m n o p r es) (h i)))
