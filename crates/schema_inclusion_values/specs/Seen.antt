-- What values in memory stand for.
use Rattle.std.specs.Prelude.{ℕ, List, [], ◌∷◌, map}
use Rattle.cedar_identifiers.specs.Names.{components_of}
use Rattle.cedar_identifiers.specs.declared.name.Name as named
use Rattle.cedar_names.specs.Definitions.{action_of}
use Rattle.schema_inclusion_values.specs.declared.val.Val as held
use Rattle.schema_inclusion_values.specs.declared.schema_value.SchemaValue as held_schema
use Rattle.schema_inclusion_values.specs.declared.schema_value.SchemaValue.TheVariants as kind
use Rattle.schema_inclusion_values.specs.Values.{Text, Name, Val, Vals, no_vals, val, Entries, no_entries, entry}
use Rattle.schema_inclusion_values.specs.Values as values
use Rattle.schema_inclusion_values.specs.Admits.{SchemaValue, an_entity, a_request, an_action}

-- the members of a set
abbrev pub vals_of : List Val → Vals
vals_of [] = no_vals
vals_of (v ∷ vs) = val v (vals_of vs)

-- the attributes of a record
abbrev pub entries_of : List (Text × Val) → Entries
entries_of [] = no_entries
entries_of (e ∷ es) = entry e.0 e.1 (entries_of es)

-- the outermost layer of a value, over what the values in it stand for
abbrev pub layer_value : held.Val-F Val → Val
layer_value (held.Val-F.Bool b) = values.Truth b
layer_value (held.Val-F.Long n) = values.Number n
layer_value (held.Val-F.Str s) = values.Str s
layer_value (held.Val-F.Ref ty id) = values.Ref (components_of ty.name) id
layer_value (held.Val-F.Set members) = values.Set (vals_of members)
layer_value (held.Val-F.Rec attributes) = values.Rec (entries_of attributes)
layer_value (held.Val-F.Ext name) = values.Ext name.id.text

-- what a value stands for
abbrev pub value_of : held.Val → Val
value_of = held.fold-Val Val layer_value

-- what the attributes of a record stand for
abbrev pub entries_value : List (Text × held.Val) → Entries
entries_value es = entries_of (map (λ e. (e.0, value_of e.1)) es)

-- the types of parents, with their ids
abbrev pub parents_value : List (named.Name × Text) → List (Name × Text)
parents_value ps = map (λ p. (components_of p.0.name, p.1)) ps

-- what a value of a schema stands for
abbrev pub schema_value : held_schema.SchemaValue → SchemaValue
schema_value (kind.Entity ty id attrs tags parents) = an_entity (record {
  ty = components_of ty.name;
  id = id;
  attributes = entries_value attrs;
  tags = entries_value tags;
  parents = parents_value parents;
})
schema_value (kind.Request action principal resource context) = a_request (record {
  action = action_of action;
  principal = components_of principal.name;
  resource = components_of resource.name;
  context = entries_value context;
})
schema_value (kind.ActionIn action ancestor) = an_action (record {
  action = action_of action;
  ancestor = action_of ancestor;
})
