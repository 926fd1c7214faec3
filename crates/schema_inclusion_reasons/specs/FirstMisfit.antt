-- For private clauses: the first misfit of a value.
use Rattle.std.specs.Prelude.{◌+◌, ℕ, Bool, true, false, cond, [], ◌∷◌, Option, Some, None, option_map}
use Rattle.std.specs.Ordering.{match_ordering}
use Rattle.std.specs.Str.{bytes_eq}
use Rattle.cedar_data.specs.Text.{text_cmp}
use Rattle.cedar_names.specs.Definitions.{same_name}
use Rattle.cedar_names.specs.Meaning.{PlainType, Attributes, no_more, attribute}
use Rattle.schema_inclusion_values.specs.Values.{Text, Name, Val, Vals, no_vals, val, Entries, no_entries, entry}
use Rattle.schema_inclusion_values.specs.Values as values
use Rattle.schema_inclusion_values.specs.Lost.{or_else}
use Rattle.schema_inclusion_reasons.specs.Places.{Step, attr, member, Path}
use Rattle.schema_inclusion_reasons.specs.Misfits.{Shape, a_bool, a_long, a_string, a_set, a_record, entity_of}
use Rattle.schema_inclusion_reasons.specs.Misfits.{extension_of, value_shape, Cause, is_required, is_unknown}
use Rattle.schema_inclusion_reasons.specs.Misfits.{is_reshaped, has_no_id, is_disordered}

-- a place with a cause
abbrev pub Found : Type 0
Found = Path × Cause

-- the place in what is behind the step
abbrev pub behind_step : Step → Found → Found
behind_step s f = (s ∷ f.0, f.1)

-- the value itself is of another shape
abbrev pub other_shape : Shape → Val → Option Found
other_shape s v = Some ([], is_reshaped (value_shape v) s)

abbrev pub bool_misfit : Val → Option Found
bool_misfit (values.Truth b) = None
bool_misfit v = other_shape a_bool v

abbrev pub long_misfit : Val → Option Found
long_misfit (values.Number n) = None
long_misfit v = other_shape a_long v

abbrev pub string_misfit : Val → Option Found
string_misfit (values.Str s) = None
string_misfit v = other_shape a_string v

abbrev pub extension_misfit : Text → Val → Option Found
extension_misfit n (values.Ext m) = cond (bytes_eq m n) None (other_shape (extension_of n) (values.Ext m))
extension_misfit n v = other_shape (extension_of n) v

abbrev pub id_misfit : Name → Text → Bool → Option Found
id_misfit n id fits = cond fits None (Some ([], has_no_id n id))

abbrev pub entity_misfit : (Name → Text → Bool) → Name → Val → Option Found
entity_misfit fits n (values.Ref m id) =
    cond (same_name m n) (id_misfit m id (fits n id)) (other_shape (entity_of n) (values.Ref m id))
entity_misfit fits n v = other_shape (entity_of n) v

-- of the members, the first of which is at the place k
abbrev pub members_misfit : (Val → Option Found) → ℕ → Vals → Option Found
members_misfit f k no_vals = None
members_misfit f k (val v vs) = or_else (option_map (λ g. behind_step (member k) g) (f v)) (members_misfit f (k + 1) vs)

abbrev pub set_misfit : (Val → Option Found) → Val → Option Found
set_misfit f (values.Set vs) = members_misfit f 0 vs
set_misfit f v = other_shape a_set v

-- whether the names rise behind this one
abbrev pub rises_behind : Text → Entries → Bool
rises_behind n no_entries = true
rises_behind n (entry m v es) = match_ordering (text_cmp n m) (rises_behind m es) false false

-- whether the names rise
abbrev pub rises : Entries → Bool
rises no_entries = true
rises (entry n v es) = rises_behind n es

-- an attribute, with the place in its value and the cause
abbrev pub Named : Type 0
Named = Text × Path × Cause

abbrev pub behind_name : Named → Found
behind_name f = (attr f.0 ∷ f.1, f.2)

abbrev pub with_name : Text → Found → Named
with_name n f = (n, f.0, f.1)

abbrev pub in_order_or : Bool → Option Found → Option Found
in_order_or true found = found
in_order_or false found = Some ([], is_disordered)

abbrev pub record_misfit : (Entries → Option Named) → Val → Option Found
record_misfit f (values.Rec es) = in_order_or (rises es) (option_map behind_name (f es))
record_misfit f v = other_shape a_record v

-- the first of the entries has no attribute
abbrev pub first_unknown : Entries → Option Named
first_unknown no_entries = None
first_unknown (entry n v es) = Some (n, [], is_unknown)

-- the attribute is required, or else
abbrev pub required_or : Bool → Text → Option Named → Option Named
required_or true n later = Some (n, [], is_required)
required_or false n later = later

-- of tags
abbrev pub each_misfit : (Val → Option Found) → Entries → Option Found
each_misfit f no_entries = None
each_misfit f (entry n v es) = or_else (option_map (λ g. behind_step (attr n) g) (f v)) (each_misfit f es)

-- whether an entity type has an id
module _ (fits : Name → Text → Bool) where
  abbrev mutual
    pub misfit : PlainType → Val → Option Found
    misfit PlainType.Bool = bool_misfit
    misfit PlainType.Long = long_misfit
    misfit PlainType.String = string_misfit
    misfit (PlainType.Ext n) = extension_misfit n
    misfit (PlainType.Entity n) = entity_misfit fits n
    misfit (PlainType.Set t) = set_misfit (misfit t)
    misfit (PlainType.Rec fs) = record_misfit (named_misfit fs)

    -- of attributes against entries, both of which rise
    pub named_misfit : Attributes → Entries → Option Named
    named_misfit no_more es = first_unknown es
    named_misfit (attribute m r t fs) no_entries = required_or r m (named_misfit fs no_entries)
    named_misfit (attribute m r t fs) (entry k v es) = match_ordering (text_cmp k m) (Some (k, [], is_unknown))
        (or_else (option_map (λ g. with_name m g) (misfit t v)) (named_misfit fs es))
        (required_or r m (named_misfit fs (entry k v es)))

  abbrev pub tags_misfit : PlainType → Entries → Option Found
  tags_misfit t tags = in_order_or (rises tags) (each_misfit (misfit t) tags)
