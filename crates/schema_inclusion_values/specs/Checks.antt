-- For private clauses: what the check finds.
use Rattle.std.specs.Prelude.{pos, ◌&&◌, ◌||◌, Bool, true, false, cond, [], Option, Some, None, option_map}
use Rattle.std.specs.Str.{bytes_eq}
use Rattle.cedar_names.specs.Definitions.{same_name}
use Rattle.cedar_names.specs.Meaning.{PlainType, Attributes, no_more, attribute}
use Rattle.schema_inclusion_values.specs.Values.{Text, Name, Val, Vals, no_vals, val, Entries, no_entries, entry}
use Rattle.schema_inclusion_values.specs.Values as values

abbrev pub is_required : Text → Attributes → Bool
is_required n no_more = false
is_required n (attribute m r t fs) = (bytes_eq m n && r) || is_required n fs

-- whether each attribute that ns requires is one that os requires
abbrev pub all_required : Attributes → Attributes → Bool
all_required os no_more = true
all_required os (attribute n r t ns) = cond r (cond (is_required n os) (all_required os ns) false) (all_required os ns)

-- an id of each entity type
module _ (id_of : Name → Text) where
  -- a value of each type, with the required fields alone
  abbrev mutual
    pub some_value : PlainType → Val
    some_value PlainType.Bool = values.Truth false
    some_value PlainType.Long = values.Number (pos 0)
    some_value PlainType.String = values.Str []
    some_value (PlainType.Ext n) = values.Ext n
    some_value (PlainType.Entity n) = values.Ref n (id_of n)
    some_value (PlainType.Set t) = values.Set no_vals
    some_value (PlainType.Rec fs) = values.Rec (some_entries fs)

    pub some_entries : Attributes → Entries
    some_entries no_more = no_entries
    some_entries (attribute n r t fs) = cond r (entry n (some_value t) (some_entries fs)) (some_entries fs)

  -- the required fields, and v at n
  abbrev pub entries_with : Text → Val → Attributes → Entries
  entries_with n v no_more = no_entries
  entries_with n v (attribute m r t fs) = cond (bytes_eq m n) (entry m v (entries_with n v fs))
      (cond r (entry m (some_value t) (entries_with n v fs)) (entries_with n v fs))

  abbrev pub unless_same : Text → Text → Val → Option Val
  unless_same m n v = cond (bytes_eq m n) None (Some v)

  -- an id of the type that the new schema has no more
  module _ (lost : Name → Option Text) where
    abbrev pub lost_entity : Name → Name → Option Val
    lost_entity m n = cond (same_name m n) (option_map (λ id. values.Ref m id) (lost m)) (Some (values.Ref m (id_of m)))

    abbrev pub lost_record : Attributes → Bool → Option Val → Option Val
    lost_record os true found = found
    lost_record os false found = Some (values.Rec (some_entries os))

    abbrev pub or_more : Option Val → Option Val → Option Val
    or_more None more = more
    or_more (Some v) more = Some v

    -- a value of the old type of an attribute that the new type under that name has not
    abbrev pub lost_at : (PlainType → Option Val) → Val → Text → Attributes → Option Val
    lost_at lost_to some m no_more = Some some
    lost_at lost_to some m (attribute n r u ns) = cond (bytes_eq m n) (lost_to u) (lost_at lost_to some m ns)

    -- a value of the first type that the second has not
    abbrev mutual
      pub lost_value : PlainType → PlainType → Option Val
      lost_value PlainType.Bool PlainType.Bool = None
      lost_value PlainType.Long PlainType.Long = None
      lost_value PlainType.String PlainType.String = None
      lost_value (PlainType.Ext m) (PlainType.Ext n) = unless_same m n (values.Ext m)
      lost_value (PlainType.Entity m) (PlainType.Entity n) = lost_entity m n
      lost_value (PlainType.Set t) (PlainType.Set u) = option_map (λ v. values.Set (val v no_vals)) (lost_value t u)
      lost_value (PlainType.Rec os) (PlainType.Rec ns) = lost_record os (all_required os ns) (lost_fields os os ns)
      lost_value t u = Some (some_value t)

      -- of the fields os of the record with all fields
      pub lost_fields : Attributes → Attributes → Attributes → Option Val
      lost_fields all no_more ns = None
      lost_fields all (attribute m r t os) ns = or_more (option_map (λ v. values.Rec (entries_with m v all))
          (lost_at (lost_value t) (some_value t) m ns)) (lost_fields all os ns)
