-- Objects whose members are read alike, one by one.
use Rattle.std.specs.Prelude.{ℕ, List, [], ◌++◌}
use Rattle.serde_json.specs.Data.{Data, object, Members, no_members, member}
use Rattle.schema_json_shapes.specs.Walk.{Role, Demand, demands, key_demands, member_role, wrong_type}

-- what a value must keep: it is an object, and its members keep this
abbrev pub of_object : (Members → List Demand) → List ℕ → Data → List Demand
of_object own n (object ms) = own ms
of_object own n _ = wrong_type n

-- what the entries of an object must keep, one by one
abbrev pub each_entry : (List ℕ → Data → List Demand) → Members → List Demand
each_entry part no_members = []
each_entry part (member k d ms) = part k d ++ each_entry part ms

-- an entry of an object in this role, all of whose members have one role: its key, and its value
abbrev pub entry_demands : Role → List ℕ → Data → List Demand
entry_demands r k d = key_demands r k ++ demands (member_role r no_members k) k d
