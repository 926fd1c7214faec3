use Rattle.std.proofs.Common.{◌≡◌, ◌+◌, ◌*◌, drop}
use Rattle.std.specs.Map.{values_of}
use denote.Param.Weighed.{most}
use Rattle.schema_build_types.specs.declared.types.Type.{size-Type}
use Rattle.schema_inclusion_values.specs.Values.{Entries}
use Rattle.schema_inclusion_types.specs.Entries.{entries_onto, some_onto}
use Rattle.schema_inclusion_types.specs.Ids.{id_in}
use Rattle.schema_inclusion_types.specs.Kinds.{plain_attrs}
use Rattle.schema_inclusion_types.proofs.some.+some.Given as goal

abbrev pub decreases-some_value : goal.decreases-some_value
decreases-some_value l = 3 * goal.size-some_value l

abbrev pub decreases-some_entries : goal.decreases-some_entries
decreases-some_entries l = 3 * most (λ p. size-Type p.0) (values_of l.attrs.now) + 2

abbrev pub decreases-push_some : goal.decreases-push_some
decreases-push_some l = 3 * most (λ p. size-Type p.0) (values_of l.attrs.now) + 1

abbrev pub invariant-push_some-loop-name : goal.invariant-push_some-loop-name
invariant-push_some-loop-name l = (rest : Entries)
    → entries_onto l.entries (some_onto (id_in l.ids.rows) (plain_attrs (drop l.name-index l.attrs)) rest)
    ≡ entries_onto l.initial.entries (some_onto (id_in l.ids.rows) (plain_attrs l.attrs) rest)
