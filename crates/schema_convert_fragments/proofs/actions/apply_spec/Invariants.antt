use Rattle.std.proofs.Common.{◌≡◌}
use Rattle.cedar_data.specs.NonEmpty.{items_left}
use Rattle.schema_convert_fragments.specs.Declarations.{with_members, apply_spec_of}
use Rattle.schema_convert_fragments.proofs.actions.apply_spec.Given as goal

abbrev pub invariant-loop-member : goal.invariant-loop-member
invariant-loop-member l = with_members (items_left l.member-iterator) l.spec ≡ apply_spec_of l.fn.block
