use Rattle.std.proofs.Common.{◌≡◌, ◌+◌, ◌<◌, ℕ, List, Bor, get_or}
use Rattle.std.specs.declared.cmp.Ordering.TheVariants.{Less}
use Rattle.json.specs.declared.value.Value.{Value}
use Rattle.schema_json_keys.proofs.Firsts.{order}
use Rattle.schema_json_keys.proofs.repeated_keys.keys_rise.Given as goal

abbrev pub invariant-loop-next : goal.invariant-loop-next
invariant-loop-next l = (k : ℕ) (d : Bor (List ℕ) × Value _) → k + 1 < l.next
    → order (get_or l.members.items k d).0.now (get_or l.members.items (k + 1) d).0.now ≡ Less
