use Rattle.std.proofs.Common.{◌≡◌, drop, map}
use Rattle.std.specs.List.{list_any}
use Rattle.std.specs.Str.{bytes_eq}
use Rattle.schema_json_keys.proofs.repeated_keys.is_among.Given as goal

abbrev pub invariant-loop-member : goal.invariant-loop-member
invariant-loop-member l =
    list_any (bytes_eq l.key) (map (λ m. m.0.now) (drop l.member-index l.members))
    ≡ list_any (bytes_eq l.key) (map (λ m. m.0.now) l.members)
