use Rattle.std.proofs.lemmas.Grind.{common_steps}
use Rattle.std.proofs.Common.{arith, subst, sym}
use Rattle.std.specs.List.{AllPass}
use Rattle.std.proofs.lemmas.List.Sums.{prefix_len-le-length}
use Rattle.schema_syntax_tokens.specs.Escapes.{is_place}
use Rattle.schema_syntax_tokens.proofs.Longest.{AllPass-prefix}
use Rattle.std.proofs.Common.{take}
use Rattle.schema_syntax_tokens.proofs.Digits.{no_braced_end, no_braced_byte, no_braced_places, no_braced_scalar}
use Rattle.schema_syntax_tokens.proofs.places.braced.Goals as goal

pub returns-then-len-rest : goal.returns-then-len-rest
returns-then-len-rest c = no_braced_end c.args.rest.now c.place_len-len.result c.place_len-len.ensures
    c.if-len-rest.true

pub bounds-rest-len : goal.bounds-rest-len
bounds-rest-len c = omega (arith, c.place_len-len.ensures, prefix_len-le-length is_place c.args.rest.now)

pub returns-then-rest-len-ne125 : goal.returns-then-rest-len-ne125
returns-then-rest-len-ne125 c =
    no_braced_byte c.args.rest.now c.place_len-len.result c.place_len-len.ensures c.if-rest-len-ne125.true

pub places_value-requires : goal.places_value-requires
places_value-requires c = subst (λ n. AllPass is_place (take n c.args.rest.now)) (sym c.place_len-len.ensures)
    (AllPass-prefix is_place c.args.rest.now)

pub returns-in-None : goal.returns-in-None
returns-in-None c = no_braced_places c.args.rest.now c.place_len-len.result c.place_len-len.ensures c.in-None.ensures

pub returns-in-None-from_u32 : goal.returns-in-None-from_u32
returns-in-None-from_u32 c = no_braced_scalar c.args.rest.now c.place_len-len.result c.in-Some.code
    c.place_len-len.ensures c.in-Some.ensures.1 c.in-None-from_u32.ensures.value

pub returns-in-Some-from_u32 : goal.returns-in-Some-from_u32
returns-in-Some-from_u32 c = grind (arith, common_steps)

pub slice_bounds-places_value-end : goal.slice_bounds-places_value-end
slice_bounds-places_value-end c = grind (arith, common_steps)
