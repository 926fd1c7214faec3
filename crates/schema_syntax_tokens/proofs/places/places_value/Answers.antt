use Rattle.std.proofs.Common.{◌<◌, get_or, subst, arith}
use Rattle.std.specs.Char.{digit_value}
use Rattle.std.proofs.lemmas.Bool.{ltb-true}
use Rattle.schema_syntax_tokens.proofs.Digits.{HasDigits, HasDigits-digit, HasDigits-other, value_fits, too_many}
use Rattle.schema_syntax_tokens.proofs.places.places_value.Goals as goal
use Rattle.schema_syntax_tokens.proofs.places.places_value.Goals.{in-None+else-at-eq0, in-Some+else-digits-eq6}

pub returns-then-digits-eq6 : goal.returns-then-digits-eq6
returns-then-digits-eq6 c =
    too_many c.args.places.now c.loop-at.at c.loop-at.value
    (subst (λ d. HasDigits c.args.places.now c.loop-at.at d c.loop-at.value) c.if-digits-eq6.true c.loop-at.invariant)
    c.loop-at-test.true c.in-Some.ensures.0

pub overflow_mul-value : goal.overflow_mul-value
overflow_mul-value c = omega (
  arith,
  value_fits c.loop-at.value c.loop-at.digits 0 c.loop-at.invariant.bound
      (omega arith) (omega arith),
)

pub overflow_add-value : goal.overflow_add-value
overflow_add-value c =
    let small : c.in-Some.digit < 16 = omega (
      arith,
      c.in-Some.ensures.1,
      ltb-true (digit_value (get_or c.args.places.now c.loop-at.at 0)) 16
          c.in-Some.ensures.0,
    ) in
    omega (
      arith,
      value_fits c.loop-at.value c.loop-at.digits c.in-Some.digit c.loop-at.invariant.bound
          (omega arith) small,
    )

pub loop-at-preserved : goal.loop-at-preserved
loop-at-preserved c =
    elim c.match-hex_digit.branch [
      | in-None+else-at-eq0 w ↦
          rw (w.value-is, w.digits-is)
          (HasDigits-other c.args.places.now c.loop-at.at c.loop-at.digits c.loop-at.value c.loop-at.invariant
          c.requires c.loop-at-test.true (omega arith) w.in-None.ensures)
      | in-Some+else-digits-eq6 w ↦
          rw (w.value-is, w.digits-is)
          (HasDigits-digit c.args.places.now c.loop-at.at c.loop-at.digits c.loop-at.value w.in-Some.digit
          c.loop-at.invariant c.loop-at-test.true (omega arith) w.in-Some.ensures.0 w.in-Some.ensures.1)
    ]
