use Rattle.std.proofs.Common.{◌≡◌, ◌∷◌, [], ◌++◌, length, true, ap, sym, ◌∙◌, arith}
use Rattle.schema_inclusion_values.specs.Ids.{has_text, unused}
use Rattle.schema_inclusion_check.specs.Told.{texts_now}
use Rattle.schema_inclusion_check.proofs.Lettered.{letter_a, next_lettered, still_shorter}
use Rattle.schema_inclusion_check.proofs.choices.unused_id.Goals as goal

pub loop-id-smaller : goal.loop-id-smaller
loop-id-smaller c =
    let cs = texts_now c.args.ids.now in
    let id = c.loop-id.id in
    let next = next_lettered id c.push_str.new.self c.loop-id.invariant.lettered
    (c.in_ok-push_str.ensures.ok ∙ ap (λ l. id ++ l) letter_a) in
    let shorter = still_shorter cs id (unused cs) (c.some_text_is_unused.ensures cs) c.loop-id.invariant.lettered
    c.loop-id.invariant.few (sym c.has_text.ensures ∙ c.loop-id-test.true) in
    omega (arith, next.1, shorter)

pub loop-id-preserved : goal.loop-id-preserved
loop-id-preserved c =
    let cs = texts_now c.args.ids.now in
    let id = c.loop-id.id in
    let next = next_lettered id c.push_str.new.self c.loop-id.invariant.lettered
    (c.in_ok-push_str.ensures.ok ∙ ap (λ l. id ++ l) letter_a) in
    let shorter = still_shorter cs id (unused cs) (c.some_text_is_unused.ensures cs) c.loop-id.invariant.lettered
    c.loop-id.invariant.few (sym c.has_text.ensures ∙ c.loop-id-test.true) in
    record { lettered = next.0; few = omega (arith, next.1, shorter) }
