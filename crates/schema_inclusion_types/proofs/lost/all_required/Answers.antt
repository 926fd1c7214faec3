use Rattle.std.proofs.Common.{◌≡◌, ◌+◌, ◌≤◌, length, drop, true, false, cond, ap, sym, ◌∙◌, subst, arith}
use Rattle.schema_inclusion_values.specs.Checks.{is_required, all_required}
use Rattle.schema_inclusion_types.specs.Kinds.{plain_attrs}
use Rattle.schema_inclusion_types.specs.LostAttributes.{is_marked}
use Rattle.schema_inclusion_types.proofs.Found.{AllBelow, all_step, required_looked, below_behind, below_later}
use Rattle.schema_inclusion_types.proofs.lost.all_required.Goals.{then-required+else-not-is_marked, else-required}
use Rattle.schema_inclusion_types.proofs.lost.all_required.Goals as goal

pub returns-then-not-is_marked : goal.returns-then-not-is_marked
returns-then-not-is_marked c =
    let os = plain_attrs c.args.old.now in
    let news = c.args.new.now in
    let at = c.loop-name.name-index in
    let d = c.loop-name-item.result in
    let none : is_required d.0 os ≡ false =
    required_looked d.0 c.args.old.now c.requires.old_sorted
    ∙ (ap is_marked (sym c.seek-place.ensures.value) ∙ (sym c.is_marked.ensures ∙ c.if-not-is_marked.true)) in
    sym (c.loop-name.invariant.rest
    ∙ (all_step os news at d c.loop-name-test.true c.loop-name-item.is true c.if-required.true
    ∙ ap (λ b. cond b (all_required os (plain_attrs (drop (at + 1) news))) false) none))

pub loop-name-preserved : goal.loop-name-preserved
loop-name-preserved c =
    let olds = c.args.old.now in
    let os = plain_attrs olds in
    let news = c.args.new.now in
    let at = c.loop-name.name-index in
    let d = c.loop-name-item.result in
    elim c.if-required.branch [
      | then-required+else-not-is_marked w ↦
          (let some : is_required d.0 os ≡ true =
          required_looked d.0 olds c.requires.old_sorted
          ∙ (ap is_marked (sym w.seek-place.ensures.value) ∙ (sym w.is_marked.ensures ∙ w.if-not-is_marked.false)) in
          record {
            within = subst (λ k. k ≤ length olds) (sym w.next-is) w.seek-place.ensures.within;
            below = subst (λ k. AllBelow olds news k (at + 1)) (sym w.next-is)
                (below_behind olds news w.seek-place.result.0 at d c.requires.new_sorted c.loop-name-test.true
                c.loop-name-item.is w.seek-place.ensures.below);
            rest = c.loop-name.invariant.rest
                ∙ (all_step os news at d c.loop-name-test.true c.loop-name-item.is true w.if-required.true
                ∙ ap (λ b. cond b (all_required os (plain_attrs (drop (at + 1) news))) false) some);
          })
      | else-required w ↦
          record {
            within = subst (λ k. k ≤ length olds) (sym w.next-is) c.loop-name.invariant.within;
            below = subst (λ k. AllBelow olds news k (at + 1)) (sym w.next-is)
                (below_later olds news c.loop-name.next at c.loop-name.invariant.below);
            rest = c.loop-name.invariant.rest
                ∙ all_step os news at d c.loop-name-test.true c.loop-name-item.is false w.if-required.false;
          }
    ]
