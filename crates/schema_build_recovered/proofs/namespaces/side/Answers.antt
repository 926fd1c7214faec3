use Rattle.std.proofs.lemmas.Grind.{common_steps}
use Rattle.std.proofs.Common.{◌<◌, length, ap, sym, ◌∙◌, arith}
use Rattle.schema_build_recovered.specs.Places.{on_side, words_of}
use Rattle.schema_build_recovered.proofs.Gathered.{one_kept, one_left}
use Rattle.schema_build_recovered.proofs.namespaces.side.Goals.{then-is_on_side+in_ok-push, else-is_on_side}
use Rattle.schema_build_recovered.proofs.namespaces.side.Goals as goal

pub loop-at-preserved : goal.loop-at-preserved
loop-at-preserved g c =
    let items = c.args.items.now.items in
    let item = c.index-item.result.now in
    let within : c.loop-at.at < length items = omega (arith, c.loop-at-test.true, c.len-at-end.ensures) in
    let told = sym (c.is_on_side.ensures ∙ ap (on_side c.args.below (words_of c.args.pivot.words)) c.home.ensures) in
    elim c.if-is_on_side.branch [
      | then-is_on_side+in_ok-push w ↦
          rw (w.those-is, w.in_ok-push.ensures.items)
          (one_kept _ items c.loop-at.those.items c.loop-at.at item within c.index-item.ensures c.loop-at.invariant
          (told ∙ w.if-is_on_side.true))
      | else-is_on_side w ↦
          rw w.those-is
          (one_left _ items c.loop-at.those.items c.loop-at.at item within c.index-item.ensures c.loop-at.invariant
          (told ∙ w.if-is_on_side.false))
    ]

pub returns : goal.returns
returns g c = grind (arith, common_steps)
