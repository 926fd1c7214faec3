use Rattle.std.proofs.lemmas.Grind.{common_steps}
use Rattle.std.proofs.Common.{◌≡◌, ◌+◌, ◌<◌, ◌≤◌, ◌++◌, ◌∷◌, [], length, length-append, take, drop, arith, All, subst}
use Rattle.std.proofs.Common.{sym, ap, ◌∙◌, rules}
use Rattle.std.proofs.lemmas.List.Elements.{All-weaker}
use Rattle.schema_build_graph.specs.Graph.{AreReached}
use Rattle.schema_build_graph.proofs.Rows.{written, each_push}
use Rattle.schema_build_graph.proofs.reach.closure.Goals as goal

pub loop-start-preserved : goal.loop-start-preserved
loop-start-preserved c =
    let l = c.loop-start in
    let now = c.reach.new.marks in
    let same : length now ≡ length l.marks.items = omega arith in
    let kept : take l.marks.len
    (now ++ drop (length now) l.marks.items) ≡ now = written l.marks.items now l.marks.len same (omega arith) in
    record {
      long = ap length kept ∙ same ∙ l.invariant.long;
      fresh = subst (All (λ m. m < l.start + 1 + 1)) (sym kept)
          (All-weaker (λ m. m ≤ l.start + 1) (λ m. m < l.start + 1 + 1)
          (λ m h. omega arith) now c.in_ok-reach.ensures.marks);
      same = ap length c.in_ok-push.ensures.items ∙ length-append l.rows.items (c.in_ok-from_slice.field-0 ∷ [])
          ∙ ap (λ n. n + 1) l.invariant.same;
      each = each_push (λ a row. AreReached c.args.graph.now a row.items) l.rows.items c.push.new.self.items
          c.in_ok-from_slice.field-0 l.start l.invariant.same c.in_ok-push.ensures.items
          l.invariant.each
          (subst (AreReached c.args.graph.now l.start)
          (sym (c.in_ok-from_slice.ensures.items ∙ c.deref.ensures.value)) c.in_ok-reach.ensures.reached);
    }

pub loop-start-init : goal.loop-start-init
loop-start-init c = record {
  long = search rules;
  fresh = grind (arith, common_steps);
  same = search rules;
  each = search rules;
}
