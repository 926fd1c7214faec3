use Rattle.std.proofs.Common.{◌≡◌, true, length, get_or, sym, ap, ◌∙◌, subst, arith}
use Rattle.std.proofs.lemmas.Bool.{false≢true}
use Rattle.schema_build_graph.specs.Order.{is_marked}
use Rattle.schema_build_graph.specs.Needed.{AreAllClosed, MarksLedTo}
use Rattle.schema_build_graph.proofs.Rows.{written, written_twice}
use Rattle.schema_build_graph.proofs.Wanted.{none_marked, wanted}
use Rattle.schema_build_graph.proofs.kept.marks_of.Goals as goal

pub mark_led_to-requires-clause-marks : goal.mark_led_to-requires-clause-marks
mark_led_to-requires-clause-marks c =
    let first = written c.in_ok-marks.marks.items c.mark.new.marks c.in_ok-marks.marks.len
    (c.mark.ensures.same ∙ ap length c.deref_mut.ensures.value) (omega arith) in
    omega (
      arith,
      ap length (c.deref_mut-2.ensures.value ∙ first),
      c.mark.ensures.same,
      ap length c.deref_mut.ensures.value,
      c.in_ok-marks.ensures.len,
    )

pub returns-clause-same : goal.returns-clause-same
returns-clause-same c =
    let marks = c.in_ok-marks.marks in
    let long : length c.mark.new.marks ≡ length marks.items = c.mark.ensures.same
    ∙ ap length c.deref_mut.ensures.value in
    let first = written marks.items c.mark.new.marks marks.len long (omega arith) in
    let longer : length c.mark_led_to.new.marks ≡ length c.mark.new.marks =
    c.mark_led_to.ensures.same ∙ ap length (c.deref_mut-2.ensures.value ∙ first) in
    let second = written_twice marks.items c.mark.new.marks c.mark_led_to.new.marks marks.len long longer
    (omega arith) in
    omega (arith, ap length second, longer, long, c.in_ok-marks.ensures.len)

pub returns-clause-closed : goal.returns-clause-closed
returns-clause-closed c =
    let marks = c.in_ok-marks.marks in
    let long : length c.mark.new.marks ≡ length marks.items = c.mark.ensures.same
    ∙ ap length c.deref_mut.ensures.value in
    let first = written marks.items c.mark.new.marks marks.len long (omega arith) in
    let longer : length c.mark_led_to.new.marks ≡ length c.mark.new.marks =
    c.mark_led_to.ensures.same ∙ ap length (c.deref_mut-2.ensures.value ∙ first) in
    let second = written_twice marks.items c.mark.new.marks c.mark_led_to.new.marks marks.len long longer
    (omega arith) in
    subst (AreAllClosed c.args.graph.now) (sym second) c.mark_led_to.ensures.closed

pub returns-clause-roots : goal.returns-clause-roots
returns-clause-roots c = λ k d h.
    let marks = c.in_ok-marks.marks in
    let long : length c.mark.new.marks ≡ length marks.items = c.mark.ensures.same
    ∙ ap length c.deref_mut.ensures.value in
    let first = written marks.items c.mark.new.marks marks.len long (omega arith) in
    let longer : length c.mark_led_to.new.marks ≡ length c.mark.new.marks =
    c.mark_led_to.ensures.same ∙ ap length (c.deref_mut-2.ensures.value ∙ first) in
    let second = written_twice marks.items c.mark.new.marks c.mark_led_to.new.marks marks.len long longer
    (omega arith) in
    let root = get_or c.args.roots.now k d in
    subst (λ ms. is_marked ms root ≡ true) (sym second)
    (c.mark_led_to.ensures.stay root
    (subst (λ ms. is_marked ms root ≡ true) (sym (c.deref_mut-2.ensures.value ∙ first)) (c.mark.ensures.marked k d h)))

pub returns-clause-only : goal.returns-clause-only
returns-clause-only c = λ v m.
    let graph = c.args.graph.now in
    let marks = c.in_ok-marks.marks in
    let long : length c.mark.new.marks ≡ length marks.items = c.mark.ensures.same
    ∙ ap length c.deref_mut.ensures.value in
    let first = written marks.items c.mark.new.marks marks.len long (omega arith) in
    let longer : length c.mark_led_to.new.marks ≡ length c.mark.new.marks =
    c.mark_led_to.ensures.same ∙ ap length (c.deref_mut-2.ensures.value ∙ first) in
    let second = written_twice marks.items c.mark.new.marks c.mark_led_to.new.marks marks.len long longer
    (omega arith) in
    let blank = c.deref_mut.ensures.value ∙ c.in_ok-marks.ensures.items_if_clones_equal (λ y same. same) in
    wanted graph c.args.roots.now c.deref_mut.result.now c.mark.new.marks c.mark_led_to.new.marks
    (λ u on. false≢true (sym (ap (λ ms. is_marked ms u) blank ∙ none_marked _ u) ∙ on)) c.mark.ensures
    (subst (λ before. MarksLedTo graph before c.mark_led_to.new.marks) (c.deref_mut-2.ensures.value ∙ first)
    c.mark_led_to.ensures.only)
    v (subst (λ ms. is_marked ms v ≡ true) second m)
