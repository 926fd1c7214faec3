use Rattle.std.proofs.Common.{List, codes, map, false, true, ap, sym, ◌∙◌, append_assoc}
use Rattle.std.proofs.lemmas.List.{append-nil}
use Rattle.std.proofs.lemmas.Result.{on_ok_weaker}
use Rattle.cedar_data.specs.NonEmpty.{items_left}
use Rattle.cedar_data.specs.Rows.{separator_where, row_behind}
use Rattle.schema_syntax_tokens.specs.Laid.{laid}
use Rattle.schema_syntax_tokens.specs.Quotes.{quoted}
use Rattle.cedar_identifiers.specs.declared.eid.Eid.{Eid}
use Rattle.laws_written.specs.PrintedDecls.{string_pieces}
use Rattle.schema_print_text.specs.Growing.{then, so, round, adds_all}
use Rattle.schema_print.proofs.Rows.{begun_as, brackets_made}
use Rattle.schema_print.proofs.lists.push_choices.Goals as goal

pub loop-choice-init : goal.loop-choice-init
loop-choice-init c =
    let row = λ (l : List Eid). row_behind (codes ", ") false (map (λ x. laid (string_pieces x.0)) l) in
    begun_as c.push.new.text _ _ (ap (λ it. row (items_left it)) c.into_iter-choice-iterator.ensures.into_iter_gives
    ∙ ap row c.iter-choice-items.ensures)

pub loop-choice-preserved : goal.loop-choice-preserved
loop-choice-preserved c =
    let b = c.loop-choice.behind in
    let d = c.in-Some.choice.now in
    let row = λ (l : List Eid). row_behind (codes ", ") b (map (λ x. laid (string_pieces x.0)) l) in
    let later = row_behind (codes ", ") true (map (λ x. laid (string_pieces x.0)) (items_left c.next.new.self)) in
    round (then c.in_ok-push_between.ensures (so c.in_ok-push_string.ensures (sym (append-nil (quoted d.0)))))
    c.loop-choice.invariant
    (ap row c.in-Some.ensures.steps
    ∙ sym (append_assoc (separator_where (codes ", ") b) (laid (string_pieces d.0)) later))

pub returns : goal.returns
returns c =
    on_ok_weaker c.push-2.result (λ e.
    let row = λ (l : List Eid). row_behind (codes ", ") c.loop-choice.behind (map (λ x. laid (string_pieces x.0)) l) in
    so (then c.in_ok-push.ensures (then (adds_all c.loop-choice.invariant (ap row c.in-None.ensures.steps.0))
    e)) (brackets_made string_pieces (λ x. x.0) c.args.choices.now)) c.push-2.ensures
