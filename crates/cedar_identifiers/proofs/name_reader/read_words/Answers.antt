use Rattle.std.proofs.Common.{◌≡◌, ℕ, true, false, List, [], ◌∷◌, ◌++◌, sym, refl, ap, ◌∙◌, subst, arith}
use Rattle.std.proofs.lemmas.List.{map-append}
use Rattle.std.proofs.lemmas.Result.{err_from_is_err_and}
use Rattle.cedar_identifiers.specs.NamePieces.{here}
use Rattle.cedar_identifiers.specs.Fronts.{word_texts}
use Rattle.cedar_identifiers.proofs.Reading.{stops_behind, due_separator, begins_shorter, begins_utf8, IsRead}
use Rattle.cedar_identifiers.proofs.Reading.{read_more, has_words}
use Rattle.cedar_identifiers.proofs.name_reader.read_words.Goals as goal

pub returns-in_err-first-clause-err : goal.returns-in_err-first-clause-err
returns-in_err-first-clause-err c =
    let p = err_from_is_err_and c.from_residual.result c.from_residual.ensures.1 in
    rw (p.1, p.2) (stops_behind c.args.kind c.args.text.now c.args.text.now [] true _ here refl
    c.in_err-first.ensures.err)

pub returns-in_err-after-clause-err : goal.returns-in_err-after-clause-err
returns-in_err-after-clause-err c =
    let p = err_from_is_err_and c.from_residual-in_err-after.result c.from_residual-in_err-after.ensures.1 in
    let r = c.loop-others.invariant.1 in
    rw (p.1, p.2) (stops_behind c.args.kind c.args.text.now c.loop-others.rest.now _ false _ r.begins r.whole
    c.in_err-after.ensures.err)

pub returns-in_err-word-clause-err : goal.returns-in_err-word-clause-err
returns-in_err-word-clause-err c =
    let p = err_from_is_err_and c.from_residual-in_err-word.result c.from_residual-in_err-word.ensures.1 in
    let s = rw c.in-Some.is at c.in_ok-after.ensures.ok in
    let d = due_separator c.args.kind c.args.text.now _ c.loop-others.rest.now c.in-Some.after.now
    c.loop-others.invariant.1 s.0 s.1 in
    rw (p.1, p.2) (stops_behind c.args.kind c.args.text.now c.in-Some.after.now _ true _ d.0 d.1
    c.in_err-word.ensures.err)

pub loop-others-smaller : goal.loop-others-smaller
loop-others-smaller c =
    let s = rw c.in-Some.is at c.in_ok-after.ensures.ok in
    omega (arith, begins_shorter s.1, begins_shorter c.in_ok-word.ensures.ok)

pub loop-others-preserved : goal.loop-others-preserved
loop-others-preserved c =
    let s = rw c.in-Some.is at c.in_ok-after.ensures.ok in
    let read = read_more c.args.kind c.args.text.now c.in_ok-first.first.text (word_texts c.loop-others.others.items)
    c.in_ok-word.word.text c.loop-others.rest.now c.in-Some.after.now c.in_ok-word.next.now
    c.loop-others.invariant.1 s.0 s.1 c.in_ok-word.ensures.ok c.in_ok-word.word.word in
    let texts : word_texts c.push.new.self.items ≡ word_texts c.loop-others.others.items
    ++ c.in_ok-word.word.text ∷ [] =
    ap word_texts c.in_ok-push.ensures.items
    ∙ map-append (λ w. w.text) c.loop-others.others.items (c.in_ok-word.word ∷ []) in (
      begins_utf8 (begins_utf8 c.loop-others.invariant.0 s.1) c.in_ok-word.ensures.ok,
      subst (λ (ws : List (List ℕ)). IsRead c.args.kind c.args.text.now (c.in_ok-first.first.text ∷ ws)
          c.in_ok-word.next.now) (sym texts) read,
    )

pub returns-clause-ok : goal.returns-clause-ok
returns-clause-ok c =
    has_words c.args.kind c.args.text.now _ c.loop-others.rest.now c.loop-others.invariant.1
    (rw c.in_default.is at c.in_ok-after.ensures.ok)
