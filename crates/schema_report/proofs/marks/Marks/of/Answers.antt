use Rattle.std.proofs.Common.{◌≡◌, ℕ, ◌+◌, List, [], ◌∷◌, ◌++◌, sym, ap, ◌∙◌, subst, arith}
use Rattle.std.specs.List.{sum_by, between}
use Rattle.std.specs.Str.{chars}
use Rattle.schema_report.specs.declared.place.Units.TheVariants.{Characters, Utf16}
use Rattle.schema_report.specs.Marks.{IsMark, AreMarks}
use Rattle.schema_report.specs.Places.{unit_len}
use Rattle.schema_report.proofs.MarkLemmas.{cut_units, few_units, first_mark, first_marks, more_marks, next_mark}
use Rattle.schema_report.proofs.marks.Marks.of.Goals as goal

pub overflow_add-characters : goal.overflow_add-characters
overflow_add-characters c =
    let text = c.args.text.now in
    let mark = c.loop-byte.invariant.1 in
    let counted = mark.in_characters in
    let part : c.columns-characters.result ≡ sum_by (unit_len Characters)
    (chars (between c.loop-byte.byte c.boundary_from-next.result text)) =
    c.columns-characters.ensures ∙ ap (λ t. sum_by (unit_len Characters) (chars t)) c.range-part.ensures.value in
    omega (
      arith,
      cut_units Characters text c.loop-byte.byte c.boundary_from-next.result c.utf8.text mark.boundary (omega (
        arith,
        c.boundary_from-next.ensures.behind,
      )),
      few_units Characters text c.boundary_from-next.result c.utf8.text c.boundary_from-next.ensures.boundary,
    )

pub overflow_add-utf16 : goal.overflow_add-utf16
overflow_add-utf16 c =
    let text = c.args.text.now in
    let mark = c.loop-byte.invariant.1 in
    let counted = mark.in_utf16 in
    let part : c.columns-utf16.result ≡ sum_by (unit_len Utf16)
    (chars (between c.loop-byte.byte c.boundary_from-next.result text)) =
    c.columns-utf16.ensures ∙ ap (λ t. sum_by (unit_len Utf16) (chars t)) c.range-part.ensures.value in
    omega (
      arith,
      cut_units Utf16 text c.loop-byte.byte c.boundary_from-next.result c.utf8.text mark.boundary (omega (
        arith,
        c.boundary_from-next.ensures.behind,
      )),
      few_units Utf16 text c.boundary_from-next.result c.utf8.text c.boundary_from-next.ensures.boundary,
    )

pub loop-byte-init : goal.loop-byte-init
loop-byte-init c =
    let first = c.in_ok-marks.ensures in
    (first_marks _ _ _ _ c.utf8.text first.0 first.1 first.2, first_mark _ c.utf8.text)

pub loop-byte-preserved : goal.loop-byte-preserved
loop-byte-preserved c =
    let text = c.args.text.now in
    let next : ℕ = c.boundary_from-next.result in
    let characters : c.columns-characters.result ≡ sum_by (unit_len Characters)
    (chars (between c.loop-byte.byte next text)) =
    c.columns-characters.ensures ∙ ap (λ t. sum_by (unit_len Characters) (chars t)) c.range-part.ensures.value in
    let utf16 : c.columns-utf16.result ≡ sum_by (unit_len Utf16) (chars (between c.loop-byte.byte next text)) =
    c.columns-utf16.ensures ∙ ap (λ t. sum_by (unit_len Utf16) (chars t)) c.range-part.ensures.value in
    let moved = next_mark text c.loop-byte.byte next c.loop-byte.characters c.loop-byte.utf16 c.utf8.text
    c.loop-byte.invariant.1 (omega (arith, c.boundary_from-next.ensures.behind)) c.boundary_from-next.ensures.boundary in
    let mark : IsMark text next (c.loop-byte.characters + c.columns-characters.result)
    (c.loop-byte.utf16 + c.columns-utf16.result) =
    subst (λ (n : ℕ). IsMark text next (c.loop-byte.characters + n) (c.loop-byte.utf16 + c.columns-utf16.result))
    (sym characters)
    (subst (λ (n : ℕ). IsMark text next (c.loop-byte.characters + sum_by (unit_len Characters)
    (chars (between c.loop-byte.byte next text))) (c.loop-byte.utf16 + n)) (sym utf16) moved) in
    let bytes : List ℕ = c.loop-byte.marks.bytes.items in
    let counted : List ℕ = c.loop-byte.marks.characters.items in
    let units : List ℕ = c.loop-byte.marks.utf16.items in
    let n : ℕ = c.loop-byte.characters + c.columns-characters.result in
    let m : ℕ = c.loop-byte.utf16 + c.columns-utf16.result in
    let more = more_marks text bytes counted units next n m c.loop-byte.invariant.0 mark in
    let pushed = c.in_ok-push.ensures in (
      subst (λ (xs : List ℕ). AreMarks text xs c.push.new.self.characters.items c.push.new.self.utf16.items)
          (sym pushed.0)
          (subst (λ (xs : List ℕ). AreMarks text (bytes ++ next ∷ []) xs c.push.new.self.utf16.items) (sym pushed.1)
          (subst (λ (xs : List ℕ). AreMarks text (bytes ++ next ∷ []) (counted ++ n ∷ []) xs) (sym pushed.2) more)),
      mark,
    )
