use Rattle.std.proofs.Common.{◌≡◌, ℕ, ◌<◌, ◌≤◌, List, get_or, length, take, ap, ◌∙◌, subst, arith}
use Rattle.std.specs.List.{sum_by, between}
use Rattle.std.specs.Str.{chars}
use Rattle.schema_report.specs.Places.{unit_len}
use Rattle.schema_report.proofs.MarkLemmas.{cut_units, few_units}
use Rattle.schema_report.proofs.marks.Marks.units_before.Goals as goal

pub overflow_add-result : goal.overflow_add-result
overflow_add-result c =
    let text = c.args.text.now in
    let bytes : List ℕ = c.args.self.now.bytes.items in
    let at : ℕ = c.last_up_to-at.result in
    let units = c.args.units in
    let same = c.as_slice-bytes.ensures.value in
    let within : at < length bytes = subst (λ (xs : List ℕ). at < length xs) same
    c.last_up_to-at.ensures.within in
    let before : get_or bytes at 0 ≤ c.args.byte = subst (λ (xs : List ℕ). get_or xs at 0 ≤ c.args.byte)
    same c.last_up_to-at.ensures.before in
    let near : c.columns-near.result ≡ sum_by (unit_len units) (chars (between (get_or bytes at 0) c.args.byte text)) =
    c.columns-near.ensures ∙ ap (λ t. sum_by (unit_len units) (chars t)) c.range.ensures.value
    ∙ ap (λ (xs : List ℕ). sum_by (unit_len units) (chars (between (get_or xs at 0) c.args.byte text))) same in
    let ahead : c.count.result ≡ sum_by (unit_len units) (chars (take (get_or bytes at 0) text)) = c.count.ensures in
    omega (
      arith,
      cut_units units text (get_or bytes at 0) c.args.byte c.utf8.text (c.requires.marks.each at within).boundary before,
      few_units units text c.args.byte c.utf8.text c.requires.boundary,
    )

pub returns : goal.returns
returns c =
    let text = c.args.text.now in
    let bytes : List ℕ = c.args.self.now.bytes.items in
    let at : ℕ = c.last_up_to-at.result in
    let units = c.args.units in
    let same = c.as_slice-bytes.ensures.value in
    let within : at < length bytes = subst (λ (xs : List ℕ). at < length xs) same
    c.last_up_to-at.ensures.within in
    let before : get_or bytes at 0 ≤ c.args.byte = subst (λ (xs : List ℕ). get_or xs at 0 ≤ c.args.byte)
    same c.last_up_to-at.ensures.before in
    let near : c.columns-near.result ≡ sum_by (unit_len units) (chars (between (get_or bytes at 0) c.args.byte text)) =
    c.columns-near.ensures ∙ ap (λ t. sum_by (unit_len units) (chars t)) c.range.ensures.value
    ∙ ap (λ (xs : List ℕ). sum_by (unit_len units) (chars (between (get_or xs at 0) c.args.byte text))) same in
    let ahead : c.count.result ≡ sum_by (unit_len units) (chars (take (get_or bytes at 0) text)) = c.count.ensures in
    omega (
      arith,
      cut_units units text (get_or bytes at 0) c.args.byte c.utf8.text (c.requires.marks.each at within).boundary before,
    )
