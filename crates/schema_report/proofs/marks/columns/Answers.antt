use Rattle.std.proofs.Common.{◌≡◌, true, sym, ◌∙◌, subst}
use Rattle.std.specs.Char.{is_ascii}
use Rattle.std.specs.List.{list_all}
use Rattle.schema_report.proofs.MarkLemmas.{ascii_units}
use Rattle.schema_report.proofs.marks.columns.Goals as goal

pub returns-then-are_ascii : goal.returns-then-are_ascii
returns-then-are_ascii c =
    let ascii = subst (λ bytes. list_all is_ascii bytes ≡ true) c.as_bytes.ensures.value
    (sym c.are_ascii.ensures ∙ c.if-are_ascii.true) in
    sym (ascii_units c.args.units c.args.text.now ascii)
