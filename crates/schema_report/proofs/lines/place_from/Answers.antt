use Rattle.std.proofs.Common.{◌≡◌, ℕ, get_or, length, take, sym, ◌∙◌, arith}
use Rattle.std.specs.List.{sum_by, between}
use Rattle.std.specs.Str.{chars}
use Rattle.schema_report.specs.declared.place.Place.{Place}
use Rattle.schema_report.specs.declared.place.Units.TheVariants.{Utf16}
use Rattle.schema_report.specs.Lines.{IsLineStart}
use Rattle.schema_report.specs.Places.{feeds, unit_len}
use Rattle.schema_report.proofs.CharLemmas.{ones}
use Rattle.schema_report.proofs.LineLemmas.{line_is, start_boundary, place_from_start}
use Rattle.schema_report.proofs.MarkLemmas.{first_start}
use Rattle.schema_report.proofs.lines.place_from.Goals as goal

pub last_up_to-line-requires-clause-first : goal.last_up_to-line-requires-clause-first
last_up_to-line-requires-clause-first c =
    let first = first_start c.args.text.now c.args.starts.now c.requires.lines in
    omega arith

pub units_between-requires-clause-start : goal.units_between-requires-clause-start
units_between-requires-clause-start c =
    start_boundary c.args.text.now c.last_up_to-line.result _ c.utf8.text
    (c.requires.lines.each c.last_up_to-line.result c.last_up_to-line.ensures.within)

pub units_between-requires-2-clause-start : goal.units_between-requires-2-clause-start
units_between-requires-2-clause-start c =
    start_boundary c.args.text.now c.last_up_to-line.result _ c.utf8.text
    (c.requires.lines.each c.last_up_to-line.result c.last_up_to-line.ensures.within)

pub returns : goal.returns
returns c =
    let text = c.args.text.now in
    let starts = c.args.starts.now in
    let line : ℕ = c.last_up_to-line.result in
    let start : ℕ = get_or starts line 0 in
    let byte : ℕ = c.args.byte in
    let found = c.last_up_to-line.ensures in
    let this : IsLineStart text line start = c.requires.lines.each line found.within in
    let same : feeds (take byte text) ≡ line =
    line_is text starts line byte c.requires.lines found.within found.before found.last in
    let column : c.units_between.result ≡ length (chars (between start byte text)) =
    c.units_between.ensures ∙ ones (chars (between start byte text)) in
    let utf16 : c.units_between-2.result ≡ sum_by (unit_len Utf16) (chars (between start byte text)) =
    c.units_between-2.ensures in
    let place : Place = record {
      byte = byte;
      line = line;
      column = c.units_between.result;
      utf16 = c.units_between-2.result;
    } in
    let tied : place ≡ record {
      byte = byte;
      line = line;
      column = length (chars (between start byte text));
      utf16 = sum_by (unit_len Utf16) (chars (between start byte text));
    } = λ i. record { byte = byte; line = line; column = column i; utf16 = utf16 i } in
    tied ∙ sym (place_from_start text line start byte this found.before c.requires.boundary.0 same)
