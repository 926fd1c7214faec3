use Rattle.std.proofs.Common.{◌∙◌, [], ap}
use Rattle.std.specs.Str.{encode_utf8_all}
use Rattle.std.proofs.lemmas.Str.{encodes-chars, IsUtf8-string_bytes}
use Rattle.cedar_schema_cli_sheets.specs.Sheets.{sheet_text}
use Rattle.cedar_schema_cli_check.proofs.check.check_reply.Goals as goal

pub returns-clause-report : goal.returns-clause-report
returns-clause-report g c =
    let all = c.in_ok-status.ensures.status in
    let form = all.gets.form ∙ c.new-sheet.ensures.form in
    let every = all.gets.all ∙ c.new-sheet.ensures.all in
    let written = c.in_ok-finish.ensures all.items (all.gets.items [] c.new-sheet.ensures.items) in
    record {
      table = c.in_ok-table.table;
      full = c.in_ok-table.ensures;
      items = all.items;
      checked = all.checked;
      out = ap encode_utf8_all c.from_string.ensures
          ∙ (encodes-chars _ (IsUtf8-string_bytes c.in_ok-finish.field-0)
          ∙ (written ∙ λ i. sheet_text (form i) (every i) all.items));
      err = ap encode_utf8_all c.new.ensures;
    }
