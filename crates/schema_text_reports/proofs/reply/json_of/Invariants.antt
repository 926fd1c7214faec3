use Rattle.std.proofs.Common.{◌≡◌, take, string_bytes}
use Rattle.schema_text_reports.specs.ReportReplies.{json_lines}
use Rattle.schema_text_reports.proofs.reply.json_of.Given as goal

abbrev pub invariant-loop-report : goal.invariant-loop-report
invariant-loop-report l = string_bytes l.out ≡ json_lines (take l.report-index l.reports)
