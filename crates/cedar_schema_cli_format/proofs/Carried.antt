-- How a plan is carried out.
use Rattle.std.proofs.Common.{◌≡◌, ◌∙◌, sym, subst, ℕ, Option, map, string_bytes}
use Rattle.std.specs.Str.{encode_utf8_all}
use Rattle.cedar_files.specs.Files.{Contents, Keeps}
use Rattle.cedar_runs.specs.Reports.{report_of, Report}
use Rattle.cedar_runs.specs.declared.reply.Reply.{Reply}
use Rattle.cedar_schema_cli_words.specs.declared.asked.Options.{Options}
use Rattle.cedar_schema_cli_sheets.specs.Sheets.{sheet_text}
use Rattle.cedar_schema_cli_format.specs.Formats.{IsCarriedOut, whole, stopped, stopped_report}
use Rattle.cedar_schema_cli_format.specs.Formatting.{HasPlan, replacement_of}
use Rattle.cedar_schema_cli_format.specs.Plans.{Plan}
use Rattle.cedar_schema_cli_format.specs.Replacing.{AreReplaced}
use Rattle.cedar_schema_cli_format.specs.Stopping.{IsStoppedAt}
use Rattle.cedar_schema_cli_format.specs.declared.formatting.Formatting.{Formatting}
use Rattle.cedar_schema_cli_format.proofs.ChangeParts.{replaced_before}

-- all files were replaced
pub carried_whole : (options : Options) (plan : Plan) (run : Formatting) (files after : Option Contents) (reply : Reply)
    → HasPlan options run plan → AreReplaced files (map replacement_of run.changes.items) after
    → reply.status ≡ run.status → encode_utf8_all reply.out ≡ string_bytes run.out
    → encode_utf8_all reply.err ≡ sheet_text options.form options.all plan.items
    → IsCarriedOut options plan files after (report_of reply)
carried_whole options plan run files after reply has replaced status out err =
    subst (IsCarriedOut options plan files after)
    (sym (λ i. record { status = (status ∙ has.status) i; out = (out ∙ has.out) i; err = err i }))
    (whole (subst (λ rs. AreReplaced files rs after) has.replacements replaced))

-- one could not be replaced
pub carried_stopped : (options : Options) (plan : Plan) (run : Formatting) (files after : Option Contents) (at : ℕ)
    (report : Report) → HasPlan options run plan → (stop : IsStoppedAt files run.changes.items after at)
    → report ≡ stopped_report (replacement_of stop.change) → IsCarriedOut options plan files after report
carried_stopped options plan run files after at report has stop is =
    subst (IsCarriedOut options plan files after) (sym is)
    (stopped stop.first stop.rest (replacement_of stop.change) (sym has.replacements ∙ stop.parts) stop.replaced
    stop.spared)

-- what is carried out after files stayed as they are is carried out from the first
pub carried_before : (options : Options) (plan : Plan) (a b c : Option Contents) (report : Report) → Keeps a b
    → IsCarriedOut options plan b c report → IsCarriedOut options plan a c report
carried_before options plan a b c report same (whole replaced) =
    whole (replaced_before a b c plan.replacements same replaced)
carried_before options plan a b c report same (stopped first rest file parts replaced spared) =
    stopped first rest file parts (replaced_before a b _ first same replaced) spared
