-- What `format` does.
use Rattle.std.specs.Prelude.{◌≡◌, ℕ, List, [], ◌∷◌, ◌++◌, Option}
use Rattle.cedar_files.specs.Files.{Contents}
use Rattle.cedar_runs.specs.Reports.{Report}
use Rattle.cedar_runs.specs.declared.status.Status.TheVariants.{WriteFault}
use Rattle.cedar_schema_cli_words.specs.declared.asked.Options.{Options}
use Rattle.cedar_schema_cli_inputs.specs.Inputs.{Given}
use Rattle.cedar_schema_cli_sheets.specs.Sheets.{sheet_text}
use Rattle.cedar_schema_cli_format.specs.Plans.{IsPlan, Plan, Replacement}
use Rattle.cedar_schema_cli_format.specs.Replacing.{AreReplaced, IsSpared}

-- the plan as a report
abbrev pub plan_report : Options → Plan → Report
plan_report options plan = record {
  status = plan.status;
  out = plan.out;
  err = sheet_text options.form options.all plan.items;
}

-- the report where a file could not be replaced
abbrev pub stopped_report : Replacement → Report
stopped_report file = record { status = WriteFault; out = []; err = file.told }

-- how a plan was carried out: all its files were replaced, or some of the first, and then one could not be
pub data IsCarriedOut (options : Options) (plan : Plan) (files after : Option Contents) : Report → Type 0 where
  whole : AreReplaced files plan.replacements after
      → IsCarriedOut options plan files after (plan_report options plan)
  stopped : (first rest : List Replacement) (file : Replacement) → plan.replacements ≡ first ++ file ∷ rest
      → {mid : Option Contents} → AreReplaced files first mid → IsSpared mid file.beside after
      → IsCarriedOut options plan files after (stopped_report file)

-- what `format` writes, and what the files hold after
pub record IsFormatReport (files : Option Contents) (standard : Given) (options : Options) (names : List (List ℕ))
    (after : Option Contents) (report : Report) : Type 0 where
  pub plan : Plan
  pub planned : IsPlan options.mode files standard names plan
  pub carried : IsCarriedOut options plan files after report
