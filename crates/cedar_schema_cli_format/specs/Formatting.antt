-- How far a run of `format` has come.
use Rattle.std.specs.Prelude.{◌≡◌, ℕ, List, Option, map, string_bytes}
use Rattle.std.specs.Str.{encode_utf8_all}
use Rattle.cedar_files.specs.Files.{Contents}
use Rattle.cedar_schema_cli_words.specs.declared.asked.Options.{Options}
use Rattle.cedar_schema_cli_inputs.specs.Inputs.{Given, Gives, IsRead}
use Rattle.cedar_schema_cli_sheets.specs.Says.{HasItems}
use Rattle.cedar_schema_cli_format.specs.Plans.{Plan, Outcome, Replacement, with_outcome, IsOutcome, IsPlan}
use Rattle.cedar_schema_cli_format.specs.declared.changes.Change.{Change}
use Rattle.cedar_schema_cli_format.specs.declared.formatting.Formatting.{Formatting}

-- a change, as the file that is to be replaced
abbrev pub replacement_of : Change → Replacement
replacement_of change = record {
  path = string_bytes change.path;
  beside = string_bytes change.beside;
  bytes = encode_utf8_all change.text;
  told = string_bytes change.told;
}

-- it has come to this plan
pub record HasPlan (options : Options) (run : Formatting) (plan : Plan) : Type 0 where
  pub mode : run.mode ≡ options.mode
  pub form : run.sheet.form ≡ options.form
  pub all : run.sheet.all ≡ options.all
  pub out : string_bytes run.out ≡ plan.out
  pub items : HasItems run.sheet plan.items
  pub status : run.status ≡ plan.status
  pub replacements : map replacement_of run.changes.items ≡ plan.replacements

-- it has come one input further
abbrev pub Follows : List ℕ → Outcome → Formatting → Formatting → Type 0
Follows name outcome old new = (options : Options) (plan : Plan) → HasPlan options old plan
    → HasPlan options new (with_outcome options.mode plan name outcome)

-- it has taken what reading an input gave
pub record TakesGiven (name : List ℕ) (given : Given) (old new : Formatting) : Type 0 where
  pub outcome : Outcome
  pub comes : IsOutcome name given outcome
  pub follows : Follows name outcome old new

-- it has taken the file at this path
pub record TakesFile (files : Option Contents) (path : List ℕ) (old new : Formatting) : Type 0 where
  pub given : Given
  pub read : IsRead files path given
  pub takes : TakesGiven path given old new

-- it has taken the input with this name
pub record TakesNamed (files : Option Contents) (standard : Given) (name : List ℕ) (old new : Formatting)
    : Type 0 where
  pub given : Given
  pub gives : Gives files standard name given
  pub takes : TakesGiven name given old new

-- it has come to the plan for the inputs with these names
pub record TakesAll (options : Options) (files : Option Contents) (standard : Given) (names : List (List ℕ))
    (run : Formatting) : Type 0 where
  pub plan : Plan
  pub planned : IsPlan options.mode files standard names plan
  pub has : HasPlan options run plan
