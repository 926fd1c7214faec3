-- What a run of `format` has with one input more.
use Rattle.std.proofs.Common.{◌≡◌, ◌∙◌, ap, sym, subst, ℕ, List, [], ◌∷◌, ◌++◌, Option, append-nil, map, string_bytes}
use Rattle.cedar_files.specs.Files.{Contents, Keeps}
use Rattle.cedar_runs.specs.declared.status.Status.{Status}
use Rattle.schema_json_quotes.specs.Adds.{Adds}
use Rattle.cedar_schema_cli_words.specs.declared.asked.Options.{Options}
use Rattle.cedar_schema_cli_inputs.specs.Inputs.{Given}
use Rattle.cedar_schema_cli_inputs.proofs.Keeping.{gives_before}
use Rattle.cedar_schema_cli_sheets.specs.Says.{HasItems, Gets}
use Rattle.cedar_schema_cli_sheets.specs.Sheets.{Item}
use Rattle.cedar_schema_cli_check.specs.Statuses.{joined_status}
use Rattle.cedar_schema_cli_format.specs.Formatting.{Follows, TakesNamed, TakesAll, replacement_of}
use Rattle.cedar_schema_cli_format.specs.Plans.{laid, faulty, printed, counted, replaced, with_outcome}
use Rattle.cedar_schema_cli_format.specs.Plans.{then}
use Rattle.cedar_schema_cli_format.specs.declared.formatting.Formatting.{Formatting}

-- a text laid out was taken
pub laid_taken : (name text new : List ℕ) (before after : Formatting) → after.mode ≡ before.mode
    → after.sheet ≡ before.sheet → Adds before.out after.out (printed before.mode name (laid text new))
    → after.status ≡ joined_status before.status (counted before.mode (laid text new))
    → map replacement_of after.changes.items
    ≡ map replacement_of before.changes.items ++ replaced before.mode name (laid text new)
    → Follows name (laid text new) before after
laid_taken name text new before after mode sheet out status changes = λ options plan has. record {
  mode = mode ∙ has.mode;
  form = ap (λ s. s.form) sheet ∙ has.form;
  all = ap (λ s. s.all) sheet ∙ has.all;
  out = out ∙ (λ i. has.out i ++ printed (has.mode i) name (laid text new));
  items = subst (HasItems after.sheet) (sym (append-nil plan.items))
      (subst (λ s. HasItems s plan.items) (sym sheet) has.items);
  status = status ∙ (λ i. joined_status (has.status i) (counted (has.mode i) (laid text new)));
  replacements = changes ∙ (λ i. has.replacements i ++ replaced (has.mode i) name (laid text new));
}

-- reports were taken
pub reports_taken : (name : List ℕ) (items : List Item) (status : Status) (before after : Formatting)
    → after.mode ≡ before.mode → Gets before.sheet after.sheet items → after.out ≡ before.out
    → after.status ≡ joined_status before.status status → after.changes ≡ before.changes
    → Follows name (faulty items status) before after
reports_taken name items status before after mode gets out counts changes = λ options plan has. record {
  mode = mode ∙ has.mode;
  form = gets.form ∙ has.form;
  all = gets.all ∙ has.all;
  out = ap string_bytes out ∙ (has.out ∙ sym (append-nil plan.out));
  items = gets.items plan.items has.items;
  status = counts ∙ (λ i. joined_status (has.status i) status);
  replacements = ap (λ c. map replacement_of c.items) changes
      ∙ (has.replacements ∙ sym (append-nil plan.replacements));
}

-- one input more was taken
pub one_more : (options : Options) (files mid : Option Contents) (standard : Given) (names : List (List ℕ))
    (name : List ℕ) (before after : Formatting) → TakesAll options files standard names before → Keeps files mid
    → TakesNamed mid standard name before after → TakesAll options files standard (names ++ name ∷ []) after
one_more options files mid standard names name before after all same named = record {
  plan = with_outcome options.mode all.plan name named.takes.outcome;
  planned = then all.planned (gives_before files mid standard name named.given same named.gives) named.takes.comes;
  has = named.takes.follows options all.plan all.has;
}
