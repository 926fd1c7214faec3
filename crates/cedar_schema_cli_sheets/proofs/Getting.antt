-- How a sheet gets reports one after another.
use Rattle.std.proofs.Common.{◌∙◌, refl, sym, subst, List, [], ◌++◌, append-nil, append_assoc}
use Rattle.cedar_schema_cli_sheets.specs.Sheets.{Item}
use Rattle.cedar_schema_cli_sheets.specs.Says.{HasItems, Gets}
use Rattle.cedar_schema_cli_sheets.specs.declared.sheet.Sheet.{Sheet}

-- nothing is got
pub gets_none : (sheet : Sheet) → Gets sheet sheet []
gets_none sheet = record {
  form = refl;
  all = refl;
  items = λ items has. subst (HasItems sheet) (sym (append-nil items)) has;
}

-- what is got in turn is got
pub gets_on : (a b c : Sheet) (more further : List Item) → Gets a b more → Gets b c further → Gets a c (more ++ further)
gets_on a b c more further first second = record {
  form = second.form ∙ first.form;
  all = second.all ∙ first.all;
  items = λ items has. subst (HasItems c) (append_assoc items more further)
      (second.items (items ++ more) (first.items items has));
}
