use Rattle.std.proofs.Common.{ap, sym}
use Rattle.std.proofs.lemmas.Result.{on_ok_weaker}
use Rattle.cedar_identifiers.specs.Names.{name_text}
use Rattle.schema_build_types.specs.Content.{names_content}
use Rattle.schema_build_text.specs.Growing.{so}
use Rattle.schema_build_text.specs.Readings.{first_name}
use Rattle.schema_build_text.proofs.rows.push_entity_name.Goals as goal

pub returns-in-Some : goal.returns-in-Some
returns-in-Some c =
    on_ok_weaker c.push_name.result
    (λ e. so e (sym (ap (λ ns. name_text (first_name (names_content ns))) c.in-Some.ensures))) c.push_name.ensures
