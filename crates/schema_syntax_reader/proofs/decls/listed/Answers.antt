use Rattle.std.proofs.Common.{◌≡◌, [], refl, sym, ◌∙◌, subst}
use Rattle.std.specs.List.{All, AllZip}
use Rattle.schema_syntax_reader.specs.Placed.{IsPlacedString}
use Rattle.schema_syntax_reader.specs.Stops.{IsStopped}
use Rattle.schema_syntax_reader.specs.Trees.{IsChoice}
use Rattle.schema_syntax_reader.proofs.Scanned.{decl_parts}
use Rattle.schema_syntax_reader.proofs.Readings.{Faultless, stops_left, stops_right, stopped_right}
use Rattle.schema_syntax_reader.proofs.Readings.{both_faultless}
use Rattle.schema_syntax_reader.specs.Sites.{names_sites, choices_sites}
use Rattle.schema_syntax_parser.specs.declared.syntax.DeclSyntax.TheVariants as syntax
use Rattle.schema_syntax_reader.proofs.Chosen.{choices_some, choices_empty, choices_faultless}
use Rattle.schema_syntax_reader.proofs.decls.listed.Goals as goal

pub some-requires : goal.some-requires
some-requires c κs = (
  (refl, tt),
  (decl_parts c.args.text.now (syntax.Enum c.args.names c.args.choices c.args.brackets) c.requires).0.0,
)

pub returns-in_err-names : goal.returns-in_err-names
returns-in_err-names c =
    stops_left c.args.text.now _ c.from_residual.result _ c.from_residual.ensures.1 (names_sites c.args.names)
    (choices_sites c.args.choices c.args.brackets) c.in_err-names.ensures

pub returns-in_default : goal.returns-in_default
returns-in_default c =
    let none : c.args.choices ≡ [] = sym c.into_vec.ensures ∙ (rw c.in_default.is at c.from_vec.ensures.none) in
    stopped_right c.args.text.now (names_sites c.args.names) (choices_sites c.args.choices c.args.brackets)
    c.empty_list.result c.in_ok-names.ensures.1
    (choices_empty c.args.text.now c.args.choices c.args.brackets c.empty_list.result none
    (c.empty_list.ensures c.args.text.now))

pub some-requires-2 : goal.some-requires-2
some-requires-2 c κs =
    let same : c.in-Some.choices ≡ c.args.choices = (rw c.in-Some.is at c.from_vec.ensures.some).0
    ∙ c.into_vec.ensures in (
      (refl, tt),
      subst (All (IsPlacedString c.args.text.now)) (sym same)
          (decl_parts c.args.text.now (syntax.Enum c.args.names c.args.choices c.args.brackets) c.requires).1,
    )

pub returns-in_err-choices : goal.returns-in_err-choices
returns-in_err-choices c =
    let some = rw c.in-Some.is at c.from_vec.ensures.some in
    let same : c.in-Some.choices ≡ c.args.choices = some.0 ∙ c.into_vec.ensures in
    stops_right c.args.text.now _ c.from_residual-in_err-choices.result _ c.from_residual-in_err-choices.ensures.1
    (names_sites c.args.names) (choices_sites c.args.choices c.args.brackets) c.in_ok-names.ensures.1
    (subst (λ l. IsStopped c.args.text.now (choices_sites l c.args.brackets) c.in_err-choices.field-0.0) same
    (choices_some c.args.text.now c.in-Some.choices c.args.brackets c.in_err-choices.field-0.0 some.1
    c.in_err-choices.ensures))

pub returns : goal.returns
returns c =
    let some = rw c.in-Some.is at c.from_vec.ensures.some in
    let same : c.in-Some.choices ≡ c.args.choices = some.0 ∙ c.into_vec.ensures in (
      (
        c.in_ok-names.ensures.0,
        subst (λ l. AllZip (IsChoice c.args.text.now) l c.in_ok-choices.choices) same c.in_ok-choices.ensures.0,
      ),
      both_faultless c.args.text.now (names_sites c.args.names)
          (choices_sites c.args.choices c.args.brackets) c.in_ok-names.ensures.1
          (subst (λ l. Faultless c.args.text.now (choices_sites l c.args.brackets)) same
          (choices_faultless c.args.text.now c.in-Some.choices c.args.brackets some.1 c.in_ok-choices.ensures.1)),
    )
