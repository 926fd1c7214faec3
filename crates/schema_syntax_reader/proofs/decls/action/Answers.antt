use Rattle.std.proofs.Common.{refl, sym, subst, ◌++◌}
use Rattle.schema_syntax_tree.specs.declared.declaration.Declaration.TheVariants as declaration
use Rattle.schema_syntax_reader.specs.Trees.{IsDeclOf}
use Rattle.schema_syntax_reader.proofs.Scanned.{decl_parts}
use Rattle.schema_syntax_reader.proofs.Readings.{stops_left, stops_right, stopped_left, stopped_right, both_faultless}
use Rattle.schema_syntax_reader.specs.Sites.{names_sites, paths_sites, applies_sites}
use Rattle.schema_syntax_parser.specs.declared.syntax.DeclSyntax.TheVariants as syntax
use Rattle.schema_syntax_reader.proofs.decls.action.Goals as goal

pub some-requires : goal.some-requires
some-requires c κs = (
  (refl, tt),
  (decl_parts c.args.text.now
      (syntax.Action c.args.names c.args.parents c.args.applies_raw) c.requires).0.0,
)

pub returns-in_err-names : goal.returns-in_err-names
returns-in_err-names c =
    stops_left c.args.text.now _ c.from_residual.result _ c.from_residual.ensures.1 (names_sites c.args.names)
    (paths_sites c.args.parents ++ applies_sites c.args.applies_raw) c.in_err-names.ensures

pub optional-requires : goal.optional-requires
optional-requires c κs = (
  (refl, tt),
  (decl_parts c.args.text.now
      (syntax.Action c.args.names c.args.parents c.args.applies_raw) c.requires).1,
)

pub returns-in_err-parents : goal.returns-in_err-parents
returns-in_err-parents c =
    let names = names_sites c.args.names in
    let parents = paths_sites c.args.parents in
    let applies = applies_sites c.args.applies_raw in
    stops_right c.args.text.now _ c.from_residual-in_err-parents.result _ c.from_residual-in_err-parents.ensures.1
    names (parents ++ applies) c.in_ok-names.ensures.1
    (stopped_left c.args.text.now parents applies _ c.in_err-parents.ensures)

pub applies-requires : goal.applies-requires
applies-requires c =
    (decl_parts c.args.text.now (syntax.Action c.args.names c.args.parents c.args.applies_raw)
    c.requires).2

pub returns-in_err-app_decls : goal.returns-in_err-app_decls
returns-in_err-app_decls c =
    let names = names_sites c.args.names in
    let parents = paths_sites c.args.parents in
    let applies = applies_sites c.args.applies_raw in
    stops_right c.args.text.now _ c.from_residual-in_err-app_decls.result _
    c.from_residual-in_err-app_decls.ensures.1 names (parents ++ applies) c.in_ok-names.ensures.1
    (stopped_right c.args.text.now parents applies _ c.in_ok-parents.ensures.1 c.in_err-app_decls.ensures)

pub returns : goal.returns
returns c =
    let names = names_sites c.args.names in
    let parents = paths_sites c.args.parents in
    let applies = applies_sites c.args.applies_raw in (
      subst (λ d. IsDeclOf c.args.text.now
          (syntax.Action c.args.names c.args.parents c.args.applies_raw) (declaration.Action d))
          (sym c.in_ok-decl.ensures) (c.in_ok-names.ensures.0, c.in_ok-parents.ensures.0, c.in_ok-app_decls.ensures.0),
      both_faultless c.args.text.now names (parents ++ applies) c.in_ok-names.ensures.1
          (both_faultless c.args.text.now parents applies c.in_ok-parents.ensures.1 c.in_ok-app_decls.ensures.1),
    )
