use Rattle.std.proofs.lemmas.Grind.{common_steps}
use Rattle.std.proofs.Common.{refl, sym, subst, arith}
use Rattle.schema_syntax_tree.specs.declared.declaration.Declaration.TheVariants as declaration
use Rattle.schema_syntax_reader.specs.Trees.{IsDeclOf}
use Rattle.schema_syntax_reader.proofs.Scanned.{decl_parts}
use Rattle.schema_syntax_reader.proofs.Readings.{stops_right, both_faultless}
use Rattle.schema_syntax_reader.specs.Sites.{names_sites, paths_sites}
use Rattle.schema_syntax_parser.specs.declared.syntax.DeclSyntax.TheVariants as syntax
use Rattle.schema_syntax_reader.proofs.decls.external_action.Goals as goal

pub some-requires : goal.some-requires
some-requires c κs = (
  (refl, tt),
  (decl_parts c.args.text.now (syntax.ExternalAction c.args.names c.args.parents)
      c.requires).0.0,
)

pub optional-requires : goal.optional-requires
optional-requires c κs = (
  (refl, tt),
  (decl_parts c.args.text.now (syntax.ExternalAction c.args.names c.args.parents)
      c.requires).1,
)

pub returns-in_err-parents : goal.returns-in_err-parents
returns-in_err-parents c =
    stops_right c.args.text.now _ c.from_residual-in_err-parents.result _ c.from_residual-in_err-parents.ensures.1
    (names_sites c.args.names) (paths_sites c.args.parents) c.in_ok-names.ensures.1 c.in_err-parents.ensures

pub returns : goal.returns
returns c = (
  subst
      (λ d. IsDeclOf c.args.text.now (syntax.ExternalAction c.args.names c.args.parents) (declaration.Action d))
      (sym c.in_ok-decl.ensures) (c.in_ok-names.ensures.0, c.in_ok-parents.ensures.0),
  both_faultless c.args.text.now (names_sites c.args.names) (paths_sites c.args.parents)
      c.in_ok-names.ensures.1 c.in_ok-parents.ensures.1,
)

pub returns-in_err-names : goal.returns-in_err-names
returns-in_err-names c = grind (arith, common_steps)
