use Rattle.std.proofs.lemmas.Grind.{common_steps}
use Rattle.std.proofs.Common.{refl, sym, subst, arith}
use Rattle.schema_syntax_reader.proofs.Scanned.{decl_parts}
use Rattle.schema_syntax_reader.proofs.Readings.{stops_right, both_faultless}
use Rattle.schema_syntax_reader.specs.Sites.{names_sites, paths_sites}
use Rattle.schema_syntax_parser.specs.declared.syntax.DeclSyntax.TheVariants as syntax
use Rattle.std.specs.List.{AllZip}
use Rattle.schema_syntax_reader.specs.Trees.{IsPathOf}
use Rattle.schema_syntax_reader.proofs.decls.external_entity.Goals as goal

pub some-requires : goal.some-requires
some-requires c κs = (
  (refl, tt),
  (decl_parts c.args.text.now (syntax.ExternalEntity c.args.names c.args.parents)
      c.requires).0.0,
)

pub all-requires : goal.all-requires
all-requires c κs = (
  (refl, tt),
  (decl_parts c.args.text.now (syntax.ExternalEntity c.args.names c.args.parents)
      c.requires).1,
)

pub returns-in_err-parents : goal.returns-in_err-parents
returns-in_err-parents c =
    stops_right c.args.text.now _ c.from_residual-in_err-parents.result _ c.from_residual-in_err-parents.ensures.1
    (names_sites c.args.names) (paths_sites c.args.parents) c.in_ok-names.ensures.1 c.in_err-parents.ensures

pub returns : goal.returns
returns c = (
  (
    c.in_ok-names.ensures.0,
    subst (AllZip (IsPathOf c.args.text.now) c.args.parents) (sym c.from_vec.ensures)
        c.in_ok-parents.ensures.0,
  ),
  both_faultless c.args.text.now (names_sites c.args.names) (paths_sites c.args.parents)
      c.in_ok-names.ensures.1 c.in_ok-parents.ensures.1,
)

pub returns-in_err-names : goal.returns-in_err-names
returns-in_err-names c = grind (arith, common_steps)
