use Rattle.schema_syntax_reader.proofs.Scanned.{decl_parts}
use Rattle.schema_syntax_reader.proofs.Readings.{stops_left, stops_right, both_faultless}
use Rattle.schema_syntax_reader.specs.Sites.{sites_of_type}
use Rattle.schema_syntax_parser.specs.declared.syntax.DeclSyntax.TheVariants as syntax
use Rattle.schema_syntax_reader.specs.Sites.{name_sites}
use Rattle.schema_syntax_reader.proofs.decls.common.Goals as goal

pub id_node-requires : goal.id_node-requires
id_node-requires c = (decl_parts c.args.text.now (syntax.Common c.args.name c.args.raw) c.requires).0

pub ty-requires : goal.ty-requires
ty-requires c = (decl_parts c.args.text.now (syntax.Common c.args.name c.args.raw) c.requires).1

pub returns-in_err-def : goal.returns-in_err-def
returns-in_err-def c =
    stops_right c.args.text.now _ c.from_residual-in_err-def.result _ c.from_residual-in_err-def.ensures.1
    (name_sites c.args.name) (sites_of_type c.args.raw) c.in_ok-name.ensures.1 c.in_err-def.ensures

pub returns : goal.returns
returns c = (
  (c.in_ok-name.ensures.0, c.in_ok-def.ensures.0),
  both_faultless c.args.text.now (name_sites c.args.name) (sites_of_type c.args.raw)
      c.in_ok-name.ensures.1 c.in_ok-def.ensures.1,
)

pub returns-in_err-name : goal.returns-in_err-name
returns-in_err-name c =
    stops_left c.args.text.now _ c.from_residual.result _ c.from_residual.ensures.1 (name_sites c.args.name)
    (sites_of_type c.args.raw) c.in_err-name.ensures
