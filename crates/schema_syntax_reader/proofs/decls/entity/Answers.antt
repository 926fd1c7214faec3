use Rattle.std.proofs.lemmas.Grind.{common_steps}
use Rattle.std.proofs.Common.{refl, sym, subst, ◌++◌, arith}
use Rattle.schema_syntax_reader.proofs.Scanned.{decl_parts}
use Rattle.schema_syntax_reader.proofs.Readings.{stops_right, stopped_left, stopped_right, both_faultless}
use Rattle.schema_syntax_reader.specs.Sites.{names_sites, paths_sites, shape_sites, tags_sites}
use Rattle.schema_syntax_parser.specs.declared.syntax.DeclSyntax.TheVariants as syntax
use Rattle.std.specs.List.{AllZip}
use Rattle.schema_syntax_reader.specs.Trees.{IsPathOf}
use Rattle.schema_syntax_reader.proofs.decls.entity.Goals as goal

pub some-requires : goal.some-requires
some-requires c κs = (
  (refl, tt),
  (decl_parts c.args.text.now
      (syntax.Entity c.args.names c.args.parents c.args.shape_raw c.args.tags_raw) c.requires).0.0,
)

pub all-requires : goal.all-requires
all-requires c κs = (
  (refl, tt),
  (decl_parts c.args.text.now
      (syntax.Entity c.args.names c.args.parents c.args.shape_raw c.args.tags_raw) c.requires).1,
)

pub shape-requires : goal.shape-requires
shape-requires c =
    (decl_parts c.args.text.now
    (syntax.Entity c.args.names c.args.parents c.args.shape_raw c.args.tags_raw) c.requires).2

pub tags-requires : goal.tags-requires
tags-requires c =
    (decl_parts c.args.text.now
    (syntax.Entity c.args.names c.args.parents c.args.shape_raw c.args.tags_raw) c.requires).3

pub returns-in_err-parents : goal.returns-in_err-parents
returns-in_err-parents c =
    let names = names_sites c.args.names in
    let parents = paths_sites c.args.parents in
    let shape = shape_sites c.args.shape_raw in
    let tags = tags_sites c.args.tags_raw in
    stops_right c.args.text.now _ c.from_residual-in_err-parents.result _ c.from_residual-in_err-parents.ensures.1
    names (parents ++ (shape ++ tags)) c.in_ok-names.ensures.1
    (stopped_left c.args.text.now parents (shape ++ tags) _ c.in_err-parents.ensures)

pub returns-in_err-attrs : goal.returns-in_err-attrs
returns-in_err-attrs c =
    let names = names_sites c.args.names in
    let parents = paths_sites c.args.parents in
    let shape = shape_sites c.args.shape_raw in
    let tags = tags_sites c.args.tags_raw in
    stops_right c.args.text.now _ c.from_residual-in_err-attrs.result _ c.from_residual-in_err-attrs.ensures.1
    names (parents ++ (shape ++ tags)) c.in_ok-names.ensures.1
    (stopped_right c.args.text.now parents (shape ++ tags) _ c.in_ok-parents.ensures.1
    (stopped_left c.args.text.now shape tags _ c.in_err-attrs.ensures))

pub returns-in_err-tags : goal.returns-in_err-tags
returns-in_err-tags c =
    let names = names_sites c.args.names in
    let parents = paths_sites c.args.parents in
    let shape = shape_sites c.args.shape_raw in
    let tags = tags_sites c.args.tags_raw in
    stops_right c.args.text.now _ c.from_residual-in_err-tags.result _ c.from_residual-in_err-tags.ensures.1
    names (parents ++ (shape ++ tags)) c.in_ok-names.ensures.1
    (stopped_right c.args.text.now parents (shape ++ tags) _ c.in_ok-parents.ensures.1
    (stopped_right c.args.text.now shape tags _ c.in_ok-attrs.ensures.1 c.in_err-tags.ensures))

pub returns : goal.returns
returns c =
    let names = names_sites c.args.names in
    let parents = paths_sites c.args.parents in
    let shape = shape_sites c.args.shape_raw in
    let tags = tags_sites c.args.tags_raw in (
      (
        c.in_ok-names.ensures.0,
        subst (AllZip (IsPathOf c.args.text.now) c.args.parents) (sym c.from_vec.ensures)
            c.in_ok-parents.ensures.0,
        c.in_ok-attrs.ensures.0,
        c.in_ok-tags.ensures.0,
      ),
      both_faultless c.args.text.now names (parents ++ (shape ++ tags)) c.in_ok-names.ensures.1
          (both_faultless c.args.text.now parents (shape ++ tags) c.in_ok-parents.ensures.1
          (both_faultless c.args.text.now shape tags c.in_ok-attrs.ensures.1 c.in_ok-tags.ensures.1)),
    )

pub returns-in_err-names : goal.returns-in_err-names
returns-in_err-names c = grind (arith, common_steps)
