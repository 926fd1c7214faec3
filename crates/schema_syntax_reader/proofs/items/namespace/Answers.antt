use Rattle.std.proofs.Common.{refl, sym, subst, ◌++◌, ◌∷◌, []}
use Rattle.std.specs.List.{AllZip, flat_map}
use Rattle.schema_syntax_parser.specs.declared.syntax.ItemSyntax.TheVariants as syntax
use Rattle.schema_syntax_reader.specs.Sites.{annotations, path_sites, declared_sites}
use Rattle.schema_syntax_parser.specs.Syntax.{AreAnnotations}
use Rattle.schema_syntax_reader.specs.Placed.{IsScanned}
use Rattle.schema_syntax_reader.specs.Leaves.{AreNotes}
use Rattle.schema_syntax_reader.specs.Stops.{IsStopped}
use Rattle.schema_syntax_reader.specs.Trees.{IsDeclaredOf}
use Rattle.schema_syntax_reader.proofs.Scanned.{item_parts}
use Rattle.schema_syntax_reader.proofs.Readings.{Faultless, stops_left, stops_right, stopped_left, stopped_right}
use Rattle.schema_syntax_reader.proofs.Readings.{both_faultless}
use Rattle.schema_syntax_reader.proofs.items.namespace.Goals as goal

pub notes-requires : goal.notes-requires
notes-requires c =
    subst (IsScanned AreAnnotations c.args.text.now) (sym c.as_slice.ensures)
    (item_parts c.args.text.now (syntax.Namespace c.args.list c.args.name c.args.decls c.args.loc) c.requires).0

pub path-requires : goal.path-requires
path-requires c =
    (item_parts c.args.text.now (syntax.Namespace c.args.list c.args.name c.args.decls c.args.loc)
    c.requires).1

pub all-requires : goal.all-requires
all-requires c κs = (
  (refl, tt),
  (item_parts c.args.text.now
      (syntax.Namespace c.args.list c.args.name c.args.decls c.args.loc) c.requires).2,
)

pub returns-in_err-annotations : goal.returns-in_err-annotations
returns-in_err-annotations c =
    stops_left c.args.text.now _ c.from_residual.result _ c.from_residual.ensures.1
    (annotations c.args.list ∷ []) (path_sites c.args.name ++ flat_map declared_sites c.args.decls)
    (subst (λ l. IsStopped c.args.text.now (annotations l ∷ []) c.in_err-annotations.field-0.0) c.as_slice.ensures
    c.in_err-annotations.ensures)

pub returns-in_err-name : goal.returns-in_err-name
returns-in_err-name c =
    let path = path_sites c.args.name in
    let decls = flat_map declared_sites c.args.decls in
    stops_right c.args.text.now _ c.from_residual-in_err-name.result _ c.from_residual-in_err-name.ensures.1
    (annotations c.args.list ∷ []) (path ++ decls)
    (subst (λ l. Faultless c.args.text.now (annotations l ∷ [])) c.as_slice.ensures
    c.in_ok-annotations.ensures.1)
    (stopped_left c.args.text.now path decls _ c.in_err-name.ensures)

pub returns-in_err-decls : goal.returns-in_err-decls
returns-in_err-decls c =
    let path = path_sites c.args.name in
    let decls = flat_map declared_sites c.args.decls in
    stops_right c.args.text.now _ c.from_residual-in_err-decls.result _ c.from_residual-in_err-decls.ensures.1
    (annotations c.args.list ∷ []) (path ++ decls)
    (subst (λ l. Faultless c.args.text.now (annotations l ∷ [])) c.as_slice.ensures
    c.in_ok-annotations.ensures.1)
    (stopped_right c.args.text.now path decls _ c.in_ok-name.ensures.1 c.in_err-decls.ensures)

pub returns : goal.returns
returns c =
    let path = path_sites c.args.name in
    let decls = flat_map declared_sites c.args.decls in
    rw c.in_ok-new.ensures (
      (
        c.in_ok-name.name,
        c.from_vec.result,
        refl,
        c.in_ok-name.ensures.0,
        subst (AllZip (IsDeclaredOf c.args.text.now) c.args.decls) (sym c.from_vec.ensures) c.in_ok-decls.ensures.0,
        subst (λ l. AreNotes c.args.text.now l c.in_ok-annotations.annotations.0) c.as_slice.ensures
            c.in_ok-annotations.ensures.0,
      ),
      both_faultless c.args.text.now (annotations c.args.list ∷ []) (path ++ decls)
          (subst (λ l. Faultless c.args.text.now (annotations l ∷ [])) c.as_slice.ensures
          c.in_ok-annotations.ensures.1)
          (both_faultless c.args.text.now path decls c.in_ok-name.ensures.1 c.in_ok-decls.ensures.1),
    )
