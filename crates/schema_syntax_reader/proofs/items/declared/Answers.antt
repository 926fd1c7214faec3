use Rattle.std.proofs.Common.{sym, ap, ◌∙◌, subst, ◌∷◌, [], Some}
use Rattle.schema_syntax_parser.specs.Syntax.{AreAnnotations, IsDecl}
use Rattle.schema_syntax_reader.specs.Placed.{IsScanned}
use Rattle.schema_syntax_reader.specs.Sites.{annotations, decl_sites}
use Rattle.schema_syntax_reader.specs.Leaves.{AreNotes}
use Rattle.schema_syntax_reader.specs.Stops.{IsStopped}
use Rattle.schema_syntax_reader.specs.Trees.{IsDeclOf}
use Rattle.schema_syntax_reader.proofs.Scanned.{declared_parts}
use Rattle.schema_syntax_reader.proofs.Readings.{Faultless, stops_left, stops_right, both_faultless}
use Rattle.schema_syntax_reader.proofs.items.declared.Goals as goal

pub notes-requires : goal.notes-requires
notes-requires c =
    let same = c.as_slice.ensures ∙ ap (λ p. p.0) c.into_parts-annotations.ensures in
    subst (IsScanned AreAnnotations c.args.text.now) (sym same)
    (declared_parts c.args.text.now c.args.raw c.requires).notes

pub decl-requires : goal.decl-requires
decl-requires c =
    subst (λ p. IsScanned IsDecl c.args.text.now p.1) (sym c.into_parts-annotations.ensures)
    (declared_parts c.args.text.now c.args.raw c.requires).body

pub returns-in_err-annotations : goal.returns-in_err-annotations
returns-in_err-annotations c =
    let same = c.as_slice.ensures ∙ ap (λ p. p.0) c.into_parts-annotations.ensures in
    stops_left c.args.text.now _ c.from_residual.result _ c.from_residual.ensures.1
    (annotations c.args.raw.annotations ∷ []) (decl_sites c.args.raw.decl)
    (subst (λ l. IsStopped c.args.text.now (annotations l ∷ []) c.in_err-annotations.field-0.0) same
    c.in_err-annotations.ensures)

pub returns-in_err-node : goal.returns-in_err-node
returns-in_err-node c =
    let same = c.as_slice.ensures ∙ ap (λ p. p.0) c.into_parts-annotations.ensures in
    let noted = subst (λ l. Faultless c.args.text.now (annotations l ∷ [])) same c.in_ok-annotations.ensures.1 in
    stops_right c.args.text.now _ c.from_residual-in_err-node.result _ c.from_residual-in_err-node.ensures.1
    (annotations c.args.raw.annotations ∷ []) (decl_sites c.args.raw.decl) noted
    (subst (λ p. IsStopped c.args.text.now (decl_sites p.1) c.in_err-node.field-0.0) c.into_parts-annotations.ensures
    c.in_err-node.ensures)

pub returns : goal.returns
returns c =
    let same = c.as_slice.ensures ∙ ap (λ p. p.0) c.into_parts-annotations.ensures in
    let noted = subst (λ l. Faultless c.args.text.now (annotations l ∷ [])) same c.in_ok-annotations.ensures.1 in
    let notes = subst (λ l. AreNotes c.args.text.now l c.in_ok-annotations.annotations.0) same
    c.in_ok-annotations.ensures.0 in (
      (
        subst (λ p. IsDeclOf c.args.text.now p.1 c.in_ok-node.node) c.into_parts-annotations.ensures c.in_ok-node.ensures.0,
        ap (λ p. Some p.2) c.into_parts-annotations.ensures,
        notes,
      ),
      both_faultless c.args.text.now (annotations c.args.raw.annotations ∷ []) (decl_sites c.args.raw.decl) noted
          (subst (λ p. Faultless c.args.text.now
          (decl_sites p.1)) c.into_parts-annotations.ensures c.in_ok-node.ensures.1),
    )
