use Rattle.std.proofs.Common.{sym, ap, subst, ◌≡◌, ◌∙◌, ◌++◌, ◌∷◌, [], Some}
use Rattle.std.specs.Prelude.{unwrap_or}
use Rattle.std.proofs.lemmas.List.Concat.{flat_map-append}
use Rattle.schema_syntax_reader.specs.Sites.{names_sites, name_sites, path_sites}
use Rattle.schema_syntax_reader.specs.Stops.{IsStopped}
use Rattle.schema_syntax_reader.proofs.Readings.{Faultless, stops, stopped_left, stopped_right, both_faultless}
use Rattle.schema_syntax_reader.proofs.Scanned.{ref_parts}
use Rattle.schema_syntax_reader.proofs.paths.ReferencesPart.read.Goals as goal

pub type_of_reference-requires : goal.type_of_reference-requires
type_of_reference-requires c =
    (ref_parts c.args.text.now c.args.raw c.requires
    (unwrap_or c.split_last-front.result.0 []) c.split_last-front.result.1
    (ap (λ p. p.0) (sym c.into_parts-names.ensures) ∙ c.split_last-front.ensures)).0

pub name-requires : goal.name-requires
name-requires c =
    (ref_parts c.args.text.now c.args.raw c.requires
    (unwrap_or c.split_last-front.result.0 []) c.split_last-front.result.1
    (ap (λ p. p.0) (sym c.into_parts-names.ensures) ∙ c.split_last-front.ensures)).1

pub returns-in_err-path : goal.returns-in_err-path
returns-in_err-path c =
    let front = unwrap_or c.split_last-front.result.0 [] in
    let last = c.split_last-front.result.1 in
    let split : c.args.raw.names ≡ front ++ last ∷ [] = ap (λ p. p.0) (sym c.into_parts-names.ensures)
    ∙ c.split_last-front.ensures in
    let sites : path_sites c.args.raw ≡ names_sites front ++ name_sites last =
    ap names_sites split ∙ flat_map-append name_sites front (last ∷ []) in
    stops c.args.text.now _ c.from_residual.result _ c.from_residual.ensures.1 _
    (subst (λ l. IsStopped c.args.text.now l c.in_err-path.field-0.0) (sym sites)
    (stopped_left c.args.text.now (names_sites front) (name_sites last) _ c.in_err-path.ensures))

pub returns-in_err-eid : goal.returns-in_err-eid
returns-in_err-eid c =
    let front = unwrap_or c.split_last-front.result.0 [] in
    let last = c.split_last-front.result.1 in
    let split : c.args.raw.names ≡ front ++ last ∷ [] = ap (λ p. p.0) (sym c.into_parts-names.ensures)
    ∙ c.split_last-front.ensures in
    let sites : path_sites c.args.raw ≡ names_sites front ++ name_sites last =
    ap names_sites split ∙ flat_map-append name_sites front (last ∷ []) in
    stops c.args.text.now _ c.from_residual-in_err-eid.result _ c.from_residual-in_err-eid.ensures.1 _
    (subst (λ l. IsStopped c.args.text.now l c.in_err-eid.field-0.0) (sym sites)
    (stopped_right c.args.text.now (names_sites front) (name_sites last) _ c.in_ok-path.ensures.1
    c.in_err-eid.ensures))

pub returns : goal.returns
returns c =
    let front = unwrap_or c.split_last-front.result.0 [] in
    let last = c.split_last-front.result.1 in
    let split : c.args.raw.names ≡ front ++ last ∷ [] = ap (λ p. p.0) (sym c.into_parts-names.ensures)
    ∙ c.split_last-front.ensures in
    let sites : path_sites c.args.raw ≡ names_sites front ++ name_sites last =
    ap names_sites split ∙ flat_map-append name_sites front (last ∷ []) in (
      (
        front,
        last,
        split,
        c.in_ok-eid.ensures.0,
        c.in_ok-path.ensures.0,
        ap (λ p. Some p.1) c.into_parts-names.ensures,
      ),
      subst (Faultless c.args.text.now) (sym sites)
          (both_faultless c.args.text.now (names_sites front) (name_sites last) c.in_ok-path.ensures.1
          c.in_ok-eid.ensures.1),
    )
