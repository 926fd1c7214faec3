use Rattle.std.proofs.Common.{[], Some, sym, subst}
use Rattle.std.specs.Prelude.{unwrap_or}
use Rattle.std.specs.List.{All}
use Rattle.schema_syntax_reader.specs.Sites.{names_sites}
use Rattle.schema_syntax_reader.specs.Stops.{IsStopped}
use Rattle.schema_syntax_reader.specs.Trees.{IsTypeOfRef}
use Rattle.schema_syntax_reader.proofs.Chosen.{named_type}
use Rattle.schema_syntax_reader.proofs.Readings.{Faultless, stops}
use Rattle.schema_syntax_reader.proofs.Scanned.{IsWord}
use Rattle.schema_syntax_reader.proofs.paths.type_of_reference.Goals as goal

pub path_of_names-requires : goal.path_of_names-requires
path_of_names-requires c = subst (λ o. All (IsWord c.args.text.now) (unwrap_or o [])) c.in-Some.is c.requires

pub returns-in_err-path-in-Some : goal.returns-in_err-path-in-Some
returns-in_err-path-in-Some c =
    stops c.args.text.now _ c.from_residual.result _ c.from_residual.ensures.1 _
    (subst (λ o. IsStopped c.args.text.now (names_sites (unwrap_or o [])) c.in_err-path-in-Some.field-0.0)
    (sym c.in-Some.is)
    c.in_err-path-in-Some.ensures)

pub returns-in_ok-path-in-Some : goal.returns-in_ok-path-in-Some
returns-in_ok-path-in-Some c =
    subst (λ o. IsTypeOfRef c.args.text.now (unwrap_or o []) (Some c.in_ok-path-in-Some.path)
    × Faultless c.args.text.now (names_sites (unwrap_or o []))) (sym c.in-Some.is) (
      named_type c.args.text.now c.in-Some.names c.parts.result.0.now c.parts.result.1.now c.in_ok-path-in-Some.path
          c.parts.ensures c.in_ok-path-in-Some.ensures.0.0 c.in_ok-path-in-Some.ensures.0.1 c.place_from-loc.ensures,
      c.in_ok-path-in-Some.ensures.1,
    )
