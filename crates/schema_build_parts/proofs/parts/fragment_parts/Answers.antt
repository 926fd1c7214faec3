use Rattle.std.proofs.Common.{refl, sym}
use Rattle.std.proofs.lemmas.Result.{IfErr-weaker, on_ok_weaker}
use Rattle.schema_build_checks.specs.Rows.{Never, OrMemory}
use Rattle.schema_build_scope.specs.Rows.{OrElse}
use Rattle.schema_build_scope.specs.UndefinedRows.{HasUndefinedTypes, HasUndefinedActions}
use Rattle.schema_build_parts.specs.BuildFaults.{ReferenceFault, MeaningFault, BuildFault}
use Rattle.schema_build_parts.specs.DeclarationFaults.{DeclarationFault}
use Rattle.schema_build_parts.proofs.Known.{all_known}
use Rattle.schema_build_parts.proofs.Moved.{moved}
use Rattle.schema_build_parts.proofs.Rows.{never_else, or_first, or_behind, refused}
use Rattle.schema_build_parts.proofs.parts.fragment_parts.Goals as goal

pub returns-in_err-check_references-clause-err : goal.returns-in_err-check_references-clause-err
returns-in_err-check_references-clause-err c =
    let f = c.args.fragment.now in
    let table = c.args.table.now in
    let e = c.in_err-check_references.field-0.0 in
    let told : OrMemory (ReferenceFault f table) e = moved (λ f t. OrMemory (ReferenceFault f t) e)
    c.in_ok-names.ensures.fragment c.in_ok-names.ensures.table c.in_err-check_references.ensures.err in
    refused (BuildFault f table) c.from_residual-in_err-check_references.result e
    c.from_residual-in_err-check_references.ensures.1
    (or_behind (DeclarationFault f table) (OrElse (ReferenceFault f table) (MeaningFault f table))
    c.in_ok-check_declarations.ensures.ok e (or_first (ReferenceFault f table) (MeaningFault f table) e told))

pub build_meanings-requires : goal.build_meanings-requires
build_meanings-requires c =
    let names = c.in_ok-names.names in
    let declared : Never (DeclarationFault names.fragment names.table) = moved (λ f t. Never (DeclarationFault f t))
    (sym c.in_ok-names.ensures.fragment) (sym c.in_ok-names.ensures.table) c.in_ok-check_declarations.ensures.ok in (
      sym c.in_ok-names.ensures.fragment,
      (
        refl,
        (
          refl,
          (
            refl,
            (
              refl,
              all_known names.fragment names.table declared
                  c.in_ok-check_references.ensures.types,
            ),
          ),
        ),
      ),
    )

pub returns-clause-err : goal.returns-clause-err
returns-clause-err c =
    let f = c.args.fragment.now in
    let table = c.args.table.now in
    let names = c.in_ok-names.names in
    let references : Never (ReferenceFault f table) = moved (λ f t. Never (ReferenceFault f t))
    c.in_ok-names.ensures.fragment c.in_ok-names.ensures.table
    (never_else (HasUndefinedTypes names.fragment names.table) (HasUndefinedActions names.fragment names.table)
    c.in_ok-check_references.ensures.types c.in_ok-check_references.ensures.actions) in
    IfErr-weaker c.build_meanings.result (OrMemory (MeaningFault names.fragment names.table))
    (OrMemory (BuildFault f table))
    (λ e told.
    or_behind (DeclarationFault f table) (OrElse (ReferenceFault f table) (MeaningFault f table))
    c.in_ok-check_declarations.ensures.ok e
    (or_behind (ReferenceFault f table) (MeaningFault f table) references e
    (moved (λ f t. OrMemory (MeaningFault f t) e) c.in_ok-names.ensures.fragment c.in_ok-names.ensures.table told)))
    c.build_meanings.ensures.err

pub returns-clause-ok : goal.returns-clause-ok
returns-clause-ok c =
    let f = c.args.fragment.now in
    let table = c.args.table.now in
    let names = c.in_ok-names.names in
    let references : Never (ReferenceFault f table) = moved (λ f t. Never (ReferenceFault f t))
    c.in_ok-names.ensures.fragment c.in_ok-names.ensures.table
    (never_else (HasUndefinedTypes names.fragment names.table) (HasUndefinedActions names.fragment names.table)
    c.in_ok-check_references.ensures.types c.in_ok-check_references.ensures.actions) in
    on_ok_weaker c.build_meanings.result (λ none.
    never_else (DeclarationFault f table) (OrElse (ReferenceFault f table) (MeaningFault f table))
    c.in_ok-check_declarations.ensures.ok
    (never_else (ReferenceFault f table) (MeaningFault f table) references
    (moved (λ f t. Never (MeaningFault f t)) c.in_ok-names.ensures.fragment c.in_ok-names.ensures.table none)))
    c.build_meanings.ensures.ok
