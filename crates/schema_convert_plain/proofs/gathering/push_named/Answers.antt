use Rattle.std.proofs.Common.{subst, sym, ◌∙◌, ◌++◌, ◌∷◌, []}
use Rattle.std.proofs.lemmas.Result.{err_from_is_err_and}
use Rattle.std.specs.List.{flat_map}
use Rattle.schema_syntax_parser.specs.Syntax.{AreAnnotations}
use Rattle.schema_syntax_reader.specs.Leaves.{AreNotes}
use Rattle.schema_syntax_reader.specs.Placed.{IsScanned}
use Rattle.schema_syntax_reader.specs.Sites.{annotations, path_sites, declared_sites}
use Rattle.schema_syntax_reader.specs.Stops.{IsStopped}
use Rattle.schema_syntax_reader.proofs.Readings.{Faultless, stopped_left, stopped_right, both_faultless}
use Rattle.schema_convert_plain.proofs.gathering.push_named.Goals as goal

pub notes-requires : goal.notes-requires
notes-requires c = subst (IsScanned AreAnnotations c.args.text.now) (sym c.as_slice.ensures) c.requires.list

pub returns-in_err-noted-clause-fault : goal.returns-in_err-noted-clause-fault
returns-in_err-noted-clause-fault c =
    let p = err_from_is_err_and c.from_residual.result c.from_residual.ensures.1 in
    rw (p.1, p.2) (stopped_left c.args.text.now (annotations c.args.list ∷ [])
    (path_sites c.args.name ++ flat_map declared_sites c.args.raws) c.in_err-noted.field-0.0
    (subst (λ l. IsStopped c.args.text.now (annotations l ∷ []) c.in_err-noted.field-0.0) c.as_slice.ensures
    c.in_err-noted.ensures))

pub returns-in_err-path-clause-fault : goal.returns-in_err-path-clause-fault
returns-in_err-path-clause-fault c =
    let p = err_from_is_err_and c.from_residual-in_err-path.result c.from_residual-in_err-path.ensures.1 in
    rw (p.1, p.2) (stopped_right c.args.text.now (annotations c.args.list ∷ [])
    (path_sites c.args.name ++ flat_map declared_sites c.args.raws) c.in_err-path.field-0.0
    (subst (λ l. Faultless c.args.text.now (annotations l ∷ [])) c.as_slice.ensures c.in_ok-noted.ensures.1)
    (stopped_left c.args.text.now (path_sites c.args.name) (flat_map declared_sites c.args.raws)
    c.in_err-path.field-0.0 c.in_err-path.ensures))

pub returns-in_err-definition-clause-fault : goal.returns-in_err-definition-clause-fault
returns-in_err-definition-clause-fault c =
    let p = err_from_is_err_and c.from_residual-in_err-definition.result
    c.from_residual-in_err-definition.ensures.1 in
    rw (p.1, p.2) (stopped_right c.args.text.now (annotations c.args.list ∷ path_sites c.args.name)
    (flat_map declared_sites c.args.raws) c.in_err-definition.field-0.0
    (both_faultless c.args.text.now (annotations c.args.list ∷ []) (path_sites c.args.name)
    (subst (λ l. Faultless c.args.text.now (annotations l ∷ [])) c.as_slice.ensures c.in_ok-noted.ensures.1)
    c.in_ok-path.ensures.1)
    c.in_err-definition.ensures.fault)

pub returns-clause-added : goal.returns-clause-added
returns-clause-added c plain =
    let listed = subst (λ l. AreNotes c.args.text.now l c.in_ok-noted.noted.0) c.as_slice.ensures
    c.in_ok-noted.ensures.0 in
    record {
      path = c.in_ok-path.path;
      notes = c.in_ok-annotations.annotations;
      key = c.in-Some-2.key;
      definition = c.in-Some.definition;
      names = c.in_ok-path.ensures.0;
      noted = subst (λ n. AreNotes c.args.text.now c.args.list n.0) (sym c.in_ok-annotations.ensures) listed;
      lawful = both_faultless c.args.text.now (annotations c.args.list ∷ []) (path_sites c.args.name)
          (subst (λ l. Faultless c.args.text.now (annotations l ∷ [])) c.as_slice.ensures c.in_ok-noted.ensures.1)
          c.in_ok-path.ensures.1;
      free = sym c.is_reserved_path.ensures ∙ c.if-is_reserved_path.false;
      keyed = sym c.in_ok-key.ensures ∙ c.in-Some-2.is;
      read = rw c.in-Some.is at c.in_ok-definition.ensures.found;
      entry = c.in_ok-push.ensures.items;
    }
