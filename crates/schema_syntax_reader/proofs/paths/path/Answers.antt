use Rattle.std.proofs.Common.{Some, subst, sym, ◌≡◌}
use Rattle.std.specs.List.{All, AllZip}
use Rattle.schema_syntax_reader.specs.Sites.{names_sites}
use Rattle.schema_syntax_reader.specs.Readings.{Reads}
use Rattle.schema_syntax_reader.specs.Trees.{IsId}
use Rattle.schema_syntax_reader.proofs.Scanned.{IsWord, path_parts}
use Rattle.schema_syntax_reader.proofs.paths.path.Goals as goal

pub path_of_names-requires : goal.path_of_names-requires
path_of_names-requires c =
    subst (λ p. All (IsWord c.args.text.now) p.0) (sym c.into_parts-names.ensures)
    (path_parts c.args.text.now c.args.raw c.requires).words

pub returns : goal.returns
returns c =
    subst (λ p. Reads c.args.text.now (names_sites p.0) (λ path. AllZip (IsId c.args.text.now) p.0 path.ids
    × (path.loc ≡ Some p.1)) c.path_of_names.result) c.into_parts-names.ensures c.path_of_names.ensures
