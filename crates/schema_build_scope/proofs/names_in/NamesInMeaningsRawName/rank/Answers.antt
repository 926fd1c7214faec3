use Rattle.std.proofs.Common.{true, refl}
use Rattle.std.specs.Option.{option_copied}
use Rattle.schema_resolve_definitions.specs.Declarations.{name_of}
use Rattle.schema_resolve_definitions.specs.Defined.{defined}
use Rattle.schema_resolve_definitions.specs.Tests.{tests_of}
use Rattle.schema_resolve_targets.specs.Tried.{candidate}
use Rattle.schema_build_scope.proofs.Targets.{means_found, rank_common}
use Rattle.schema_build_scope.proofs.names_in.NamesInMeaningsRawName.rank.Goals as goal

pub returns-then-meant : goal.returns-then-meant
returns-then-meant c =
    let f = c.args.self.now.names.now.fragment in
    let table = c.args.self.now.names.now.table in
    let ns = name_of c.args.self.now.ns.now in
    let full = candidate ns c.args.name.now.name c.in-Some.meant.is_own in
    let meant =
    means_found (tests_of c.defs.result.now) (tests_of (defined f table)) c.defs.ensures
    (option_copied c.name_of.result) ns c.name_of.ensures c.args.kind c.args.name.now c.find_meant.result
    c.in-Some.meant true full c.find_meant.ensures c.in-Some.is c.if-meant.true refl in
    rank_common f table ns c.args.kind c.args.name.now full meant c.rank_meant.result c.rank_meant.ensures
