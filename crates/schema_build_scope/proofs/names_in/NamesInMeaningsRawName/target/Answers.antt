use Rattle.std.proofs.Common.{true, false, Some, refl}
use Rattle.std.specs.Option.{option_copied}
use Rattle.std.proofs.lemmas.Result.{IfOk-weaker}
use Rattle.cedar_identifiers.specs.Names.{components_of}
use Rattle.schema_resolve_definitions.specs.Declarations.{name_of}
use Rattle.schema_resolve_definitions.specs.Defined.{defined}
use Rattle.schema_resolve_definitions.specs.Tests.{tests_of}
use Rattle.schema_resolve_targets.specs.Tried.{candidate}
use Rattle.schema_build_scope.proofs.Targets.{means_found, meant_common, meant_entity, common_meant}
use Rattle.schema_build_scope.proofs.Unreserved.{entity_free}
use Rattle.schema_build_scope.proofs.names_in.NamesInMeaningsRawName.target.Goals as goal

pub common_meant-requires : goal.common_meant-requires
common_meant-requires c =
    let f = c.args.self.now.names.now.fragment in
    let table = c.args.self.now.names.now.table in
    let ns = name_of c.args.self.now.ns.now in
    let t = tests_of (defined f table) in
    let full = candidate ns c.args.name.now.name c.find_known-meant.result.is_own in
    let meant =
    means_found (tests_of c.defs.result.now) t c.defs.ensures (option_copied c.name_of.result) ns c.name_of.ensures
    c.args.kind c.args.name.now (Some c.find_known-meant.result) c.find_known-meant.result true full
    c.find_known-meant.ensures
    refl c.if-meant.true refl in
    meant_common t ns c.args.kind c.args.name.now full meant

pub entity_target-requires : goal.entity_target-requires
entity_target-requires c =
    let f = c.args.self.now.names.now.fragment in
    let table = c.args.self.now.names.now.table in
    let ns = name_of c.args.self.now.ns.now in
    let t = tests_of (defined f table) in
    let meant =
    means_found (tests_of c.defs.result.now) t c.defs.ensures (option_copied c.name_of.result) ns c.name_of.ensures
    c.args.kind c.args.name.now (Some c.find_known-meant.result) c.find_known-meant.result false c.in_ok-full.full
    c.find_known-meant.ensures
    refl c.if-meant.false c.in_ok-full.ensures in
    entity_free f table (components_of c.in_ok-full.full)
    (meant_entity t ns c.args.kind c.args.name.now c.in_ok-full.full meant)

pub returns-then-meant : goal.returns-then-meant
returns-then-meant c =
    let f = c.args.self.now.names.now.fragment in
    let table = c.args.self.now.names.now.table in
    let ns = name_of c.args.self.now.ns.now in
    let t = tests_of (defined f table) in
    let full = candidate ns c.args.name.now.name c.find_known-meant.result.is_own in
    let meant =
    means_found (tests_of c.defs.result.now) t c.defs.ensures (option_copied c.name_of.result) ns c.name_of.ensures
    c.args.kind c.args.name.now (Some c.find_known-meant.result) c.find_known-meant.result true full
    c.find_known-meant.ensures
    refl c.if-meant.true refl in
    IfOk-weaker c.common_meant.result _ _
    (common_meant f table ns c.args.kind c.args.name.now full meant) c.common_meant.ensures
