use Rattle.std.proofs.lemmas.List.Folds.{list_any-append}
use Rattle.cedar_names.specs.Definitions.{same_name}
use Rattle.schema_resolve_definitions.specs.Declarations.{declared}
use Rattle.schema_resolve_definitions.specs.Defined.{builtins, names_of_builtins}
use Rattle.schema_resolve_definitions.specs.Tests.{tests_of}
use Rattle.schema_resolve_lookup.specs.Sought.{name_sought}
use Rattle.schema_resolve_lookup.proofs.Looked.{or_passed, or_next}
use Rattle.schema_resolve_lookup.proofs.defined_in.is_common_sought.Goals as goal

pub returns-then-declares_common : goal.returns-then-declares_common
returns-then-declares_common c =
    let d = declared c.args.searched.now.fragment.now in
    or_passed _ _ _ _ c.if-declares_common.true c.declares_common.ensures
    (list_any-append (same_name (name_sought c.args.sought)) d.commons
    (names_of_builtins (tests_of d) (builtins c.args.table.now)))

pub returns-else-declares_common : goal.returns-else-declares_common
returns-else-declares_common c =
    let d = declared c.args.searched.now.fragment.now in
    or_next _ _ _ _ _ c.if-declares_common.false c.declares_common.ensures c.names_builtin.ensures
    (list_any-append (same_name (name_sought c.args.sought)) d.commons
    (names_of_builtins (tests_of d) (builtins c.args.table.now)))
