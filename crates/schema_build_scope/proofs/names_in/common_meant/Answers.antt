use Rattle.std.proofs.Common.{sym, ap, ◌∙◌, subst}
use Rattle.std.specs.Prelude.{IsSome}
use Rattle.cedar_identifiers.specs.Names.{components_of}
use Rattle.cedar_names.specs.declared.extension_table.ExtensionTable.{ExtensionTable}
use Rattle.schema_resolve_definitions.specs.Declarations.{name_of}
use Rattle.schema_resolve_targets.specs.Tried.{candidate}
use Rattle.schema_build_expand.specs.Scope.{builtin}
use Rattle.schema_build_scope.specs.FragmentScope.{table_scope}
use Rattle.schema_build_scope.proofs.BuiltinNames.{undeclared_builtin}
use Rattle.schema_build_scope.proofs.names_in.common_meant.Goals as goal

pub builtin_meant-requires : goal.builtin_meant-requires
builtin_meant-requires c =
    let full = components_of (candidate (name_of c.args.ns.now) c.args.name.now c.args.is_own) in
    subst (λ (t : ExtensionTable). IsSome (builtin (table_scope t) full)) (sym c.table.ensures)
    (undeclared_builtin c.args.names.now.fragment c.args.names.now.table full c.requires c.in-None.ensures)

pub returns-in_ok-built-in-None : goal.returns-in_ok-built-in-None
returns-in_ok-built-in-None c =
    let full = components_of (candidate (name_of c.args.ns.now) c.args.name.now c.args.is_own) in
    let h = c.in_ok-built-in-None.ensures in (
      c.in-None.ensures,
      (
        h.0,
        ap (λ (t : ExtensionTable). builtin (table_scope t) full) (sym c.table.ensures) ∙ h.1,
        h.2,
      ),
    )
