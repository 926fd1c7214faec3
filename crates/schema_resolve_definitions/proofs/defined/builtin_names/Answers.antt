use Rattle.std.proofs.Common.{◌∙◌, ◌∷◌, ◌++◌, [], codes, ap, map, sym}
use Rattle.std.specs.List.{flat_map}
use Rattle.cedar_identifiers.specs.Names.{components_of}
use Rattle.cedar_names.specs.Tables.{table_names}
use Rattle.schema_resolve_definitions.specs.Defined.{names_of_builtin, names_of_builtins}
use Rattle.schema_resolve_definitions.specs.Tests.{tests_of}
use Rattle.schema_resolve_definitions.proofs.Builtins.{all_parts}
use Rattle.schema_resolve_definitions.proofs.Sets.{given_of}
use Rattle.schema_resolve_definitions.proofs.defined.builtin_names.Goals as goal

pub returns : goal.returns
returns c =
    let t = tests_of c.args.defs.now in
    let primitives = codes "Bool" ∷ codes "Long" ∷ codes "String" ∷ [] in
    let first = c.in_ok-push_primitives.ensures
    ∙ ap (λ l. map components_of l ++ names_of_builtins t primitives) c.new-names.ensures.items in
    c.in_ok-push_extensions.ensures
    ∙ (λ i. first i ++ flat_map (λ n. names_of_builtin t n.id.text) (c.as_slice.ensures.items i))
    ∙ ap (λ l. names_of_builtins t primitives ++ l)
    (given_of (λ n. n.id.text) (names_of_builtin t) c.args.table.now.names)
    ∙ sym (all_parts t primitives (table_names c.args.table.now))
