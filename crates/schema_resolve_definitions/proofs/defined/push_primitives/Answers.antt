use Rattle.std.proofs.Common.{◌∙◌, refl, codes, ap}
use Rattle.cedar_identifiers.specs.Words.{is_id}
use Rattle.schema_resolve_definitions.specs.Defined.{names_of_builtin}
use Rattle.schema_resolve_definitions.specs.Tests.{tests_of}
use Rattle.cedar_data.proofs.Ascii.{chars-from_test}
use Rattle.schema_resolve_definitions.proofs.Builtins.{three_added, named_added}
use Rattle.schema_resolve_definitions.proofs.defined.push_primitives.Goals as goal

pub invariant_of-push_builtin : goal.invariant_of-push_builtin
invariant_of-push_builtin c = record { word = ap is_id (c.in_ok-bool.ensures ∙ chars-from_test (codes "Bool") refl) }

pub invariant_of-push_builtin-2 : goal.invariant_of-push_builtin-2
invariant_of-push_builtin-2 c = record { word = ap is_id (c.in_ok-long.ensures ∙ chars-from_test (codes "Long") refl) }

pub invariant_of-push_builtin-3 : goal.invariant_of-push_builtin-3
invariant_of-push_builtin-3 c =
    record { word = ap is_id (c.in_ok-string.ensures ∙ chars-from_test (codes "String") refl) }

pub returns : goal.returns
returns c =
    let t = tests_of c.args.defs.now in
    three_added _ _ _ _ (names_of_builtin t (codes "Bool")) (names_of_builtin t (codes "Long"))
    (names_of_builtin t (codes "String"))
    (named_added t _ _ _ (codes "Bool") c.in_ok-push_builtin.ensures
    (c.in_ok-bool.ensures ∙ chars-from_test (codes "Bool") refl))
    (named_added t _ _ _ (codes "Long") c.in_ok-push_builtin-2.ensures
    (c.in_ok-long.ensures ∙ chars-from_test (codes "Long") refl))
    (named_added t _ _ _ (codes "String") c.in_ok-push_builtin-3.ensures
    (c.in_ok-string.ensures ∙ chars-from_test (codes "String") refl))
