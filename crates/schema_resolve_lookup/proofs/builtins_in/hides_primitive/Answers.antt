use Rattle.std.proofs.Common.{refl, ap, ◌∙◌, ◌∷◌, [], codes}
use Rattle.std.specs.List.{list_any}
use Rattle.cedar_data.proofs.Ascii.{chars-from_test}
use Rattle.cedar_identifiers.specs.Words.{is_id}
use Rattle.schema_resolve_definitions.specs.Declarations.{declared}
use Rattle.schema_resolve_definitions.specs.Defined.{is_hidden}
use Rattle.schema_resolve_definitions.specs.Tests.{tests_of}
use Rattle.schema_resolve_lookup.proofs.builtins_in.hides_primitive.Goals as goal

pub is_one_hidden-requires-clause-first : goal.is_one_hidden-requires-clause-first
is_one_hidden-requires-clause-first c = ap is_id (c.in_ok-bool.ensures ∙ chars-from_test (codes "Bool") refl)

pub is_one_hidden-requires-clause-second : goal.is_one_hidden-requires-clause-second
is_one_hidden-requires-clause-second c = ap is_id (c.in_ok-long.ensures ∙ chars-from_test (codes "Long") refl)

pub is_one_hidden-requires-clause-third : goal.is_one_hidden-requires-clause-third
is_one_hidden-requires-clause-third c = ap is_id (c.in_ok-string.ensures ∙ chars-from_test (codes "String") refl)

pub returns : goal.returns
returns c =
    let bool = c.in_ok-bool.ensures ∙ chars-from_test (codes "Bool") refl in
    let long = c.in_ok-long.ensures ∙ chars-from_test (codes "Long") refl in
    let string = c.in_ok-string.ensures ∙ chars-from_test (codes "String") refl in
    c.is_one_hidden.ensures
    ∙ (λ i. list_any (is_hidden (tests_of (declared c.args.searched.now.fragment.now)))
    (bool i ∷ long i ∷ string i ∷ []))
