use Rattle.std.proofs.Common.{ap, ◌∙◌, ◌&&◌, refl}
use Rattle.std.specs.Option.{option_map}
use Rattle.cedar_names.specs.Definitions.{action_of}
use Rattle.schema_inclusion_values.specs.Lost.{same_key}
use Rattle.schema_inclusion_types.proofs.Ties.{bytes_test}
use Rattle.schema_inclusion_check.proofs.Equal.{names_test, missing_seen}
use Rattle.schema_inclusion_check.proofs.requests.missing_action.Goals as goal

pub returns : goal.returns
returns c =
    ap (option_map action_of) c.first_missing.ensures
    ∙ missing_seen action_of _ same_key
    (λ x y. λ k. names_test _ (λ i j. refl) x.ty.name y.ty.name k && bytes_test x.eid.0 y.eid.0 k)
    c.args.old.now c.args.new.now
