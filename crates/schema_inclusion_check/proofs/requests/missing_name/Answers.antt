use Rattle.std.proofs.Common.{ap, ◌∙◌, refl}
use Rattle.std.specs.Option.{option_map}
use Rattle.cedar_identifiers.specs.Names.{components_of}
use Rattle.cedar_identifiers.specs.declared.name.Name.{Name}
use Rattle.cedar_names.specs.Definitions.{same_name}
use Rattle.schema_inclusion_check.proofs.Equal.{names_test, missing_seen}
use Rattle.schema_inclusion_check.proofs.requests.missing_name.Goals as goal

pub returns : goal.returns
returns c =
    ap (option_map (λ (n : Name). components_of n.name)) c.first_missing.ensures
    ∙ missing_seen (λ (n : Name). components_of n.name) _ same_name
    (λ x y. names_test _ (λ i j. refl) x.name y.name) c.args.old.now c.args.new.now
