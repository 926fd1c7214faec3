use Rattle.std.proofs.Common.{◌∙◌, ap, map}
use Rattle.cedar_identifiers.specs.Names.{components_of}
use Rattle.cedar_names.specs.Definitions.{among}
use Rattle.cedar_names.proofs.Defined.{names_sorted, names_joined}
use Rattle.cedar_names.proofs.all_defs.add_names.Goals as goal

pub returns-clause-added : goal.returns-clause-added
returns-clause-added c = λ n.
    names_sorted _ _ c.sort_once.ensures.same n
    ∙ ap (λ l. among (map components_of l) n) c.in_ok-append.ensures.items
    ∙ names_joined c.args.names.now.items c.args.more.items n
