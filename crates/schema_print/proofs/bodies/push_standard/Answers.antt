use Rattle.std.proofs.Common.{ap, true}
use Rattle.std.proofs.lemmas.Result.{on_ok_weaker}
use Rattle.std.specs.Option.{option_map}
use Rattle.schema_syntax_tokens.specs.Laid.{laid}
use Rattle.laws_written.specs.Printed.{path_pieces}
use Rattle.laws_written.specs.PrintedDecls.{parents_pieces, tags_pieces}
use Rattle.schema_print_text.specs.Growing.{then, so}
use Rattle.schema_print_text.specs.PrintedTypes.{printed_type}
use Rattle.schema_print.specs.PrintedFragments.{paths_of_names, shape_type_pieces}
use Rattle.schema_print.proofs.Spelled.{three_laid}
use Rattle.schema_print.proofs.bodies.push_standard.Goals as goal

pub returns : goal.returns
returns g c =
    on_ok_weaker c.push_tags.result (λ added.
    let names = g.N.NameText.components in
    let e = c.args.standard.now in
    so
    (then (so c.in_ok-push_parents.ensures
    (ap (λ ns. laid (parents_pieces path_pieces (paths_of_names names ns))) c.as_slice.ensures))
    (then c.in_ok-push_shape.ensures added))
    (three_laid (parents_pieces path_pieces (paths_of_names names e.member_of_types))
    (shape_type_pieces true c.args.base (printed_type names e.shape.0))
    (tags_pieces true (option_map (printed_type names) e.tags)))) c.push_tags.ensures
