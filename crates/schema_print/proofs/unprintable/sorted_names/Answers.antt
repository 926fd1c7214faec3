use Rattle.std.proofs.Common.{length, sym, ap, ◌∙◌}
use Rattle.std.proofs.lemmas.List.{nil_from_length}
use Rattle.std.proofs.lemmas.List.Sorted.{length_permutation}
use Rattle.schema_print.proofs.Wanted.{sorted_by}
use Rattle.schema_print.proofs.unprintable.sorted_names.Goals as goal

pub returns-in-None : goal.returns-in-None
returns-in-None c =
    nil_from_length c.args.names.items
    (sym (length_permutation c.args.names.items c.sort.new.self.items c.sort.ensures.permutation)
    ∙ ap length c.in-None.ensures.none)

pub returns-in-Some : goal.returns-in-Some
returns-in-Some c =
    sorted_by _ c.args.names.items c.sort.new.self.items c.in-Some.sorted c.in_ok-sort.ensures.sorted
    c.sort.ensures.permutation c.in-Some.ensures.some.0
