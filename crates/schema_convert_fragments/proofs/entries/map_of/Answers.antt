use Rattle.std.proofs.Common.{◌≡◌, rules, IfOk, subst}
use Rattle.std.proofs.lemmas.List.Sorted.{answers_always, ranks_by}
use Rattle.std.specs.Ordering.{is_lt}
use Rattle.schema_convert_fragments.proofs.StablySorted.{map_of_sorted}
use Rattle.schema_convert_fragments.proofs.entries.map_of.Goals as goal

pub returns : goal.returns
returns g c =
    let before = c.args.entries.items in
    let after = c.sort_by.new.self.items in
    let total = g.met.K.Ord.total in
    let same = map_of_sorted total before after
    (c.sort_by.ensures.stable (λ a b. is_lt (g.K.Ord.cmp a.0 b.0)) (ranks_by total (λ e. e.0))
    (answers_always _ _ _ (λ f a r g h. search rules))) in
    subst (λ made. IfOk c.from_entries.result (λ map. map ≡ made)) same c.from_entries.ensures.entries
