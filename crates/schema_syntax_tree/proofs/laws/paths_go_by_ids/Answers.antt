use Rattle.std.proofs.Common.{refl}
use Rattle.cedar_identifiers.proofs.Ordered.{ids_cmp, texts_equal}
use Rattle.schema_syntax_tree.proofs.laws.paths_go_by_ids.Goals as goal

pub returns-clause-order : goal.returns-clause-order
returns-clause-order c = ids_cmp _ (λ x y. refl) c.args.a.now.ids c.args.b.now.ids

pub returns-clause-equal : goal.returns-clause-equal
returns-clause-equal c = texts_equal _ (λ x y. refl) c.args.a.now.ids c.args.b.now.ids
