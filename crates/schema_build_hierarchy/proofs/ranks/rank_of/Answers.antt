use Rattle.std.proofs.Common.{rules, Some, None, Ok, Err, refl}
use Rattle.std.proofs.lemmas.Fn.{always_returns_same}
use Rattle.schema_build_hierarchy.proofs.Ranked.{rank_is}
use Rattle.schema_build_hierarchy.proofs.ranks.rank_of.Goals as goal

pub returns-in-Ok : goal.returns-in-Ok
returns-in-Ok g c =
    rank_is g.met.K.Ord.total (λ e. e.name) c.args.entries.now c.args.name.now c.requires (Ok c.in-Ok.rank)
    (Some c.in-Ok.rank) refl c.in-Ok.ensures.bound
    (c.in-Ok.ensures.position (λ e. g.K.Ord.cmp e.name c.args.name.now)
    (always_returns_same _ _ _ (λ a r f' k. search rules)))

pub returns-in-Err : goal.returns-in-Err
returns-in-Err g c =
    rank_is g.met.K.Ord.total (λ e. e.name) c.args.entries.now c.args.name.now c.requires (Err c.in-Err.field-0)
    None refl c.in-Err.ensures.bound
    (c.in-Err.ensures.position (λ e. g.K.Ord.cmp e.name c.args.name.now)
    (always_returns_same _ _ _ (λ a r f' k. search rules)))
