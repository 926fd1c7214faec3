use Rattle.std.proofs.Common.{subst}
use Rattle.schema_json_walk.specs.Parts.{type_reference}
use Rattle.schema_build_expand.specs.Ranks.{IsRankOf}
use Rattle.schema_build_expand.proofs.Ranked.{adds_nothing, adds_rank}
use Rattle.schema_build_expand.proofs.ranks.add_rank.Goals as goal

pub returns-in_ok-push : goal.returns-in_ok-push
returns-in_ok-push g c =
    let s = g.R.Meanings.scope c.args.names.now in
    let ns = g.R.Meanings.place c.args.names.now in
    let meant = subst (IsRankOf s ns c.args.kind c.args.name.now) c.in-Some.is c.in_ok-rank.ensures in
    adds_rank s ns c.args.kind c.args.name.now c.in-Some.rank c.args.ranks.now.items c.push.new.self.items meant
    c.in_ok-push.ensures.items

pub returns-in_default : goal.returns-in_default
returns-in_default g c =
    let s = g.R.Meanings.scope c.args.names.now in
    let ns = g.R.Meanings.place c.args.names.now in
    let never = subst (IsRankOf s ns c.args.kind c.args.name.now) c.in_default.is c.in_ok-rank.ensures in
    adds_nothing s ns (type_reference c.args.kind c.args.name.now) c.args.ranks.now.items never
