use Rattle.std.proofs.Common.{◌≡◌, true, sym, subst}
use Rattle.std.specs.Prelude.{◌↔◌}
use Rattle.cedar_identifiers.specs.Names.{components_of}
use Rattle.schema_assist_offers.proofs.Homely.{same_words}
use Rattle.schema_assist_offers.proofs.homes.is_same_name.Goals as goal

pub returns : goal.returns
returns c =
    let home = components_of c.args.home.now in
    let ns = components_of c.args.ns.now in
    same_words c.eq.result home ns
    (subst (λ b. (b ≡ true) ↔ (home ≡ ns)) (sym c.eq.ensures) c.names_go_by_components.ensures.equal)
