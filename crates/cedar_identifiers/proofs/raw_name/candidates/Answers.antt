use Rattle.std.proofs.Common.{sym, ap, ◌∙◌, arith}
use Rattle.std.proofs.lemmas.Grind.{common_steps}
use Rattle.cedar_identifiers.specs.Candidates.{is_unqualified}
use Rattle.cedar_identifiers.proofs.raw_name.candidates.Goals as goal

pub returns-in_ok-behind-in-Some : goal.returns-in_ok-behind-in-Some
returns-in_ok-behind-in-Some c =
    let unqualified = ap is_unqualified c.in_ok-clone_in-in-Some.ensures
    ∙ (sym c.is_unqualified.ensures ∙ c.if-is_unqualified.true) in
    grind (arith, common_steps, c.in_ok-behind-in-Some.ensures unqualified)
