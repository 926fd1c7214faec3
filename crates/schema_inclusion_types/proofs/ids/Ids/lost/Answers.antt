use Rattle.std.proofs.Common.{◌≡◌, ap, sym, ◌∙◌, refl}
use Rattle.std.specs.Option.{option_copied}
use Rattle.schema_build_text.proofs.Rowed.{names_go}
use Rattle.schema_inclusion_types.proofs.Looked.{lost_at, lost_looked}
use Rattle.schema_inclusion_types.proofs.ids.Ids.lost.Goals as goal

pub returns-in-Some : goal.returns-in-Some
returns-in-Some c =
    c.as_ref.ensures.value ∙ (ap (λ r. lost_at (option_copied r)) (sym c.in-Some.is)
    ∙ (ap lost_at c.get.ensures ∙ lost_looked _ (names_go _ (λ x y. refl)) c.args.name.now c.args.self.now.rows))

pub returns-in-None : goal.returns-in-None
returns-in-None c =
    ap (λ r. lost_at (option_copied r)) (sym c.in-None.is)
    ∙ (ap lost_at c.get.ensures ∙ lost_looked _ (names_go _ (λ x y. refl)) c.args.name.now c.args.self.now.rows)
