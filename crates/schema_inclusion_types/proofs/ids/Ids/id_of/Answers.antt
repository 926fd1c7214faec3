use Rattle.std.proofs.Common.{◌≡◌, ap, sym, ◌∙◌, refl}
use Rattle.std.specs.Option.{option_copied}
use Rattle.std.proofs.lemmas.Result.{IfOk-weaker}
use Rattle.schema_build_text.proofs.Rowed.{names_go}
use Rattle.schema_inclusion_types.proofs.Looked.{id_at, id_looked}
use Rattle.schema_inclusion_types.proofs.ids.Ids.id_of.Goals as goal

pub returns-in-Some : goal.returns-in-Some
returns-in-Some c =
    IfOk-weaker c.clone_in.result _ _
    (λ copy e. e ∙ (ap (λ r. id_at (option_copied r)) (sym c.in-Some.is)
    ∙ (ap id_at c.get.ensures ∙ id_looked _ (names_go _ (λ x y. refl)) c.args.name.now c.args.self.now.rows)))
    c.clone_in.ensures

pub returns-in-None : goal.returns-in-None
returns-in-None c =
    c.new.ensures ∙ (ap (λ r. id_at (option_copied r)) (sym c.in-None.is)
    ∙ (ap id_at c.get.ensures ∙ id_looked _ (names_go _ (λ x y. refl)) c.args.name.now c.args.self.now.rows))
