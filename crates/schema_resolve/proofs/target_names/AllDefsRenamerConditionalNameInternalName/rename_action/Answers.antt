use Rattle.std.proofs.Common.{◌≡◌, ◌∷◌, [], None, ap, sym, ◌∙◌, refl}
use Rattle.std.specs.Option.{option_copied}
use Rattle.schema_resolve_definitions.specs.Tests.{tests_of}
use Rattle.schema_resolve_targets.specs.Targets.{action_target, untargeted_action}
use Rattle.schema_resolve.proofs.target_names.AllDefsRenamerConditionalNameInternalName.rename_action.Goals as goal

pub returns-in_ok-new-in-None-clause-err : goal.returns-in_ok-new-in-None-clause-err
returns-in_ok-new-in-None-clause-err c =
    let uid = c.args.uid.now in
    let none : action_target (tests_of c.args.self.now) uid.id uid.ty
    ≡ None = ap (action_target (tests_of c.args.self.now) uid.id) c.ty.ensures
    ∙ (sym c.first_action.ensures ∙ ap option_copied c.in-None.is) in
    c.in_ok-new-in-None.ensures.named (untargeted_action (tests_of c.args.self.now) uid.id uid.ty)
    (rw none (uid, c.new.ensures ∙ ap (λ x. x ∷ []) c.in_ok-clone_in-in-None.ensures, refl, refl))
