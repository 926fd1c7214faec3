use Rattle.std.proofs.Common.{refl, ap, ◌∙◌}
use Rattle.std.proofs.lemmas.Result.{on_ok_weaker}
use Rattle.schema_build_text.specs.Growing.{so, adds_nothing}
use Rattle.schema_build_text.specs.Rows.{sorted_once}
use Rattle.schema_build_text.proofs.Rowed.{least_shown, none_shown, none_left, names_go}
use Rattle.schema_build_text.proofs.rows.push_least.Goals as goal

pub returns-in-Some : goal.returns-in-Some
returns-in-Some c =
    on_ok_weaker c.push_name.result
    (λ e. so e (least_shown _ (names_go _ (λ x y. refl)) c.args.names.now c.in_ok-lent.lent.items c.in_ok-set.set.keys
    c.pop_first.new.self.keys c.in-Some.name c.in_ok-lent.ensures
    (c.in_ok-set.ensures ∙ ap (sorted_once _) c.deref.ensures.value) c.in-Some.ensures.removal))
    c.push_name.ensures

pub returns : goal.returns
returns c =
    so (adds_nothing c.args.text.now)
    (none_shown _ (names_go _ (λ x y. refl)) c.args.names.now c.in_ok-lent.lent.items c.in_ok-set.set.keys
    c.in_ok-lent.ensures (c.in_ok-set.ensures ∙ ap (sorted_once _) c.deref.ensures.value)
    (none_left c.in_ok-set.set.keys (λ h. c.in-None.ensures.variant.1 h)))
