use Rattle.std.proofs.Common.{◌≡◌, ◌++◌, sym, ap, subst}
use Rattle.std.specs.Prelude.{OnOk}
use Rattle.cedar_identifiers.specs.declared.reference_type.ReferenceType.TheVariants.{CommonOrEntity}
use Rattle.schema_assist_offers.specs.Spellings.{spelled}
use Rattle.schema_assist_offers.specs.Homes.{question}
use Rattle.schema_assist_offers.proofs.Arms.{type_added, no_type}
use Rattle.schema_assist_offers.proofs.words.push_action_type.Goals as goal

pub returns-then-not-has_actions : goal.returns-then-not-has_actions
returns-then-not-has_actions c = λ before h.
    no_type (question c.args.asked.now) before c.args.actions.now c.args.names.now.items
    (sym c.if-not-has_actions.ensures)

pub returns : goal.returns
returns c = λ before h.
    let q = question c.args.asked.now in
    let old = c.args.names.now.items in
    let new = c.push_word.new.names.items in
    type_added c.push_word.result q before c.args.actions.now old new (sym c.if-not-has_actions.ensures)
    (subst (λ w. OnOk c.push_word.result (new ≡ old ++ spelled q CommonOrEntity before w))
    (ap (λ a. a.first.text) c.in_ok-action.ensures) (c.push_word.ensures before h))
