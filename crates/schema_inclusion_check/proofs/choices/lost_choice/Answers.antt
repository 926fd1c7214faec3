use Rattle.std.proofs.Common.{◌≡◌, ap, sym, ◌∙◌}
use Rattle.std.specs.Borrow.{Bor}
use Rattle.std.specs.Option.{option_copied, option_map}
use Rattle.std.specs.Str.{bytes_eq}
use Rattle.cedar_data.specs.declared.text.Text.{Text}
use Rattle.schema_inclusion_check.specs.Told.{texts_now}
use Rattle.schema_inclusion_types.proofs.Ties.{bytes_test}
use Rattle.schema_inclusion_check.proofs.Equal.{missing_seen, missing_text}
use Rattle.schema_inclusion_check.proofs.choices.lost_choice.Goals as goal

pub returns-in-Some : goal.returns-in-Some
returns-in-Some c =
    ap (λ o. option_map (λ (t : Bor Text). t.now) (option_copied o)) (sym c.in-Some.is)
    ∙ (ap (option_map (λ (t : Bor Text). t.now)) c.first_missing.ensures
    ∙ (missing_seen (λ (t : Bor Text). t.now) _ bytes_eq (λ x y. bytes_test x.now y.now) c.args.old.now c.args.new.now
    ∙ missing_text (texts_now c.args.old.now) (texts_now c.args.new.now)))

pub returns-in-None : goal.returns-in-None
returns-in-None c =
    ap (λ o. option_map (λ (t : Bor Text). t.now) (option_copied o)) (sym c.in-None.is)
    ∙ (ap (option_map (λ (t : Bor Text). t.now)) c.first_missing.ensures
    ∙ (missing_seen (λ (t : Bor Text). t.now) _ bytes_eq (λ x y. bytes_test x.now y.now) c.args.old.now c.args.new.now
    ∙ missing_text (texts_now c.args.old.now) (texts_now c.args.new.now)))
