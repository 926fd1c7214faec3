use Rattle.std.proofs.Common.{◌≡◌, [], map, ap, ◌∙◌, subst}
use Rattle.std.specs.Prelude.{MatchOption}
use Rattle.cedar_names.specs.CanonicalText.{canonical_text}
use Rattle.schema_build_types.specs.Content.{content}
use Rattle.schema_build_text.specs.Captured.{captured_items, IsFirstOf}
use Rattle.schema_build_text.specs.Items.{item_content}
use Rattle.schema_build_text.specs.Readings.{schema_reading}
use Rattle.schema_build_text.proofs.Meant.{meaning_back}
use Rattle.schema_build_text.proofs.to_text.uncaptured_schema_text.Goals as goal

pub returns-in-Some-clause-refusal : goal.returns-in-Some-clause-refusal
returns-in-Some-clause-refusal c =
    let s = content c.args.entities.now c.args.actions.now in
    let told = c.in_ok-captured.ensures s (ap (map item_content) c.deref.ensures.value ∙ c.in_ok-items.ensures) in
    λ m stands. subst (λ t. IsFirstOf (captured_items t) c.in-Some.captured) stands
    (subst (λ found. MatchOption found (captured_items s ≡ []) (IsFirstOf (captured_items s))) c.in-Some.is told)

pub returns-clause-text : goal.returns-clause-text
returns-clause-text c =
    let s = content c.args.entities.now c.args.actions.now in
    λ m stands. c.in_ok-print_items-in-None.ensures s
    (ap (map item_content) c.deref-in-None.ensures.value ∙ c.in_ok-items.ensures)
    ∙ (ap (λ t. canonical_text (schema_reading t)) stands ∙ ap canonical_text (meaning_back m))

pub returns-clause-uncaptured : goal.returns-clause-uncaptured
returns-clause-uncaptured c =
    let s = content c.args.entities.now c.args.actions.now in
    let told = c.in_ok-captured.ensures s (ap (map item_content) c.deref.ensures.value ∙ c.in_ok-items.ensures) in
    λ m stands. subst (λ t. captured_items t ≡ []) stands
    (subst (λ found. MatchOption found (captured_items s ≡ []) (IsFirstOf (captured_items s))) c.in-None.is told)
