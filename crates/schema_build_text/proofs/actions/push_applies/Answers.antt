use Rattle.std.proofs.Common.{codes, map, sym, ◌∙◌}
use Rattle.std.proofs.lemmas.Result.{on_ok_weaker}
use Rattle.cedar_identifiers.specs.Names.{name_text}
use Rattle.cedar_names.specs.CanonicalText.{spaces}
use Rattle.schema_build_types.specs.Content.{type_content, names_content}
use Rattle.schema_build_text.specs.Growing.{adds_nothing, then, so}
use Rattle.schema_build_text.specs.Readings.{context_attributes}
use Rattle.schema_build_text.proofs.Declared.{no_principals, no_resources, both_targets, names_line}
use Rattle.schema_build_text.proofs.actions.push_applies.Goals as goal

pub returns-then-is_empty : goal.returns-then-is_empty
returns-then-is_empty c =
    so (adds_nothing c.args.text.now)
    (no_principals c.args.base c.args.principals.now c.args.resources.now
    (context_attributes (type_content c.args.context.now)) (sym c.is_empty.ensures ∙ c.if-is_empty.true))

pub returns-then-is_empty-2 : goal.returns-then-is_empty-2
returns-then-is_empty-2 c =
    so (adds_nothing c.args.text.now)
    (no_resources c.args.base c.args.principals.now c.args.resources.now
    (context_attributes (type_content c.args.context.now)) (sym c.is_empty-2.ensures ∙ c.if-is_empty-2.true))

pub returns : goal.returns
returns c =
    on_ok_weaker c.push-4.result (λ e.
    so
    (then c.in_ok-push.ensures
    (then (so c.in_ok-push_names_line.ensures (names_line (spaces c.in_ok-inner.inner) (codes "principal: ")
    (map name_text (names_content c.args.principals.now))))
    (then (so c.in_ok-push_names_line-2.ensures (names_line (spaces c.in_ok-inner.inner) (codes "resource: ")
    (map name_text (names_content c.args.resources.now))))
    (then c.in_ok-push_spaces.ensures
    (then c.in_ok-push-2.ensures (then c.in_ok-push_context.ensures
    (then c.in_ok-push-3.ensures (then c.in_ok-push_spaces-2.ensures e))))))))
    (both_targets c.args.base c.in_ok-inner.inner c.args.principals.now c.args.resources.now
    (context_attributes (type_content c.args.context.now)) c.in_ok-inner.ensures
    (sym c.is_empty.ensures ∙ c.if-is_empty.false) (sym c.is_empty-2.ensures ∙ c.if-is_empty-2.false))) c.push-4.ensures
