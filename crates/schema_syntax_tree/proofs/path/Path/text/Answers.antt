use Rattle.std.proofs.Common.{◌≡◌, ◌∷◌, ◌++◌, sym, ap, ◌∙◌, codes}
use Rattle.cedar_identifiers.proofs.Joins.{separator_chars}
use Rattle.schema_syntax_tree.specs.Paths.{ids_left}
use Rattle.schema_syntax_tree.proofs.Joins.{begun, one_more}
use Rattle.schema_syntax_tree.proofs.path.Path.text.Goals as goal

pub loop-id-init : goal.loop-id-init
loop-id-init c =
    let first : c.args.self.now.ids
    ≡ c.in-Some.first.now ∷ ids_left c.into_iter-id-iterator.result = sym c.iter-ids.ensures
    ∙ (c.in-Some.ensures.steps ∙ ap (λ it. c.in-Some.first.now ∷ ids_left it)
    (sym c.into_iter-id-iterator.ensures.into_iter_gives)) in
    begun (codes "::") c.in_ok-text.text c.in-Some.first.now _ c.args.self.now.ids
    (c.in_ok-text.ensures ∙ c.as_str.ensures.characters) first

pub loop-id-preserved : goal.loop-id-preserved
loop-id-preserved c =
    let separated : c.push_str.new.self ≡ c.loop-id.text ++ codes "::" = c.in_ok-push_str.ensures.ok
    ∙ ap (λ s. c.loop-id.text ++ s) separator_chars in
    one_more (codes "::") c.loop-id.text _ _ c.in-Some-id.id.now _ _
    (c.in_ok-push_str-2.ensures.ok
    ∙ (ap (λ s. c.push_str.new.self ++ s) c.as_str-in-loop-id.ensures.characters
    ∙ ap (λ t. t ++ c.in-Some-id.id.now.text) separated)) c.in-Some-id.ensures.steps c.loop-id.invariant
