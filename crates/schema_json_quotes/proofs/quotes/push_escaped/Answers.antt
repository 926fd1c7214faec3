use Rattle.std.proofs.Common.{◌≡◌, ◌++◌, take, drop, sym, ap, ◌∙◌, subst, append_assoc, string_bytes}
use Rattle.std.specs.Str.{IsUtf8}
use Rattle.std.proofs.lemmas.Result.{on_ok_weaker}
use Rattle.json.specs.Print.{escape}
use Rattle.schema_json_quotes.specs.Escapes.{NoneJsonEscaped, IsNextJsonEscape}
use Rattle.schema_json_quotes.proofs.Escaping.{escape_plain, boundary_after_escaped}
use Rattle.schema_json_quotes.proofs.Escaping.{text_after_escape, left_to_escape}
use Rattle.schema_json_quotes.proofs.quotes.push_escaped.Goals as goal
use Rattle.schema_json_quotes.proofs.quotes.push_escaped.Goals.{In_ok-push}

found : (c : In_ok-push) → IsNextJsonEscape c.loop-at.rest.now c.in-Some.at c.in-Some.escape.now
found c = subst (λ t. IsNextJsonEscape t c.in-Some.at c.in-Some.escape.now) c.as_bytes.ensures.value c.in-Some.ensures

pub split_at-requires-in-Some : goal.split_at-requires-in-Some
split_at-requires-in-Some c =
    let d = (goal.at.split_at-requires-in-Some c).In_ok-push in
    rw (c.split_at.ensures.back) (boundary_after_escaped c.loop-at.rest.now c.in-Some.escape.now c.in-Some.at
    (found d) c.loop-at.invariant.0)

pub loop-at-preserved : goal.loop-at-preserved
loop-at-preserved c =
    let d = (goal.at.loop-at-preserved c).In_ok-push in
    let now = c.loop-at.rest.now in
    let rest : c.split_at-in-Some.result.1.now ≡ drop 1 (drop c.in-Some.at now) =
    c.split_at-in-Some.ensures.back ∙ ap (λ t. drop 1 t) c.split_at.ensures.back in
    let written : string_bytes c.push-in-Some.new.out
    ≡ (string_bytes c.loop-at.out ++ take c.in-Some.at now) ++ c.in-Some.escape.now =
    c.in_ok-push-2.ensures ∙ ap (λ t. t ++ c.in-Some.escape.now)
    (c.in_ok-push.ensures ∙ ap (λ t. string_bytes c.loop-at.out ++ t) c.split_at.ensures.front) in (
      subst (λ t. IsUtf8 t) (sym rest)
          (text_after_escape now c.in-Some.escape.now c.in-Some.at (found d) c.loop-at.invariant.0),
      (λ i. written i ++ escape (rest i))
          ∙ append_assoc (string_bytes c.loop-at.out ++ take c.in-Some.at now) c.in-Some.escape.now _
          ∙ append_assoc (string_bytes c.loop-at.out) (take c.in-Some.at now) _
          ∙ sym (ap (λ t. string_bytes c.loop-at.out ++ t)
          (left_to_escape now c.in-Some.escape.now c.in-Some.at (found d)))
          ∙ c.loop-at.invariant.1,
    )

pub returns : goal.returns
returns c =
    let rest = c.loop-at.rest.now in
    let none : NoneJsonEscaped rest = subst (λ t. NoneJsonEscaped t) c.as_bytes.ensures.value c.in_default.ensures in
    on_ok_weaker c.push-2.result
    (λ ok. ok ∙ ap (λ t. string_bytes c.loop-at.out ++ t) (sym (escape_plain rest none)) ∙ c.loop-at.invariant.1)
    c.push-2.ensures
