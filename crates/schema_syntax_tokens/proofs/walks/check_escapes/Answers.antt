use Rattle.std.proofs.Common.{◌≡◌, ◌≤◌, ◌<◌, ◌-◌, [], length, drop, sym, ap, ◌∙◌, subst, arith}
use Rattle.std.specs.List.{prefix_len}
use Rattle.std.specs.Str.{IsUtf8}
use Rattle.std.proofs.lemmas.Str.{IsUtf8-drop}
use Rattle.std.proofs.lemmas.Bool.Decides.{nat_tests}
use Rattle.schema_syntax_tokens.specs.Escapes.{NoEscape, IsEscapeTo}
use Rattle.schema_syntax_tokens.specs.Steps.{is_unescaped}
use Rattle.schema_syntax_tokens.proofs.Lawful.{boundary_after_escape}
use Rattle.schema_syntax_tokens.proofs.Gone.{past_plain, all_gone}
use Rattle.schema_syntax_tokens.proofs.Pieces.{HasUnescaped-none, HasUnescaped-escape, HasUnescaped-stuck}
use Rattle.schema_syntax_tokens.proofs.Pieces.{boundary_at_backslash, rest_no_longer}
use Rattle.schema_syntax_tokens.proofs.walks.check_escapes.Goals as goal

pub loop-after-init : goal.loop-after-init
loop-after-init c = (c.utf8.body, ([], HasUnescaped-none c.args.body.now))

pub split_at-requires : goal.split_at-requires
split_at-requires c = boundary_at_backslash c.loop-after.rest.now c.plain_len.result
    (c.plain_len.ensures ∙ ap (prefix_len is_unescaped) c.as_bytes.ensures.value)

pub returns-then-is_empty-clause-value : goal.returns-then-is_empty-clause-value
returns-then-is_empty-clause-value c =
    let plain_is : c.plain_len.result ≡ prefix_len is_unescaped c.loop-after.rest.now = c.plain_len.ensures
    ∙ ap (prefix_len is_unescaped) c.as_bytes.ensures.value in
    let past = past_plain c.args.body.now c.loop-after.rest.now c.split_at.result.0.now c.split_at.result.1.now
    c.loop-after.invariant.1.0 c.plain_len.result c.loop-after.invariant.0 c.loop-after.invariant.1.1 plain_is
    c.split_at.ensures.front c.split_at.ensures.back in
    let none : length c.split_at.result.1.now ≡ 0 = grind (arith, nat_tests) in
    all_gone c.args.body.now c.split_at.result.1.now _ past.0 none

pub returns-in-None-clause-bad : goal.returns-in-None-clause-bad
returns-in-None-clause-bad c =
    let plain_is : c.plain_len.result ≡ prefix_len is_unescaped c.loop-after.rest.now = c.plain_len.ensures
    ∙ ap (prefix_len is_unescaped) c.as_bytes.ensures.value in
    let past = past_plain c.args.body.now c.loop-after.rest.now c.split_at.result.0.now c.split_at.result.1.now
    c.loop-after.invariant.1.0 c.plain_len.result c.loop-after.invariant.0 c.loop-after.invariant.1.1 plain_is
    c.split_at.ensures.front c.split_at.ensures.back in
    let after = c.split_at.result.1.now in
    let some : 0 < length after = grind (arith, nat_tests) in
    let stuck : NoEscape after = subst (λ t. NoEscape t) c.as_bytes-in-loop-after.ensures.value c.in-None.ensures in
    let shorter : length after ≤ length c.args.body.now = rest_no_longer c.args.body.now after _ past.0 in
    HasUnescaped-stuck c.args.body.now c.loop-after.rest.now after _ c.plain_len.result
    (length c.args.body.now - length after) past.0 plain_is c.split_at.ensures.back some stuck (omega arith)

pub split_at-requires-in-Some : goal.split_at-requires-in-Some
split_at-requires-in-Some c =
    let plain_is : c.plain_len.result ≡ prefix_len is_unescaped c.loop-after.rest.now = c.plain_len.ensures
    ∙ ap (prefix_len is_unescaped) c.as_bytes.ensures.value in
    let past = past_plain c.args.body.now c.loop-after.rest.now c.split_at.result.0.now c.split_at.result.1.now
    c.loop-after.invariant.1.0 c.plain_len.result c.loop-after.invariant.0 c.loop-after.invariant.1.1 plain_is
    c.split_at.ensures.front c.split_at.ensures.back in
    let found : IsEscapeTo c.split_at.result.1.now c.in-Some.len c.in-Some.field-0-0 = subst
    (λ t. IsEscapeTo t c.in-Some.len c.in-Some.field-0-0) c.as_bytes-in-loop-after.ensures.value c.in-Some.ensures in
    boundary_after_escape c.split_at.result.1.now c.in-Some.len c.in-Some.field-0-0 past.1 found

pub loop-after-preserved : goal.loop-after-preserved
loop-after-preserved c =
    let plain_is : c.plain_len.result ≡ prefix_len is_unescaped c.loop-after.rest.now = c.plain_len.ensures
    ∙ ap (prefix_len is_unescaped) c.as_bytes.ensures.value in
    let past = past_plain c.args.body.now c.loop-after.rest.now c.split_at.result.0.now c.split_at.result.1.now
    c.loop-after.invariant.1.0 c.plain_len.result c.loop-after.invariant.0 c.loop-after.invariant.1.1 plain_is
    c.split_at.ensures.front c.split_at.ensures.back in
    let after = c.split_at.result.1.now in
    let n = c.in-Some.len in
    let found : IsEscapeTo after n c.in-Some.field-0-0 = subst (λ t. IsEscapeTo t n c.in-Some.field-0-0)
    c.as_bytes-in-loop-after.ensures.value c.in-Some.ensures in
    let follows : IsUtf8 (drop n after) = IsUtf8-drop after n past.1
    (boundary_after_escape after n c.in-Some.field-0-0 past.1 found) in (
      subst (λ t. IsUtf8 t) (sym c.split_at-in-Some.ensures.back) follows,
      (
        _,
        HasUnescaped-escape c.args.body.now after c.split_at-in-Some.result.1.now _ n c.in-Some.field-0-0 past.0
            found c.split_at-in-Some.ensures.back,
      ),
    )
