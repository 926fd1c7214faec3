use Rattle.std.proofs.lemmas.Grind.{common_steps}
use Rattle.std.proofs.Common.{◌≡◌, ◌≤◌, ◌<◌, ◌-◌, length, drop, string_bytes, sym, ap, ◌∙◌, subst, arith}
use Rattle.std.specs.List.{prefix_len}
use Rattle.std.specs.Str.{IsUtf8}
use Rattle.std.proofs.lemmas.Str.{IsUtf8-take, IsUtf8-drop, IsUtf8-string_bytes}
use Rattle.std.proofs.lemmas.Bool.Decides.{nat_tests}
use Rattle.schema_syntax_tokens.specs.Escapes.{Unescapes, NoEscape, IsEscapeTo}
use Rattle.schema_syntax_tokens.specs.Steps.{is_unescaped}
use Rattle.schema_syntax_tokens.proofs.Lawful.{boundary_after_escape}
use Rattle.schema_syntax_tokens.proofs.Pieces.{HasUnescaped, HasUnescaped-plain, HasUnescaped-escape, HasUnescaped-all}
use Rattle.schema_syntax_tokens.proofs.Pieces.{HasUnescaped-stuck, boundary_at_backslash, rest_no_longer}
use Rattle.schema_syntax_tokens.proofs.escapes.unescape_pieces.Goals as goal
use Rattle.schema_syntax_tokens.proofs.escapes.unescape_pieces.Goals.{In_ok-push_str, In_ok-push-in-Some}

plain_is : (c : In_ok-push_str) → c.plain_len.result ≡ prefix_len is_unescaped c.loop-value.rest.now
plain_is c = c.plain_len.ensures ∙ ap (prefix_len is_unescaped) c.as_bytes.ensures.value

-- the bytes up to the backslash are written
written_plain : (c : In_ok-push_str)
    → HasUnescaped c.args.body.now c.split_at.result.1.now (string_bytes c.push_str.new.self)
written_plain c =
    let rest = c.loop-value.rest.now in
    let n = c.plain_len.result in
    let plain : IsUtf8 c.split_at.result.0.now = subst (λ t. IsUtf8 t) (sym c.split_at.ensures.front)
    (IsUtf8-take rest n c.loop-value.invariant.0 (boundary_at_backslash rest n (plain_is c))) in
    subst (λ t. HasUnescaped c.args.body.now c.split_at.result.1.now t) (sym c.in_ok-push_str.ensures.bytes)
    (HasUnescaped-plain c.args.body.now rest c.split_at.result.0.now c.split_at.result.1.now
    (string_bytes c.loop-value.value) n c.loop-value.invariant.1 (plain_is c) c.split_at.ensures.front
    c.split_at.ensures.back plain)

after_text : (c : In_ok-push_str) → IsUtf8 c.split_at.result.1.now
after_text c =
    let rest = c.loop-value.rest.now in
    subst (λ t. IsUtf8 t) (sym c.split_at.ensures.back)
    (IsUtf8-drop rest c.plain_len.result c.loop-value.invariant.0
    (boundary_at_backslash rest c.plain_len.result (plain_is c)))

pub split_at-requires : goal.split_at-requires
split_at-requires c = boundary_at_backslash c.loop-value.rest.now c.plain_len.result
    (c.plain_len.ensures ∙ ap (prefix_len is_unescaped) c.as_bytes.ensures.value)

pub returns-then-is_empty-clause-value : goal.returns-then-is_empty-clause-value
returns-then-is_empty-clause-value c =
    let h = written_plain (goal.at.returns-then-is_empty-clause-value c).In_ok-push_str in
    let none : length c.split_at.result.1.now ≡ 0 = grind (arith, nat_tests) in
    subst (λ cs. Unescapes c.args.body.now cs) (sym c.from_string.ensures)
    (HasUnescaped-all c.args.body.now c.split_at.result.1.now (string_bytes c.push_str.new.self) h
    (IsUtf8-string_bytes c.push_str.new.self) none)

pub returns-in-None-clause-refused : goal.returns-in-None-clause-refused
returns-in-None-clause-refused c =
    let d = (goal.at.returns-in-None-clause-refused c).In_ok-push_str in
    let h = written_plain d in
    let after = c.split_at.result.1.now in
    let some : 0 < length after = grind (arith, nat_tests) in
    let stuck : NoEscape after = subst (λ t. NoEscape t) c.as_bytes-in-loop-value.ensures.value c.in-None.ensures in
    let shorter : length after ≤ length c.args.body.now = rest_no_longer c.args.body.now after
    (string_bytes c.push_str.new.self) h in
    HasUnescaped-stuck c.args.body.now c.loop-value.rest.now after (string_bytes c.push_str.new.self)
    c.plain_len.result (length c.args.body.now - length after) h (plain_is d) c.split_at.ensures.back some stuck
    (omega arith)

-- the escape behind them
found : (c : In_ok-push-in-Some) → IsEscapeTo c.split_at.result.1.now c.in-Some.len c.in-Some.character
found c = subst (λ t. IsEscapeTo t c.in-Some.len c.in-Some.character) c.as_bytes-in-loop-value.ensures.value
    c.in-Some.ensures

pub split_at-requires-in-Some : goal.split_at-requires-in-Some
split_at-requires-in-Some c =
    let d = (goal.at.split_at-requires-in-Some c).In_ok-push_str in
    boundary_after_escape c.split_at.result.1.now c.in-Some.len c.in-Some.character (after_text d) (found c)

pub loop-value-preserved : goal.loop-value-preserved
loop-value-preserved c =
    let d = (goal.at.loop-value-preserved c).In_ok-push_str in
    let e = (goal.at.loop-value-preserved c).In_ok-push-in-Some in
    let after = c.split_at.result.1.now in
    let n = c.in-Some.len in
    let escape : IsEscapeTo after n c.in-Some.character = found e in
    let follows : IsUtf8 (drop n after) = IsUtf8-drop after n (after_text d)
    (boundary_after_escape after n c.in-Some.character (after_text d) escape) in (
      subst (λ t. IsUtf8 t) (sym c.split_at-in-Some.ensures.back) follows,
      subst (λ t. HasUnescaped c.args.body.now c.split_at-in-Some.result.1.now t)
          (sym c.in_ok-push-in-Some.ensures.bytes)
          (HasUnescaped-escape c.args.body.now after c.split_at-in-Some.result.1.now
          (string_bytes c.push_str.new.self) n c.in-Some.character (written_plain d) escape
          c.split_at-in-Some.ensures.back),
    )

pub overflow_sub-result : goal.overflow_sub-result
overflow_sub-result c = grind (arith, common_steps)
