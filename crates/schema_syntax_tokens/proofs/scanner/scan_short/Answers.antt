use Rattle.std.proofs.lemmas.Grind.{common_steps}
use Rattle.std.proofs.Common.{◌≤◌, ◌+◌, ◌-◌, length, drop, ◌++◌, ◌∷◌, [], refl, sym, ap, ◌∙◌, subst, arith}
use Rattle.std.specs.Str.{IsUtf8}
use Rattle.std.proofs.lemmas.Str.{IsUtf8-drop}
use Rattle.schema_syntax_tokens.specs.declared.token.Token.{Token}
use Rattle.schema_syntax_tokens.proofs.Ends.{boundary_after_token}
use Rattle.schema_syntax_tokens.proofs.Whole.{HasScanned, HasScanned-more, HasScanned-all, boundary_here, rest_in_range}
use Rattle.schema_syntax_tokens.proofs.scanner.scan_short.Goals as goal

pub returns-in-None-clause-scans : goal.returns-in-None-clause-scans
returns-in-None-clause-scans c =
    let text = c.args.text.now in
    let rest = c.loop-tokens.rest.now in
    let here = c.past_blanks-here.result.now in
    let in_range : length rest ≤ length text = rest_in_range text rest here c.loop-tokens.tokens.items
    c.loop-tokens.invariant.1 in
    let shorter : length here ≤ length rest = c.past_blanks-here.ensures.shorter in
    HasScanned-all text rest here c.loop-tokens.tokens.items (length text - length here) c.loop-tokens.invariant.1
    c.past_blanks-here.ensures.skips c.past_blanks-here.ensures.stop c.in-None.ensures (omega arith)

pub returns-in-None-clause-boundary : goal.returns-in-None-clause-boundary
returns-in-None-clause-boundary c =
    let text = c.args.text.now in
    let rest = c.loop-tokens.rest.now in
    let here = c.past_blanks-here.result.now in
    let in_range : length rest ≤ length text = rest_in_range text rest here c.loop-tokens.tokens.items
    c.loop-tokens.invariant.1 in
    let shorter : length here ≤ length rest = c.past_blanks-here.ensures.shorter in
    boundary_here text rest here c.loop-tokens.tokens.items (length text - length here) c.loop-tokens.invariant.1
    c.past_blanks-here.utf8 c.past_blanks-here.ensures.skips (omega arith)

pub split_at-requires : goal.split_at-requires
split_at-requires c = boundary_after_token c.past_blanks-here.result.now c.in-Some.kind c.in-Some.len
    c.past_blanks-here.utf8 c.in-Some.ensures

pub loop-tokens-preserved : goal.loop-tokens-preserved
loop-tokens-preserved c =
    let text = c.args.text.now in
    let rest = c.loop-tokens.rest.now in
    let here = c.past_blanks-here.result.now in
    let len = c.in-Some.len in
    let in_range : length rest ≤ length text = rest_in_range text rest here c.loop-tokens.tokens.items
    c.loop-tokens.invariant.1 in
    let shorter : length here ≤ length rest = c.past_blanks-here.ensures.shorter in
    let start = length text - length here in
    let token : Token = record { kind = c.in-Some.kind; loc = record { start = start; end = start + len } } in
    let follows : IsUtf8 (drop len here) = IsUtf8-drop here len c.past_blanks-here.utf8
    (boundary_after_token here c.in-Some.kind len c.past_blanks-here.utf8 c.in-Some.ensures) in
    let items = c.loop-tokens.tokens.items in (
      subst (λ t. IsUtf8 t) (sym c.split_at.ensures.back) follows,
      subst (λ ts. HasScanned text c.split_at.result.1.now ts) (sym
          (c.in_ok-push-in-Some.ensures.items ∙ ap (λ t. items ++ t ∷ []) c.new.ensures))
          (HasScanned-more text rest here c.split_at.result.1.now items token len
          c.loop-tokens.invariant.1 c.past_blanks-here.utf8 c.past_blanks-here.ensures.skips c.in-Some.ensures
          c.split_at.ensures.back (omega arith) refl),
    )

pub overflow_sub-start : goal.overflow_sub-start
overflow_sub-start c = grind (arith, common_steps)
