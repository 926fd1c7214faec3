use Rattle.std.proofs.Common.{rules, sym, ◌∙◌, ap, subst, arith, take, drop, length, ◌++◌, ◌≡◌}
use Rattle.std.specs.List.{All}
use Rattle.std.proofs.lemmas.List.{take-append-drop}
use Rattle.std.proofs.lemmas.Bool.{iff_false}
use Rattle.std.proofs.lemmas.Grind.{common_steps}
use Rattle.std.specs.Char.{encode_utf8}
use Rattle.std.specs.String.{string_bytes}
use Rattle.schema_syntax_tokens.specs.Scans.{IsInLine, EndsLine}
use Rattle.schema_syntax_tokens.specs.Steps.{StartsComment}
use Rattle.schema_layout_pieces.proofs.Steps.{step_blank, step_note}
use Rattle.schema_layout_pieces.proofs.writer.push_comments.Goals as goal

pub loop-rest-preserved-then-starts_comment : goal.loop-rest-preserved-then-starts_comment
loop-rest-preserved-then-starts_comment c =
    let n = c.line_len.result in
    let rest = c.loop-rest.rest.now in
    let front : take n c.as_bytes-then-starts_comment.result.now ≡ c.split_at.result.0.now =
    ap (λ r. take n r) c.as_bytes-then-starts_comment.ensures.value ∙ sym c.split_at.ensures.front in
    let back : drop n c.as_bytes-then-starts_comment.result.now ≡ c.split_at.result.1.now =
    ap (λ r. drop n r) c.as_bytes-then-starts_comment.ensures.value ∙ sym c.split_at.ensures.back in
    let whole_rest : rest ≡ c.split_at.result.0.now ++ c.split_at.result.1.now =
    sym (take-append-drop n rest) ∙ (λ i. sym c.split_at.ensures.front i ++ sym c.split_at.ensures.back i) in (
      search rules,
      grind (arith, common_steps),
      λ whole h. step_note c.args.keeps whole (string_bytes c.loop-rest.text) (string_bytes c.push_comment.new.text)
          c.loop-rest.context c.push_comment.new.context c.loop-rest.near c.loop-rest.feeds
          c.has_kept_line.result rest c.split_at.result.0.now
          c.split_at.result.1.now
          (subst (λ r. StartsComment r) c.as_bytes.ensures.value
          (c.starts_comment.ensures.0 c.if-starts_comment.true)) whole_rest
          (subst (λ l. All IsInLine l) front c.line_len.ensures.line)
          (subst (λ l. EndsLine l) back c.line_len.ensures.stop) c.has_kept_line.ensures
          c.in_ok-push_comment.ensures.text
          c.in_ok-push_comment.ensures.context (c.loop-rest.invariant.2 whole h),
    )

pub returns-in-None-clause-stop : goal.returns-in-None-clause-stop
returns-in-None-clause-stop c =
    (rw c.in-None.is at c.first_blank.ensures.cases) (λ s. iff_false c.starts_comment.ensures c.if-starts_comment.false
    (subst (λ t. StartsComment t) (sym c.as_bytes.ensures.value) s))

pub loop-rest-preserved : goal.loop-rest-preserved
loop-rest-preserved c =
    let found = rw c.in-Some.is at c.first_blank.ensures.cases in (
      search rules,
      grind (arith, common_steps),
      λ whole h. step_blank c.args.keeps whole (string_bytes c.loop-rest.text) c.loop-rest.context c.loop-rest.near
          c.stays_near-near.result c.loop-rest.feeds c.fed-feeds.result c.in-Some.first c.loop-rest.rest.now
          c.in-Some.after.now found.0 found.1 c.stays_near-near.ensures c.fed-feeds.ensures
          (c.loop-rest.invariant.2 whole h),
    )
