use Rattle.std.proofs.Common.{rules, [], ◌++◌, ◌≡◌, false, refl, sym, ap, ◌∙◌}
use Rattle.std.specs.String.{string_bytes}
use Rattle.schema_syntax_tokens.proofs.Ends.{boundary_after_token}
use Rattle.schema_layout_pieces.specs.Layout.{beginning, last_end}
use Rattle.schema_layout_pieces.specs.declared.context.Feeds.TheVariants.{NoFeed}
use Rattle.schema_layout_pieces.specs.Kept.{kept_behind}
use Rattle.schema_layout_pieces.specs.Writing.{IsWhole}
use Rattle.schema_layout_pieces.proofs.Fixed.{spaced_pieces}
use Rattle.schema_layout_pieces.proofs.Steps.{step_end, step_token}
use Rattle.schema_layout_pieces.proofs.writer.write_layout.Goals as goal

pub split_at-requires : goal.split_at-requires
split_at-requires c =
    boundary_after_token c.in_ok-here.here.now c.in-Some.kind c.in-Some.len c.in_ok-here.ensures.utf8 c.in-Some.ensures

pub loop-context-preserved : goal.loop-context-preserved
loop-context-preserved c = (
  search rules,
  λ whole h.
      let here = c.in_ok-here.ensures.whole whole (c.loop-context.invariant.1 whole h) in
      step_token c.args.keeps whole (string_bytes c.push_comments.new.text) (string_bytes c.push_token.new.text)
      c.push_comments.new.context c.push_token.new.context here.0 c.in_ok-here.feeds c.has_kept_line-spaced.result
      c.in-Some.kind c.in-Some.len c.in_ok-here.here.now c.split_at.result.0.now c.split_at.result.1.now
      c.in-Some.ensures c.split_at.ensures.front c.split_at.ensures.back c.has_kept_line-spaced.ensures
      c.in_ok-push_token-in-Some.ensures.text c.in_ok-push_token-in-Some.ensures.context here.1,
)

pub returns-in-None : goal.returns-in-None
returns-in-None c =
    let ps = spaced_pieces c.args.text.now c.requires.pieces in
    let all = kept_behind c.args.keeps beginning ps.0 in
    let start : IsWhole c.args.keeps all [] beginning false NoFeed c.args.text.now = (ps.0, ps.1, refl) in
    let here = c.in_ok-here.ensures.whole all (c.loop-context.invariant.1 all start) in
    let written = string_bytes c.push_comments.new.text in
    let end : all ≡ written ++ last_end c.push_comments.new.context.last =
    step_end c.args.keeps all written c.push_comments.new.context here.0 c.in_ok-here.feeds c.in_ok-here.here.now
    c.in_ok-here.ensures.stop c.in-None.ensures here.1 in
    let last : ◌≡◌ (written ++ last_end c.last.result) (written ++ last_end c.push_comments.new.context.last) =
    ap (λ l. written ++ last_end l) c.last.ensures in
    (ps.0, ps.1, c.in_ok-whole-in-None.ensures ∙ (last ∙ sym end))
