use Rattle.std.proofs.Common.{map, subst, ap, ◌∙◌, sym}
use Rattle.std.specs.List.{All}
use Rattle.std.specs.Str.{IsUtf8}
use Rattle.std.specs.String.{string_bytes}
use Rattle.std.proofs.lemmas.List.{map_push, take_all}
use Rattle.cedar_schema_c.specs.Answers.{words_of}
use Rattle.cedar_schema_c.proofs.TextWords.{one_more, all_more, not_all}
use Rattle.cedar_schema_c.proofs.calls.texts_of.Goals as goal

pub returns-in-None : goal.returns-in-None
returns-in-None c =
    not_all c.args.words.now c.loop-word.word-index _ c.loop-word-test.true
    (rw c.in-None.is at c.in_ok-text.ensures)

pub loop-word-preserved : goal.loop-word-preserved
loop-word-preserved c =
    let text = rw c.in-Some.is at c.in_ok-text.ensures in (
      one_more c.args.words.now c.loop-word.word-index _ c.loop-word-test.true
          (map string_bytes c.loop-word.texts.items) _ (string_bytes c.in-Some.text) c.loop-word.invariant.0 text.0
          (ap (map string_bytes) c.in_ok-push-in-Some.ensures.items
          ∙ map_push string_bytes c.loop-word.texts.items c.in-Some.text),
      all_more c.args.words.now c.loop-word.word-index _ c.loop-word-test.true c.loop-word.invariant.1 text.1,
    )

pub returns : goal.returns
returns c =
    let all = take_all c.loop-word.word-index c.args.words.now c.loop-word-test.false in (
      subst (λ ws. All IsUtf8 (words_of ws)) all c.loop-word.invariant.1,
      c.loop-word.invariant.0 ∙ ap words_of all,
    )
