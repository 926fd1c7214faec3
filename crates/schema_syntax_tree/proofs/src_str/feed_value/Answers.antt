use Rattle.schema_syntax_tokens.specs.Values.{NoPiece}
use Rattle.schema_syntax_tree.proofs.Fed.{IsFedTo-more, IsFedTo-all}
use Rattle.schema_syntax_tree.proofs.src_str.feed_value.Goals as goal

pub loop-character-preserved : goal.loop-character-preserved
loop-character-preserved g c = (
  c.in-Some.ensures.text,
  IsFedTo-more g.H.Hasher.write c.args.state.now c.loop-character.state c.hash.new.state c.args.body.now
      c.loop-character.rest.now c.in-Some.after.now c.in-Some.character c.in-Some.ensures.cases c.hash.ensures
      c.loop-character.invariant.1,
)

pub returns : goal.returns
returns g c =
    let none : NoPiece c.loop-character.rest.now = c.in_default.ensures.cases in
    IsFedTo-all g.H.Hasher.write c.args.state.now c.loop-character.state c.args.body.now c.loop-character.rest.now
    none c.loop-character.invariant.1
