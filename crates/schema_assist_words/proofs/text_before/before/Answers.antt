use Rattle.schema_assist_words.proofs.Placing.{answer_front, answer_placed, answer_word, answer_refused}
use Rattle.schema_assist_words.proofs.text_before.before.Goals as goal

pub returns-in-Some : goal.returns-in-Some
returns-in-Some c =
    let text = c.args.text.now in
    let head = c.in-Some.head.now in
    let at = c.args.at in
    let is = c.in-Some.ensures in
    let told = c.before_end.ensures in
    let r = c.before_end.result in
    record {
      front = answer_front text head at is.0 is.1 r told.read told.standing;
      placed = answer_placed text head at is.0 is.1 r told.read;
      word = answer_word text head at is.0 is.1 r told.read;
      standing = told.standing;
      refused = answer_refused text head at is.0 is.1 r told.refused;
    }
