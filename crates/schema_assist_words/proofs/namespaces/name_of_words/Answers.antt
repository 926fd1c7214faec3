use Rattle.std.proofs.Common.{subst, inr, [], ◌∷◌}
use Rattle.cedar_identifiers.specs.Names.{texts_of}
use Rattle.schema_assist_words.specs.Namespaces.{AreWordsAdded, written_words}
use Rattle.schema_assist_words.proofs.Named.{gathers_more, unnamed, all_gathered, named}
use Rattle.schema_assist_words.proofs.namespaces.name_of_words.Goals as goal

pub returns-then-not-branch : goal.returns-then-not-branch
returns-then-not-branch c =
    let text = c.args.text.now in
    let t = c.token-item.result in
    let old = texts_of c.loop-token.ids.items in
    let new = texts_of c.push_token.new.ids.items in
    inr (unnamed text c.args.tokens.now c.loop-token.token-index t old c.loop-token-test.true c.token-item.is
    c.loop-token.invariant
    (subst (λ b. AreWordsAdded old new (written_words text (t ∷ [])) b) c.if-not-branch.true
    c.in_ok-push_token.ensures))

pub loop-token-preserved : goal.loop-token-preserved
loop-token-preserved c =
    let text = c.args.text.now in
    let t = c.token-item.result in
    let old = texts_of c.loop-token.ids.items in
    let new = texts_of c.push_token.new.ids.items in
    gathers_more text c.args.tokens.now c.loop-token.token-index t old c.loop-token-test.true c.token-item.is
    c.loop-token.invariant new
    (subst (λ b. AreWordsAdded old new (written_words text (t ∷ [])) b) c.if-not-branch.false
    c.in_ok-push_token.ensures)

pub returns : goal.returns
returns c =
    let texts = texts_of c.loop-token.ids.items in
    named c.name_of_ids.result c.loop-token.ids.items (written_words c.args.text.now c.args.tokens.now)
    c.name_of_ids.ensures
    (all_gathered c.args.text.now c.args.tokens.now c.loop-token.token-index texts c.loop-token-test.false
    c.loop-token.invariant)
