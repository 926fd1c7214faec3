use Rattle.std.proofs.Common.{subst, sym}
use Rattle.std.specs.Option.{option_copied}
use Rattle.schema_assist_words.specs.Namespaces.{IsNameOfWords}
use Rattle.schema_assist_offers.specs.Spellings.{IsWordOrNothing}
use Rattle.schema_assist.specs.Assistance.{words_around}
use Rattle.schema_assist.proofs.Behind.{if_ok, offered_names}
use Rattle.schema_assist.proofs.assistance.names_at.Goals as goal

pub offers-requires : goal.offers-requires
offers-requires c = subst (λ w. IsWordOrNothing w) (sym c.word_at-word.ensures) c.requires.word.word

pub returns-clause-offered : goal.returns-clause-offered
returns-clause-offered c =
    let text = c.args.text.now in
    let front = c.args.front.now in
    let words = words_around text front c.args.place.space in
    let ns = option_copied c.as_ref.result in
    let named = subst (λ o. IsNameOfWords words o) (sym c.as_ref.ensures.value) c.in_ok-ns.ensures in
    if_ok c.offers.result _ _
    (λ v each. offered_names c.args.known.now c.args.table.now text front c.args.partial.now
    c.offered_in_no_namespace.ensures ns words named c.args.place.role c.word_at-word.result.now
    c.word_at-word.ensures v.items each) c.offers.ensures.offered
