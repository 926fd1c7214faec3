use Rattle.std.proofs.Common.{◌≡◌, true, false, sym, ◌∙◌}
use Rattle.cedar_identifiers.specs.Words.{is_id}
use Rattle.schema_assist_offers.proofs.Homely.{bare_begins, quoted_begins, nothing_long}
use Rattle.schema_assist_offers.proofs.actions.begins_written.Goals as goal

pub returns-then-is_bare : goal.returns-then-is_bare
returns-then-is_bare c =
    let bare : is_id c.args.id.now ≡ true = sym c.requires.bare ∙ c.if-is_bare.true in
    bare_begins c.args.id.now c.as_str.result.now c.args.front.now c.begins.result bare c.as_str.ensures.bytes
    c.begins.ensures

pub returns : goal.returns
returns c =
    let quotes : is_id c.args.id.now ≡ false = sym c.requires.bare ∙ c.if-is_bare.false in
    c.is_empty.ensures ∙ nothing_long c.args.front.now
    ∙ sym (quoted_begins c.args.id.now c.args.front.now c.requires.word quotes)
