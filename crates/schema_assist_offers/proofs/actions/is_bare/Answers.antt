use Rattle.std.proofs.Common.{Bool, not, ◌&&◌, ap, sym, ◌∙◌}
use Rattle.cedar_identifiers.specs.Words.{is_id, is_reserved}
use Rattle.cedar_identifiers.proofs.Ids.{id_by_bytes}
use Rattle.schema_assist_offers.proofs.actions.is_bare.Goals as goal

pub returns-then-is_word : goal.returns-then-is_word
returns-then-is_word c =
    ap not c.is_reserved.ensures
    ∙ (sym (ap (λ (b : Bool). b && not (is_reserved c.as_str-id.result.now))
    (sym c.is_word.ensures ∙ c.if-is_word.true))
    ∙ (ap is_id c.as_str-id.ensures.bytes ∙ id_by_bytes c.args.id.now c.as_str-id.ensures.characters))

pub returns-else-is_word : goal.returns-else-is_word
returns-else-is_word c =
    c.if-is_word.false
    ∙ (sym (ap (λ (b : Bool). b && not (is_reserved c.as_str-id.result.now))
    (sym c.is_word.ensures ∙ c.if-is_word.false))
    ∙ (ap is_id c.as_str-id.ensures.bytes ∙ id_by_bytes c.args.id.now c.as_str-id.ensures.characters))
