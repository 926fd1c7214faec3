use Rattle.std.proofs.Common.{Bool, not, ◌&&◌, ap, sym, ◌∙◌}
use Rattle.cedar_identifiers.specs.Words.{is_id, is_reserved}
use Rattle.cedar_identifiers.proofs.Ids.{id_by_bytes}
use Rattle.schema_inclusion_shown.proofs.keys.is_bare.Goals as goal

pub returns-then-is_word : goal.returns-then-is_word
returns-then-is_word c =
    ap not c.is_reserved.ensures
    ∙ (sym (ap (λ (b : Bool). b && not (is_reserved c.as_str-name.result.now))
    (sym c.is_word.ensures ∙ c.if-is_word.true))
    ∙ (ap is_id c.as_str-name.ensures.bytes ∙ id_by_bytes c.args.name.now c.as_str-name.ensures.characters))

pub returns-else-is_word : goal.returns-else-is_word
returns-else-is_word c =
    c.if-is_word.false
    ∙ (sym (ap (λ (b : Bool). b && not (is_reserved c.as_str-name.result.now))
    (sym c.is_word.ensures ∙ c.if-is_word.false))
    ∙ (ap is_id c.as_str-name.ensures.bytes ∙ id_by_bytes c.args.name.now c.as_str-name.ensures.characters))
