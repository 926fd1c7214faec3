use Rattle.std.proofs.Common.{◌≡◌, [], sym, ap, ◌∙◌, refl, length}
use Rattle.std.specs.Prelude.{nat_eq}
use Rattle.schema_syntax_reader.proofs.Chosen.{is_nothing}
use Rattle.schema_syntax_reader.proofs.Readings.{none_read, all_read}
use Rattle.schema_syntax_reader.proofs.parts.all.Goals as goal

pub returns-then-is_empty : goal.returns-then-is_empty
returns-then-is_empty g c =
    let none : c.args.raws ≡ [] = is_nothing c.args.raws
    (ap (λ l. nat_eq (length l) 0) (sym c.as_slice.ensures) ∙ (sym c.is_empty.ensures ∙ c.if-is_empty.true)) in
    all_read c.args.text.now g.P.Part.sites (g.P.Part.stands_for c.args.text.now) c.args.raws c.args.raws
    c.new.result.items none
    (none_read c.args.text.now g.P.Part.sites (g.P.Part.stands_for c.args.text.now) c.args.raws
    c.args.raws c.new.result.items refl c.new.ensures.items)
