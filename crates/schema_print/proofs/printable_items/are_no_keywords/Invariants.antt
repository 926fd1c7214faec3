use Rattle.std.proofs.Common.{◌≡◌, not, drop}
use Rattle.std.specs.List.{list_all}
use Rattle.schema_json.specs.Keywords.{is_keyword_name}
use Rattle.schema_print.proofs.printable_items.are_no_keywords.Given as goal

abbrev pub invariant-loop-id : goal.invariant-loop-id
invariant-loop-id l =
    list_all (λ c. not (is_keyword_name c.0.id.id.text)) (drop l.id-index l.commons)
    ≡ list_all (λ c. not (is_keyword_name c.0.id.id.text)) l.commons
