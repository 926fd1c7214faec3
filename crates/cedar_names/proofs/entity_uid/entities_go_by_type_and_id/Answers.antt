use Rattle.std.specs.Str.{encode_utf8_all}
use Rattle.std.specs.Cmp.{first_so, second_so}
use Rattle.std.proofs.lemmas.Slice.Eq.{bytes_eq-Decides}
use Rattle.std.proofs.lemmas.Bool.{and_from}
use Rattle.cedar_names.proofs.entity_uid.entities_go_by_type_and_id.Goals as goal

pub returns-clause-equal : goal.returns-clause-equal
returns-clause-equal c =
    let names = c.declared_names_go_by_components.ensures.equal in
    let ids = bytes_eq-Decides (encode_utf8_all c.args.a.now.eid.0) (encode_utf8_all c.args.b.now.eid.0) in
    (λ h. (names.0 (first_so _ _ h), ids.0 (second_so _ _ h)), λ (h, k). and_from _ _ (names.1 h) (ids.1 k))
