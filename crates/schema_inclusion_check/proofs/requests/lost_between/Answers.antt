use Rattle.std.proofs.Common.{◌≡◌, Some, None, refl, ap, sym, ◌∙◌}
use Rattle.std.specs.Option.{option_copied, option_map}
use Rattle.cedar_identifiers.specs.Names.{components_of}
use Rattle.cedar_identifiers.specs.declared.name.Name.{Name}
use Rattle.cedar_names.specs.Definitions.{same_name}
use Rattle.schema_inclusion_values.specs.Admits.{a_request}
use Rattle.schema_inclusion_values.specs.Lost.{lost_member, lost_entries}
use Rattle.schema_inclusion_values.specs.Seen.{entries_value}
use Rattle.schema_inclusion_check.specs.Parts.{action_meaning}
use Rattle.schema_inclusion_check.proofs.Pieces.{entries_told, request_chain}
use Rattle.schema_inclusion_check.proofs.requests.lost_between.Goals as goal

pub returns-in-Some : goal.returns-in-Some
returns-in-Some c = λ m n told.
    let o = action_meaning c.args.old.now in
    let k = action_meaning c.args.new.now in
    let found = components_of c.in-Some.name.now.name in
    let f : lost_member same_name o.principals k.principals ≡ Some found =
    sym c.missing_name.ensures ∙ ap (λ r. option_map (λ (x : Name). components_of x.name)
    (option_copied r)) c.in-Some.is in
    ap Some (c.in_ok-plain_request.ensures m n told)
    ∙ sym (ap (option_map a_request) (request_chain m n o k (components_of c.args.principal.now.name)
    (components_of c.args.resource.now.name) (Some found) _ _ f refl refl))

pub returns-in-Some-missing_name : goal.returns-in-Some-missing_name
returns-in-Some-missing_name c = λ m n told.
    let o = action_meaning c.args.old.now in
    let k = action_meaning c.args.new.now in
    let found = components_of c.in-Some-missing_name.name.now.name in
    let f : lost_member same_name o.principals k.principals ≡ None =
    sym c.missing_name.ensures ∙ ap (λ r. option_map (λ (x : Name). components_of x.name)
    (option_copied r)) c.in_default.is in
    let g : lost_member same_name o.resources k.resources ≡ Some found =
    sym c.missing_name-2.ensures
    ∙ ap (λ r. option_map (λ (x : Name). components_of x.name) (option_copied r)) c.in-Some-missing_name.is in
    ap Some (c.in_ok-plain_request-2.ensures m n told)
    ∙ sym (ap (option_map a_request) (request_chain m n o k (components_of c.args.principal.now.name)
    (components_of c.args.resource.now.name) None (Some found) _ f g refl))

pub returns-in-None : goal.returns-in-None
returns-in-None c = λ m n told.
    let o = action_meaning c.args.old.now in
    let k = action_meaning c.args.new.now in
    let f : lost_member same_name o.principals k.principals ≡ None =
    sym c.missing_name.ensures ∙ ap (λ r. option_map (λ (x : Name). components_of x.name)
    (option_copied r)) c.in_default.is in
    let g : lost_member same_name o.resources k.resources ≡ None =
    sym c.missing_name-2.ensures
    ∙ ap (λ r. option_map (λ (x : Name). components_of x.name) (option_copied r)) c.in_default-missing_name.is in
    let h : lost_entries m n o.context k.context ≡ None =
    sym (entries_told c.args.ids.now.rows m n told o.context k.context c.in_ok-lost_record.field-0
    c.in_ok-lost_record.ensures) ∙ ap (option_map entries_value) c.in-None.is in
    sym (ap (option_map a_request) (request_chain m n o k (components_of c.args.principal.now.name)
    (components_of c.args.resource.now.name) None None None f g h))

pub returns-in_ok-request-in-Some-2 : goal.returns-in_ok-request-in-Some-2
returns-in_ok-request-in-Some-2 c = λ m n told.
    let o = action_meaning c.args.old.now in
    let k = action_meaning c.args.new.now in
    let found = entries_value c.in-Some-2.context in
    let f : lost_member same_name o.principals k.principals ≡ None =
    sym c.missing_name.ensures ∙ ap (λ r. option_map (λ (x : Name). components_of x.name)
    (option_copied r)) c.in_default.is in
    let g : lost_member same_name o.resources k.resources ≡ None =
    sym c.missing_name-2.ensures
    ∙ ap (λ r. option_map (λ (x : Name). components_of x.name) (option_copied r)) c.in_default-missing_name.is in
    let h : lost_entries m n o.context k.context ≡ Some found =
    sym (entries_told c.args.ids.now.rows m n told o.context k.context c.in_ok-lost_record.field-0
    c.in_ok-lost_record.ensures) ∙ ap (option_map entries_value) c.in-Some-2.is in
    ap Some (c.in_ok-request-in-Some-2.ensures m n)
    ∙ sym (ap (option_map a_request) (request_chain m n o k (components_of c.args.principal.now.name)
    (components_of c.args.resource.now.name) None None (Some found) f g h))
