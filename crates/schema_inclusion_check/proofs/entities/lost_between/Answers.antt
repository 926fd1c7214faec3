use Rattle.std.proofs.Common.{◌≡◌, Some, None, refl, ap, sym, ◌∙◌}
use Rattle.std.specs.Option.{option_map}
use Rattle.schema_inclusion_values.specs.Admits.{an_entity}
use Rattle.schema_inclusion_values.specs.Ids.{first_id, lost_id}
use Rattle.schema_inclusion_values.specs.Lost.{first_refused, lost_entries, lost_tags, lost_parent}
use Rattle.schema_inclusion_values.specs.Seen.{entries_value}
use Rattle.schema_inclusion_check.specs.Parts.{entity_meaning}
use Rattle.schema_inclusion_check.specs.Told.{parent_value}
use Rattle.schema_inclusion_check.proofs.Pieces.{entries_told, chain}
use Rattle.schema_inclusion_check.proofs.entities.lost_between.Goals as goal

pub returns-in-Some : goal.returns-in-Some
returns-in-Some c = λ m n told.
    let o = entity_meaning c.args.old.now in
    let k = entity_meaning c.args.new.now in
    let p : first_refused (first_id o.choices) k.choices ≡ Some c.in-Some.id = sym c.in_ok-id.ensures ∙ c.in-Some.is in
    ap Some (c.in_ok-with_id.ensures m n told)
    ∙ sym (ap (option_map an_entity) (chain m n o k (Some c.in-Some.id) _ _ _ _ p refl refl refl refl))

pub returns-in-Some-2 : goal.returns-in-Some-2
returns-in-Some-2 c = λ m n told.
    let o = entity_meaning c.args.old.now in
    let k = entity_meaning c.args.new.now in
    let p : first_refused (first_id o.choices) k.choices ≡ None = sym c.in_ok-id.ensures ∙ c.in_default.is in
    let q : lost_entries m n o.attributes k.attributes ≡ Some (entries_value c.in-Some-2.attrs) =
    sym (entries_told c.args.ids.now.rows m n told o.attributes k.attributes c.in_ok-attrs.field-0
    c.in_ok-attrs.ensures) ∙ ap (option_map entries_value) c.in-Some-2.is in
    ap Some (c.in_ok-with_attributes.ensures m n)
    ∙ sym (ap (option_map an_entity)
    (chain m n o k None (Some (entries_value c.in-Some-2.attrs)) _ _ _ p q refl refl refl))

pub returns-in-Some-3 : goal.returns-in-Some-3
returns-in-Some-3 c = λ m n told.
    let o = entity_meaning c.args.old.now in
    let k = entity_meaning c.args.new.now in
    let p : first_refused (first_id o.choices) k.choices ≡ None = sym c.in_ok-id.ensures ∙ c.in_default.is in
    let q : lost_entries m n o.attributes k.attributes ≡ None =
    sym (entries_told c.args.ids.now.rows m n told o.attributes k.attributes c.in_ok-attrs.field-0
    c.in_ok-attrs.ensures) ∙ ap (option_map entries_value) c.in_default-2.is in
    let r : lost_tags m n o.tags k.tags ≡ Some (entries_value c.in-Some-3.tags) =
    sym (c.in_ok-tags.ensures m n told) ∙ ap (option_map entries_value) c.in-Some-3.is in
    ap Some (c.in_ok-with_tags.ensures m n told)
    ∙ sym (ap (option_map an_entity)
    (chain m n o k None None (Some (entries_value c.in-Some-3.tags)) _ _ p q r refl refl))

pub returns-in-Some-4 : goal.returns-in-Some-4
returns-in-Some-4 c = λ m n told.
    let o = entity_meaning c.args.old.now in
    let k = entity_meaning c.args.new.now in
    let p : first_refused (first_id o.choices) k.choices ≡ None = sym c.in_ok-id.ensures ∙ c.in_default.is in
    let q : lost_entries m n o.attributes k.attributes ≡ None =
    sym (entries_told c.args.ids.now.rows m n told o.attributes k.attributes c.in_ok-attrs.field-0
    c.in_ok-attrs.ensures) ∙ ap (option_map entries_value) c.in_default-2.is in
    let r : lost_tags m n o.tags k.tags ≡ None =
    sym (c.in_ok-tags.ensures m n told) ∙ ap (option_map entries_value) c.in_default-3.is in
    let s : lost_parent m n o.ancestors k.ancestors ≡ Some (parent_value c.in-Some-4.parent) =
    sym (c.in_ok-parent.ensures m n told) ∙ ap (option_map parent_value) c.in-Some-4.is in
    ap Some (c.in_ok-with_parent.ensures m n told)
    ∙ sym (ap (option_map an_entity)
    (chain m n o k None None None (Some (parent_value c.in-Some-4.parent)) _ p q r s refl))

pub returns-in_ok-with_id-in-Some-5 : goal.returns-in_ok-with_id-in-Some-5
returns-in_ok-with_id-in-Some-5 c = λ m n told.
    let o = entity_meaning c.args.old.now in
    let k = entity_meaning c.args.new.now in
    let p : first_refused (first_id o.choices) k.choices ≡ None = sym c.in_ok-id.ensures ∙ c.in_default.is in
    let q : lost_entries m n o.attributes k.attributes ≡ None =
    sym (entries_told c.args.ids.now.rows m n told o.attributes k.attributes c.in_ok-attrs.field-0
    c.in_ok-attrs.ensures) ∙ ap (option_map entries_value) c.in_default-2.is in
    let r : lost_tags m n o.tags k.tags ≡ None =
    sym (c.in_ok-tags.ensures m n told) ∙ ap (option_map entries_value) c.in_default-3.is in
    let s : lost_parent m n o.ancestors k.ancestors ≡ None =
    sym (c.in_ok-parent.ensures m n told) ∙ ap (option_map parent_value) c.in_default-4.is in
    let t : lost_id o.choices k.choices ≡ Some c.in-Some-5.id = sym c.in_ok-id-2.ensures ∙ c.in-Some-5.is in
    ap Some (c.in_ok-with_id-in-Some-5.ensures m n told)
    ∙ sym (ap (option_map an_entity) (chain m n o k None None None None (Some c.in-Some-5.id) p q r s t))

pub returns-in-None : goal.returns-in-None
returns-in-None c = λ m n told.
    let o = entity_meaning c.args.old.now in
    let k = entity_meaning c.args.new.now in
    let p : first_refused (first_id o.choices) k.choices ≡ None = sym c.in_ok-id.ensures ∙ c.in_default.is in
    let q : lost_entries m n o.attributes k.attributes ≡ None =
    sym (entries_told c.args.ids.now.rows m n told o.attributes k.attributes c.in_ok-attrs.field-0
    c.in_ok-attrs.ensures) ∙ ap (option_map entries_value) c.in_default-2.is in
    let r : lost_tags m n o.tags k.tags ≡ None =
    sym (c.in_ok-tags.ensures m n told) ∙ ap (option_map entries_value) c.in_default-3.is in
    let s : lost_parent m n o.ancestors k.ancestors ≡ None =
    sym (c.in_ok-parent.ensures m n told) ∙ ap (option_map parent_value) c.in_default-4.is in
    let t : lost_id o.choices k.choices ≡ None = sym c.in_ok-id-2.ensures ∙ c.in-None.is in
    sym (ap (option_map an_entity) (chain m n o k None None None None None p q r s t))
