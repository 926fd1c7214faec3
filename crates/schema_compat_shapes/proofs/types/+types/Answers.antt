use Rattle.std.proofs.Common.{◌≡◌, ◌≤◌, true, [], ◌∷◌, ◌++◌, sym, ap, ◌∙◌, subst, append_assoc, rules}
use Rattle.std.specs.Prelude.{codes}
use Rattle.serde_json.specs.Data.{object, depth, members_depth}
use Rattle.serde_json.specs.View.{view, members_view}
use Rattle.serde_json.proofs.Views.{Entry}
use Rattle.schema_compat_types.specs.declared.types.SchemaType.TheVariants.{TypeDef}
use Rattle.schema_compat_types.specs.declared.types.SchemaTypeVariant.TheVariants as variant
use Rattle.schema_json_shapes.specs.Said.{HasWord, IsText}
use Rattle.schema_json_shapes.proofs.Typed.{below, entry_below}
use Rattle.schema_compat_shapes.specs.OldTypes.{are_all_attributes, reads_as_shape, SaysOldType, SaysOldVariant}
use Rattle.schema_compat_shapes.specs.OldTypes.{old_string, old_long, old_boolean, old_set, old_variant, old_reference}
use Rattle.schema_compat_shapes.specs.OldParts.{IsOldAttribute}
use Rattle.schema_json_shapes.proofs.EntriesAhead.{none_yet, one_more, all_read}
use Rattle.schema_compat_shapes.proofs.OldWords.{next_attribute, attributes_said, record_said}
use Rattle.schema_compat_shapes.proofs.types.+types.Goals as goal

-- ---- an object

pub read_type-returns-in_ok-read_variant : goal.read_type-returns-in_ok-read_variant
read_type-returns-in_ok-read_variant t c =
    let ms = members_view c.args.members.now.entries in
    let text = c.text_in-text.result.now in
    let told = c.reads_as_shape.ensures ∙ ap (λ w. reads_as_shape c.args.as_attribute w ms) c.word_of-word.ensures in
    old_variant c.args.as_attribute ms text c.in_ok-read_variant.field-0 c.text_in-text.ensures
    (sym told ∙ c.if-reads_as_shape.true) c.in_ok-read_variant.ensures

pub read_type-returns-in_ok-type_name : goal.read_type-returns-in_ok-type_name
read_type-returns-in_ok-type_name t c =
    let ms = members_view c.args.members.now.entries in
    let text = c.text_in-text.result.now in
    let told = c.reads_as_shape.ensures ∙ ap (λ w. reads_as_shape c.args.as_attribute w ms) c.word_of-word.ensures in
    subst (λ n. SaysOldType c.args.as_attribute ms (TypeDef n)) (sym c.in_ok-type_name.ensures)
    (old_reference c.args.as_attribute ms text c.text_in-text.ensures (sym told ∙ c.if-reads_as_shape.false))

-- ---- its shape

pub read_variant-returns-in-String : goal.read_variant-returns-in-String
read_variant-returns-in-String t c =
    let ms = members_view c.args.members.now.entries in
    old_string ms (subst (HasWord ms) c.in-String.is c.requires.word)

pub read_variant-returns-in-Long : goal.read_variant-returns-in-Long
read_variant-returns-in-Long t c =
    let ms = members_view c.args.members.now.entries in
    old_long ms (subst (HasWord ms) c.in-Long.is c.requires.word)

pub read_variant-returns-in-Boolean : goal.read_variant-returns-in-Boolean
read_variant-returns-in-Boolean t c =
    let ms = members_view c.args.members.now.entries in
    old_boolean ms (subst (HasWord ms) c.in-Boolean.is c.requires.word)

pub read_set-read_type-requires : goal.read_set-read_type-requires
read_set-read_type-requires t c =
    let ms = members_view c.args.members.now.entries in
    let inner = members_view c.type_in-inner.result.now.entries in
    let b : depth (object inner) ≤ members_depth ms = below (codes "element") ms (object inner)
    c.type_in-inner.ensures.there in
    (search rules, c.type_in-inner.ensures.typed)

pub read_set-returns : goal.read_set-returns
read_set-returns t c =
    let ms = members_view c.args.members.now.entries in
    subst (λ x. SaysOldVariant ms (variant.Set x)) (sym c.in_ok-element.ensures)
    (old_set ms (members_view c.type_in-inner.result.now.entries) c.in_ok-ty.ty c.requires.word
    c.type_in-inner.ensures.there c.in_ok-ty.ensures)

pub read_record-read_attributes-requires : goal.read_record-read_attributes-requires
read_record-read_attributes-requires t c =
    let ms = members_view c.args.members.now.entries in
    let inner = members_view c.attributes_in-inner.result.now.entries in
    let b : depth (object inner) ≤ members_depth ms = below (codes "attributes") ms (object inner)
    c.attributes_in-inner.ensures.there in
    (search rules, c.attributes_in-inner.ensures.all)

pub read_record-returns : goal.read_record-returns
read_record-returns t c =
    record_said (members_view c.args.members.now.entries) (members_view c.attributes_in-inner.result.now.entries)
    c.in_ok-entries.entries.items c.in_ok-attributes.attributes c.flag_in-additional_attributes.result
    c.requires.word c.attributes_in-inner.ensures.there c.in_ok-entries.ensures c.in_ok-attributes.ensures.entries
    c.flag_in-additional_attributes.ensures

-- ---- the attributes of a record

pub read_attributes-loop-key-init : goal.read_attributes-loop-key-init
read_attributes-loop-key-init t c =
    let all = c.args.members.now.entries in
    let start = c.into_iter-key-iterator.result in
    let same : start ≡ all = search rules in
    record {
      done = ([], search rules);
      left = subst (λ es. are_all_attributes (members_view es) ≡ true) (sym same) c.requires;
      ahead = none_yet (λ k d. []) IsText IsOldAttribute start all c.new-entries.result.items same (search rules);
    }

pub read_attributes-read_attribute-requires : goal.read_attributes-read_attribute-requires
read_attributes-read_attribute-requires t c =
    let l = c.loop-key in
    let e : Entry = (c.in-Some.key.now, c.in-Some.value.now) in
    let left = c.next.new.self in
    let all : c.args.members.now.entries ≡ l.invariant.done.0 ++ e ∷ left = l.invariant.done.1
    ∙ ap (λ es. l.invariant.done.0 ++ es) c.in-Some.ensures.steps in
    let b : depth (view c.in-Some.value.now) ≤ members_depth (members_view c.args.members.now.entries) =
    subst (λ es. depth (view c.in-Some.value.now) ≤ members_depth (members_view es)) (sym all)
    (entry_below l.invariant.done.0 e left) in
    (search rules, (next_attribute l.key-iterator e.0 e.1 left l.invariant.left c.in-Some.ensures.steps).0)

pub read_attributes-loop-key-preserved : goal.read_attributes-loop-key-preserved
read_attributes-loop-key-preserved t c =
    let l = c.loop-key in
    let left = c.next.new.self in
    let x : Entry = (c.in-Some.key.now, c.in-Some.value.now) in
    record {
      done = (
        l.invariant.done.0 ++ x ∷ [],
        l.invariant.done.1
            ∙ ap (λ es. l.invariant.done.0 ++ es) c.in-Some.ensures.steps
            ∙ sym (append_assoc l.invariant.done.0 (x ∷ []) left),
      );
      left = (next_attribute l.key-iterator x.0 x.1 left l.invariant.left c.in-Some.ensures.steps).1;
      ahead = one_more (λ k d. []) IsText IsOldAttribute l.key-iterator x.0 x.1 left
          (members_view c.args.members.now.entries) c.as_str.result.now l.entries.items _
          (c.in_ok-name.name, c.in_ok-attribute.attribute) l.invariant.ahead c.in-Some.ensures.steps
          c.as_str.ensures.value (tt, (c.in_ok-name.ensures, c.in_ok-attribute.ensures)) c.in_ok-push.ensures.items;
    }

pub read_attributes-returns : goal.read_attributes-returns
read_attributes-returns t c =
    let l = c.loop-key in
    let all = members_view c.args.members.now.entries in
    attributes_said all l.entries.items
    (all_read (λ k d. []) IsText IsOldAttribute l.key-iterator all l.entries.items l.invariant.ahead
    c.in-None.ensures.steps.0).1

pub read_attribute-returns : goal.read_attribute-returns
read_attribute-returns t c = search rules

pub read_attribute-returns-in_err-ty-in-Some : goal.read_attribute-returns-in_err-ty-in-Some
read_attribute-returns-in_err-ty-in-Some t c = search rules

pub read_attributes-returns-in_err-attribute : goal.read_attributes-returns-in_err-attribute
read_attributes-returns-in_err-attribute t c = search rules

pub read_attributes-returns-in_err-name : goal.read_attributes-returns-in_err-name
read_attributes-returns-in_err-name t c = search rules

pub read_attributes-returns-in_err-push : goal.read_attributes-returns-in_err-push
read_attributes-returns-in_err-push t c = search rules

pub read_record-returns-in_err-attributes : goal.read_record-returns-in_err-attributes
read_record-returns-in_err-attributes t c = search rules

pub read_record-returns-in_err-entries : goal.read_record-returns-in_err-entries
read_record-returns-in_err-entries t c = search rules

pub read_set-returns-in_err-element : goal.read_set-returns-in_err-element
read_set-returns-in_err-element t c = search rules

pub read_set-returns-in_err-ty : goal.read_set-returns-in_err-ty
read_set-returns-in_err-ty t c = search rules

pub read_type-returns-in_err-read_variant : goal.read_type-returns-in_err-read_variant
read_type-returns-in_err-read_variant t c = search rules

pub read_type-returns-in_err-type_name : goal.read_type-returns-in_err-type_name
read_type-returns-in_err-type_name t c = search rules

pub read_variant-returns-in-Entity : goal.read_variant-returns-in-Entity
read_variant-returns-in-Entity t c = search rules

pub read_variant-returns-in-Extension : goal.read_variant-returns-in-Extension
read_variant-returns-in-Extension t c = search rules

pub read_variant-returns-in-Record : goal.read_variant-returns-in-Record
read_variant-returns-in-Record t c = search rules

pub read_variant-returns-in-Set : goal.read_variant-returns-in-Set
read_variant-returns-in-Set t c = search rules
