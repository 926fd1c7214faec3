use Rattle.std.proofs.Common.{◌≡◌, ◌≤◌, [], ◌∷◌, ◌++◌, Some, string_bytes, refl, sym, ap, ◌∙◌, subst, append_assoc}
use Rattle.std.proofs.Common.{rules}
use Rattle.std.specs.Prelude.{codes}
use Rattle.std.specs.Str.{chars}
use Rattle.serde_json.specs.Data.{object, depth, members_depth}
use Rattle.serde_json.specs.View.{view, members_view}
use Rattle.serde_json.proofs.Views.{Entry}
use Rattle.schema_json.specs.declared.types.TypeVariant.TheVariants as variant
use Rattle.schema_json_shapes.specs.declared.words.TypeWord.TheVariants as word
use Rattle.schema_json_shapes.specs.declared.words.TypeSite.TheVariants as site
use Rattle.schema_json_shapes.specs.Walk.{AllMet, typed, attributes, demands, key_demands}
use Rattle.schema_json_shapes.specs.Said.{HasWord, SaysTyped, string_type, long_type, boolean_type}
use Rattle.schema_json_shapes.specs.Inner.{HasInner, inner_demands}
use Rattle.schema_json_shapes.specs.Reads.{IsDemandFault, field_demands}
use Rattle.schema_json_shapes.proofs.Demands.{both_met, fails, passes, refused}
use Rattle.schema_json_shapes.proofs.Order.{Rises-view}
use Rattle.schema_json_shapes.proofs.Objects.{no_object, an_object, reads_object}
use Rattle.schema_json_shapes.proofs.Ahead.{Left, all_left, first_fails, first_passes, none_left}
use Rattle.schema_json_shapes.proofs.Attributes.{FoundAttributes, no_attribute_found, attribute_found}
use Rattle.schema_json_shapes.proofs.Attributes.{all_attributes_found}
use Rattle.schema_json_shapes.proofs.Typed.{type_whole, has_inner, below, entry_below}
use Rattle.schema_json_shapes.proofs.Saying.{set_says, record_says}
use Rattle.schema_json_shapes.proofs.Made.{made_fits, made_says, shape_says}
use Rattle.schema_json_shapes.proofs.types.+types.Goals as goal

-- ---- a value

pub read_typed-read_object-requires : goal.read_typed-read_object-requires
read_typed-read_object-requires t c =
    let e : depth (object (members_view c.in-Some.members.now.entries))
    ≡ depth (view c.args.value.now) = ap depth (an_object (view c.args.value.now) _ c.in-Some.ensures) in
    search rules

pub read_typed-returns-in-Some : goal.read_typed-returns-in-Some
read_typed-returns-in-Some t c =
    reads_object c.read_object.result (typed c.args.site) c.args.label.now (view c.args.value.now)
    (members_view c.in-Some.members.now.entries) (λ d x. SaysTyped d x.ty x.annotations x.required) c.in-Some.ensures
    c.read_object.ensures

pub read_typed-returns-in-None : goal.read_typed-returns-in-None
read_typed-returns-in-None t c =
    no_object (typed c.args.site) c.args.label.now
    (record { on_null = refl; on_flag = refl; on_number = refl; on_string = λ s. refl; on_array = refl })
    (view c.args.value.now) c.wrong_type.result c.in-None.ensures c.wrong_type.ensures

-- ---- an object

pub read_object-read_shape-requires : goal.read_object-read_shape-requires
read_object-read_shape-requires t c =
    let ms = members_view c.args.members.now.entries in
    let text = c.in_ok-text.text.now in (
      search rules,
      (
        record { text = text; there = c.in_ok-text.ensures.1; is_word = sym c.word_of-word.ensures },
        (
          subst (λ w. HasInner w ms) (sym c.word_of-word.ensures)
              (has_inner c.args.site ms text c.in_ok-text.ensures.1 c.in_ok-text.ensures.0),
          c.in_ok-is_open.ensures.1,
        ),
      ),
    )

pub read_object-returns-in_err-text : goal.read_object-returns-in_err-text
read_object-returns-in_err-text t c =
    let e = c.in_err-text.field-0.0 in
    refused c.from_residual.result e _ _ c.from_residual.ensures.1
    (fails _ _ e c.in_err-text.ensures)

pub read_object-returns-in_err-is_open : goal.read_object-returns-in_err-is_open
read_object-returns-in_err-is_open t c =
    let ms = members_view c.args.members.now.entries in
    let text = c.in_ok-text.text.now in
    let own = c.in_ok-text.ensures.0 in
    let whole = type_whole c.args.site ms text (Rises-view c.args.members.now.entries c.len.ensures.ordered)
    c.in_ok-text.ensures.1 own in
    let e = c.in_err-is_open.field-0.0 in
    refused c.from_residual-in_err-is_open.result e _ _ c.from_residual-in_err-is_open.ensures.1
    (subst (λ ds. IsDemandFault ds e) (sym whole) (passes _ _ e own (fails _ _ e c.in_err-is_open.ensures)))

pub read_object-returns-in_err-annotations : goal.read_object-returns-in_err-annotations
read_object-returns-in_err-annotations t c =
    let ms = members_view c.args.members.now.entries in
    let text = c.in_ok-text.text.now in
    let own = c.in_ok-text.ensures.0 in
    let whole = type_whole c.args.site ms text (Rises-view c.args.members.now.entries c.len.ensures.ordered)
    c.in_ok-text.ensures.1 own in
    let e = c.in_err-annotations.field-0.0 in
    refused c.from_residual-in_err-annotations.result e _ _ c.from_residual-in_err-annotations.ensures.1
    (subst (λ ds. IsDemandFault ds e) (sym whole)
    (passes _ _ e own (passes _ _ e c.in_ok-is_open.ensures.0 (fails _ _ e c.in_err-annotations.ensures))))

pub read_object-returns-in_err-shape : goal.read_object-returns-in_err-shape
read_object-returns-in_err-shape t c =
    let ms = members_view c.args.members.now.entries in
    let text = c.in_ok-text.text.now in
    let own = c.in_ok-text.ensures.0 in
    let whole = type_whole c.args.site ms text (Rises-view c.args.members.now.entries c.len.ensures.ordered)
    c.in_ok-text.ensures.1 own in
    let e = c.in_err-shape.field-0.0 in
    refused c.from_residual-in_err-shape.result e _ _ c.from_residual-in_err-shape.ensures.1
    (subst (λ ds. IsDemandFault ds e) (sym whole)
    (passes _ _ e own (passes _ _ e c.in_ok-is_open.ensures.0
    (passes _ _ e c.in_ok-annotations.ensures.0
    (fails _ _ e (subst (λ w. IsDemandFault (inner_demands w ms) e) c.word_of-word.ensures c.in_err-shape.ensures))))))

pub read_object-returns-in_err-required : goal.read_object-returns-in_err-required
read_object-returns-in_err-required t c =
    let ms = members_view c.args.members.now.entries in
    let text = c.in_ok-text.text.now in
    let own = c.in_ok-text.ensures.0 in
    let whole = type_whole c.args.site ms text (Rises-view c.args.members.now.entries c.len.ensures.ordered)
    c.in_ok-text.ensures.1 own in
    let shape = subst (λ w. AllMet (inner_demands w ms)) c.word_of-word.ensures c.in_ok-shape.ensures.0 in
    let e = c.in_err-required.field-0.0 in
    refused c.from_residual-in_err-required.result e _ _ c.from_residual-in_err-required.ensures.1
    (subst (λ ds. IsDemandFault ds e) (sym whole)
    (passes _ _ e own (passes _ _ e c.in_ok-is_open.ensures.0
    (passes _ _ e c.in_ok-annotations.ensures.0 (passes _ _ e shape (fails _ _ e c.in_err-required.ensures))))))

pub read_object-returns-in_err-ty : goal.read_object-returns-in_err-ty
read_object-returns-in_err-ty t c =
    let ms = members_view c.args.members.now.entries in
    let text = c.in_ok-text.text.now in
    let own = c.in_ok-text.ensures.0 in
    let whole = type_whole c.args.site ms text (Rises-view c.args.members.now.entries c.len.ensures.ordered)
    c.in_ok-text.ensures.1 own in
    let shape = subst (λ w. AllMet (inner_demands w ms)) c.word_of-word.ensures c.in_ok-shape.ensures.0 in
    let same = made_fits c.word_of-word.result text ms c.in_ok-shape.shape c.word_of-word.ensures
    c.in_ok-shape.ensures.1 in
    let e = c.in_err-ty.field-0.0 in
    refused c.from_residual-in_err-ty.result e _ _ c.from_residual-in_err-ty.ensures.1
    (subst (λ ds. IsDemandFault ds e) (sym whole)
    (passes _ _ e own (passes _ _ e c.in_ok-is_open.ensures.0
    (passes _ _ e c.in_ok-annotations.ensures.0
    (passes _ _ e shape (passes _ _ e c.in_ok-required.ensures.0
    (fails _ _ e (subst (λ ds. IsDemandFault ds e) same c.in_err-ty.ensures))))))))

pub read_object-returns : goal.read_object-returns
read_object-returns t c =
    let ms = members_view c.args.members.now.entries in
    let text = c.in_ok-text.text.now in
    let own = c.in_ok-text.ensures.0 in
    let whole = type_whole c.args.site ms text (Rises-view c.args.members.now.entries c.len.ensures.ordered)
    c.in_ok-text.ensures.1 own in
    let shape = subst (λ w. AllMet (inner_demands w ms)) c.word_of-word.ensures c.in_ok-shape.ensures.0 in
    let same = made_fits c.word_of-word.result text ms c.in_ok-shape.shape c.word_of-word.ensures
    c.in_ok-shape.ensures.1 in
    let last = subst AllMet same c.in_ok-ty.ensures.0 in (
      subst AllMet (sym whole) (both_met _ _ own
          (both_met _ _ c.in_ok-is_open.ensures.0
          (both_met _ _ c.in_ok-annotations.ensures.0
          (both_met _ _ shape (both_met _ _ c.in_ok-required.ensures.0 (both_met _ _ last tt)))))),
      record {
        says = made_says c.word_of-word.result text ms c.in_ok-shape.shape c.in_ok-ty.ty c.in_ok-text.ensures.1
            c.word_of-word.ensures c.in_ok-shape.ensures.1 c.in_ok-ty.ensures.1;
        annotated = c.in_ok-annotations.ensures.1;
        marked = c.in_ok-required.ensures.1;
      },
    )

-- ---- the field of the word

pub read_shape-returns-in-String : goal.read_shape-returns-in-String
read_shape-returns-in-String t c =
    let ms = members_view c.args.members.now.entries in
    shape_says c.args.word word.String ms (Some variant.String) c.in-String.is tt
    (λ s. refl, string_type ms (subst (HasWord ms) c.in-String.is c.requires.word))

pub read_shape-returns-in-Long : goal.read_shape-returns-in-Long
read_shape-returns-in-Long t c =
    let ms = members_view c.args.members.now.entries in
    shape_says c.args.word word.Long ms (Some variant.Long) c.in-Long.is tt
    (λ s. refl, long_type ms (subst (HasWord ms) c.in-Long.is c.requires.word))

pub read_shape-returns-in-Boolean : goal.read_shape-returns-in-Boolean
read_shape-returns-in-Boolean t c =
    let ms = members_view c.args.members.now.entries in
    shape_says c.args.word word.Boolean ms (Some variant.Boolean) c.in-Boolean.is tt
    (λ s. refl, boolean_type ms (subst (HasWord ms) c.in-Boolean.is c.requires.word))

pub read_set-read_typed-requires : goal.read_set-read_typed-requires
read_set-read_typed-requires t c =
    let b : depth (view c.needed-value.result.now) ≤ members_depth (members_view c.args.members.now.entries) = below
    (codes "element") (members_view c.args.members.now.entries) (view c.needed-value.result.now)
    c.needed-value.ensures in
    search rules

pub read_set-returns : goal.read_set-returns
read_set-returns t c =
    let ms = members_view c.args.members.now.entries in
    let there = c.needed-value.ensures in (
      subst (λ o. AllMet (field_demands (typed site.Plain) (codes "element") o)) (sym there) c.in_ok-typed.ensures.0,
      set_says ms (view c.needed-value.result.now) c.in_ok-typed.typed.ty c.in_ok-element.element
          c.in_ok-typed.typed.annotations c.in_ok-typed.typed.required c.requires.word there c.in_ok-typed.ensures.1
          c.in_ok-element.ensures,
    )

pub read_record-read_attributes-requires : goal.read_record-read_attributes-requires
read_record-read_attributes-requires t c =
    let b : depth (view c.needed-value.result.now) ≤ members_depth (members_view c.args.members.now.entries) = below
    (codes "attributes") (members_view c.args.members.now.entries) (view c.needed-value.result.now)
    c.needed-value.ensures in
    search rules

pub read_record-returns : goal.read_record-returns
read_record-returns t c =
    let ms = members_view c.args.members.now.entries in
    let there = c.needed-value.ensures in (
      subst (λ o. AllMet (field_demands attributes (codes "attributes") o)) (sym there) c.in_ok-attributes.ensures.0,
      record_says ms (view c.needed-value.result.now) c.in_ok-attributes.attributes c.args.is_open c.requires.word
          there c.in_ok-attributes.ensures.1 c.requires.is_open,
    )

-- ---- the attributes of a record

pub read_attributes-returns-in-None : goal.read_attributes-returns-in-None
read_attributes-returns-in-None t c =
    no_object attributes (codes "attributes")
    (record { on_null = refl; on_flag = refl; on_number = refl; on_string = λ s. refl; on_array = refl })
    (view c.args.value.now) c.wrong_type.result c.in-None.ensures c.wrong_type.ensures

pub read_attributes-read_attribute_entries-requires : goal.read_attributes-read_attribute_entries-requires
read_attributes-read_attribute_entries-requires t c =
    let e : depth (object (members_view c.in-Some.members.now.entries))
    ≡ depth (view c.args.value.now) = ap depth (an_object (view c.args.value.now) _ c.in-Some.ensures) in
    search rules

pub read_attribute_entries-loop-key-init : goal.read_attribute_entries-loop-key-init
read_attribute_entries-loop-key-init t c =
    let all = c.args.members.now.entries in
    let start = c.into_iter-key-iterator.result in
    record {
      done = ([], search rules);
      left = all_left (key_demands attributes) (λ k. typed site.Attribute) start all (search rules);
      found = no_attribute_found start all _ (search rules) (search rules);
    }

pub read_attribute_entries-read_typed-requires : goal.read_attribute_entries-read_typed-requires
read_attribute_entries-read_typed-requires t c =
    let l = c.loop-key in
    let e : Entry = (c.in-Some.key.now, c.in-Some.value.now) in
    let left = c.next.new.self in
    let all : c.args.members.now.entries ≡ l.invariant.done.0 ++ e ∷ left = l.invariant.done.1
    ∙ ap (λ es. l.invariant.done.0 ++ es) c.in-Some.ensures.steps in
    let b : depth (view c.in-Some.value.now) ≤ members_depth (members_view c.args.members.now.entries) =
    subst (λ es. depth (view c.in-Some.value.now) ≤ members_depth (members_view es)) (sym all)
    (entry_below l.invariant.done.0 e left) in
    search rules

pub read_attribute_entries-returns-in_err-typed : goal.read_attribute_entries-returns-in_err-typed
read_attribute_entries-returns-in_err-typed t c =
    let l = c.loop-key in
    let left = c.next.new.self in
    let key = string_bytes c.in-Some.key.now in
    let d = view c.in-Some.value.now in
    let all = members_view c.args.members.now.entries in
    let e = c.in_err-typed.field-0.0 in
    let fault = subst (λ n. IsDemandFault (demands (typed site.Attribute) n d) e) c.as_str.ensures.value
    c.in_err-typed.ensures in
    refused c.from_residual-in_err-typed.result e _ _ c.from_residual-in_err-typed.ensures.1
    (first_fails (key_demands attributes) (λ k. typed site.Attribute) key d (members_view left) all e
    (subst (λ es. Left (key_demands attributes) (λ k. typed site.Attribute) (members_view es) all)
    c.in-Some.ensures.steps l.invariant.left) fault)

pub read_attribute_entries-loop-key-preserved : goal.read_attribute_entries-loop-key-preserved
read_attribute_entries-loop-key-preserved t c =
    let l = c.loop-key in
    let left = c.next.new.self in
    let x : Entry = (c.in-Some.key.now, c.in-Some.value.now) in
    let key = string_bytes c.in-Some.key.now in
    let d = view c.in-Some.value.now in
    let all = members_view c.args.members.now.entries in
    let met = subst (λ n. AllMet (demands (typed site.Attribute) n d)) c.as_str.ensures.value c.in_ok-typed.ensures.0 in
    record {
      done = (
        l.invariant.done.0 ++ x ∷ [],
        l.invariant.done.1
            ∙ ap (λ es. l.invariant.done.0 ++ es) c.in-Some.ensures.steps
            ∙ sym (append_assoc l.invariant.done.0 (x ∷ []) left),
      );
      left = first_passes (key_demands attributes) (λ k. typed site.Attribute) key d (members_view left) all
          (subst (λ es. Left (key_demands attributes) (λ k. typed site.Attribute) (members_view es) all)
          c.in-Some.ensures.steps l.invariant.left) met;
      found = attribute_found key d (members_view left) all l.entries.items _ c.in_ok-typed.typed.ty
          c.in_ok-typed.typed.annotations c.in_ok-typed.typed.required (c.in_ok-name.name, c.attribute.result)
          (subst (λ es. FoundAttributes (members_view es) all l.entries.items) c.in-Some.ensures.steps
          l.invariant.found) c.in_ok-typed.ensures.1
          (λ i. ((c.in_ok-name.ensures ∙ ap chars c.as_str-in-loop-key.ensures.value) i, c.attribute.ensures i))
          c.in_ok-push.ensures.items;
    }

pub read_attribute_entries-returns : goal.read_attribute_entries-returns
read_attribute_entries-returns t c =
    let l = c.loop-key in
    let all = members_view c.args.members.now.entries in (
      none_left (key_demands attributes) (λ k. typed site.Attribute) all
          (subst (λ es. Left (key_demands attributes) (λ k. typed site.Attribute) (members_view es) all)
          c.in-None.ensures.steps.0 l.invariant.left),
      all_attributes_found all l.entries.items
          (subst (λ es. FoundAttributes
          (members_view es) all l.entries.items) c.in-None.ensures.steps.0 l.invariant.found),
    )

pub read_attribute_entries-returns-in_err-entries : goal.read_attribute_entries-returns-in_err-entries
read_attribute_entries-returns-in_err-entries t c = search rules

pub read_attribute_entries-returns-in_err-name : goal.read_attribute_entries-returns-in_err-name
read_attribute_entries-returns-in_err-name t c = search rules

pub read_attribute_entries-returns-in_err-push : goal.read_attribute_entries-returns-in_err-push
read_attribute_entries-returns-in_err-push t c = search rules

pub read_attributes-returns-in_err-entries-in-Some : goal.read_attributes-returns-in_err-entries-in-Some
read_attributes-returns-in_err-entries-in-Some t c = search rules

pub read_attributes-returns-in_err-from_entries-in-Some : goal.read_attributes-returns-in_err-from_entries-in-Some
read_attributes-returns-in_err-from_entries-in-Some t c = search rules

pub read_attributes-returns-in_ok-from_entries-in-Some : goal.read_attributes-returns-in_ok-from_entries-in-Some
read_attributes-returns-in_ok-from_entries-in-Some t c = search rules

pub read_record-returns-in_err-attributes : goal.read_record-returns-in_err-attributes
read_record-returns-in_err-attributes t c = search rules

pub read_set-returns-in_err-element : goal.read_set-returns-in_err-element
read_set-returns-in_err-element t c = search rules

pub read_set-returns-in_err-typed : goal.read_set-returns-in_err-typed
read_set-returns-in_err-typed t c = search rules

pub read_shape-returns-in-Reference : goal.read_shape-returns-in-Reference
read_shape-returns-in-Reference t c = search rules

pub read_shape-returns-in_err-read_either-in-EntityOrCommon : goal.read_shape-returns-in_err-read_either-in-EntityOrCommon
read_shape-returns-in_err-read_either-in-EntityOrCommon t c = search rules

pub read_shape-returns-in_err-read_entity-in-Entity : goal.read_shape-returns-in_err-read_entity-in-Entity
read_shape-returns-in_err-read_entity-in-Entity t c = search rules

pub read_shape-returns-in_err-read_extension-in-Extension : goal.read_shape-returns-in_err-read_extension-in-Extension
read_shape-returns-in_err-read_extension-in-Extension t c = search rules

pub read_shape-returns-in_err-read_record-in-Record : goal.read_shape-returns-in_err-read_record-in-Record
read_shape-returns-in_err-read_record-in-Record t c = search rules

pub read_shape-returns-in_err-read_set-in-Set : goal.read_shape-returns-in_err-read_set-in-Set
read_shape-returns-in_err-read_set-in-Set t c = search rules

pub read_shape-returns-in_ok-read_either-in-EntityOrCommon : goal.read_shape-returns-in_ok-read_either-in-EntityOrCommon
read_shape-returns-in_ok-read_either-in-EntityOrCommon t c = search rules

pub read_shape-returns-in_ok-read_entity-in-Entity : goal.read_shape-returns-in_ok-read_entity-in-Entity
read_shape-returns-in_ok-read_entity-in-Entity t c = search rules

pub read_shape-returns-in_ok-read_extension-in-Extension : goal.read_shape-returns-in_ok-read_extension-in-Extension
read_shape-returns-in_ok-read_extension-in-Extension t c = search rules

pub read_shape-returns-in_ok-read_record-in-Record : goal.read_shape-returns-in_ok-read_record-in-Record
read_shape-returns-in_ok-read_record-in-Record t c = search rules

pub read_shape-returns-in_ok-read_set-in-Set : goal.read_shape-returns-in_ok-read_set-in-Set
read_shape-returns-in_ok-read_set-in-Set t c = search rules
