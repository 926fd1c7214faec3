use Rattle.std.proofs.Common.{◌≡◌, ◌≤◌, ◌+◌, false, [], ◌∷◌, Some, refl, sym, ap, ◌∙◌, subst, arith, All}
use Rattle.std.proofs.lemmas.List.Elements.{All-head}
use Rattle.std.proofs.lemmas.List.{take_all}
use Rattle.cedar_identifiers.specs.declared.reference_type.ReferenceType.TheVariants.{Common, Entity, CommonOrEntity}
use Rattle.cedar_names.specs.Meaning as plain
use Rattle.schema_json.specs.declared.types.TypeOfAttribute.{out-TypeOfAttribute}
use Rattle.schema_json.specs.declared.types.Type.TheVariants.{Variant}
use Rattle.schema_json_walk.specs.Parts.{type_reference, extension_type}
use Rattle.schema_json_walk.specs.Walk.{itself, parts, of_variant, of_entries}
use Rattle.schema_json_walk.proofs.Layers.{reference_walked, type_walked, set_walked, entity_walked, either_walked}
use Rattle.schema_json_walk.proofs.Layers.{extension_walked}
use Rattle.schema_build_types.specs.declared.types.Type.TheVariants as built
use Rattle.schema_build_expand.specs.Expands.{Expands, ExpandAll}
use Rattle.schema_build_expand.proofs.Layers.{common, entity, either, boolean, long, string, set, record_of, extension}
use Rattle.schema_build_expand.specs.Targets.{IsReady, ExpandsTo, ShapeExpandsTo, ReferenceExpandsTo, EntryExpandsTo}
use Rattle.schema_build_expand.proofs.Depths.{depth, variant_depth, entries_depth}
use Rattle.schema_build_expand.proofs.Deep.{shape_deep, set_deep, record_is_deep, entry_deep}
use Rattle.schema_build_expand.proofs.Made.{zip_more, if_ok, entries_made, keys_kept}
use Rattle.schema_build_expand.proofs.Walked.{all_record, all_entry}
use Rattle.schema_build_expand.proofs.expand.+expand.Goals as goal

pub expand_entries-expand_type-requires : goal.expand_entries-expand_type-requires
expand_entries-expand_type-requires g t c κs within =
    let N = g.row.N.Denot in
    let s = g.R.Meanings.scope c.args.names.now in
    let ns = g.R.Meanings.place c.args.names.now in
    let Ready = IsReady s c.args.done.now ns in
    let it = c.loop-name-item.result in
    let deep : depth N (out-TypeOfAttribute N it.1).ty ≤ entries_depth N c.args.entries.now =
    subst (λ e. depth N (out-TypeOfAttribute N e.1).ty ≤ entries_depth N c.args.entries.now)
    (sym c.loop-name-item.is) (entry_deep N c.args.entries.now c.loop-name.name-index it c.loop-name-test.true) in (
      omega (arith, deep, c.decreases),
      (
        within.0,
        (
          within.1,
          (
            c.requires.done,
            subst (λ e. All Ready (parts (out-TypeOfAttribute N e.1).ty))
                (sym c.loop-name-item.is) (all_entry N Ready c.args.entries.now c.loop-name.name-index it
                c.loop-name-test.true c.requires.ready),
          ),
        ),
      ),
    )

pub expand_entries-loop-name-preserved : goal.expand_entries-loop-name-preserved
expand_entries-loop-name-preserved g t c =
    let N = g.row.N.Denot in
    let s = g.R.Meanings.scope c.args.names.now in
    let ns = g.R.Meanings.place c.args.names.now in
    rw c.in_ok-push.ensures.items (zip_more (EntryExpandsTo s ns) c.args.entries.now c.loop-name.attrs.items
    c.loop-name.name-index c.loop-name-item.result
    (c.in_ok-name.name, (c.in_ok-ty.ty, (out-TypeOfAttribute N c.loop-name-item.result.1).required))
    c.loop-name-test.true c.loop-name-item.is c.loop-name.invariant
    (c.in_ok-name.ensures, refl, c.in_ok-ty.ensures))

pub expand_entries-returns : goal.expand_entries-returns
expand_entries-returns g t c =
    rw (take_all c.loop-name.name-index c.args.entries.now c.loop-name-test.false) at c.loop-name.invariant

pub expand_type-expand_reference-requires-clause-ready : goal.expand_type-expand_reference-requires-clause-ready
expand_type-expand_reference-requires-clause-ready g t c =
    let N = g.row.N.Denot in
    let s = g.R.Meanings.scope c.args.names.now in
    let ns = g.R.Meanings.place c.args.names.now in
    let Ready = IsReady s c.args.done.now ns in
    let all : All Ready (type_reference Common c.in-CommonTypeRef.type_name ∷ []) =
    subst (All Ready) (ap parts c.in-CommonTypeRef.is
    ∙ reference_walked itself c.in-CommonTypeRef.type_name c.in-CommonTypeRef.loc) c.requires.ready in
    All-head Ready (type_reference Common c.in-CommonTypeRef.type_name) [] all

pub expand_type-returns-in-CommonTypeRef : goal.expand_type-returns-in-CommonTypeRef
expand_type-returns-in-CommonTypeRef g t c =
    let N = g.row.N.Denot in
    let s = g.R.Meanings.scope c.args.names.now in
    let ns = g.R.Meanings.place c.args.names.now in
    if_ok (ReferenceExpandsTo s ns Common c.in-CommonTypeRef.type_name)
    (ExpandsTo s ns c.args.ty.now) c.expand_reference.result
    (λ x h. (
      h.0,
      subst (λ ty. Expands N s ns ty h.0) (sym c.in-CommonTypeRef.is)
          (common ns c.in-CommonTypeRef.type_name c.in-CommonTypeRef.loc h.0 h.1),
      h.2,
    )) c.expand_reference.ensures

pub expand_variant-expand_reference-requires-clause-ready : goal.expand_variant-expand_reference-requires-clause-ready
expand_variant-expand_reference-requires-clause-ready g t c =
    let N = g.row.N.Denot in
    let s = g.R.Meanings.scope c.args.names.now in
    let ns = g.R.Meanings.place c.args.names.now in
    let Ready = IsReady s c.args.done.now ns in
    let all : All Ready (type_reference Entity c.in-Entity.name ∷ []) =
    subst (All Ready) (ap (of_variant itself) c.in-Entity.is ∙ entity_walked itself c.in-Entity.name)
    c.requires.ready in
    All-head Ready (type_reference Entity c.in-Entity.name) [] all

pub expand_variant-expand_reference-requires-in-EntityOrCommon-clause-ready :
    goal.expand_variant-expand_reference-requires-in-EntityOrCommon-clause-ready
expand_variant-expand_reference-requires-in-EntityOrCommon-clause-ready g t c =
    let N = g.row.N.Denot in
    let s = g.R.Meanings.scope c.args.names.now in
    let ns = g.R.Meanings.place c.args.names.now in
    let Ready = IsReady s c.args.done.now ns in
    let all : All Ready (type_reference CommonOrEntity c.in-EntityOrCommon.type_name ∷ []) =
    subst (All Ready)
    (ap (of_variant itself) c.in-EntityOrCommon.is ∙ either_walked itself c.in-EntityOrCommon.type_name)
    c.requires.ready in
    All-head Ready (type_reference CommonOrEntity c.in-EntityOrCommon.type_name) [] all

pub expand_variant-expand_type-requires : goal.expand_variant-expand_type-requires
expand_variant-expand_type-requires g t c κs within =
    let N = g.row.N.Denot in
    let s = g.R.Meanings.scope c.args.names.now in
    let ns = g.R.Meanings.place c.args.names.now in
    let Ready = IsReady s c.args.done.now ns in
    let deep : variant_depth N c.args.shape.now ≡ depth N c.get.result.now + 1 =
    ap (variant_depth N) c.in-Set.is ∙ set_deep N c.in-Set.element ∙ ap (λ e. depth N e + 1) (sym c.get.ensures) in (
      omega (arith, deep, c.decreases),
      (
        within.0,
        (
          within.1,
          (
            c.requires.done,
            subst (All Ready)
                (ap (of_variant itself) c.in-Set.is ∙ set_walked itself c.in-Set.element ∙ ap parts (sym c.get.ensures))
                c.requires.ready,
          ),
        ),
      ),
    )
    -- the record is closed, and what its attributes mean is expanded

pub expand_variant-expand_entries-requires : goal.expand_variant-expand_entries-requires
expand_variant-expand_entries-requires g t c κs within =
    let N = g.row.N.Denot in
    let s = g.R.Meanings.scope c.args.names.now in
    let ns = g.R.Meanings.place c.args.names.now in
    let Ready = IsReady s c.args.done.now ns in
    let record' =
    all_record N Ready c.in-Record.record (λ h. h)
    (subst (All Ready) (ap (of_variant itself) c.in-Record.is) c.requires.ready) in
    let deep : variant_depth N c.args.shape.now ≡ entries_depth N c.as_slice.result.now + 2 =
    ap (variant_depth N) c.in-Record.is ∙ record_is_deep N c.in-Record.record ∙ ap (λ es. entries_depth N es + 2)
    (sym c.as_slice.ensures.entries) in (
      omega (arith, deep, c.decreases),
      (
        within.0,
        (
          within.1,
          (
            c.requires.done,
            subst (λ es. All Ready (of_entries itself es))
                (sym c.as_slice.ensures.entries) record'.1,
          ),
        ),
      ),
    )

pub expand_type-expand_variant-requires : goal.expand_type-expand_variant-requires
expand_type-expand_variant-requires g t c κs within =
    let N = g.row.N.Denot in
    let s = g.R.Meanings.scope c.args.names.now in
    let ns = g.R.Meanings.place c.args.names.now in
    let Ready = IsReady s c.args.done.now ns in
    let deep : depth N c.args.ty.now ≡ variant_depth N c.in-Variant.ty + 1 =
    ap (depth N) c.in-Variant.is ∙ shape_deep N c.in-Variant.ty c.in-Variant.loc in (
      omega (arith, deep, c.decreases),
      (
        within.0,
        (
          within.1,
          (
            c.requires.done,
            subst (All Ready)
                (ap parts c.in-Variant.is ∙ type_walked itself c.in-Variant.ty c.in-Variant.loc) c.requires.ready,
          ),
        ),
      ),
    )

pub expand_type-returns-in-Variant : goal.expand_type-returns-in-Variant
expand_type-returns-in-Variant g t c =
    let s = g.R.Meanings.scope c.args.names.now in
    let ns = g.R.Meanings.place c.args.names.now in
    if_ok (ShapeExpandsTo s ns c.in-Variant.ty) (ExpandsTo s ns c.args.ty.now) c.expand_variant.result
    (λ x h. subst (λ ty. ExpandsTo s ns ty x) (sym c.in-Variant.is) (h c.in-Variant.loc)) c.expand_variant.ensures

pub expand_variant-from_sorted_vec-requires : goal.expand_variant-from_sorted_vec-requires
expand_variant-from_sorted_vec-requires g t c =
    let N = g.row.N.Denot in
    let s = g.R.Meanings.scope c.args.names.now in
    let ns = g.R.Meanings.place c.args.names.now in
    rw (
      keys_kept N s ns c.as_slice.result.now c.in_ok-attrs-in-Record.attrs.items c.in_ok-attrs-in-Record.ensures,
      c.as_slice.ensures.entries,
    ) c.as_slice.ensures.sorted

pub expand_variant-returns-in-String : goal.expand_variant-returns-in-String
expand_variant-returns-in-String g t c =
    let N = g.row.N.Denot in
    let s = g.R.Meanings.scope c.args.names.now in
    let ns = g.R.Meanings.place c.args.names.now in
    λ loc. (
      plain.String,
      subst (λ v. Expands N s ns (Variant v loc) plain.String) (sym c.in-String.is)
          (string ns loc),
      refl,
    )

pub expand_variant-returns-in-Long : goal.expand_variant-returns-in-Long
expand_variant-returns-in-Long g t c =
    let N = g.row.N.Denot in
    let s = g.R.Meanings.scope c.args.names.now in
    let ns = g.R.Meanings.place c.args.names.now in
    λ loc. (plain.Long, subst (λ v. Expands N s ns (Variant v loc) plain.Long) (sym c.in-Long.is) (long ns loc), refl)

pub expand_variant-returns-in-Boolean : goal.expand_variant-returns-in-Boolean
expand_variant-returns-in-Boolean g t c =
    let N = g.row.N.Denot in
    let s = g.R.Meanings.scope c.args.names.now in
    let ns = g.R.Meanings.place c.args.names.now in
    λ loc. (
      plain.Bool,
      subst (λ v. Expands N s ns (Variant v loc) plain.Bool) (sym c.in-Boolean.is)
          (boolean ns loc),
      refl,
    )

pub expand_variant-returns-in_ok-new-in-Set : goal.expand_variant-returns-in_ok-new-in-Set
expand_variant-returns-in_ok-new-in-Set g t c =
    let N = g.row.N.Denot in
    let s = g.R.Meanings.scope c.args.names.now in
    let ns = g.R.Meanings.place c.args.names.now in
    λ loc.
    let made = c.in_ok-element-in-Set.ensures in (
      plain.Set made.0,
      subst (λ v. Expands N s ns (Variant v loc) (plain.Set made.0)) (sym c.in-Set.is)
          (set ns c.in-Set.element loc made.0 (subst (λ ty. Expands N s ns ty made.0) c.get.ensures made.1)),
      (c.in_ok-element-in-Set.element, ap (λ b. built.Set (Some b)) c.in_ok-new-in-Set.ensures, made.2),
    )

pub expand_variant-returns-in_ok-attrs-in-Record : goal.expand_variant-returns-in_ok-attrs-in-Record
expand_variant-returns-in_ok-attrs-in-Record g t c =
    let N = g.row.N.Denot in
    let s = g.R.Meanings.scope c.args.names.now in
    let ns = g.R.Meanings.place c.args.names.now in
    let Ready = IsReady s c.args.done.now ns in
    λ loc.
    let record' =
    all_record N Ready c.in-Record.record (λ h. h)
    (subst (All Ready) (ap (of_variant itself) c.in-Record.is) c.requires.ready) in
    let made =
    entries_made N s ns c.as_slice.result.now c.in_ok-attrs-in-Record.attrs.items c.in_ok-attrs-in-Record.ensures in (
      plain.Rec made.0,
      subst (λ v. Expands N s ns (Variant v loc) (plain.Rec made.0)) (sym c.in-Record.is)
          (record_of ns c.in-Record.record loc made.0 record'.0
          (subst (λ es. ExpandAll N s ns es made.0) c.as_slice.ensures.entries made.1)),
      (c.in_ok-attrs-in-Record.attrs.items, ap (λ attrs. built.Record attrs false) c.from_sorted_vec.ensures, made.2),
    )

pub expand_variant-returns-in-Entity : goal.expand_variant-returns-in-Entity
expand_variant-returns-in-Entity g t c =
    let N = g.row.N.Denot in
    let s = g.R.Meanings.scope c.args.names.now in
    let ns = g.R.Meanings.place c.args.names.now in
    if_ok (ReferenceExpandsTo s ns Entity c.in-Entity.name)
    (ShapeExpandsTo s ns c.args.shape.now) c.expand_reference.result
    (λ x h loc. (
      h.0,
      subst (λ v. Expands N s ns (Variant v loc) h.0) (sym c.in-Entity.is)
          (entity ns c.in-Entity.name loc h.0 h.1),
      h.2,
    )) c.expand_reference.ensures

pub expand_variant-returns-in-EntityOrCommon : goal.expand_variant-returns-in-EntityOrCommon
expand_variant-returns-in-EntityOrCommon g t c =
    let N = g.row.N.Denot in
    let s = g.R.Meanings.scope c.args.names.now in
    let ns = g.R.Meanings.place c.args.names.now in
    if_ok (ReferenceExpandsTo s ns CommonOrEntity c.in-EntityOrCommon.type_name)
    (ShapeExpandsTo s ns c.args.shape.now) c.expand_reference-in-EntityOrCommon.result
    (λ x h loc. (
      h.0,
      subst (λ v. Expands N s ns (Variant v loc) h.0) (sym c.in-EntityOrCommon.is)
          (either ns c.in-EntityOrCommon.type_name loc h.0 h.1),
      h.2,
    )) c.expand_reference-in-EntityOrCommon.ensures

pub expand_variant-returns-in_ok-clone_in-in-Extension : goal.expand_variant-returns-in_ok-clone_in-in-Extension
expand_variant-returns-in_ok-clone_in-in-Extension g t c =
    let N = g.row.N.Denot in
    let s = g.R.Meanings.scope c.args.names.now in
    let ns = g.R.Meanings.place c.args.names.now in
    let Ready = IsReady s c.args.done.now ns in
    λ loc.
    let all : All Ready (extension_type c.in-Extension.name ∷ []) =
    subst (All Ready) (ap (of_variant itself) c.in-Extension.is ∙ extension_walked {N = N} itself c.in-Extension.name)
    c.requires.ready in (
      plain.Ext c.in-Extension.name.id.text,
      subst (λ v. Expands N s ns (Variant v loc) (plain.Ext c.in-Extension.name.id.text)) (sym c.in-Extension.is)
          (extension ns c.in-Extension.name loc (All-head Ready (extension_type c.in-Extension.name) [] all)),
      (c.in-Extension.name, ap built.Extension c.in_ok-clone_in-in-Extension.ensures, refl),
    )
