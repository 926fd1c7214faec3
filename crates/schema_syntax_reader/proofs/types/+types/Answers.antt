use Rattle.std.proofs.Common.{refl, sym, ap, subst, ◌∙◌, ◌∷◌, [], ◌≡◌, ◌≤◌, arith, rules}
use Rattle.std.proofs.lemmas.List.{nil_from_length}
use Rattle.schema_syntax_parser.specs.declared.syntax.TypeSyntax.TheVariants as syntax
use Rattle.schema_syntax_parser.specs.Syntax.{AreAnnotations, IsAttr, IsType}
use Rattle.schema_syntax_reader.specs.Placed.{IsScanned}
use Rattle.schema_syntax_reader.specs.Sites.{annotations, sites_of_attr}
use Rattle.schema_syntax_reader.specs.Leaves.{AreNotes}
use Rattle.schema_syntax_reader.specs.Stops.{IsStopped}
use Rattle.schema_syntax_reader.specs.Readings.{IsAttrOf}
use Rattle.schema_syntax_reader.specs.Trees.{IsTypeOf, AreAttrsOf}
use Rattle.schema_syntax_reader.proofs.Readings.{Faultless, ReadTo, stops, none_read, next_part, next_fits}
use Rattle.schema_syntax_reader.proofs.Readings.{one_more_read, stopped_at_part, all_read}
use Rattle.schema_syntax_reader.proofs.Scanned.{attr_parts, path_part, set_part, record_part}
use Rattle.schema_syntax_reader.proofs.TypeReads.{stops_at_notes, stops_at_name, stops_at_type, attr_faultless}
use Rattle.schema_syntax_reader.proofs.TypeReads.{attrs_are, path_typed, set_typed}
use Rattle.schema_syntax_reader.proofs.TypeReads.{record_typed, record_stops}
use Rattle.schema_syntax_reader.proofs.Depths.{type_depth, attr_depth, attrs_depth, set_deep, record_deep, attr_deep_as}
use Rattle.schema_syntax_reader.proofs.Depths.{among_attrs}
use Rattle.schema_syntax_reader.proofs.types.+types.Goals as goal

pub attr-notes-requires : goal.attr-notes-requires
attr-notes-requires t c =
    subst (IsScanned AreAnnotations c.args.text.now) (sym c.as_slice.ensures)
    (attr_parts c.args.text.now c.args.raw c.requires.1.1).notes

pub attr-name_node-requires : goal.attr-name_node-requires
attr-name_node-requires t c = (attr_parts c.args.text.now c.args.raw c.requires.1.1).name

pub attr-ty-requires : goal.attr-ty-requires
attr-ty-requires t c =
    let deep = attr_deep_as c.args.raw in
    (omega (arith, deep, c.requires.1.0), (attr_parts c.args.text.now c.args.raw c.requires.1.1).ty)

pub attr-returns-in_err-annotations : goal.attr-returns-in_err-annotations
attr-returns-in_err-annotations t c =
    stops c.args.text.now _ c.from_residual.result _ c.from_residual.ensures.1 _
    (stops_at_notes c.args.text.now c.args.raw c.in_err-annotations.field-0.0
    (subst (λ l. IsStopped c.args.text.now (annotations l ∷ []) c.in_err-annotations.field-0.0) c.as_slice.ensures
    c.in_err-annotations.ensures))

pub attr-returns-in_err-name : goal.attr-returns-in_err-name
attr-returns-in_err-name t c =
    let noted = subst (λ l. Faultless c.args.text.now (annotations l ∷ [])) c.as_slice.ensures
    c.in_ok-annotations.ensures.1 in
    stops c.args.text.now _ c.from_residual-in_err-name.result _ c.from_residual-in_err-name.ensures.1 _
    (stops_at_name c.args.text.now c.args.raw noted c.in_err-name.field-0.0 c.in_err-name.ensures)

pub attr-returns-in_err-ty : goal.attr-returns-in_err-ty
attr-returns-in_err-ty t c =
    let noted = subst (λ l. Faultless c.args.text.now (annotations l ∷ [])) c.as_slice.ensures
    c.in_ok-annotations.ensures.1 in
    stops c.args.text.now _ c.from_residual-in_err-ty.result _ c.from_residual-in_err-ty.ensures.1 _
    (stops_at_type c.args.text.now c.args.raw noted c.in_ok-name.ensures.1 c.in_err-ty.field-0.0
    c.in_err-ty.ensures)

pub attr-returns : goal.attr-returns
attr-returns t c =
    let noted = subst (λ l. Faultless c.args.text.now (annotations l ∷ [])) c.as_slice.ensures
    c.in_ok-annotations.ensures.1 in
    let notes = subst (λ l. AreNotes c.args.text.now l c.in_ok-annotations.annotations.0) c.as_slice.ensures
    c.in_ok-annotations.ensures.0 in (
      (
        c.in_ok-name.name,
        c.in_ok-ty.ty,
        c.in_ok-annotations.annotations,
        c.in_ok-name.ensures.0,
        c.in_ok-ty.ensures.0,
        notes,
        refl,
      ),
      attr_faultless c.args.text.now c.args.raw noted c.in_ok-name.ensures.1 c.in_ok-ty.ensures.1,
    )

pub attrs-loop-raw-init : goal.attrs-loop-raw-init
attrs-loop-raw-init t c =
    none_read c.args.text.now sites_of_attr (IsAttrOf c.args.text.now) c.args.raws _ _ (search rules) (search rules)

pub attrs-attr-requires : goal.attrs-attr-requires
attrs-attr-requires t c =
    let next = c.in-Some.ensures.items in
    let split = next_part c.args.text.now sites_of_attr (IsAttrOf c.args.text.now) c.args.raws
    c.loop-raw.left.items c.in-Some.raw c.pop_front.new.self.items next c.loop-raw.items.items
    c.loop-raw.invariant in
    let deep : attr_depth c.in-Some.raw ≤ attrs_depth c.args.raws =
    among_attrs c.args.raws c.loop-raw.invariant.done c.in-Some.raw c.pop_front.new.self.items split in (
      omega (arith, deep, c.requires.1.0),
      next_fits c.args.text.now sites_of_attr (IsAttrOf c.args.text.now) c.args.raws c.loop-raw.left.items
          c.in-Some.raw c.pop_front.new.self.items next c.loop-raw.items.items c.loop-raw.invariant
          (IsScanned IsAttr c.args.text.now) c.requires.1.1,
    )

pub attrs-returns-in_err-item : goal.attrs-returns-in_err-item
attrs-returns-in_err-item t c =
    stops c.args.text.now _ c.from_residual-in_err-item.result _ c.from_residual-in_err-item.ensures.1 _
    (stopped_at_part c.args.text.now sites_of_attr (IsAttrOf c.args.text.now) c.args.raws c.loop-raw.left.items
    c.in-Some.raw c.pop_front.new.self.items c.in-Some.ensures.items c.loop-raw.items.items c.loop-raw.invariant
    c.in_err-item.field-0.0 c.in_err-item.ensures)

pub attrs-loop-raw-preserved : goal.attrs-loop-raw-preserved
attrs-loop-raw-preserved t c =
    subst (λ l. ReadTo c.args.text.now sites_of_attr (IsAttrOf c.args.text.now) c.args.raws l c.push.new.self.items)
    (sym c.let_room_go.ensures)
    (one_more_read c.args.text.now sites_of_attr (IsAttrOf c.args.text.now) c.args.raws c.loop-raw.left.items
    c.in-Some.raw c.pop_front.new.self.items c.in-Some.ensures.items c.loop-raw.items.items c.loop-raw.invariant _
    c.in_ok-item.item c.in_ok-item.ensures.0 c.in_ok-item.ensures.1 c.in_ok-push.ensures.items)

pub attrs-returns : goal.attrs-returns
attrs-returns t c =
    let none = nil_from_length _ (sym c.loop-raw.left.ok.0 ∙ (rw c.in_default.is at c.pop_front.ensures.cases).0) in
    let all = all_read c.args.text.now sites_of_attr (IsAttrOf c.args.text.now) c.args.raws
    c.loop-raw.left.items c.loop-raw.items.items none c.loop-raw.invariant in
    (attrs_are c.args.text.now c.args.raws c.loop-raw.items.items all.0, all.1)

pub ty-path-requires : goal.ty-path-requires
ty-path-requires t c = path_part c.args.text.now c.args.raw c.in-Path.raw c.in-Path.is c.requires.1.1

pub ty-ty-requires : goal.ty-ty-requires
ty-ty-requires t c =
    let deep = set_deep c.args.raw c.in-Set.element c.in-Set.loc c.in-Set.is in
    let here : type_depth c.into_inner.result ≡ type_depth c.in-Set.element = ap type_depth c.into_inner.ensures in (
      omega (arith, deep, here, c.requires.1.0),
      subst (IsScanned IsType c.args.text.now) (sym c.into_inner.ensures)
          (set_part c.args.text.now c.args.raw c.in-Set.element c.in-Set.loc c.in-Set.is c.requires.1.1),
    )

pub ty-attrs-requires : goal.ty-attrs-requires
ty-attrs-requires t c =
    let deep = record_deep c.args.raw c.in-Record.raws c.in-Record.loc c.in-Record.is in (
      omega (arith, deep, c.requires.1.0),
      record_part c.args.text.now c.args.raw c.in-Record.raws c.in-Record.loc c.in-Record.is c.requires.1.1,
    )

pub ty-returns-in_err-attrs-in-Record : goal.ty-returns-in_err-attrs-in-Record
ty-returns-in_err-attrs-in-Record t c =
    stops c.args.text.now _ c.from_residual-in_err-attrs-in-Record.result _
    c.from_residual-in_err-attrs-in-Record.ensures.1 _
    (record_stops c.args.text.now c.args.raw c.in-Record.raws c.in-Record.loc
    c.in_err-attrs-in-Record.field-0.0 c.in-Record.is c.in_err-attrs-in-Record.ensures)

pub ty-returns-in_ok-name-in-Path : goal.ty-returns-in_ok-name-in-Path
ty-returns-in_ok-name-in-Path t c =
    path_typed c.args.text.now c.args.raw c.in-Path.raw c.in_ok-name-in-Path.name c.in-Path.is
    c.in_ok-name-in-Path.ensures.0 c.in_ok-name-in-Path.ensures.1

pub ty-returns-in_ok-element-in-Set-2 : goal.ty-returns-in_ok-element-in-Set-2
ty-returns-in_ok-element-in-Set-2 t c =
    let n = c.in_ok-element-in-Set-2.element in
    let same = c.in_ok-element-in-Set-2.ensures in
    set_typed c.args.text.now c.args.raw c.into_inner.result c.in-Set.loc n
    (c.in-Set.is ∙ ap (λ x. syntax.Set x c.in-Set.loc) (sym c.into_inner.ensures))
    (subst (IsTypeOf c.args.text.now c.into_inner.result) (sym same) c.in_ok-element-in-Set.ensures.0)
    c.in_ok-element-in-Set.ensures.1

pub ty-returns-in_ok-attrs-in-Record : goal.ty-returns-in_ok-attrs-in-Record
ty-returns-in_ok-attrs-in-Record t c =
    record_typed c.args.text.now c.args.raw c.in-Record.raws c.in-Record.loc _ c.in-Record.is
    (subst (AreAttrsOf c.args.text.now c.in-Record.raws) (sym c.from_vec.ensures) c.in_ok-attrs-in-Record.ensures.0)
    c.in_ok-attrs-in-Record.ensures.1
