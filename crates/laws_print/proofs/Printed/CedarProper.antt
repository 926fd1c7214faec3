-- What is written of a fragment whose text can say it may be printed.
use Rattle.std.proofs.Common.{◌≡◌, ℕ, Bool, true, false, List, [], ◌∷◌, ◌++◌, map, Option, Some, None, option_map}
use Rattle.std.proofs.Common.{refl}
use Rattle.std.proofs.Common.{sym, ap, ◌∙◌, subst}
use Rattle.std.specs.List.{AllZip, AllByRecursion}
use Rattle.cedar_data.proofs.Every.{All-append}
use Rattle.cedar_identifiers.specs.Names.{components_of, texts_of}
use Rattle.cedar_identifiers.specs.declared.eid.Eid.{Eid}
use Rattle.cedar_identifiers.specs.declared.id.Id.{Id}
use Rattle.cedar_identifiers.specs.declared.internal_name.InternalName.{InternalName}
use Rattle.cedar_identifiers.specs.declared.name.Name.{Name}
use Rattle.cedar_identifiers.specs.declared.raw_name.RawName.{RawName}
use Rattle.schema_json.specs.Shapes.{attributes_of}
use Rattle.schema_json.specs.declared.types.Type.{«Type», Type-F, out-Type}
use Rattle.schema_json.specs.declared.types.TypeOfAttribute.{out-TypeOfAttribute}
use Rattle.schema_json.specs.declared.entity_type.EntityTypeKind.{EntityTypeKind}
use Rattle.schema_json.specs.declared.entity_type.EntityTypeKind.TheVariants.{Standard, Enum}
use Rattle.schema_json.specs.declared.action_type.ActionEntityUID.{ActionEntityUID}
use Rattle.schema_json.specs.declared.action_type.ApplySpec.{ApplySpec}
use Rattle.schema_json.specs.declared.fragment.Fragment.{Fragment}
use Rattle.schema_json.specs.AsWritten.{as_written}
use Rattle.laws_written.specs.Printed.{IsProperPath, IsProperType, AreProperAttributes, AreProperNotes}
use Rattle.laws_written.specs.PrintedDecls.{IsSome, IsProperWord, IsProperOptional, IsProperRef, IsProperTags}
use Rattle.laws_written.specs.PrintedDecls.{IsProperMember, AreProperMembers, IsProperDecl, IsProperDeclared, Group}
use Rattle.laws_written.specs.PrintedDecls.{IsProperGroup}
use Rattle.laws_written.specs.Written.{WrittenType, WrittenAttributes, path, set, rec, no_more, attribute}
use Rattle.laws_written.specs.Written.{WrittenMember, WrittenDecl, WrittenDeclared}
use Rattle.schema_print_text.specs.PrintedTypes.{PrintedAttribute, printed_name, printed_attribute}
use Rattle.schema_print.specs.PrintedFragments.{paths_of_names, parent_type, printed_parent, printed_parents}
use Rattle.schema_print.specs.FragmentGroups.{written_name, ContextAs, TargetsAs, KindAs, SpecAs, AppliedAs}
use Rattle.schema_print.specs.FragmentGroups.{AreItemsOf}
use Rattle.schema_print.specs.FragmentGroups.{IsGroupOf, AreGroupsOf}
use Rattle.laws_print.specs.Printed.CedarForm.{Block}
use Rattle.laws_print.specs.Printed.Textual.{components_written, IsRisingType, AreRisingAttributes, AreTextualTags}
use Rattle.laws_print.specs.Printed.Textual.{IsTextualKind, IsWrittenRecord, IsTextualOutside, AreTargets}
use Rattle.laws_print.specs.Printed.Textual.{AppliesAsText}
use Rattle.laws_print.specs.Printed.Textual.{IsTextualBlock, IsTextualFragment}
use Rattle.laws_print.proofs.Printed.CedarDecls.{common_printed}
use Rattle.laws_print.proofs.Printed.CedarFragments.{CommonSo, EntitySo, ActionSo}
use Rattle.laws_print.proofs.Printed.CedarTypes.{CedarView, reference, of_set, of_record, view, Entry, printed}
use Rattle.laws_print.proofs.Printed.CedarTypes.{entries_printed, PrintedAs, attribute_printed, path_is, set_is}
use Rattle.laws_print.proofs.Printed.CedarTypes.{record_attributes, IsNoRecord, no_path, no_set, no_record, no_none}
use Rattle.laws_print.proofs.Printed.CedarTypes.{alike}
use Rattle.laws_print.proofs.Printed.Folds.{Outer, name_bytes}

-- names are made of words
ids_proper : (i : Id) (ids : List Id) → IsProperPath (texts_of (i ∷ ids))
ids_proper i [] = i.word
ids_proper i (j ∷ ids) = (i.word, ids_proper j ids)

name_proper : (n : InternalName) → IsProperPath (components_of n)
name_proper n = ids_proper n.first n.others

bytes_proper : (n : InternalName) → IsProperPath (printed_name (components_of n))
bytes_proper n = subst IsProperPath (sym (name_bytes n)) (name_proper n)

paths_proper : (ns : List RawName) → AllByRecursion IsProperPath (paths_of_names components_written ns)
paths_proper [] = tt
paths_proper (n ∷ ns) = (bytes_proper n.name, paths_proper ns)

mutual
  type_proper : (t : WrittenType) (s : «Type» RawName) → CedarView s → printed s ≡ t → IsRisingType t → IsProperType t
  type_proper (path p) s (reference n loc c e) w up =
      subst IsProperPath (path_is (components_of n.name) p (sym e ∙ w)) (name_proper n.name)
  type_proper (path p) s (of_set x loc c e f) w up = no_path (set (printed x)) p (sym e ∙ w) tt
  type_proper (path p) s (of_record r loc c e f) w up =
      no_path (rec (entries_printed (attributes_of r))) p (sym e ∙ w) tt
  type_proper (set t) s (reference n loc c e) w up = no_set (path (components_of n.name)) t (sym e ∙ w) tt
  type_proper (set t) s (of_set x loc c e f) w up = type_proper t x (view x) (set_is (printed x) t (sym e ∙ w)) up
  type_proper (set t) s (of_record r loc c e f) w up = no_set (rec (entries_printed (attributes_of r))) t (sym e ∙ w) tt
  type_proper (rec xs) s (reference n loc c e) w up = no_record (path (components_of n.name)) xs (sym e ∙ w) tt
  type_proper (rec xs) s (of_set x loc c e f) w up = no_record (set (printed x)) xs (sym e ∙ w) tt
  type_proper (rec xs) s (of_record r loc c e f) w up =
      attributes_proper xs (attributes_of r) (record_attributes (entries_printed (attributes_of r)) xs (sym e ∙ w)) up.1

  attributes_proper : (xs : WrittenAttributes) (es : List Entry) → entries_printed es ≡ xs → AreRisingAttributes xs
      → AreProperAttributes xs
  attributes_proper no_more es w up = tt
  attributes_proper (attribute ns n r t xs) [] w up = no_none (attribute ns n r t xs) (sym w) tt
  attributes_proper (attribute ns n r t xs) (e ∷ es) w up =
      let p = printed_attribute components_written e.1 in
      let same = alike p.notes ns e.0 n p.required r p.ty t (entries_printed es) xs w in
      let out = out-TypeOfAttribute RawName e.1 in
      let is : PrintedAs p e.1 = attribute_printed e.1 in (
        up.2,
        type_proper t out.ty (view out.ty) (sym (ap (λ (q : PrintedAttribute). q.ty) is) ∙ same.ty) up.0,
        attributes_proper xs es same.others up.1,
      )

printed_proper : (s : «Type» RawName) → IsRisingType (printed s) → IsProperType (printed s)
printed_proper s up = type_proper (printed s) s (view s) refl up

tags_proper : (tags : Option («Type» RawName)) → AreTextualTags tags → IsProperTags (option_map printed tags)
tags_proper None h = tt
tags_proper (Some s) h = printed_proper s h.1

some_choices : (ids : List Eid) → IsSome ids → IsSome (map (λ c. c.0) ids)
some_choices [] h = absurd h
some_choices (c ∷ ids) h = tt

kind_proper : (x : Bool) (k : EntityTypeKind RawName) (name : List ℕ) (d : WrittenDecl) → IsProperWord name
    → KindAs components_written x k name d → IsTextualKind x k → IsProperDecl d
kind_proper true (Standard e) name d w h p = subst IsProperDecl (sym h) (tt, (w, tt), paths_proper e.member_of_types)
kind_proper true (Enum ids) name d w h p = absurd p
kind_proper false (Enum ids) name d w h p = subst IsProperDecl (sym h) (tt, (w, tt), some_choices ids p)
kind_proper false (Standard e) name d w (xs, same, h) p =
    subst IsProperDecl (sym h) (
      tt,
      (w, tt),
      paths_proper e.member_of_types,
      subst IsProperType same (printed_proper e.shape.0 p.0.1),
      tags_proper e.tags p.1,
    )

parent_proper : (ty : Option RawName) → IsProperPath (parent_type components_written ty)
parent_proper None = refl
parent_proper (Some n) = bytes_proper n.name

refs_proper : (rs : List (ActionEntityUID RawName as_written))
    → AllByRecursion IsProperRef (map (printed_parent components_written) rs)
refs_proper [] = tt
refs_proper (r ∷ rs) = (parent_proper r.ty, refs_proper rs)

parents_proper : (rs : Option (List (ActionEntityUID RawName as_written)))
    → AllByRecursion IsProperRef (printed_parents components_written rs)
parents_proper None = tt
parents_proper (Some rs) = refs_proper rs

context_proper : (s : «Type» RawName) (o : Outer) → out-Type RawName s ≡ o → IsTextualOutside o s → (t : WrittenType)
    → printed s ≡ t → (m : WrittenMember) → ContextAs t m → IsProperMember m
context_proper s (Type-F.Variant v loc) e h (path p) w m so = absurd (subst IsWrittenRecord w h.0)
context_proper s o e h (set t) w m so = absurd so
context_proper s (Type-F.Variant v loc) e h (rec xs) w m so =
    subst IsProperMember (sym so) (subst IsProperType w (printed_proper s h.1.1))
context_proper s (Type-F.CommonTypeRef n loc) e h (path p) w m so =
    subst IsProperMember (sym so)
    (subst IsProperPath (path_is (components_of n.name) p (sym (common_printed s n loc e) ∙ w))
    (name_proper n.name))
context_proper s (Type-F.CommonTypeRef n loc) e h (rec xs) w m so =
    absurd (subst IsNoRecord (sym (common_printed s n loc e) ∙ w) tt)

targets_proper : (context : «Type» RawName) (principals resources : List RawName)
    → AreTargets principals resources context → (ms : Option (List WrittenMember))
    → TargetsAs (paths_of_names components_written principals) (paths_of_names components_written resources)
    (printed context) ms → AreProperMembers ms
targets_proper context [] [] h ms so = subst AreProperMembers (sym so) tt
targets_proper context [] (r ∷ rs) h ms so = absurd h
targets_proper context (p ∷ ps) [] h ms so = absurd h
targets_proper context (p ∷ ps) (r ∷ rs) h ms (m, c, so) =
    subst AreProperMembers (sym so) (
      tt,
      (
        paths_proper (p ∷ ps),
        (
          paths_proper (r ∷ rs),
          (context_proper context (out-Type RawName context) refl h (printed context) refl m c, tt),
        ),
      ),
    )

spec_proper : (spec : Option (ApplySpec RawName)) → AppliesAsText false spec → (ms : Option (List WrittenMember))
    → SpecAs components_written spec ms → AreProperMembers ms
spec_proper None h ms so = subst AreProperMembers (sym so) tt
spec_proper (Some s) h ms so = targets_proper s.context.0 s.principal_types s.resource_types h ms so

applied_proper : (x : Bool) (spec : Option (ApplySpec RawName))
    (parents : Option (List (ActionEntityUID RawName as_written))) (id : List ℕ) (d : WrittenDecl)
    → AppliedAs components_written x spec (printed_parents components_written parents) id d → AppliesAsText x spec
    → IsProperDecl d
applied_proper true spec parents id d h k = subst IsProperDecl (sym h) (tt, parents_proper parents)
applied_proper false spec parents id d (ms, so, h) k =
    subst IsProperDecl (sym h) (tt, parents_proper parents, spec_proper spec k ms so)

module _ {K V : Type 0} (So : K × V → WrittenDeclared → Type 0) (Textual Noted : K × V → Type 0) where
  all_proper : ((e : K × V) (d : WrittenDeclared) → So e d → Textual e → Noted e → IsProperDeclared d)
      → (es : List (K × V)) (ds : List WrittenDeclared) → AllZip So es ds → AllByRecursion Textual es
      → AllByRecursion Noted es → AllByRecursion IsProperDeclared ds
  all_proper f [] [] z h k = tt
  all_proper f [] (d ∷ ds) z h k = absurd z
  all_proper f (e ∷ es) [] z h k = absurd z
  all_proper f (e ∷ es) (d ∷ ds) z h k = (f e d z.0 h.0 k.0, all_proper f es ds z.1 h.1 k.1)

optional_proper : (key : Option Name) → IsProperOptional (written_name key)
optional_proper None = tt
optional_proper (Some n) = bytes_proper n.name

group_proper : (b : Block) (g : Group) → IsGroupOf components_written b g → IsTextualBlock b → IsProperGroup g
group_proper b g h textual =
    let i : AreItemsOf components_written b.1 g.decls = h.items in (
      subst AreProperNotes (sym h.notes) textual.keys_rise,
      subst IsProperOptional (sym h.name) (optional_proper b.0),
      subst (AllByRecursion IsProperDeclared) (sym i.all)
          (All-append IsProperDeclared i.commons (i.entities ++ i.actions)
          (all_proper CommonSo _ _
          (λ e d s p n. (
            subst AreProperNotes (sym s.0) n,
            subst IsProperDecl (sym s.1)
                (e.0.id.id.word, printed_proper e.1.ty p.1),
          ))
          b.1.common_types i.commons i.of_commons textual.commons textual.common_notes)
          (All-append IsProperDeclared i.entities i.actions
          (all_proper EntitySo _ _
          (λ e d s p n.
          (subst AreProperNotes (sym s.0) n, kind_proper e.1.external e.1.kind e.0.id.text d.decl e.0.id.word s.1 p))
          b.1.entity_types i.entities i.of_entities textual.entities textual.entity_notes)
          (all_proper ActionSo _ _
          (λ e d s p n. (
            subst AreProperNotes (sym s.0) n,
            applied_proper e.1.external e.1.applies_to e.1.member_of e.0 d.decl s.1 p.1,
          ))
          b.1.actions i.actions i.of_actions textual.actions textual.action_notes))),
    )

groups_proper : (bs : List Block) (gs : List Group) → AllZip (IsGroupOf components_written) bs gs
    → AllByRecursion IsTextualBlock bs → AllByRecursion IsProperGroup gs
groups_proper [] [] z h = tt
groups_proper [] (g ∷ gs) z h = absurd z
groups_proper (b ∷ bs) [] z h = absurd z
groups_proper (b ∷ bs) (g ∷ gs) z h = (group_proper b g z.0 h.0, groups_proper bs gs z.1 h.1)

pub fragment_proper : (f : Fragment RawName as_written) (groups : List Group)
    → AreGroupsOf components_written f groups → IsTextualFragment f → AllByRecursion IsProperGroup groups
fragment_proper f groups z textual = groups_proper f.0 groups z textual.each
