-- A printable fragment and its form in a text define the same and resolve alike.
use Rattle.std.proofs.Common.{◌≡◌, ◌↔◌, ℕ, true, ◌||◌, map, List, [], ◌∷◌, codes, Option, refl, sym, ap, ◌∙◌, subst}
use Rattle.std.specs.List.{list_any, flat_map, AllByRecursion}
use Rattle.std.specs.Str.{bytes_eq}
use Rattle.std.proofs.lemmas.List.Folds.{list_any-append}
use Rattle.std.proofs.lemmas.Bool.{or_right}
use Rattle.cedar_data.proofs.Every.{all_front, all_back}
use Rattle.cedar_identifiers.specs.declared.internal_name.InternalName.{InternalName}
use Rattle.cedar_identifiers.specs.declared.name.Name.{Name}
use Rattle.cedar_identifiers.specs.declared.name_text.NameText as named
use Rattle.cedar_identifiers.specs.declared.raw_name.RawName.{RawName}
use Rattle.cedar_identifiers.specs.declared.unreserved_id.UnreservedId.{UnreservedId}
use Rattle.cedar_names.specs.Definitions.{same_name}
use Rattle.cedar_names.specs.Tables.{table_has}
use Rattle.cedar_names.specs.declared.extension_table.ExtensionTable.{ExtensionTable}
use Rattle.schema_json.specs.declared.fragment.Fragment.{Fragment}
use Rattle.schema_json.specs.AsWritten.{as_written}
use Rattle.schema_json_walk.specs.Parts.{Part, type_reference, context_reference, parent, principal, resource}
use Rattle.schema_json_walk.specs.Parts.{action_parent, extension_type, open_record, action_attributes}
use Rattle.schema_json_walk.specs.Parts.{external_not_bare}
use Rattle.schema_json_walk.specs.Walk.{itself, of_namespace}
use Rattle.schema_json_walk.proofs.ByParts.{namespace_by_parts}
use Rattle.schema_resolve_definitions.specs.Declarations.{name_of, declared}
use Rattle.schema_resolve_definitions.specs.Defined.{builtins, names_of_builtins, completed, defined}
use Rattle.schema_resolve_definitions.specs.Tests.{Tests, tests_of}
use Rattle.schema_resolve.specs.Resolved.{resolved}
use Rattle.schema_resolve_targets.specs.Untargeted.{undefined}
use Rattle.schema_print.specs.Printable.{IsInTable, IsMeantEitherWay, IsPrintable}
use Rattle.schema_print.proofs.Tested.{none, none_is}
use Rattle.laws_print.specs.Printed.CedarForm.{Block, cedar_form}
use Rattle.laws_print.specs.Resolving.Alike.{AreAlike}
use Rattle.laws_print.proofs.Resolving.TypesAlike.{Good, KnowsPrimitives}
use Rattle.laws_print.proofs.Resolving.FragmentsAlike.{declared_alike, all_found, all_alike, Goods}
use Rattle.laws_print.proofs.Resolving.Printed.{cedar_there}

module _ (f : Fragment RawName as_written) (table : ExtensionTable) where
  pub same_defined : defined f table ≡ defined (cedar_form f) table
  same_defined = ap (λ d. completed d (builtins table)) (declared_alike f)

  abbrev t : Tests
  t = tests_of (defined f table)

  -- a builtin word is defined in `__cedar`
  builtin_defined : (w : List ℕ) → list_any (bytes_eq w) (builtins table) ≡ true
      → t.is_common (codes "__cedar" ∷ w ∷ []) ≡ true
  builtin_defined w h =
      let d = declared f in
      list_any-append (same_name (codes "__cedar" ∷ w ∷ [])) d.commons (names_of_builtins (tests_of d) (builtins table))
      ∙ or_right _ _ (cedar_there (tests_of d) w (builtins table) h)

  knows : (ns : Option InternalName) → KnowsPrimitives t ns
  knows ns = record {
    bool = builtin_defined (codes "Bool") refl;
    long = builtin_defined (codes "Long") refl;
    string = builtin_defined (codes "String") refl;
  }

  seen : (w : List ℕ) → table_has table w ≡ true → list_any (bytes_eq w) (builtins table) ≡ true
  seen w h = or_right (bytes_eq w (codes "Bool")) _
      (or_right (bytes_eq w (codes "Long")) _ (or_right (bytes_eq w (codes "String")) _
      (any_seen table.names ∙ h)))
    where
      any_seen : (xs : List UnreservedId)
          → list_any (bytes_eq w) (map (λ n. n.id.text) xs) ≡ list_any (λ n. bytes_eq w n.id.text) xs
      any_seen [] = refl
      any_seen (x ∷ xs) = ap (λ b. bytes_eq w x.id.text || b) (any_seen xs)

  part_good : (ns : Option Name) (part : Part RawName) → IsInTable table part → IsMeantEitherWay t ns part
      → Good t (name_of ns) part
  part_good ns (type_reference kind name) i m = m
  part_good ns (context_reference name) i m = tt
  part_good ns (parent name) i m = tt
  part_good ns (principal name) i m = tt
  part_good ns (resource name) i m = tt
  part_good ns (action_parent id ty) i m = tt
  part_good ns (extension_type id) i m = builtin_defined id.id.text (seen id.id.text i)
  part_good ns open_record i m = tt
  part_good ns (action_attributes names) i m = tt
  part_good ns external_not_bare i m = tt

  -- the parts with their namespaces, block by block
  abbrev placed : Option Name → Part RawName → List (Option Name × Part RawName)
  placed ns part = (ns, part) ∷ []

  unplaced : (P : Option Name × Part RawName → Type 0) (ns : Option Name) (parts : List (Part RawName))
      → AllByRecursion P (flat_map (placed ns) parts) → AllByRecursion (λ part. P (ns, part)) parts
  unplaced P ns [] h = tt
  unplaced P ns (p ∷ ps) (h, hs) = (h, unplaced P ns ps hs)

  both : (ns : Option Name) (parts : List (Part RawName)) → AllByRecursion (λ part. IsInTable table part) parts
      → AllByRecursion (λ part. IsMeantEitherWay t ns part) parts → AllByRecursion (Good t (name_of ns)) parts
  both ns [] h k = tt
  both ns (p ∷ ps) (h, hs) (k, ks) = (part_good ns p h k, both ns ps hs ks)

  blocks : (es : List Block)
      → AllByRecursion (λ e. IsInTable table e.1) (flat_map (λ e. of_namespace (placed e.0) e.1) es)
      → AllByRecursion (λ e. IsMeantEitherWay t e.0 e.1) (flat_map (λ e. of_namespace (placed e.0) e.1) es)
      → AllByRecursion (Goods t knows) es
  blocks [] h k = tt
  blocks (e ∷ es) h k =
      let first = of_namespace (placed e.0) e.1 in
      let is = namespace_by_parts (placed e.0) e.1 in
      let In : Option Name × Part RawName → Type 0 = λ e. IsInTable table e.1 in
      let Meant : Option Name × Part RawName → Type 0 = λ e. IsMeantEitherWay t e.0 e.1 in (
        both e.0 (of_namespace itself e.1)
            (unplaced In e.0 (of_namespace itself e.1) (subst (AllByRecursion In) is (all_front In first _ h)))
            (unplaced Meant e.0 (of_namespace itself e.1)
            (subst (AllByRecursion Meant) is (all_front Meant first _ k))),
        blocks es (all_back In first _ h) (all_back Meant first _ k),
      )

  module _ (p : IsPrintable f table) where
    goods : AllByRecursion (Goods t knows) f.0
    goods = blocks f.0 p.extensions p.references

    pub found_alike : (undefined t f ≡ []) ↔ (undefined (tests_of (defined (cedar_form f) table)) (cedar_form f) ≡ [])
    found_alike =
        let same = subst (λ d. none (undefined t f) ≡ none (undefined (tests_of d) (cedar_form f))) same_defined
        (all_found t knows f.0 goods) in
        let g = undefined (tests_of (defined (cedar_form f) table)) (cedar_form f) in (
          λ h. (none_is g).0 (sym same ∙ (none_is (undefined t f)).1 h),
          λ h. (none_is (undefined t f)).0 (same ∙ (none_is g).1 h),
        )

    pub resolved_with : (H : named.Ghosts InternalName) → undefined t f ≡ []
        → AreAlike {H = H} (resolved t f) (resolved (tests_of (defined (cedar_form f) table)) (cedar_form f))
    resolved_with H h =
        subst (λ d. AreAlike {H = H} (resolved t f) (resolved (tests_of d) (cedar_form f))) same_defined
        (all_alike t knows H f.0 goods ((none_is (undefined t f)).1 h))
