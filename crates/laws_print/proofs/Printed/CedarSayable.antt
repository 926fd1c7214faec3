-- What is written of a fragment whose text can say it can be translated.
use Rattle.std.proofs.Common.{◌≡◌, ℕ, Bool, true, false, cond, List, [], ◌∷◌, ◌++◌, map, flat_map, Option, Some, None}
use Rattle.std.proofs.Common.{refl, sym, ap, ◌∙◌, subst, append-nil}
use Rattle.std.specs.List.{AllZip, AllByRecursion}
use Rattle.std.specs.List.Sorted.{IsStrictlySortedBy}
use Rattle.std.specs.Ordering.{is_eq, ordering_reverse}
use Rattle.std.specs.declared.cmp.Ordering.TheVariants.{Less}
use Rattle.std.proofs.lemmas.Map.Keys.{sorted_head, sorted_tail}
use Rattle.std.proofs.lemmas.Option.{same_Some}
use Rattle.cedar_data.proofs.Every.{All-append, All-map}
use Rattle.cedar_data.specs.Text.{text_cmp}
use Rattle.cedar_data.proofs.Orders.{text_total, equal_from}
use Rattle.cedar_data.proofs.Every.{all_of_any}
use Rattle.cedar_identifiers.specs.Words.{is_cedar}
use Rattle.cedar_identifiers.specs.declared.name.Name.{Name}
use Rattle.cedar_identifiers.specs.declared.raw_name.RawName.{RawName}
use Rattle.schema_syntax_tree.specs.declared.pr.PR.TheVariants.{Principal, Resource}
use Rattle.schema_json.specs.Keywords.{is_keyword_name}
use Rattle.schema_json.specs.declared.action_type.ApplySpec.{ApplySpec}
use Rattle.schema_json.specs.declared.entity_type.EntityTypeKind.{EntityTypeKind}
use Rattle.schema_json.specs.declared.entity_type.EntityTypeKind.TheVariants.{Standard, Enum}
use Rattle.schema_json.specs.declared.fragment.Fragment.{Fragment}
use Rattle.schema_json.specs.AsWritten.{as_written}
use Rattle.laws_written.specs.Written.{WrittenType, path, set, rec, WrittenRef, WrittenMember, types, context_path}
use Rattle.laws_written.specs.Written.{context_record, WrittenDecl, WrittenDeclared, outside}
use Rattle.laws_written.specs.PrintedDecls.{Group, namespace_items, group_items}
use Rattle.schema_convert_openings.specs.Repeats.{NoneRepeats}
use Rattle.laws_translate.specs.FragmentsSay.{entities_of_decl, actions_of_decl, commons_of_decl, NamespaceName}
use Rattle.laws_translate.specs.FragmentsSay.{namespace_order, name_components, WrittenNamespace, items_of_namespace}
use Rattle.laws_translate.specs.FragmentsSay.{opened}
use Rattle.laws_translate.specs.Sayable.{IsFreeNamespace, says_alike, HasLawfulMembers, AppliesWell, IsFreeCommonName}
use Rattle.laws_translate.specs.Sayable.{names_written, IsSayableNamespace, IsSayable}
use Rattle.laws_translate.proofs.Grouped.{outside_decls, filter_append}
use Rattle.laws_translate.proofs.MeantSayable.{AreUnlike, unlike_once, same_text, names_append, flat_one, flat_none}
use Rattle.laws_translate.proofs.Orders.{namespace_exact}
use Rattle.schema_print.specs.PrintedFragments.{paths_of_names, printed_parents}
use Rattle.schema_print.specs.FragmentGroups.{ContextAs, TargetsAs, KindAs, SpecAs, AppliedAs, AreItemsOf, IsGroupOf}
use Rattle.schema_print.specs.FragmentGroups.{AreGroupsOf}
use Rattle.laws_print.specs.Printed.CedarForm.{Block}
use Rattle.laws_print.specs.Printed.Textual.{components_written, IsTextualBlock, IsTextualFragment}
use Rattle.laws_print.proofs.Printed.CedarDecls.{EntityEntry, CommonEntry, ActionEntry, entity_names, common_names}
use Rattle.laws_print.proofs.Printed.CedarDecls.{action_names}
use Rattle.laws_print.proofs.Printed.CedarFragments.{CommonSo, EntitySo, ActionSo, is_block, group_at, none_written}
use Rattle.laws_print.proofs.Printed.CedarFragments.{name_is}
use Rattle.laws_print.proofs.Printed.CedarTypes.{printed}

-- names that rise do not repeat
rising_unlike : (xs : List (List ℕ)) → IsStrictlySortedBy text_cmp xs → AreUnlike same_text xs
rising_unlike [] s = tt
rising_unlike (x ∷ xs) s = (behind xs (sorted_head text_cmp x xs s), rising_unlike xs (sorted_tail text_cmp x xs s))
  where
    behind : (ys : List (List ℕ)) → AllByRecursion (λ y. text_cmp x y ≡ Less) ys
        → AllByRecursion (λ y. same_text y x ≡ false) ys
    behind [] h = tt
    behind (y ∷ ys) h = (ap is_eq (text_total.antisymm y x ∙ ap ordering_reverse h.0), behind ys h.1)

rising_once : (xs : List (List ℕ)) → IsStrictlySortedBy text_cmp xs → NoneRepeats text_cmp xs
rising_once xs s = unlike_once same_text xs (rising_unlike xs s)

-- the names that declarations give
module _ {K V : Type 0} (So : K × V → WrittenDeclared → Type 0) (f : WrittenDecl → List (List ℕ))
    (of : K × V → List (List ℕ)) where
  names_given : ((e : K × V) (d : WrittenDeclared) → So e d → f d.decl ≡ of e)
      → (es : List (K × V)) (ds : List WrittenDeclared) → AllZip So es ds → names_written f ds ≡ flat_map of es
  names_given g [] [] z = refl
  names_given g [] (d ∷ ds) z = absurd z
  names_given g (e ∷ es) [] z = absurd z
  names_given g (e ∷ es) (d ∷ ds) z =
      let first = g e d z.0 in
      let others = names_given g es ds z.1 in
      λ i. first i ++ others i

-- blocks of members
kind_applies : (x : Bool) (k : EntityTypeKind RawName) (name : List ℕ) (d : WrittenDecl)
    → KindAs components_written x k name d → AppliesWell d
kind_applies true (Standard e) name d h = subst AppliesWell (sym h) tt
kind_applies true (Enum ids) name d h = subst AppliesWell (sym h) tt
kind_applies false (Enum ids) name d h = subst AppliesWell (sym h) tt
kind_applies false (Standard e) name d (xs, same, h) = subst AppliesWell (sym h) tt

members_lawful : (p r : List (List ℕ)) (ps rs : List (List (List ℕ))) (t : WrittenType) (m : WrittenMember)
    → ContextAs t m
    → HasLawfulMembers (Some (types Principal (p ∷ ps) ∷ types Resource (r ∷ rs) ∷ m ∷ []))
members_lawful p r ps rs (set t) m so = absurd so
members_lawful p r ps rs (rec xs) m so = subst
    (λ x. HasLawfulMembers (Some (types Principal (p ∷ ps) ∷ types Resource (r ∷ rs) ∷ x ∷ []))) (sym so) (record {
      said_once = unlike_once says_alike (types Principal (p ∷ ps) ∷ types Resource (r ∷ rs) ∷ context_record xs ∷ [])
          ((refl, (refl, tt)), ((refl, tt), (tt, tt)));
      filled = (tt, (tt, (tt, tt)));
      principals = refl;
      resources = refl;
    })
members_lawful p r ps rs (path q) m so = subst
    (λ x. HasLawfulMembers (Some (types Principal (p ∷ ps) ∷ types Resource (r ∷ rs) ∷ x ∷ []))) (sym so) (record {
      said_once = unlike_once says_alike (types Principal (p ∷ ps) ∷ types Resource (r ∷ rs) ∷ context_path q ∷ [])
          ((refl, (refl, tt)), ((refl, tt), (tt, tt)));
      filled = (tt, (tt, (tt, tt)));
      principals = refl;
      resources = refl;
    })

targets_lawful : (ps rs : List (List (List ℕ))) (t : WrittenType) (ms : Option (List WrittenMember))
    → TargetsAs ps rs t ms → HasLawfulMembers ms
targets_lawful [] rs t ms so = subst HasLawfulMembers (sym so) tt
targets_lawful (p ∷ ps) [] t ms so = subst HasLawfulMembers (sym so) tt
targets_lawful (p ∷ ps) (r ∷ rs) t ms (m, c, so) = subst HasLawfulMembers (sym so) (members_lawful p r ps rs t m c)

spec_lawful : (spec : Option (ApplySpec RawName)) (ms : Option (List WrittenMember))
    → SpecAs components_written spec ms → HasLawfulMembers ms
spec_lawful None ms so = subst HasLawfulMembers (sym so) tt
spec_lawful (Some s) ms so = targets_lawful (paths_of_names components_written s.principal_types)
    (paths_of_names components_written s.resource_types) (printed s.context.0) ms so

applied_lawful : (x : Bool) (spec : Option (ApplySpec RawName)) (parents : List WrittenRef) (id : List ℕ)
    (d : WrittenDecl) → AppliedAs components_written x spec parents id d → AppliesWell d
applied_lawful true spec parents id d h = subst AppliesWell (sym h) tt
applied_lawful false spec parents id d (ms, so, h) = subst AppliesWell (sym h) (spec_lawful spec ms so)

module _ {K V : Type 0} (So : K × V → WrittenDeclared → Type 0) where
  all_apply : ((e : K × V) (d : WrittenDeclared) → So e d → AppliesWell d.decl)
      → (es : List (K × V)) (ds : List WrittenDeclared) → AllZip So es ds
      → AllByRecursion (λ (d : WrittenDeclared). AppliesWell d.decl) ds
  all_apply f [] [] z = tt
  all_apply f [] (d ∷ ds) z = absurd z
  all_apply f (e ∷ es) [] z = absurd z
  all_apply f (e ∷ es) (d ∷ ds) z = (f e d z.0, all_apply f es ds z.1)

all_of_map : {A B : Type 0} (P : B → Type 0) (f : A → B) (xs : List A) → ((x : A) → P (f x))
    → AllByRecursion P (map f xs)
all_of_map P f xs h = All-map P f xs (all_of_any (λ x. P (f x)) h xs)

abbrev common_name : CommonEntry → List ℕ
common_name e = e.0.id.id.text

abbrev entity_name : EntityEntry → List ℕ
entity_name e = e.0.id.text

abbrev action_name : ActionEntry → List ℕ
action_name e = e.0

commons_free : (es : List CommonEntry) → AllByRecursion
    (λ (e : CommonEntry). is_keyword_name e.0.id.id.text ≡ false) es
    → AllByRecursion IsFreeCommonName (map common_name es)
commons_free [] h = tt
commons_free (e ∷ es) h = ((e.0.id.unreserved, h.0), commons_free es h.1)

block_free : (key : Option Name) → IsFreeNamespace (name_components key)
block_free None = tt
block_free (Some n) = n.unreserved

module _ (b : Block) (ds : List WrittenDeclared) (h : AreItemsOf components_written b.1 ds)
    (textual : IsTextualBlock b) where
  parts : (f : WrittenDecl → List (List ℕ)) → names_written f ds ≡ names_written f h.commons
      ++ (names_written f h.entities ++ names_written f h.actions)
  parts f = ap (names_written f) h.all
      ∙ (names_append f h.commons (h.entities ++ h.actions)
      ∙ ap (λ l. names_written f h.commons ++ l) (names_append f h.entities h.actions))

  commons_are : names_written commons_of_decl ds ≡ map common_name b.1.common_types
  commons_are =
      parts commons_of_decl
      ∙ ((λ i. (names_given CommonSo commons_of_decl (λ e. common_name e ∷ [])
      (λ e d s. (common_names e d s).of_commons) b.1.common_types h.commons h.of_commons
      ∙ flat_one common_name b.1.common_types) i
      ++ ((names_given EntitySo commons_of_decl (λ e. [])
      (λ e d s. (entity_names e d s).of_commons) b.1.entity_types h.entities h.of_entities
      ∙ flat_none b.1.entity_types) i
      ++ (names_given ActionSo commons_of_decl (λ e. [])
      (λ e d s. (action_names e d s).of_commons) b.1.actions h.actions h.of_actions ∙ flat_none b.1.actions) i))
      ∙ append-nil (map common_name b.1.common_types))

  entities_are : names_written entities_of_decl ds ≡ map entity_name b.1.entity_types
  entities_are =
      parts entities_of_decl
      ∙ ((λ i. (names_given CommonSo entities_of_decl (λ e. [])
      (λ e d s. (common_names e d s).of_entities) b.1.common_types h.commons h.of_commons
      ∙ flat_none b.1.common_types) i
      ++ ((names_given EntitySo entities_of_decl (λ e. entity_name e ∷ [])
      (λ e d s. (entity_names e d s).of_entities) b.1.entity_types h.entities h.of_entities
      ∙ flat_one entity_name b.1.entity_types) i
      ++ (names_given ActionSo entities_of_decl (λ e. [])
      (λ e d s. (action_names e d s).of_entities) b.1.actions h.actions h.of_actions ∙ flat_none b.1.actions) i))
      ∙ append-nil (map entity_name b.1.entity_types))

  actions_are : names_written actions_of_decl ds ≡ map action_name b.1.actions
  actions_are =
      parts actions_of_decl
      ∙ (λ i. (names_given CommonSo actions_of_decl (λ e. [])
      (λ e d s. (common_names e d s).of_actions) b.1.common_types h.commons h.of_commons
      ∙ flat_none b.1.common_types) i
      ++ ((names_given EntitySo actions_of_decl (λ e. [])
      (λ e d s. (entity_names e d s).of_actions) b.1.entity_types h.entities h.of_entities
      ∙ flat_none b.1.entity_types) i
      ++ (names_given ActionSo actions_of_decl (λ e. action_name e ∷ [])
      (λ e d s. (action_names e d s).of_actions) b.1.actions h.actions h.of_actions
      ∙ flat_one action_name b.1.actions) i))

  block_sayable : IsSayableNamespace (name_components b.0) ds
  block_sayable = record {
    name_free = block_free b.0;
    entities_once = subst (NoneRepeats text_cmp) (sym entities_are)
        (rising_once (map entity_name b.1.entity_types) textual.entities_rise);
    actions_once = subst (NoneRepeats text_cmp) (sym actions_are)
        (rising_once (map action_name b.1.actions) textual.actions_rise);
    commons_once = subst (NoneRepeats text_cmp) (sym commons_are)
        (rising_once (map common_name b.1.common_types) textual.commons_rise);
    entities_free = subst (AllByRecursion (λ n. is_cedar n ≡ false)) (sym entities_are)
        (all_of_map (λ n. is_cedar n ≡ false) entity_name b.1.entity_types (λ e. e.0.unreserved));
    blocks = subst (AllByRecursion (λ (d : WrittenDeclared). AppliesWell d.decl)) (sym h.all)
        (All-append (λ (d : WrittenDeclared). AppliesWell d.decl) h.commons (h.entities ++ h.actions)
        (all_apply CommonSo (λ e d s. subst AppliesWell (sym s.1) tt) b.1.common_types h.commons h.of_commons)
        (All-append (λ (d : WrittenDeclared). AppliesWell d.decl) h.entities h.actions
        (all_apply EntitySo (λ e d s. kind_applies e.1.external e.1.kind e.0.id.text d.decl s.1)
        b.1.entity_types h.entities h.of_entities)
        (all_apply ActionSo
        (λ e d s. applied_lawful e.1.external e.1.applies_to
        (printed_parents components_written e.1.member_of) e.0 d.decl s.1) b.1.actions h.actions h.of_actions)));
    commons_free = subst (AllByRecursion IsFreeCommonName) (sym commons_are)
        (commons_free b.1.common_types textual.commons_open);
  }

group_decls : (g : Group) (name : NamespaceName) → g.name ≡ name → (w : WrittenNamespace)
    → opened (group_items g) ≡ Some w → w.decls ≡ g.decls
group_decls g None s w e = by g.decls (sym (ap (λ n. opened (namespace_items g.notes n g.decls)) s) ∙ e)
  where
    by : (ds : List WrittenDeclared) → opened (map outside ds) ≡ Some w → w.decls ≡ ds
    by [] e = cc
    by (d ∷ ds) e = ap (λ (x : WrittenNamespace). x.decls) (sym (same_Some _ w e)) ∙ outside_decls (d ∷ ds)
group_decls g (Some p) s w e = ap (λ (x : WrittenNamespace). x.decls)
    (sym (same_Some _ w (sym (ap (λ n. opened (namespace_items g.notes n g.decls)) s) ∙ e))) ∙ append-nil g.decls

sayable_at : (q : NamespaceName) (bs : List Block) (gs : List Group) → AllZip (IsGroupOf components_written) bs gs
    → IsStrictlySortedBy namespace_order (map (λ e. name_components e.0) bs) → AllByRecursion IsTextualBlock bs
    → (w : WrittenNamespace) → opened (items_of_namespace q (flat_map group_items gs)) ≡ Some w
    → IsSayableNamespace q w.decls
sayable_at q [] [] z up textual w e = cc
sayable_at q [] (g ∷ gs) z up textual w e = absurd z
sayable_at q (b ∷ bs) [] z up textual w e = absurd z
sayable_at q (b ∷ bs) (g ∷ gs) z up textual w e =
    by (is_block q b) refl (ap opened (sym (filter_append q (group_items g) (flat_map group_items gs))) ∙ e)
    (sayable_at q bs gs z.1
    (sorted_tail namespace_order (name_components b.0) (map (λ e. name_components e.0) bs) up) textual.1 w)
  where
    by : (t : Bool) → is_block q b ≡ t → opened
        (items_of_namespace q (group_items g) ++ items_of_namespace q (flat_map group_items gs)) ≡ Some w
        → (opened (items_of_namespace q (flat_map group_items gs)) ≡ Some w → IsSayableNamespace q w.decls)
        → IsSayableNamespace q w.decls
    by true t k r =
        let here : name_components b.0 ≡ q = sym
        (namespace_exact q (name_components b.0) (equal_from (namespace_order q (name_components b.0)) t)) in
        let above = sorted_head namespace_order (name_components b.0)
        (map (λ (d : Block). name_components d.0) bs) up in
        let whole : items_of_namespace q (group_items g)
        ++ items_of_namespace q (flat_map group_items gs) ≡ group_items g =
        (λ i. (group_at q b g z.0 ∙ ap (λ t. cond t (group_items g) []) t) i
        ++ none_written q bs gs z.1
        (subst (λ m. AllByRecursion (λ y. namespace_order m y ≡ Less)
        (map (λ (d : Block). name_components d.0) bs)) here above) i) ∙ append-nil (group_items g) in
        subst (λ ds. IsSayableNamespace q ds)
        (sym (group_decls g (name_components b.0) (z.0.name ∙ name_is b.0) w (ap opened (sym whole) ∙ k)))
        (subst (λ m. IsSayableNamespace m g.decls) here (block_sayable b g.decls z.0.items textual.0))
    by false t k r =
        r (ap opened
        (sym (ap (λ l. l ++ items_of_namespace q (flat_map group_items gs))
        (group_at q b g z.0 ∙ ap (λ t. cond t (group_items g) []) t))) ∙ k)

pub fragment_sayable : (f : Fragment RawName as_written) (groups : List Group)
    → AreGroupsOf components_written f groups → IsTextualFragment f → IsSayable (flat_map group_items groups)
fragment_sayable f groups z textual q w e = sayable_at q f.0 groups z textual.names_rise textual.each w e
