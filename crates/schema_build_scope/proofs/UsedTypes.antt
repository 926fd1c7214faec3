-- The types that a fragment uses are those of its entity types and actions.
use Rattle.std.proofs.Common.{◌≡◌, ℕ, ◌+◌, ◌<◌, List, [], ◌∷◌, ◌++◌, length, get_or, take, map, All, Contains}
use Rattle.std.proofs.Common.{Option, Some, None, refl, sym, ap, ◌∙◌, subst, append_assoc, append-nil}
use Rattle.std.specs.List.{flat_map}
use Rattle.std.proofs.lemmas.Grind.{flat_map-append}
use Rattle.std.proofs.lemmas.List.{take_more}
use Rattle.std.proofs.lemmas.List.Elements.{All-nil, All-cons, All-head, All-tail, All-append, All-contains}
use Rattle.cedar_data.proofs.Lists.{All-front, All-back, all_of, contains_flat, contains_map}
use Rattle.cedar_identifiers.specs.declared.name.Name.{Name}
use Rattle.cedar_identifiers.specs.declared.name_text.NameText as named
use Rattle.cedar_identifiers.specs.declared.raw_name.RawName.{RawName}
use Rattle.cedar_identifiers.specs.declared.unreserved_id.UnreservedId.{UnreservedId}
use Rattle.cedar_names.specs.declared.extension_table.ExtensionTable.{ExtensionTable}
use Rattle.schema_json.specs.declared.action_type.ActionType.{ActionType}
use Rattle.schema_json.specs.declared.action_type.ApplySpec.{ApplySpec}
use Rattle.schema_json.specs.declared.entity_type.EntityType.{EntityType}
use Rattle.schema_json.specs.declared.entity_type.EntityTypeKind.{EntityTypeKind}
use Rattle.schema_json.specs.declared.entity_type.EntityTypeKind.TheVariants.{Standard, Enum}
use Rattle.schema_json.specs.declared.fragment.Fragment.{Fragment}
use Rattle.schema_json.specs.declared.fragment.NamespaceDefinition.{NamespaceDefinition}
use Rattle.schema_json.specs.declared.types.Type.{«Type»}
use Rattle.schema_json_walk.specs.Walk.{parts}
use Rattle.schema_build_types.specs.declared.types.Type.{«Type» as Built}
use Rattle.schema_build_expand.specs.Rows.{IsMeant}
use Rattle.schema_build_expand.specs.Targets.{IsReady}
use Rattle.schema_build_scope.specs.Commons.{TypeAt}
use Rattle.schema_build_scope.specs.FragmentScope.{fragment_scope}
use Rattle.schema_build_scope.specs.Parts.{AreTypesMeant, AreTypesReady}
use Rattle.schema_build_scope.specs.Uses.{type_at, used_by_tags, used_by_kind, used_by_apply, used_in, used_types}
use Rattle.schema_build_scope.proofs.Quiet.{IsOfParts, quiet_in}

each_flat : {A B : Type 0} (P : B → Type 0) (f : A → List B) (xs : List A) → ((x : A) → Contains xs x → All P (f x))
    → All P (flat_map f xs)
each_flat P f xs h = all_of P (flat_map f xs)
    (λ y c. let (x, there, here) = contains_flat f xs y c in All-contains P (f x) y (h x there) here)

all_parted : {A : Type 0} (P : A → Type 0) → IsOfParts (All P)
all_parted P = record { left = All-front P; right = All-back P }

-- what holds of each of a list, where another is seen as it
pub all_seen : {A B : Type 0} (P : B → Type 0) (h : A → B) (xs : List A) (ys : List B) → map h xs ≡ ys → All P ys
    → All (λ x. P (h x)) xs
all_seen P h xs ys e all = all_of (λ x. P (h x)) xs
    (λ x c. All-contains P ys (h x) all (subst (λ l. Contains l (h x)) e (contains_map h xs x c)))

-- the types of one namespace more
pub used_more : {G : named.Ghosts RawName} (spaces : List (Option Name × NamespaceDefinition RawName G)) (i : ℕ)
    (x : Option Name × NamespaceDefinition RawName G) (old mid new : List TypeAt)
    (entities : List (UnreservedId × EntityType RawName)) (actions : List (List ℕ × ActionType RawName G))
    → i < length spaces → x ≡ get_or spaces i x → old ≡ flat_map used_in (take i spaces)
    → mid ≡ old ++ flat_map (λ d. used_by_kind x.0 d.1.kind) entities → entities ≡ x.1.entity_types
    → new ≡ mid ++ flat_map (λ d. used_by_apply x.0 d.1.applies_to) actions → actions ≡ x.1.actions
    → new ≡ flat_map used_in (take (i + 1) spaces)
used_more {G} spaces i x old mid new entities actions lt is o m e n a =
    let kinds = flat_map (λ (d : UnreservedId × EntityType RawName). used_by_kind x.0 d.1.kind) x.1.entity_types in
    let contexts = flat_map (λ (d : List ℕ × ActionType RawName G). used_by_apply x.0 d.1.applies_to) x.1.actions in
    let both : mid ≡ old ++ kinds =
    m ∙ ap (λ es. old ++ flat_map (λ (d : UnreservedId × EntityType RawName). used_by_kind x.0 d.1.kind) es) e in
    let all : new ≡ (old ++ kinds) ++ contexts =
    n ∙ ap (λ l. mid ++ flat_map (λ (d : List ℕ × ActionType RawName G). used_by_apply x.0 d.1.applies_to) l) a
    ∙ ap (λ l. l ++ contexts) both in
    all ∙ append_assoc old kinds contexts ∙ ap (λ l. l ++ used_in x) o
    ∙ ap (λ l. flat_map used_in (take i spaces) ++ l) (sym (append-nil (used_in x)))
    ∙ sym (flat_map-append used_in (take i spaces) (x ∷ []))
    ∙ ap (λ y. flat_map used_in (take i spaces ++ y ∷ [])) is
    ∙ ap (flat_map used_in) (sym (take_more spaces i x lt))

module _ {G : named.Ghosts RawName} (f : Fragment RawName G) (table : ExtensionTable) where
  abbrev pub IsMeantAt : TypeAt → Type 0
  IsMeantAt t = All (IsMeant (fragment_scope f table) t.place) (parts t.ty)

  module _ (meant : AreTypesMeant f table) where
    kind_meant : (ns : Option Name) (n : NamespaceDefinition RawName G) (e : UnreservedId × EntityType RawName)
        → Contains f.0 (ns, n) → Contains n.entity_types e → (kind : EntityTypeKind RawName) → e.1.kind ≡ kind
        → All IsMeantAt (used_by_kind ns kind)
    kind_meant ns n e in_f in_n (Standard s) is =
        All-cons IsMeantAt (type_at ns s.shape.0) (used_by_tags ns s.tags) (meant.shapes ns n e s in_f in_n is)
        (tags_meant s.tags refl)
      where
        tags_meant : (tags : Option («Type» RawName)) → s.tags ≡ tags → All IsMeantAt (used_by_tags ns tags)
        tags_meant None there = All-nil IsMeantAt
        tags_meant (Some ty) there =
            All-cons IsMeantAt (type_at ns ty) [] (meant.tags ns n e s ty in_f in_n is there) (All-nil IsMeantAt)
    kind_meant ns n e in_f in_n (Enum choices) is = All-nil IsMeantAt

    apply_meant : (ns : Option Name) (n : NamespaceDefinition RawName G) (e : List ℕ × ActionType RawName G)
        → Contains f.0 (ns, n) → Contains n.actions e → (applies : Option (ApplySpec RawName))
        → e.1.applies_to ≡ applies → All IsMeantAt (used_by_apply ns applies)
    apply_meant ns n e in_f in_n None is = All-nil IsMeantAt
    apply_meant ns n e in_f in_n (Some a) is =
        All-cons IsMeantAt (type_at ns a.context.0) [] (meant.contexts ns n e a in_f in_n is) (All-nil IsMeantAt)

    pub used_meant : All IsMeantAt (used_types f)
    used_meant =
        each_flat IsMeantAt used_in f.0 (λ e in_f. All-append IsMeantAt _ _
        (each_flat IsMeantAt (λ d. used_by_kind e.0 d.1.kind) e.1.entity_types
        (λ d in_n. kind_meant e.0 e.1 d in_f in_n d.1.kind refl))
        (each_flat IsMeantAt (λ d. used_by_apply e.0 d.1.applies_to) e.1.actions
        (λ d in_n. apply_meant e.0 e.1 d in_f in_n d.1.applies_to refl)))

  module _ (done : List (Option Built)) where
    abbrev pub IsReadyAt : TypeAt → Type 0
    IsReadyAt t = All (IsReady (fragment_scope f table) done t.place) (parts t.ty)

    module _ (all : All IsReadyAt (used_types f)) where
      parted : IsOfParts (All IsReadyAt)
      parted = all_parted IsReadyAt

      kind_ready : (ns : Option Name) (n : NamespaceDefinition RawName G) (e : UnreservedId × EntityType RawName)
          (kind : EntityTypeKind RawName) → Contains f.0 (ns, n) → Contains n.entity_types e → e.1.kind ≡ kind
          → All IsReadyAt (used_by_kind ns kind)
      kind_ready ns n e kind in_f in_n is =
          subst (λ kind. All IsReadyAt (used_by_kind ns kind)) is
          (quiet_in (All IsReadyAt) parted (λ d. used_by_kind ns d.1.kind) n.entity_types e in_n
          (parted.left _ _ (quiet_in (All IsReadyAt) parted used_in f.0 (ns, n) in_f all)))

      apply_ready : (ns : Option Name) (n : NamespaceDefinition RawName G) (e : List ℕ × ActionType RawName G)
          (applies : Option (ApplySpec RawName)) → Contains f.0 (ns, n) → Contains n.actions e
          → e.1.applies_to ≡ applies → All IsReadyAt (used_by_apply ns applies)
      apply_ready ns n e applies in_f in_n is =
          subst (λ applies. All IsReadyAt (used_by_apply ns applies)) is
          (quiet_in (All IsReadyAt) parted (λ d. used_by_apply ns d.1.applies_to) n.actions e in_n
          (parted.right _ _ (quiet_in (All IsReadyAt) parted used_in f.0 (ns, n) in_f all)))

      pub types_ready : AreTypesReady f table done
      types_ready = record {
        shapes = λ ns n e s in_f in_n is.
            All-head IsReadyAt (type_at ns s.shape.0) (used_by_tags ns s.tags)
            (kind_ready ns n e (Standard s) in_f in_n is);
        tags = λ ns n e s ty in_f in_n is there.
            All-head IsReadyAt (type_at ns ty) []
            (subst (λ tags. All IsReadyAt (used_by_tags ns tags)) there
            (All-tail IsReadyAt (type_at ns s.shape.0) (used_by_tags ns s.tags)
            (kind_ready ns n e (Standard s) in_f in_n is)));
        contexts = λ ns n e a in_f in_n is.
            All-head IsReadyAt (type_at ns a.context.0) [] (apply_ready ns n e (Some a) in_f in_n is);
      }
