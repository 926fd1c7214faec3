-- What says what is written of the entry of an entity type or of an action means it.
use Rattle.std.proofs.Common.{◌≡◌, ℕ, Bool, true, false, List, [], ◌∷◌, Option, Some, None, refl, sym}
use Rattle.std.proofs.Common.{ap, ◌∙◌, subst, Contains}
use Rattle.std.specs.List.{AllByRecursion}
use Rattle.std.specs.List.Sorted.{IsStrictlySortedBy}
use Rattle.std.proofs.lemmas.Option.{same_Some}
use Rattle.cedar_data.specs.Text.{text_cmp}
use Rattle.cedar_data.proofs.Lists.{contains_map, contains_unmap}
use Rattle.cedar_identifiers.specs.Names.{components_of}
use Rattle.cedar_identifiers.specs.declared.internal_name.InternalName.{InternalName}
use Rattle.cedar_identifiers.specs.declared.name.Name.{Name}
use Rattle.cedar_identifiers.specs.declared.raw_name.RawName.{RawName}
use Rattle.cedar_names.specs.Meaning.{PlainType, Attributes, no_more, EntityMeaning, ActionMeaning}
use Rattle.schema_json.specs.declared.types.Type.{«Type»}
use Rattle.schema_json.specs.declared.entity_type.EntityTypeKind.{EntityTypeKind}
use Rattle.schema_json.specs.declared.entity_type.EntityTypeKind.TheVariants.{Standard, Enum}
use Rattle.schema_json.specs.declared.action_type.ActionEntityUID.{ActionEntityUID}
use Rattle.schema_json.specs.declared.action_type.ApplySpec.{ApplySpec}
use Rattle.schema_json.specs.AsWritten.{as_written}
use Rattle.laws_written.specs.Meant.{tags_of_meaning, entity_as, members_of_meaning, action_as}
use Rattle.laws_translate.specs.DeclarationsSay.{written_paths, TagsSay, KindSays, SpecSays, members_said, AppliesSay}
use Rattle.schema_resolve_definitions.specs.Declarations.{name_of}
use Rattle.schema_resolve_definitions.specs.Tests.{Tests}
use Rattle.schema_build_expand.specs.Expands.{Expands}
use Rattle.schema_build_expand.specs.Scope.{Scope}
use Rattle.schema_build_items.specs.ActionKinds.{components_cmp, AreJust, IsMeantByOne, IsApplyMeaning}
use Rattle.schema_build_items.specs.Kinds.{TagsExpand, IsKindMeaning}
use Rattle.schema_build.specs.Meaning.{kind_meaning, apply_meaning}
use Rattle.laws_build.specs.Closure.Kinds.{HasItsParts, HasBothOrNeither, AppliesWhereOwn}
use Rattle.laws_build.specs.Closure.Ordered.{IsOrderedType}
use Rattle.laws_build.proofs.Closure.Lists.{each_has}
use Rattle.laws_build.specs.Said.Themselves.{MeansItself}
use Rattle.laws_build.specs.Said.Entries.{TagsMeanThemselves, EntityMeansItself, IsFoundAs, ActionMeansItself}
use Rattle.laws_build.proofs.Said.Expanding.{type_expands}

pub nothing_rises : IsStrictlySortedBy text_cmp []
unfolding IsStrictlySortedBy
nothing_rises = tt

module _ (s : Scope RawName) (ns : Option InternalName) where
  tags_expand : (tags : Option («Type» RawName)) (t : Option PlainType) → TagsSay tags (tags_of_meaning t)
      → TagsMeanThemselves s ns t → TagsExpand s ns tags t
  tags_expand None None h k = refl
  tags_expand None (Some t) h k = absurd h
  tags_expand (Some x) None h k = absurd h
  tags_expand (Some x) (Some t) h k = (t, refl, type_expands s ns t x h k.0 k.1)

  -- a shape of which nothing is written
  none_expands : (x : «Type» RawName) (xs : Attributes) → Expands RawName s ns x (PlainType.Rec no_more)
      → xs ≡ no_more → Expands RawName s ns x (PlainType.Rec xs)
  none_expands x xs h e = subst (λ ys. Expands RawName s ns x (PlainType.Rec ys)) (sym e) h

  kind_means : (e : EntityMeaning) (x : Bool) (k : EntityTypeKind RawName) (external : Bool)
      (choices : Option (List (List ℕ))) → KindSays x k (entity_as external choices e)
      → HasItsParts external choices e → IsOrderedType (PlainType.Rec e.attributes)
      → MeansItself s ns (PlainType.Rec e.attributes) → TagsMeanThemselves s ns e.tags
      → (x ≡ external) × IsKindMeaning s ns k (record { attributes = e.attributes; tags = e.tags; choices = choices })
  kind_means e x (Standard d) true choices h p o a t = (
    h.0,
    (
      none_expands d.shape.0 e.attributes
          (type_expands s ns (PlainType.Rec no_more) d.shape.0 h.2 (nothing_rises, tt) tt) p.0,
      tags_none d.tags e.tags h.3 p.1,
      p.2,
    ),
  )
    where
      tags_none : (tags : Option («Type» RawName)) (t : Option PlainType) → tags ≡ None → t ≡ None
          → TagsExpand s ns tags t
      tags_none tags t e f = subst (λ x. TagsExpand s ns x t) (sym e) f
  kind_means e x (Enum ids) true choices h p o a t = absurd h
  kind_means e x (Standard d) false None h p o a t =
      (h.0, (type_expands s ns (PlainType.Rec e.attributes) d.shape.0 h.2 o a, tags_expand d.tags e.tags h.3 t, refl))
  kind_means e x (Enum ids) false None h p o a t = absurd h
  kind_means e x (Standard d) false (Some cs) h p o a t = absurd h
  kind_means e x (Enum ids) false (Some cs) h p o a t = (h.0, (p.0, p.1, ap Some (sym h.1)))

pub entity_means : (s : Scope RawName) (ns : Option InternalName) (x : Bool) (k : EntityTypeKind RawName)
    (e : EntityMeaning) → KindSays x k (entity_as e.is_external e.choices e) → EntityMeansItself s ns e
    → (x ≡ e.is_external) × IsKindMeaning s ns k (kind_meaning e)
entity_means s ns x k e h m = kind_means s ns e x k e.is_external e.choices h m.parts m.ordered m.attributes m.tags

module _ (t : Tests) (ns : Option Name) where
  -- the names that are written are just those that are meant
  just_these : (names : List RawName) (targets : List (List (List ℕ))) → written_paths names ≡ targets
      → IsStrictlySortedBy components_cmp targets → AllByRecursion (IsFoundAs t ns) targets
      → AreJust components_cmp (IsMeantByOne t ns names) targets
  just_these names targets e up all = record {
    rising = up;
    just = λ target. (
      λ h.
          let found = contains_unmap (λ (n : RawName). components_of n.name) names target
          (subst (λ l. Contains l target) (sym e) h) in
          (found.0, found.1, each_has (IsFoundAs t ns) targets target all h found.0 found.2),
      λ h.
          let there : Contains targets (components_of h.0.name) =
          subst (λ l. Contains l (components_of h.0.name)) e
          (contains_map (λ (n : RawName). components_of n.name) names h.0 h.1) in
          let same : components_of h.0.name ≡ target =
          same_Some (components_of h.0.name) target
          (sym (each_has (IsFoundAs t ns) targets (components_of h.0.name) all there h.0 refl) ∙ h.2) in
          subst (Contains targets) same there,
    );
  }

module _ (t : Tests) (s : Scope RawName) (ns : Option Name) where
  spec_means : (d : ApplySpec RawName) (ps rs : List (List (List ℕ))) (c : Attributes)
      → SpecSays d (members_said (members_of_meaning ps rs c)) → HasBothOrNeither ps rs c
      → IsStrictlySortedBy components_cmp ps → IsStrictlySortedBy components_cmp rs
      → AllByRecursion (IsFoundAs t ns) ps → AllByRecursion (IsFoundAs t ns) rs
      → IsOrderedType (PlainType.Rec c) → MeansItself s (name_of ns) (PlainType.Rec c)
      → IsApplyMeaning t s ns (Some d) (record { principals = ps; resources = rs; context = c })
  spec_means d [] [] c h b pu ru pa ra o m = (
    just_these t ns d.principal_types [] h.0 pu pa,
    just_these t ns d.resource_types [] h.1 ru ra,
    subst (λ ys. Expands RawName s (name_of ns) d.context.0 (PlainType.Rec ys)) (sym b)
        (type_expands s (name_of ns) (PlainType.Rec no_more) d.context.0 h.2 (nothing_rises, tt) tt),
  )
  spec_means d [] (r ∷ rs) c h b pu ru pa ra o m = absurd b
  spec_means d (p ∷ ps) [] c h b pu ru pa ra o m = absurd b
  spec_means d (p ∷ ps) (r ∷ rs) c h b pu ru pa ra o m = (
    just_these t ns d.principal_types (p ∷ ps) h.0 pu pa,
    just_these t ns d.resource_types (r ∷ rs) h.1 ru ra,
    type_expands s (name_of ns) (PlainType.Rec c) d.context.0 h.2 o m,
  )

  applies_mean : (a : ActionMeaning) (x : Bool) (spec : Option (ApplySpec RawName))
      (parents : Option (List (ActionEntityUID RawName as_written))) (external : Bool)
      → AppliesSay x spec parents (action_as external a)
      → AppliesWhereOwn external a → ActionMeansItself t s ns a
      → (x ≡ external) × IsApplyMeaning t s ns spec (apply_meaning a)
  applies_mean a x None parents true h o m = (h.0, (o.0, o.1, o.2))
  applies_mean a x (Some d) parents true h o m = absurd h
  applies_mean a x None parents false h o m = absurd h
  applies_mean a x (Some d) parents false h o m = (
    h.0,
    spec_means d a.principals a.resources a.context h.2 o m.principals_rise m.resources_rise
        m.principals m.resources m.ordered m.context,
  )

pub action_means : (t : Tests) (s : Scope RawName) (ns : Option Name) (x : Bool) (spec : Option (ApplySpec RawName))
    (parents : Option (List (ActionEntityUID RawName as_written))) (a : ActionMeaning)
    → AppliesSay x spec parents (action_as a.is_external a) → ActionMeansItself t s ns a
    → (x ≡ a.is_external) × IsApplyMeaning t s ns spec (apply_meaning a)
action_means t s ns x spec parents a h m = applies_mean t s ns a x spec parents a.is_external h m.applies m
