-- Fragments that say what is written are well formed.
use Rattle.std.proofs.Common.{◌≡◌, ℕ, Bool, true, false, List, [], ◌∷◌, ◌++◌, map, All, Contains, Option, Some, None}
use Rattle.std.proofs.Common.{refl, subst}
use Rattle.std.specs.Prelude.{filter, if◌then◌else◌}
use Rattle.std.specs.BTreeMap.{is_at}
use Rattle.std.specs.List.{AllByRecursion, flat_map}
use Rattle.std.specs.Option.{option_or}
use Rattle.std.proofs.lemmas.Option.{same_Some}
use Rattle.cedar_data.specs.Text.{text_cmp}
use Rattle.cedar_data.proofs.Lists.{all_of}
use Rattle.cedar_data.proofs.Orders.{text_total}
use Rattle.cedar_identifiers.specs.declared.name.Name.{Name}
use Rattle.cedar_identifiers.specs.declared.raw_name.RawName.{RawName}
use Rattle.cedar_identifiers.specs.declared.unreserved_id.UnreservedId.{UnreservedId}
use Rattle.schema_json.specs.declared.common_type.CommonTypeId.{CommonTypeId}
use Rattle.schema_json.specs.declared.fragment.Fragment.{Fragment}
use Rattle.schema_json.specs.declared.fragment.NamespaceDefinition.{NamespaceDefinition}
use Rattle.schema_json.specs.AsWritten.{as_written}
use Rattle.laws_written.specs.Written.{WrittenDecl, WrittenDeclared, WrittenItem}
use Rattle.laws_translate.specs.DeclarationsSay.{EntitySays, ActionSays, CommonSays}
use Rattle.laws_translate.specs.Entries.{FoundSays, EntriesSay, last_written}
use Rattle.laws_translate.specs.FragmentsSay.{entities_of_decl, actions_of_decl, commons_of_decl, by_names}
use Rattle.laws_translate.specs.FragmentsSay.{WrittenNamespace, NamespaceSays, NamespaceName, name_components}
use Rattle.laws_translate.specs.FragmentsSay.{decls_of_item, is_of_namespace, items_of_namespace, opened, written_in}
use Rattle.laws_translate.specs.FragmentsSay.{FragmentSays}
use Rattle.laws_translate.specs.Sayable.{AppliesWell, IsSayable}
use Rattle.laws_translate.proofs.Orders.{namespace_total}
use Rattle.laws_build.specs.Closure.Chosen.{IsChosenDecl, AreChosen}
use Rattle.laws_build.specs.Closure.WellFormed.{Rises, IsKindFormed, IsSpecFormed, IsWellFormed}
use Rattle.laws_build.proofs.Closure.SaidDecls.{kind_said, common_said, spec_said}
use Rattle.laws_build.proofs.Closure.SaidTypes.{found_there}

-- what is found says something that is written
found_some : {V W : Type 0} (Says : V → W → Type 0) (v : V) (o : Option W) → FoundSays Says (Some v) o
    → (w : W) × (o ≡ Some w) × Says v w
found_some Says v None h = absurd h
found_some Says v (Some w) h = (w, refl, h)

-- what all that is written has, what is written last beside a name has
module _ (P : WrittenDeclared → Type 0) where
  last_has : (ws : List (List ℕ × WrittenDeclared)) → AllByRecursion (λ w. P w.1) ws → (n : List ℕ)
      (d : WrittenDeclared) → last_written ws n ≡ Some d → P d
  last_has [] h n d e = absurd (cc)
  last_has (w ∷ ws) h n d e = by_case (last_written ws n) refl (is_at (text_cmp n) w.0) e (last_has ws h.1 n)
    where
      by_case : (o : Option WrittenDeclared) → last_written ws n ≡ o → (b : Bool)
          → option_or o (if b then Some w.1 else None) ≡ Some d
          → ((d : WrittenDeclared) → last_written ws n ≡ Some d → P d) → P d
      by_case (Some v) f b k on = subst P (same_Some v d k) (on v f)
      by_case None f true k on = subst P (same_Some w.1 d k) h.0
      by_case None f false k on = absurd (cc)

  each_named : (names : List (List ℕ)) (d : WrittenDeclared) (rest : List (List ℕ × WrittenDeclared)) → P d
      → AllByRecursion (λ w. P w.1) rest
      → AllByRecursion (λ w. P w.1) (map (λ name. let w : List ℕ × WrittenDeclared = (name, d) in w) names ++ rest)
  each_named [] d rest p h = h
  each_named (n ∷ ns) d rest p h = (p, each_named ns d rest p h)

  names_have : (names_of : WrittenDecl → List (List ℕ)) (ds : List WrittenDeclared) → AllByRecursion P ds
      → AllByRecursion (λ w. P w.1) (by_names names_of ds)
  names_have names_of [] h = tt
  names_have names_of (d ∷ ds) h =
      each_named (names_of d.decl) d (by_names names_of ds) h.0 (names_have names_of ds h.1)

  -- an entry says a declaration that is written
  module _ {K V : Type 0} (name : K → List ℕ) (Says : V → WrittenDeclared → Type 0) (es : List (K × V))
      (names_of : WrittenDecl → List (List ℕ)) (ds : List WrittenDeclared)
      (says : EntriesSay text_cmp name Says es (last_written (by_names names_of ds))) where
    pub entry_says : AllByRecursion P ds → (e : K × V) → Contains es e → (d : WrittenDeclared) × Says e.1 d × P d
    entry_says h e c =
        let written = last_written (by_names names_of ds) (name e.0) in
        let there = found_there text_total name es says.rising e c in
        let (d, is, said) =
        found_some Says e.1 written (subst (λ o. FoundSays Says o written) there (says.each (name e.0))) in
        (d, said, last_has (by_names names_of ds) (names_have names_of ds h) (name e.0) d is)

-- what all items have, those of a namespace have
module _ (Q : WrittenDeclared → Type 0) where
  abbrev AllIn : WrittenItem → Type 0
  AllIn i = AllByRecursion Q (decls_of_item i)

  both_have : (ds es : List WrittenDeclared) → AllByRecursion Q ds → AllByRecursion Q es → AllByRecursion Q (ds ++ es)
  both_have [] es h k = k
  both_have (d ∷ ds) es h k = (h.0, both_have ds es h.1 k)

  flat_has : (is : List WrittenItem) → AllByRecursion AllIn is → AllByRecursion Q (flat_map decls_of_item is)
  flat_has [] h = tt
  flat_has (i ∷ is) h = both_have (decls_of_item i) (flat_map decls_of_item is) h.0 (flat_has is h.1)

  filter_has : (test : WrittenItem → Bool) (is : List WrittenItem) → AllByRecursion AllIn is
      → AllByRecursion AllIn (filter test is)
  filter_has test [] h = tt
  filter_has test (i ∷ is) h = by_test (test i) (filter_has test is h.1)
    where
      by_test : (b : Bool) → AllByRecursion AllIn (filter test is)
          → AllByRecursion AllIn (if b then i ∷ filter test is else filter test is)
      by_test true k = (h.0, k)
      by_test false k = k

  opened_has : (is : List WrittenItem) (n : WrittenNamespace) → opened is ≡ Some n → AllByRecursion AllIn is
      → AllByRecursion Q n.decls
  opened_has [] n e h = absurd (cc)
  opened_has (i ∷ is) n e h = subst (λ (z : WrittenNamespace). AllByRecursion Q z.decls) (same_Some _ n e)
      (flat_has (i ∷ is) h)

  pub written_has : (items : List WrittenItem) → AllByRecursion AllIn items → (q : NamespaceName)
      (n : WrittenNamespace) → written_in items q ≡ Some n → AllByRecursion Q n.decls
  written_has items h q n e = opened_has (items_of_namespace q items) n e (filter_has (is_of_namespace q) items h)

module _ (f : Fragment RawName as_written) (w : List WrittenItem) (says : FragmentSays f w) (sayable : IsSayable w)
    (chosen : AreChosen w) where
  abbrev Entry : Type 0
  Entry = Option Name × NamespaceDefinition RawName as_written

  entry_written : (e : Entry) → Contains f.0 e
      → (n : WrittenNamespace) × (written_in w (name_components e.0) ≡ Some n) × NamespaceSays e.1 n
  entry_written e c =
      let q = name_components e.0 in
      let there = found_there namespace_total name_components f.0 says.rising e c in
      found_some NamespaceSays e.1 (written_in w q)
      (subst (λ o. FoundSays NamespaceSays o (written_in w q)) there (says.each q))

  commons_formed : (e : Entry) → Contains f.0 e → All (λ c. Rises RawName c.1.ty) e.1.common_types
  commons_formed e c =
      let (n, is, said) = entry_written e c in
      all_of (λ c. Rises RawName c.1.ty) e.1.common_types (λ x cx.
      let (d, h, k) = entry_says (λ d. Unit {0}) (λ (id : CommonTypeId). id.id.id.text) CommonSays e.1.common_types
      commons_of_decl n.decls said.commons (units n.decls) x cx in
      common_said x.1.ty d.decl h.1)
    where
      units : (ds : List WrittenDeclared) → AllByRecursion (λ d. Unit {0}) ds
      units [] = tt
      units (d ∷ ds) = (tt, units ds)

  entities_formed : (e : Entry) → Contains f.0 e → All (λ d. IsKindFormed d.1.kind) e.1.entity_types
  entities_formed e c =
      let (n, is, said) = entry_written e c in
      let all = written_has (λ d. IsChosenDecl d.decl) w chosen (name_components e.0) n is in
      all_of (λ d. IsKindFormed d.1.kind) e.1.entity_types (λ x cx.
      let (d, h, k) = entry_says (λ d. IsChosenDecl d.decl) (λ (id : UnreservedId). id.id.text) EntitySays
      e.1.entity_types entities_of_decl n.decls said.entities all x cx in
      kind_said x.1.external x.1.kind d.decl k h.1)

  actions_formed : (e : Entry) → Contains f.0 e → All (λ a. IsSpecFormed a.1.applies_to) e.1.actions
  actions_formed e c =
      let (n, is, said) = entry_written e c in
      let all = (sayable (name_components e.0) n is).blocks in
      all_of (λ a. IsSpecFormed a.1.applies_to) e.1.actions (λ x cx.
      let (d, h, k) = entry_says (λ d. AppliesWell d.decl) (λ (id : List ℕ). id) ActionSays e.1.actions
      actions_of_decl n.decls said.actions all x cx in
      spec_said x.1.external x.1.applies_to x.1.member_of d.decl k h.2)

  pub well_formed : IsWellFormed f
  well_formed = record {
    commons = all_of (λ e. All (λ c. Rises RawName c.1.ty) e.1.common_types) f.0 commons_formed;
    entities = all_of (λ e. All (λ d. IsKindFormed d.1.kind) e.1.entity_types) f.0 entities_formed;
    actions = all_of (λ e. All (λ a. IsSpecFormed a.1.applies_to) e.1.actions) f.0 actions_formed;
  }
