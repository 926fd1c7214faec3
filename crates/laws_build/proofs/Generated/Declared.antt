-- What a fragment declares that says what a generated text declares.
use Rattle.std.proofs.Common.{◌≡◌, ◌⊎◌, inl, inr, ℕ, zero, suc, ◌+◌, ◌<◌, ◌≤◌, Bool, true, false, List, [], ◌∷◌}
use Rattle.std.proofs.Common.{flat_map, Option, Some, None, is_some, refl, sym, ap, ◌∙◌, subst, arith, true≢false, ◌==◌}
use Rattle.std.proofs.lemmas.Bool.Decides.{nat_tests}
use Rattle.std.specs.Prelude.{codes}
use Rattle.std.specs.BTreeMap.{is_at}
use Rattle.std.specs.List.{range_with_len}
use Rattle.std.specs.Map.{lookup}
use Rattle.schema_generate.specs.Generated.{entity_word, action_word}
use Rattle.cedar_identifiers.specs.declared.name.Name.{Name}
use Rattle.cedar_identifiers.specs.declared.raw_name.RawName.{RawName}
use Rattle.cedar_identifiers.specs.declared.unreserved_id.UnreservedId.{UnreservedId}
use Rattle.schema_json.specs.declared.action_type.ActionType.{ActionType}
use Rattle.schema_json.specs.declared.common_type.CommonType.{CommonType}
use Rattle.schema_json.specs.declared.common_type.CommonTypeId.{CommonTypeId}
use Rattle.schema_json.specs.declared.entity_type.EntityType.{EntityType}
use Rattle.schema_json.specs.declared.fragment.Fragment.{Fragment}
use Rattle.schema_json.specs.declared.fragment.NamespaceDefinition.{NamespaceDefinition}
use Rattle.schema_json.specs.AsWritten.{as_written}
use Rattle.laws_written.specs.Written.{WrittenDeclared, WrittenItem}
use Rattle.laws_translate.specs.DeclarationsSay.{EntitySays, ActionSays, CommonSays}
use Rattle.laws_translate.specs.Entries.{FoundSays}
use Rattle.laws_translate.specs.FragmentsSay.{entities_of_decl, actions_of_decl, commons_of_decl, WrittenNamespace}
use Rattle.laws_translate.specs.FragmentsSay.{NamespaceSays, NamespaceName, namespace_order, name_components, opened}
use Rattle.laws_translate.specs.FragmentsSay.{written_in, FragmentSays}
use Rattle.laws_translate.proofs.Orders.{namespace_total}
use Rattle.schema_build_hierarchy.specs.Declarations.{DeclaredEntity, entity_in, entity_name, entities_of, action_in}
use Rattle.schema_build_hierarchy.specs.Declarations.{declared_entities, action_key, actions_of, declared_actions}
use Rattle.laws_build.proofs.Said.Blocks.{found_some, found_value, lookup_in, entry_says, entry_there}
use Rattle.laws_build.proofs.Said.Members.{IsIn, in_map, map_to, in_flat, flat_to, all_in, none_in, found_there}
use Rattle.laws_build.specs.Generated.Declares.{entity_path, entity_of_number, action_of_number, items_of_number}
use Rattle.laws_build.specs.Generated.Declares.{generated_items}
use Rattle.laws_build.specs.Generated.Said.{DeclaredAction, IsEntityOf, IsActionOf}
use Rattle.laws_build.proofs.Generated.Sayable.{all_decls, decls_are, all_outside, none_named, opened_decls}
use Rattle.laws_build.proofs.Generated.Spelled.{numbers_below}

abbrev pub Block : Type 0
Block = Option Name × NamespaceDefinition RawName as_written

abbrev pub id_text : UnreservedId → List ℕ
id_text id = id.id.text

-- a declaration is that of an entity type or of an action
decl_cases : (n : ℕ) (is : List ℕ) (w : WrittenDeclared) → IsIn w (all_decls n is)
    → (i : ℕ) × IsIn i is × ((w ≡ entity_of_number n i) ⊎ (w ≡ action_of_number n i))
decl_cases n [] w h = absurd h
decl_cases n (i ∷ is) w (inl e) = (i, inl refl, inl e)
decl_cases n (i ∷ is) w (inr (inl e)) = (i, inl refl, inr e)
decl_cases n (i ∷ is) w (inr (inr h)) = let r = decl_cases n is w h in (r.0, inr r.1, r.2)

entity_among : (n i : ℕ) (is : List ℕ) → IsIn i is → IsIn (entity_of_number n i) (all_decls n is)
entity_among n i [] h = absurd h
entity_among n i (j ∷ is) (inl e) = inl (ap (entity_of_number n) e)
entity_among n i (j ∷ is) (inr h) = inr (inr (entity_among n i is h))

number_among : (from k i : ℕ) → from ≤ i → i < from + k → IsIn i (range_with_len from k)
number_among from zero i low high = absurd (omega (arith, low, high))
number_among from (suc k) i low high =
    by (from == i) refl (λ more. number_among (from + 1) k i more (omega arith))
  where
    by : (b : Bool) → (from == i) ≡ b → (from + 1 ≤ i → IsIn i (range_with_len (from + 1) k))
        → (i ≡ from) ⊎ IsIn i (range_with_len (from + 1) k)
    by true e r = inl (grind (arith, nat_tests))
    by false e r = inr (r (grind (arith, nat_tests)))

none_of : (o : Option Name) → name_components o ≡ None → o ≡ None
none_of None h = refl
none_of (Some s) h = absurd (true≢false (ap is_some h))

name_outside : (ns : Option Name) (x : UnreservedId × EntityType RawName) → ns ≡ None
    → entity_name (entity_in ns x) ≡ id_text x.0 ∷ []
name_outside ns x e = ap (λ s. entity_name (entity_in s x)) e

key_outside : (ns : Option Name) (x : List ℕ × ActionType RawName as_written) → ns ≡ None
    → action_key (action_in ns x) ≡ (codes "Action" ∷ [], x.0)
key_outside ns x e = ap (λ s. action_key (action_in s x)) e

module _ (n : ℕ) (some : 1 ≤ n) (f : Fragment RawName as_written) (says : FragmentSays f (generated_items n)) where
  abbrev numbers : List ℕ
  numbers = range_with_len 0 n

  abbrev items : List WrittenItem
  items = generated_items n

  small_number : (i : ℕ) → IsIn i numbers → i < n
  small_number i h = all_in (λ k. k < n) numbers i (numbers_below n 0 n (omega arith)) h

  -- what is written in a namespace
  written_there : (q : NamespaceName) (w : WrittenNamespace) → written_in items q ≡ Some w
      → (q ≡ None) × (w.decls ≡ all_decls n numbers)
  written_there None w h =
      (refl, opened_decls items w (ap opened (sym (all_outside n numbers)) ∙ h) ∙ decls_are n numbers)
  written_there (Some q) w h =
      absurd (true≢false (sym (ap is_some (ap opened (sym (none_named n numbers q)) ∙ h))))

  -- a block of the fragment is that of the empty namespace
  pub block_is : (b : Block) → IsIn b f.0
      → (w : WrittenNamespace) × (b.0 ≡ None) × (w.decls ≡ all_decls n numbers) × NamespaceSays b.1 w
  block_is b h =
      let q = name_components b.0 in
      let there = found_there namespace_order namespace_total name_components f.0 b says.rising h in
      let v = found_some NamespaceSays b.1 (written_in items q)
      (subst (λ o. FoundSays NamespaceSays o (written_in items q)) there (says.each q)) in
      let is = written_there q v.0 v.1 in
      (v.0, none_of b.0 is.0, is.1, v.2)

  pub entity_block : (b : Block) → IsIn b f.0 → (x : UnreservedId × EntityType RawName) → IsIn x b.1.entity_types
      → IsEntityOf n (entity_in b.0 x)
  entity_block b h x k = by (decl_cases n numbers said.0 (subst (IsIn said.0) of.2 said.1))
    where
      of : (w : WrittenNamespace) × (b.0 ≡ None) × (w.decls ≡ all_decls n numbers) × NamespaceSays b.1 w
      of = block_is b h

      said : (w : WrittenDeclared) × IsIn w of.0.decls × IsIn (id_text x.0) (entities_of_decl w.decl)
          × EntitySays x.1 w
      said = entry_says id_text EntitySays entities_of_decl b.1.entity_types of.0.decls of.3.entities x k

      named : (i : ℕ) → IsIn (id_text x.0) (entity_word i ∷ []) → id_text x.0 ≡ entity_word i
      named i (inl e) = e
      named i (inr e) = absurd e

      by : (i : ℕ) × IsIn i numbers × ((said.0 ≡ entity_of_number n i) ⊎ (said.0 ≡ action_of_number n i))
          → IsEntityOf n (entity_in b.0 x)
      by (i, among, inl e) = record {
        number = i;
        below = small_number i among;
        outside = of.1;
        name = name_outside b.0 x of.1
            ∙ ap (λ w. w ∷ []) (named i (subst (λ d. IsIn (id_text x.0) (entities_of_decl d.decl)) e said.2));
        says = subst (EntitySays x.1) e said.3;
      }
      by (i, among, inr e) = absurd (subst (λ d. IsIn (id_text x.0) (entities_of_decl d.decl)) e said.2)

  pub action_block : (b : Block) → IsIn b f.0 → (x : List ℕ × ActionType RawName as_written) → IsIn x b.1.actions
      → IsActionOf n (action_in b.0 x)
  action_block b h x k = by (decl_cases n numbers said.0 (subst (IsIn said.0) of.2 said.1))
    where
      of : (w : WrittenNamespace) × (b.0 ≡ None) × (w.decls ≡ all_decls n numbers) × NamespaceSays b.1 w
      of = block_is b h

      said : (w : WrittenDeclared) × IsIn w of.0.decls × IsIn x.0 (actions_of_decl w.decl) × ActionSays x.1 w
      said = entry_says (λ (id : List ℕ). id) ActionSays actions_of_decl b.1.actions of.0.decls of.3.actions x k

      named : (i : ℕ) → IsIn x.0 (action_word i ∷ []) → x.0 ≡ action_word i
      named i (inl e) = e
      named i (inr e) = absurd e

      by : (i : ℕ) × IsIn i numbers × ((said.0 ≡ entity_of_number n i) ⊎ (said.0 ≡ action_of_number n i))
          → IsActionOf n (action_in b.0 x)
      by (i, among, inr e) = record {
        number = i;
        below = small_number i among;
        outside = of.1;
        key = key_outside b.0 x of.1 ∙ ap (λ w. let k : List (List ℕ) × List ℕ = (codes "Action" ∷ [], w) in k)
            (named i (subst (λ d. IsIn x.0 (actions_of_decl d.decl)) e said.2));
        says = subst (ActionSays x.1) e said.3;
      }
      by (i, among, inl e) = absurd (subst (λ d. IsIn x.0 (actions_of_decl d.decl)) e said.2)

  pub no_commons : (b : Block) → IsIn b f.0 → b.1.common_types ≡ []
  no_commons b h = none_in b.1.common_types none
    where
      of : (w : WrittenNamespace) × (b.0 ≡ None) × (w.decls ≡ all_decls n numbers) × NamespaceSays b.1 w
      of = block_is b h

      none : (x : CommonTypeId × CommonType RawName) → IsIn x b.1.common_types → ⊥
      none x k = by (decl_cases n numbers said.0 (subst (IsIn said.0) of.2 said.1))
        where
          said : (w : WrittenDeclared) × IsIn w of.0.decls × IsIn x.0.id.id.text (commons_of_decl w.decl)
              × CommonSays x.1 w
          said = entry_says (λ (id : CommonTypeId). id.id.id.text) CommonSays commons_of_decl b.1.common_types
              of.0.decls of.3.commons x k

          by : (i : ℕ) × IsIn i numbers × ((said.0 ≡ entity_of_number n i) ⊎ (said.0 ≡ action_of_number n i)) → ⊥
          by (i, among, inl e) = subst (λ d. IsIn x.0.id.id.text (commons_of_decl d.decl)) e said.2
          by (i, among, inr e) = subst (λ d. IsIn x.0.id.id.text (commons_of_decl d.decl)) e said.2

  pub entity_at : (d : DeclaredEntity) → IsIn d (declared_entities f) → IsEntityOf n d
  entity_at d h =
      let b = in_flat entities_of f.0 d h in
      let e = in_map (entity_in b.0.0) b.0.1.entity_types d b.2 in
      subst (IsEntityOf n) (sym e.2) (entity_block b.0 b.1 e.0 e.1)

  pub action_at : (d : DeclaredAction) → IsIn d (declared_actions f) → IsActionOf n d
  action_at d h =
      let b = in_flat actions_of f.0 d h in
      let e = in_map (action_in b.0.0) b.0.1.actions d b.2 in
      subst (IsActionOf n) (sym e.2) (action_block b.0 b.1 e.0 e.1)

  -- there is something in the empty namespace
  opened_some : (xs : List WrittenItem) (x : WrittenItem) → IsIn x xs → (w : WrittenNamespace) × (opened xs ≡ Some w)
  opened_some [] x h = absurd h
  opened_some (y ∷ xs) x h = (_, refl)

  first_item : (is : List ℕ) → IsIn 0 is → (x : WrittenItem) × IsIn x (flat_map (items_of_number n) is)
  first_item [] h = absurd h
  first_item (i ∷ is) h = (_, inl refl)

  pub block_there : (b : Block) × IsIn b f.0
  block_there =
      let item = first_item numbers (number_among 0 n 0 (omega arith) (omega arith)) in
      let w = opened_some items item.0 item.1 in
      let is : written_in items None ≡ Some w.0 = ap opened (all_outside n numbers) ∙ w.1 in
      let found = found_value NamespaceSays (lookup (λ k. is_at (namespace_order None) (name_components k)) f.0) w.0
      (subst (λ o. FoundSays NamespaceSays
      (lookup (λ k. is_at (namespace_order None) (name_components k)) f.0) o) is (says.each None)) in
      let at = lookup_in namespace_order name_components f.0 None found.0 found.1 in
      ((at.0, found.0), at.1)

  -- the entity type of each number is declared
  pub entity_there : (i : ℕ) → i < n
      → (d : DeclaredEntity) × IsIn d (declared_entities f) × (entity_name d ≡ entity_path i)
  entity_there i h =
      let b = block_there in
      let of = block_is b.0 b.1 in
      let among = subst (IsIn (entity_of_number n i)) (sym of.2)
      (entity_among n i numbers (number_among 0 n i (omega arith) (omega arith))) in
      let x = entry_there id_text EntitySays entities_of_decl b.0.1.entity_types of.0.decls of.3.entities
      (entity_of_number n i) (entity_word i) among (inl refl) in (
        entity_in b.0.0 x.0,
        flat_to entities_of f.0 b.0 (entity_in b.0.0 x.0) b.1 (map_to (entity_in b.0.0) b.0.1.entity_types x.0 x.1),
        name_outside b.0.0 x.0 of.1 ∙ ap (λ w. w ∷ []) x.2,
      )
