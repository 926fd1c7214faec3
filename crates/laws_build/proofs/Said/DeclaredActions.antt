-- The actions that a fragment declares which says what is written of a meaning.
use Rattle.std.proofs.Common.{◌≡◌, ◌⊎◌, inl, inr, ℕ, Bool, true, false, List, [], ◌∷◌, ◌++◌, codes, flat_map, Option}
use Rattle.std.proofs.Common.{Some, None, Contains, refl, sym, ap, ◌∙◌, subst, true≢false, is_some}
use Rattle.cedar_identifiers.specs.Names.{components_of}
use Rattle.cedar_identifiers.specs.declared.name.Name.{Name}
use Rattle.cedar_identifiers.specs.declared.raw_name.RawName.{RawName}
use Rattle.cedar_names.specs.CanonicalText.{namespace, namespaces}
use Rattle.cedar_names.specs.Meaning.{EntityMeaning, ActionMeaning, SchemaMeaning}
use Rattle.schema_json.specs.Actions.{action_name}
use Rattle.schema_json.specs.declared.action_type.ActionType.{ActionType}
use Rattle.schema_json.specs.declared.fragment.Fragment.{Fragment}
use Rattle.schema_json.specs.AsWritten.{as_written}
use Rattle.laws_written.specs.Meant.{entity_as, action_as, entity_of_meaning, action_of_meaning, items_of_meaning}
use Rattle.laws_written.specs.Meant.{name_or_none, groups_of_meaning}
use Rattle.laws_written.specs.PrintedDecls.{IsSome, group_items}
use Rattle.laws_written.specs.Written.{WrittenDeclared}
use Rattle.laws_translate.specs.DeclarationsSay.{AppliesSay, ActionSays}
use Rattle.laws_translate.specs.FragmentsSay.{actions_of_decl, WrittenNamespace, NamespaceName, name_components}
use Rattle.laws_translate.specs.FragmentsSay.{written_in, FragmentSays}
use Rattle.laws_translate.specs.MeantNames.{IsActionName, HasOpenNames}
use Rattle.laws_translate.specs.MeantNamespaces.{meant_in_namespace, IsOfMeaning}
use Rattle.laws_translate.proofs.MeantSayable.{name_back, rebuilt}
use Rattle.schema_resolve_definitions.specs.Declarations.{action_type}
use Rattle.schema_build_hierarchy.specs.Declarations.{action_in, action_key, actions_of, declared_actions}
use Rattle.schema_build.specs.Meaning.{key_of}
use Rattle.laws_build.specs.Said.DeclaredEntries.{DeclaredAction, IsActionEntryOf}
use Rattle.laws_build.proofs.Said.Blocks.{Block, IsBlockOf, block_of, block_there, entry_says, entry_there}
use Rattle.laws_build.proofs.Said.DeclaredEntities.{item_cases, action_item, action_space, some_in, texts_behind}
use Rattle.laws_build.proofs.Said.Members.{IsIn, in_from, in_to, in_map, map_to, in_flat, flat_to, all_in}

id_of : (x : Bool) (a : ActionMeaning) (n : List ℕ) → IsIn n (actions_of_decl (action_as x a)) → n ≡ a.id
id_of true a n (inl p) = p
id_of true a n (inr h) = absurd h
id_of false a n (inl p) = p
id_of false a n (inr h) = absurd h

id_to : (x : Bool) (a : ActionMeaning) → IsIn a.id (actions_of_decl (action_as x a))
id_to true a = inl refl
id_to false a = inl refl

none_of : (x : Bool) (choices : Option (List (List ℕ))) (e : EntityMeaning) (n : List ℕ)
    → IsIn n (actions_of_decl (entity_as x choices e)) → ⊥
none_of true choices e n h = h
none_of false None e n h = h
none_of false (Some cs) e n h = h

-- the type of the actions of a namespace
type_name : (key : Option Name) (q : List (List ℕ)) → name_or_none q ≡ name_components key
    → components_of (action_type key) ≡ q ++ codes "Action" ∷ []
type_name None [] h = refl
type_name None (c ∷ cs) h = absurd (true≢false (ap is_some h))
type_name (Some n) [] h = absurd (true≢false (sym (ap is_some h)))
type_name (Some n) (c ∷ cs) h =
    texts_behind (n.name.first ∷ n.name.others) action_name.first ∙ ap (λ l. l ++ codes "Action" ∷ []) (sym same)
  where
    same : c ∷ cs ≡ components_of n.name
    same = cc

-- the type of an action of a namespace is the namespace's
own_type : (a : ActionMeaning) (q : List (List ℕ)) → IsActionName a.ty → namespace a.ty ≡ q
    → q ++ codes "Action" ∷ [] ≡ a.ty
own_type a q name space =
    (λ i. sym space i ++ sym name.1 i ∷ []) ∙ rebuilt a.ty name.0.0

abbrev itself : List ℕ → List ℕ
itself id = id

module _ (m : SchemaMeaning)
    (written_of : (q : NamespaceName) (w : WrittenNamespace)
    → written_in (flat_map group_items (groups_of_meaning m)) q ≡ Some w → IsOfMeaning m q w)
    (written_all : (name : List (List ℕ)) → Contains (namespaces m) name → IsSome (items_of_meaning m name)
    → written_in (flat_map group_items (groups_of_meaning m)) (name_or_none name) ≡ Some (meant_in_namespace m name))
    (open' : HasOpenNames m) (g : Fragment RawName as_written)
    (says : FragmentSays g (flat_map group_items (groups_of_meaning m))) where
  abbrev named : (a : ActionMeaning) → IsIn a m.actions → IsActionName a.ty
  named a h = all_in (λ (y : ActionMeaning). IsActionName y.ty) m.actions a open'.actions h

  in_block : (b : Block) → IsIn b g.0 → (x : List ℕ × ActionType RawName as_written) → IsIn x b.1.actions
      → IsActionEntryOf m (action_in b.0 x)
  in_block b h x k = by (item_cases m of.name said.0 said.1)
    where
      of : IsBlockOf m b
      of = block_of m written_of g says b h

      said : (w : WrittenDeclared) × IsIn w (items_of_meaning m of.name)
          × IsIn x.0 (actions_of_decl w.decl) × ActionSays x.1 w
      said = entry_says itself ActionSays actions_of_decl b.1.actions (items_of_meaning m of.name)
          of.says.actions x k

      by : ((e : EntityMeaning) × IsIn e m.entities × (namespace e.name ≡ of.name) × (said.0 ≡ entity_of_meaning e))
          ⊎ ((a : ActionMeaning) × IsIn a m.actions × (namespace a.ty ≡ of.name) × (said.0 ≡ action_of_meaning a))
          → IsActionEntryOf m (action_in b.0 x)
      by (inl (e, among, space, is)) =
          absurd (none_of e.is_external e.choices e x.0
          (subst (λ d. IsIn x.0 (actions_of_decl d.decl)) is said.2))
      by (inr (a, among, space, is)) =
          let id : x.0 ≡ a.id = id_of a.is_external a x.0
          (subst (λ d. IsIn x.0 (actions_of_decl d.decl)) is said.2) in
          let ty : components_of (action_type b.0) ≡ a.ty =
          type_name b.0 of.name of.named ∙ own_type a of.name (named a among) space in
          record {
            entry = a;
            among = in_to m.actions a among;
            is = record {
              key = λ i. (ty i, id i);
              space = sym of.named ∙ ap name_or_none (sym space);
              bare = said.3.1;
              applies = subst (λ d. AppliesSay x.1.external x.1.applies_to x.1.member_of d.decl) is said.3.2;
            };
          }

  pub declared_are : (d : DeclaredAction) → Contains (declared_actions g) d → IsActionEntryOf m d
  declared_are d h =
      let b = in_flat actions_of g.0 d (in_from (declared_actions g) d h) in
      let e = in_map (action_in b.0.0) b.0.1.actions d b.2 in
      subst (IsActionEntryOf m) (sym e.2) (in_block b.0 b.1 e.0 e.1)

  -- each action of the meaning is declared
  pub are_declared : (a : ActionMeaning) → IsIn a m.actions
      → (d : DeclaredAction) × IsIn d (declared_actions g) × (action_key d ≡ key_of a)
  are_declared a h =
      let q = namespace a.ty in
      let item = action_item m a h in
      let b = block_there m written_of g says q
      (written_all q (action_space m a h) (some_in (items_of_meaning m q) (action_of_meaning a) item)) in
      let of = block_of m written_of g says b.0 b.1 in
      let same : of.name ≡ q = name_back of.name q (of.named ∙ sym b.2) in
      let x = entry_there itself ActionSays actions_of_decl b.0.1.actions (items_of_meaning m of.name)
      of.says.actions (action_of_meaning a) a.id
      (subst (λ n. IsIn (action_of_meaning a) (items_of_meaning m n)) (sym same) item)
      (id_to a.is_external a) in
      let ty : components_of (action_type b.0.0) ≡ a.ty =
      type_name b.0.0 of.name of.named ∙ own_type a of.name (named a h) (sym same) in (
        action_in b.0.0 x.0,
        flat_to actions_of g.0 b.0 (action_in b.0.0 x.0) b.1 (map_to (action_in b.0.0) b.0.1.actions x.0 x.1),
        λ i. (ty i, x.2 i),
      )
