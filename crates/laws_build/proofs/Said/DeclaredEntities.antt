-- The entity types that a fragment declares which says what is written of a meaning.
use Rattle.std.proofs.Common.{◌≡◌, ◌⊎◌, inl, inr, ℕ, Bool, true, false, List, [], ◌∷◌, ◌++◌, map, filter, flat_map}
use Rattle.std.proofs.Common.{Option, Some, None, Contains, refl, sym, ap, ◌∙◌, subst, true≢false, is_some}
use Rattle.std.specs.BTreeSet.{insert_key}
use Rattle.std.specs.Cmp.Lexicographic.{slice_cmp}
use Rattle.std.specs.Ordering.{match_ordering}
use Rattle.std.specs.declared.cmp.Ordering.{Ordering}
use Rattle.std.specs.declared.cmp.Ordering.TheVariants.{Less, Equal, Greater}
use Rattle.cedar_data.specs.Text.{text_cmp}
use Rattle.cedar_data.proofs.Orders.{texts_exact}
use Rattle.cedar_identifiers.specs.Names.{components_of, texts_of}
use Rattle.cedar_identifiers.specs.declared.id.Id.{Id}
use Rattle.cedar_identifiers.specs.declared.name.Name.{Name}
use Rattle.cedar_identifiers.specs.declared.raw_name.RawName.{RawName}
use Rattle.cedar_identifiers.specs.declared.unreserved_id.UnreservedId.{UnreservedId}
use Rattle.cedar_names.specs.CanonicalText.{basename, namespace, in_order, namespaces}
use Rattle.cedar_names.specs.Definitions.{same_name}
use Rattle.cedar_names.specs.Meaning.{EntityMeaning, ActionMeaning, SchemaMeaning}
use Rattle.cedar_names.proofs.Defined.{name_itself}
use Rattle.schema_json.specs.declared.entity_type.EntityType.{EntityType}
use Rattle.schema_json.specs.declared.fragment.Fragment.{Fragment}
use Rattle.schema_json.specs.AsWritten.{as_written}
use Rattle.laws_written.specs.Meant.{entity_as, action_as, entity_of_meaning, action_of_meaning, items_of_meaning}
use Rattle.laws_written.specs.Meant.{name_or_none, groups_of_meaning}
use Rattle.laws_written.specs.PrintedDecls.{IsSome, group_items}
use Rattle.laws_written.specs.Written.{WrittenDeclared}
use Rattle.laws_translate.specs.DeclarationsSay.{KindSays, EntitySays}
use Rattle.laws_translate.specs.FragmentsSay.{entities_of_decl, WrittenNamespace, NamespaceName, name_components}
use Rattle.laws_translate.specs.FragmentsSay.{written_in, FragmentSays}
use Rattle.laws_translate.specs.MeantNames.{IsOpenName, HasOpenNames}
use Rattle.laws_translate.specs.MeantNamespaces.{meant_in_namespace, IsOfMeaning}
use Rattle.laws_translate.proofs.MeantSayable.{equal_names, name_back, rebuilt}
use Rattle.schema_build_hierarchy.specs.Declarations.{DeclaredEntity, entity_in, entity_name, entities_of}
use Rattle.schema_build_hierarchy.specs.Declarations.{declared_entities}
use Rattle.laws_build.specs.Said.DeclaredEntries.{IsEntryOf}
use Rattle.laws_build.proofs.Said.Blocks.{Block, IsBlockOf, block_of, block_there, entry_says, entry_there}
use Rattle.laws_build.proofs.Said.Members.{IsIn, in_from, in_to, in_append, left_to, right_to, in_map, map_to}
use Rattle.laws_build.proofs.Said.Members.{in_flat, flat_to, in_filter, filter_to, all_in}

base_of : (x : Bool) (choices : Option (List (List ℕ))) (e : EntityMeaning) (n : List ℕ)
    → IsIn n (entities_of_decl (entity_as x choices e)) → n ≡ basename e.name
base_of true choices e n (inl p) = p
base_of true choices e n (inr h) = absurd h
base_of false None e n (inl p) = p
base_of false None e n (inr h) = absurd h
base_of false (Some cs) e n (inl p) = p
base_of false (Some cs) e n (inr h) = absurd h

base_to : (x : Bool) (choices : Option (List (List ℕ))) (e : EntityMeaning)
    → IsIn (basename e.name) (entities_of_decl (entity_as x choices e))
base_to true choices e = inl refl
base_to false None e = inl refl
base_to false (Some cs) e = inl refl

none_of : (x : Bool) (a : ActionMeaning) (n : List ℕ) → IsIn n (entities_of_decl (action_as x a)) → ⊥
none_of true a n h = h
none_of false a n h = h

-- the items of a namespace are its entity types and its actions
pub item_cases : (m : SchemaMeaning) (q : List (List ℕ)) (w : WrittenDeclared) → IsIn w (items_of_meaning m q)
    → ((e : EntityMeaning) × IsIn e m.entities × (namespace e.name ≡ q) × (w ≡ entity_of_meaning e))
    ⊎ ((a : ActionMeaning) × IsIn a m.actions × (namespace a.ty ≡ q) × (w ≡ action_of_meaning a))
item_cases m q w h =
    by (in_append (map entity_of_meaning (filter (λ (e : EntityMeaning). same_name q (namespace e.name)) m.entities))
    (map action_of_meaning (filter (λ (a : ActionMeaning). same_name q (namespace a.ty)) m.actions)) w h)
  where
    by : IsIn w (map entity_of_meaning (filter (λ (e : EntityMeaning). same_name q (namespace e.name)) m.entities))
        ⊎ IsIn w (map action_of_meaning (filter (λ (a : ActionMeaning). same_name q (namespace a.ty)) m.actions))
        → ((e : EntityMeaning) × IsIn e m.entities × (namespace e.name ≡ q) × (w ≡ entity_of_meaning e))
        ⊎ ((a : ActionMeaning) × IsIn a m.actions × (namespace a.ty ≡ q) × (w ≡ action_of_meaning a))
    by (inl i) =
        let o = in_map entity_of_meaning (filter (λ (e : EntityMeaning). same_name q (namespace e.name)) m.entities)
        w i in
        let f = in_filter (λ (e : EntityMeaning). same_name q (namespace e.name)) m.entities o.0 o.1 in
        inl (o.0, f.0, sym (equal_names q (namespace o.0.name) f.1), o.2)
    by (inr i) =
        let o = in_map action_of_meaning (filter (λ (a : ActionMeaning). same_name q (namespace a.ty)) m.actions) w i in
        let f = in_filter (λ (a : ActionMeaning). same_name q (namespace a.ty)) m.actions o.0 o.1 in
        inr (o.0, f.0, sym (equal_names q (namespace o.0.ty) f.1), o.2)

-- each is an item of its namespace
pub entity_item : (m : SchemaMeaning) (e : EntityMeaning) → IsIn e m.entities
    → IsIn (entity_of_meaning e) (items_of_meaning m (namespace e.name))
entity_item m e h =
    let q = namespace e.name in
    let mine = filter (λ (x : EntityMeaning). same_name q (namespace x.name)) m.entities in
    left_to (map entity_of_meaning mine)
    (map action_of_meaning (filter (λ (a : ActionMeaning). same_name q (namespace a.ty)) m.actions))
    (entity_of_meaning e)
    (map_to entity_of_meaning mine e
    (filter_to (λ (x : EntityMeaning). same_name q (namespace x.name)) m.entities e h (name_itself q)))

pub action_item : (m : SchemaMeaning) (a : ActionMeaning) → IsIn a m.actions
    → IsIn (action_of_meaning a) (items_of_meaning m (namespace a.ty))
action_item m a h =
    let q = namespace a.ty in
    let mine = filter (λ (x : ActionMeaning). same_name q (namespace x.ty)) m.actions in
    right_to (map entity_of_meaning (filter (λ (e : EntityMeaning). same_name q (namespace e.name)) m.entities))
    (map action_of_meaning mine) (action_of_meaning a)
    (map_to action_of_meaning mine a
    (filter_to (λ (x : ActionMeaning). same_name q (namespace x.ty)) m.actions a h (name_itself q)))

pub some_in : {A : Type 0} (xs : List A) (x : A) → IsIn x xs → IsSome xs
some_in [] x h = absurd h
some_in (y ∷ ys) x h = tt

-- a list in order has what was put into it
put_here : (ns : List (List (List ℕ))) (n : List (List ℕ)) → IsIn n (insert_key (slice_cmp text_cmp) ns n)
put_here [] n = inl refl
put_here (x ∷ ns) n = by (slice_cmp text_cmp n x) refl (put_here ns n)
  where
    by : (c : Ordering) → slice_cmp text_cmp n x ≡ c → IsIn n (insert_key (slice_cmp text_cmp) ns n)
        → IsIn n (match_ordering c (n ∷ x ∷ ns) (x ∷ ns) (x ∷ insert_key (slice_cmp text_cmp) ns n))
    by Less e r = inl refl
    by Equal e r = inl (texts_exact n x e)
    by Greater e r = inr r

put_behind : (ns : List (List (List ℕ))) (n p : List (List ℕ)) → IsIn p ns
    → IsIn p (insert_key (slice_cmp text_cmp) ns n)
put_behind [] n p h = absurd h
put_behind (x ∷ ns) n p (inl e) = by (slice_cmp text_cmp n x)
  where
    by : (c : Ordering) → IsIn p (match_ordering c (n ∷ x ∷ ns) (x ∷ ns) (x ∷ insert_key (slice_cmp text_cmp) ns n))
    by Less = inr (inl e)
    by Equal = inl e
    by Greater = inl e
put_behind (x ∷ ns) n p (inr h) = by (slice_cmp text_cmp n x) (put_behind ns n p h)
  where
    by : (c : Ordering) → IsIn p (insert_key (slice_cmp text_cmp) ns n)
        → IsIn p (match_ordering c (n ∷ x ∷ ns) (x ∷ ns) (x ∷ insert_key (slice_cmp text_cmp) ns n))
    by Less r = inr (inr h)
    by Equal r = inr h
    by Greater r = inr r

pub in_ordered : (ns : List (List (List ℕ))) (n : List (List ℕ)) → IsIn n ns → IsIn n (in_order ns)
in_ordered [] n h = absurd h
in_ordered (x ∷ ns) n (inl e) = subst (λ p. IsIn p (insert_key (slice_cmp text_cmp) (in_order ns) x)) (sym e)
    (put_here (in_order ns) x)
in_ordered (x ∷ ns) n (inr h) = put_behind (in_order ns) x n (in_ordered ns n h)

pub entity_space : (m : SchemaMeaning) (e : EntityMeaning) → IsIn e m.entities
    → Contains (namespaces m) (namespace e.name)
entity_space m e h =
    let ns = map (λ (x : EntityMeaning). namespace x.name) m.entities in
    let others = map (λ (a : ActionMeaning). namespace a.ty) m.actions in
    in_to (namespaces m) (namespace e.name) (in_ordered (ns ++ others) (namespace e.name)
    (left_to ns others (namespace e.name) (map_to (λ (x : EntityMeaning). namespace x.name) m.entities e h)))

pub action_space : (m : SchemaMeaning) (a : ActionMeaning) → IsIn a m.actions
    → Contains (namespaces m) (namespace a.ty)
action_space m a h =
    let ns = map (λ (x : EntityMeaning). namespace x.name) m.entities in
    let others = map (λ (x : ActionMeaning). namespace x.ty) m.actions in
    in_to (namespaces m) (namespace a.ty) (in_ordered (ns ++ others) (namespace a.ty)
    (right_to ns others (namespace a.ty) (map_to (λ (x : ActionMeaning). namespace x.ty) m.actions a h)))

both_parts : {a b : List (List ℕ)} {c d : List ℕ} → a ≡ b → c ≡ d → b ++ c ∷ [] ≡ a ++ d ∷ []
both_parts e f = (λ i. sym e i ++ f i ∷ [])

whole_name : (full space : List (List ℕ)) (base : List ℕ) (name : List (List ℕ)) → full ≡ space ++ base ∷ []
    → namespace name ≡ space → base ≡ basename name → namespace name ++ basename name ∷ [] ≡ name → full ≡ name
whole_name full space base name f s b r = f ∙ (both_parts s b ∙ r)

pub texts_behind : (others : List Id) (last : Id) → texts_of (others ++ last ∷ []) ≡ texts_of others ++ last.text ∷ []
texts_behind [] last = refl
texts_behind (i ∷ others) last = ap (λ l. i.text ∷ l) (texts_behind others last)

-- the full name of a declared entity type
full_name : (key : Option Name) (id : UnreservedId) (et : EntityType RawName) (q : List (List ℕ))
    → name_or_none q ≡ name_components key → entity_name (entity_in key (id, et)) ≡ q ++ id.id.text ∷ []
full_name None id et [] h = refl
full_name None id et (c ∷ cs) h = absurd (true≢false (ap is_some h))
full_name (Some n) id et [] h = absurd (true≢false (sym (ap is_some h)))
full_name (Some n) id et (c ∷ cs) h =
    texts_behind (n.name.first ∷ n.name.others) id.id ∙ ap (λ l. l ++ id.id.text ∷ []) (sym same)
  where
    same : c ∷ cs ≡ components_of n.name
    same = cc

kind_at : (et : EntityType RawName) (w v : WrittenDeclared) → w ≡ v → KindSays et.external et.kind w.decl
    → KindSays et.external et.kind v.decl
kind_at et w v e h = subst (λ (x : WrittenDeclared). KindSays et.external et.kind x.decl) e h

abbrev id_text : UnreservedId → List ℕ
id_text id = id.id.text

module _ (m : SchemaMeaning)
    (written_of : (q : NamespaceName) (w : WrittenNamespace)
    → written_in (flat_map group_items (groups_of_meaning m)) q ≡ Some w → IsOfMeaning m q w)
    (written_all : (name : List (List ℕ)) → Contains (namespaces m) name → IsSome (items_of_meaning m name)
    → written_in (flat_map group_items (groups_of_meaning m)) (name_or_none name) ≡ Some (meant_in_namespace m name))
    (open' : HasOpenNames m) (g : Fragment RawName as_written)
    (says : FragmentSays g (flat_map group_items (groups_of_meaning m))) where
  in_block : (b : Block) → IsIn b g.0 → (x : UnreservedId × EntityType RawName) → IsIn x b.1.entity_types
      → IsEntryOf m (entity_in b.0 x)
  in_block b h x k = by (item_cases m of.name said.0 said.1)
    where
      of : IsBlockOf m b
      of = block_of m written_of g says b h

      said : (w : WrittenDeclared) × IsIn w (items_of_meaning m of.name)
          × IsIn (id_text x.0) (entities_of_decl w.decl) × EntitySays x.1 w
      said = entry_says id_text EntitySays entities_of_decl b.1.entity_types (items_of_meaning m of.name)
          of.says.entities x k

      by : ((e : EntityMeaning) × IsIn e m.entities × (namespace e.name ≡ of.name) × (said.0 ≡ entity_of_meaning e))
          ⊎ ((a : ActionMeaning) × IsIn a m.actions × (namespace a.ty ≡ of.name) × (said.0 ≡ action_of_meaning a))
          → IsEntryOf m (entity_in b.0 x)
      by (inl (e, among, space, is)) =
          let base : id_text x.0 ≡ basename e.name = base_of e.is_external e.choices e (id_text x.0)
          (subst (λ d. IsIn (id_text x.0) (entities_of_decl d.decl)) is said.2) in
          let some = (all_in (λ (y : EntityMeaning). IsOpenName y.name) m.entities e open'.entities among).0 in
          record {
            entry = e;
            among = in_to m.entities e among;
            is = record {
              name = whole_name (entity_name (entity_in b.0 x)) of.name (id_text x.0) e.name
                  (full_name b.0 x.0 x.1 of.name of.named) space base (rebuilt e.name some);
              space = sym of.named ∙ ap name_or_none (sym space);
              kind = kind_at x.1 said.0 (entity_of_meaning e) is said.3.1;
            };
          }
      by (inr (a, among, space, is)) =
          absurd (none_of a.is_external a (id_text x.0)
          (subst (λ d. IsIn (id_text x.0) (entities_of_decl d.decl)) is said.2))

  pub declared_are : (d : DeclaredEntity) → Contains (declared_entities g) d → IsEntryOf m d
  declared_are d h =
      let b = in_flat entities_of g.0 d (in_from (declared_entities g) d h) in
      let e = in_map (entity_in b.0.0) b.0.1.entity_types d b.2 in
      subst (IsEntryOf m) (sym e.2) (in_block b.0 b.1 e.0 e.1)

  -- each entity type of the meaning is declared
  pub are_declared : (e : EntityMeaning) → IsIn e m.entities
      → (d : DeclaredEntity) × IsIn d (declared_entities g) × (entity_name d ≡ e.name)
  are_declared e h =
      let q = namespace e.name in
      let item = entity_item m e h in
      let b = block_there m written_of g says q
      (written_all q (entity_space m e h) (some_in (items_of_meaning m q) (entity_of_meaning e) item)) in
      let of = block_of m written_of g says b.0 b.1 in
      let same : of.name ≡ q = name_back of.name q (of.named ∙ sym b.2) in
      let x = entry_there id_text EntitySays entities_of_decl b.0.1.entity_types (items_of_meaning m of.name)
      of.says.entities (entity_of_meaning e) (basename e.name)
      (subst (λ n. IsIn (entity_of_meaning e) (items_of_meaning m n)) (sym same) item)
      (base_to e.is_external e.choices e) in
      let some = (all_in (λ (y : EntityMeaning). IsOpenName y.name) m.entities e open'.entities h).0 in (
        entity_in b.0.0 x.0,
        flat_to entities_of g.0 b.0 (entity_in b.0.0 x.0) b.1 (map_to (entity_in b.0.0) b.0.1.entity_types x.0 x.1),
        whole_name (entity_name (entity_in b.0.0 x.0)) of.name (id_text x.0.0) e.name
            (full_name b.0.0 x.0.0 x.0.1 of.name of.named) (sym same) x.2 (rebuilt e.name some),
      )
