-- The names of plain declarations are the keys of their entries.
use Rattle.std.proofs.Common.{◌≡◌, ℕ, Bool, true, false, List, [], ◌∷◌, ◌++◌, map, Option, Some}
use Rattle.std.proofs.Common.{refl}
use Rattle.std.proofs.Common.{sym, ap, ◌∙◌, subst, true≢false, flat_map}
use Rattle.std.specs.Cmp.{IsTotalOrder}
use Rattle.std.specs.List.{AllByRecursion, cons_option}
use Rattle.std.specs.Ordering.{is_eq}
use Rattle.std.specs.declared.cmp.Ordering.{Ordering}
use Rattle.std.proofs.lemmas.List.{map-append}
use Rattle.cedar_data.specs.Span.{Span}
use Rattle.cedar_data.specs.Text.{text_cmp}
use Rattle.cedar_data.specs.declared.node.Node.{Node}
use Rattle.cedar_data.proofs.Orders.{text_total}
use Rattle.cedar_identifiers.specs.Words.{is_cedar}
use Rattle.cedar_identifiers.specs.declared.annotations.Annotations.{Annotations}
use Rattle.cedar_identifiers.specs.declared.id.Id.{Id}
use Rattle.cedar_identifiers.specs.declared.raw_name.RawName.{RawName}
use Rattle.cedar_identifiers.specs.declared.unreserved_id.UnreservedId.{UnreservedId}
use Rattle.cedar_names.specs.declared.extension_table.ExtensionTable.{ExtensionTable}
use Rattle.schema_syntax_tree.specs.declared.annotated.Annotated.{Annotated}
use Rattle.schema_syntax_tree.specs.declared.declaration.Declaration.{Declaration}
use Rattle.schema_syntax_tree.specs.declared.declaration.Declaration.TheVariants.{Entity, Action, Common}
use Rattle.schema_json.specs.declared.common_type.CommonType.{CommonType}
use Rattle.schema_json.specs.declared.common_type.CommonTypeId.{CommonTypeId}
use Rattle.schema_json.specs.Orders.{unreserved_cmp, common_cmp}
use Rattle.schema_json.proofs.Orders.{unreserved_total, common_total}
use Rattle.schema_convert_types.specs.Types.{type_of}
use Rattle.schema_convert_fragments.specs.Declarations.{unreserved, unreserved_so, declarable, each_with}
use Rattle.schema_convert_fragments.specs.Fragments.{entity_entries_of, action_entries_of, common_entries_of}
use Rattle.schema_convert_fragments.specs.Fragments.{common_entry}
use Rattle.schema_convert_fragments.specs.Fragments.{entity_entries, action_entries, common_entries}
use Rattle.schema_convert_faults.specs.NamesIn.{entities_of, actions_of, commons_of, entity_names_in, action_names_in}
use Rattle.schema_convert_faults.specs.NamesIn.{common_names_in, id_cmp, action_cmp}
use Rattle.schema_convert_plain.specs.Plain.{IsFreeId, IsPlainDeclaration, AreOnce, ArePlain}
use Rattle.schema_convert_openings.specs.Repeats.{NoneRepeats}
use Rattle.schema_convert_plain.proofs.Counted.{keys_new, items_new}
use Rattle.schema_convert_openings.proofs.FirstRepeat.{AreNew, new_everywhere}

abbrev pub text_eq : List ℕ → List ℕ → Bool
text_eq a b = is_eq (text_cmp a b)

-- a word that is not reserved may be declared
abbrev IsOf : Id → Option UnreservedId → Type 0
IsOf id o = (u : UnreservedId) × (o ≡ Some u) × (u.id ≡ id)

free_so : (id : Id) (b : Bool) (e : is_cedar id.text ≡ b) → b ≡ false → IsOf id (unreserved_so id b e)
free_so id true e h = absurd (true≢false h)
free_so id false e h = (record { id = id; unreserved = e }, refl, refl)

free_id : (id : Id) → is_cedar id.text ≡ false → IsOf id (unreserved id)
free_id id h = free_so id (is_cedar id.text) refl h

abbrev pub entity_key : {X : Type 0} → UnreservedId × X → List ℕ
entity_key e = e.0.id.text

module _ (table : ExtensionTable) where
  free_keys : {X : Type 0} (x : X) (names : List (Node Id)) → AllByRecursion (IsFreeId table) names
      → map entity_key (each_with x (declarable names)) ≡ map (λ n. n.node.text) names
  free_keys x [] all = refl
  free_keys x (n ∷ names) all =
      let u = free_id n.node all.0.0 in
      ap (λ o. map entity_key (each_with x (cons_option o (declarable names)))) u.1
      ∙ (λ i. (u.2 i).text ∷ free_keys x names all.1 i)

  entity_keys_of : (d : Declaration) (notes : Annotations) (loc : Option Span) → IsPlainDeclaration table d
      → map entity_key (entity_entries_of d notes loc) ≡ map (λ n. n.node.text) (entities_of d)
  entity_keys_of (Entity d) notes loc plain = free_keys _ _ plain.entities
  entity_keys_of (Action d) notes loc plain = refl
  entity_keys_of (Common d) notes loc plain = refl

  abbrev pub common_key : CommonTypeId × CommonType RawName → List ℕ
  common_key e = e.0.id.id.text

  common_keys_of : (d : Declaration) (notes : Annotations) (loc : Option Span) → IsPlainDeclaration table d
      → map common_key (common_entries_of d notes loc) ≡ map (λ n. n.node.text) (commons_of d)
  common_keys_of (Entity d) notes loc plain = refl
  common_keys_of (Action d) notes loc plain = refl
  common_keys_of (Common d) notes loc plain =
      let u = free_id d.name.node plain.commons.0.0 in
      let of : CommonType RawName = record { ty = type_of d.def; annotations = notes; loc = loc } in
      ap (λ o. map common_key (common_entry o of)) u.1 ∙ (λ i. (u.2 i).text ∷ [])

each_key : {X : Type 0} (x : X) (names : List (Node (List ℕ)))
    → map (λ e. e.0) (each_with x (map (λ n. n.node) names)) ≡ map (λ n. n.node) names
each_key x [] = refl
each_key x (n ∷ names) = ap (λ l. n.node ∷ l) (each_key x names)

action_keys_of : (d : Declaration) (notes : Annotations) (loc : Option Span)
    → map (λ e. e.0) (action_entries_of d notes loc) ≡ map (λ n. n.node) (actions_of d)
action_keys_of (Entity d) notes loc = refl
action_keys_of (Action d) notes loc = each_key _ _
action_keys_of (Common d) notes loc = refl

flat_keys : {D A B T : Type 0} (P : D → Type 0) (f : D → List A) (g : D → List B) (p : A → T) (q : B → T)
    → ((d : D) → P d → map p (f d) ≡ map q (g d)) → (ds : List D) → AllByRecursion P ds
    → map p (flat_map f ds) ≡ map q (flat_map g ds)
flat_keys P f g p q each [] all = refl
flat_keys P f g p q each (d ∷ ds) all =
    map-append p (f d) (flat_map f ds)
    ∙ ((λ i. each d all.0 i ++ flat_keys P f g p q each ds all.1 i) ∙ sym (map-append q (g d) (flat_map g ds)))

abbrev AnyDecl : Annotated (Node Declaration) → Type 0
AnyDecl d = Unit {0}

any_all : (decls : List (Annotated (Node Declaration))) → AllByRecursion AnyDecl decls
any_all [] = tt
any_all (d ∷ decls) = (tt, any_all decls)

-- items whose parts are those of keys that stand once do not repeat
once : {K X N : Type 0} (R : K → K → Ordering) (o : IsTotalOrder R) (cmp : N → N → Ordering) (p : K → List ℕ)
    (q : N → List ℕ) → ((a b : K) → text_eq (p a) (p b) ≡ is_eq (R a b))
    → ((a b : N) → is_eq (cmp a b) ≡ true → text_eq (q a) (q b) ≡ true)
    → (es : List (K × X)) (names : List N) → AreOnce R es → map (λ e. p e.0) es ≡ map q names → NoneRepeats cmp names
once R o cmp p q tells alike es names same keys =
    new_everywhere (λ a b. is_eq (cmp a b)) names
    (items_new (λ a b. is_eq (cmp a b)) text_eq q alike [] names
    (subst (AreNew text_eq []) keys (keys_new R o text_eq p tells es same)))

module _ (table : ExtensionTable) (decls : List (Annotated (Node Declaration))) (plain : ArePlain table decls) where
  pub entity_keys : map entity_key (entity_entries decls) ≡ map (λ n. n.node.text) (entity_names_in decls)
  entity_keys = flat_keys (λ (d : Annotated (Node Declaration)). IsPlainDeclaration table d.item.node)
      (λ d. entity_entries_of d.item.node d.annotations d.item.loc) (λ d. entities_of d.item.node) entity_key
      (λ n. n.node.text) (λ d h. entity_keys_of table d.item.node d.annotations d.item.loc h) decls plain.each

  pub common_keys : map (common_key table) (common_entries decls) ≡ map (λ n. n.node.text) (common_names_in decls)
  common_keys = flat_keys (λ (d : Annotated (Node Declaration)). IsPlainDeclaration table d.item.node)
      (λ d. common_entries_of d.item.node d.annotations d.item.loc) (λ d. commons_of d.item.node) (common_key table)
      (λ n. n.node.text) (λ d h. common_keys_of table d.item.node d.annotations d.item.loc h) decls plain.each

  action_keys : map (λ e. e.0) (action_entries decls) ≡ map (λ n. n.node) (action_names_in decls)
  action_keys = flat_keys AnyDecl (λ d. action_entries_of d.item.node d.annotations d.item.loc)
      (λ d. actions_of d.item.node) (λ e. e.0) (λ n. n.node)
      (λ d h. action_keys_of d.item.node d.annotations d.item.loc) decls (any_all decls)

  pub entities_once : NoneRepeats id_cmp (entity_names_in decls)
  entities_once = once unreserved_cmp unreserved_total id_cmp (λ u. u.id.text) (λ n. n.node.text) (λ a b. refl)
      (λ a b h. h) (entity_entries decls) (entity_names_in decls) plain.entities_once entity_keys

  pub commons_once : NoneRepeats id_cmp (common_names_in decls)
  commons_once = once common_cmp common_total id_cmp (λ c. c.id.id.text) (λ n. n.node.text) (λ a b. refl)
      (λ a b h. h) (common_entries decls) (common_names_in decls) plain.commons_once common_keys

  pub actions_once : NoneRepeats action_cmp (action_names_in decls)
  actions_once = once text_cmp text_total action_cmp (λ t. t) (λ n. n.node) (λ a b. refl) (λ a b h. h)
      (action_entries decls) (action_names_in decls) plain.actions_once action_keys
