-- All that a fragment declares for a role is spelled, and nothing else.
use Rattle.std.proofs.Common.{◌≡◌, ℕ, zero, suc, true, List, [], ◌∷◌, ◌++◌, map}
use Rattle.std.proofs.Common.{Option}
use Rattle.std.proofs.Common.{Contains, Some, None, refl, sym, ap, ◌∙◌, subst, inl, inr, arith, codes}
use Rattle.std.specs.Prelude.{◌↔◌}
use Rattle.std.specs.List.{flat_map}
use Rattle.std.specs.Str.{bytes_eq, encode_utf8_all}
use Rattle.std.proofs.lemmas.Bool.{or_left, or_right, and_from}
use Rattle.std.proofs.lemmas.List.{map-append, same_from_push}
use Rattle.std.proofs.lemmas.List.Folds.{list_any_at}
use Rattle.std.proofs.lemmas.List.Elements.{Contains-append_left, Contains-append_right, Contains-append_cases}
use Rattle.std.proofs.lemmas.Slice.Eq.{bytes_eq-Decides}
use Rattle.cedar_data.proofs.Lists.{contains_first, contains_map, contains_unmap, contains_flat}
use Rattle.cedar_identifiers.specs.Names.{components_of}
use Rattle.cedar_identifiers.specs.declared.id.Id.{Id}
use Rattle.cedar_identifiers.specs.declared.name.Name.{Name}
use Rattle.cedar_identifiers.specs.declared.name_text.NameText as named
use Rattle.cedar_names.specs.Definitions.{Definitions, among, among_actions, same_name, same_action}
use Rattle.cedar_names.specs.declared.extension_table.ExtensionTable.{ExtensionTable}
use Rattle.cedar_names.proofs.Defined.{name_itself}
use Rattle.schema_json.specs.declared.fragment.Fragment.{Fragment}
use Rattle.schema_json.specs.declared.fragment.NamespaceDefinition.{NamespaceDefinition}
use Rattle.schema_resolve_definitions.specs.Declarations.{declared_name, action_type, declared}
use Rattle.schema_resolve_definitions.specs.Declarations.{actions_in}
use Rattle.schema_resolve_definitions.specs.Defined.{defined}
use Rattle.schema_resolve_definitions.specs.Tests.{Tests, tests_of}
use Rattle.schema_resolve_lookup.specs.Sought.{namespace_words}
use Rattle.schema_resolve_targets.specs.Targets.{is_defined}
use Rattle.schema_assist_places.specs.declared.role.Role.{Role}
use Rattle.schema_assist_places.specs.declared.role.Role.TheVariants.{TypePath, EntityPath, ContextPath, ActionRef}
use Rattle.schema_assist_offers.specs.Offers.{offers, OffersType, OffersAction, Completes, IsSpelledIn, IsDeclaredFor}
use Rattle.schema_assist_offers.specs.Offers.{kind_for, MeansAction}
use Rattle.schema_assist_offers.specs.Spellings.{Question, spelled, spelled_type, spelled_action, spelled_in}
use Rattle.schema_assist_offers.specs.Spellings.{entities_spelled, commons_spelled, actions_spelled, all_spelled}
use Rattle.schema_assist_offers.proofs.Meant.{spelled_as_meant, action_as_meant, nothing_in}

-- a name is the words of its namespace, and its own
pub name_parts : (ns : Option Name) (id : Id)
    → components_of (declared_name ns id) ≡ namespace_words ns ++ id.text ∷ []
name_parts None id = refl
name_parts (Some n) id =
    ap (λ l. n.name.first.text ∷ l) (map-append (λ (i : Id). i.text) n.name.others (id ∷ []))

pub type_parts : (ns : Option Name) → components_of (action_type ns) ≡ namespace_words ns ++ codes "Action" ∷ []
type_parts None = refl
type_parts (Some n) =
    ap (λ l. n.name.first.text ∷ l) (map-append (λ (i : Id). i.text) n.name.others
    (record { text = codes "Action"; word = refl } ∷ []))

-- what stands in what an item of a list gives stands in what the list gives
contains_given : {X Y : Type 0} (f : X → List Y) (xs : List X) (x : X) (y : Y) → Contains xs x → Contains (f x) y
    → Contains (flat_map f xs) y
contains_given f [] x y c d = nothing_in x c
contains_given f (z ∷ zs) x y (zero, l, is) d =
    Contains-append_left (f z) (flat_map f zs) y (subst (λ w. Contains (f w) y) (sym is) d)
contains_given f (z ∷ zs) x y (suc k, l, is) d =
    Contains-append_right (f z) (flat_map f zs) y (contains_given f zs x y (k, omega arith, is) d)

-- a name that stands in a list is among its names
there : (names : List (List (List ℕ))) (n : List (List ℕ)) → Contains names n → among names n ≡ true
there names n (k, l, is) = list_any_at (same_name n) names k n l
    (ap (same_name n) is ∙ name_itself n)

action_there : (actions : List (List (List ℕ) × List ℕ)) (a : List (List ℕ) × List ℕ) → Contains actions a
    → among_actions actions a ≡ true
action_there actions a (k, l, is) = list_any_at (same_action a) actions k a l
    (ap (same_action a) is ∙ and_from (same_name a.0 a.0) (bytes_eq (encode_utf8_all a.1) (encode_utf8_all a.1))
    (name_itself a.0) ((bytes_eq-Decides (encode_utf8_all a.1) (encode_utf8_all a.1)).1 refl))

module _ {N : Type 0} {G : named.Ghosts N} (f : Fragment N G) (table : ExtensionTable) where
  abbrev t : Tests
  t = tests_of (defined f table)

  abbrev d : Definitions
  d = declared f

  abbrev Place : Type 0
  Place = Option Name × NamespaceDefinition N G

  common_defined : (n : List (List ℕ)) → Contains d.commons n → t.is_common n ≡ true
  common_defined n c = there (defined f table).commons n (Contains-append_left d.commons _ n c)

  entity_defined : (n : List (List ℕ)) → Contains d.entities n → t.is_entity n ≡ true
  entity_defined n c = there (defined f table).entities n (Contains-append_left d.entities _ n c)

  type_defined : (n : List (List ℕ)) → Contains (map (λ a. a.0) d.actions) n → t.is_entity n ≡ true
  type_defined n c = there (defined f table).entities n (Contains-append_right d.entities _ n c)

  -- what is declared for a role is defined in the kind that the role asks for
  declared_defined : (role : Role) (n : List (List ℕ)) → IsDeclaredFor role d n
      → is_defined t (kind_for role) n ≡ true
  declared_defined TypePath n (inl h) = or_right (t.is_common n) (t.is_entity n) (entity_defined n h)
  declared_defined TypePath n (inr (inl h)) = or_left (t.is_common n) (t.is_entity n) (common_defined n h)
  declared_defined TypePath n (inr (inr h)) = or_right (t.is_common n) (t.is_entity n) (type_defined n h)
  declared_defined EntityPath n h = entity_defined n h
  declared_defined ContextPath n h = common_defined n h
  declared_defined ActionRef n h = absurd h

  module _ (ns : List (List ℕ)) (front : List ℕ) where
    abbrev q : Question
    q = record { tests = t; ns = ns; front = front }

    -- what is said of a text: it spells a name of those, and begins so
    abbrev Spells : Role → (List (List ℕ) → Type 0) → List ℕ → Type 0
    Spells role Named s = (before : List (List ℕ)) × (word : List ℕ) × Named (before ++ word ∷ [])
        × IsSpelledIn t (kind_for role) ns before word s × Completes s front

    module _ (role : Role) (Named : List (List ℕ) → Type 0)
        (is_there : (n : List (List ℕ)) → Named n → is_defined t (kind_for role) n ≡ true) where
      -- a name of a namespace and a word is spelled so
      spells : (before : List (List ℕ)) (word s : List ℕ) → Named (before ++ word ∷ [])
          → Contains (spelled q (kind_for role) before word) s → Spells role Named s
      spells before word s n c =
          let m = (spelled_as_meant q (kind_for role) word before (is_there (before ++ word ∷ []) n) s).0 c in
          (before, word, n, m.0, m.1)

      spelled_so : (before : List (List ℕ)) (word s : List ℕ) → Named (before ++ word ∷ [])
          → IsSpelledIn t (kind_for role) ns before word s → Completes s front
          → Contains (spelled q (kind_for role) before word) s
      spelled_so before word s n is b =
          (spelled_as_meant q (kind_for role) word before (is_there (before ++ word ∷ []) n) s).1 (is, b)

    -- the same name by other parts
    other_parts : (role : Role) (before home : List (List ℕ)) (word w s : List ℕ)
        → home ++ w ∷ [] ≡ before ++ word ∷ [] → IsSpelledIn t (kind_for role) ns before word s
        → IsSpelledIn t (kind_for role) ns home w s
    other_parts role before home word w s e is =
        let parts = same_from_push home before w word e in
        subst (λ x. IsSpelledIn t (kind_for role) ns x w s) (sym parts.0)
        (subst (λ x. IsSpelledIn t (kind_for role) ns before x s) (sym parts.1) is)

    -- entries of the namespaces, each with a name
    module _ (role : Role) {K V : Type 0} (entries : NamespaceDefinition N G → List (K × V)) (id : K → Id) where
      abbrev names_in : Option Name → NamespaceDefinition N G → List (List (List ℕ))
      names_in home n = map (λ e. components_of (declared_name home (id e.0))) (entries n)

      abbrev names : List (List (List ℕ))
      names = flat_map (λ e. names_in e.0 e.1) f.0

      abbrev spelled_there : Option Name → NamespaceDefinition N G → List (List ℕ)
      spelled_there home n = flat_map (λ e. spelled q (kind_for role) (namespace_words home) (id e.0).text) (entries n)

      module _ (is_there : (n : List (List ℕ)) → Contains names n → is_defined t (kind_for role) n ≡ true) where
        called : (e : Place) (k : K × V) → Contains f.0 e → Contains (entries e.1) k
            → Contains names (namespace_words e.0 ++ (id k.0).text ∷ [])
        called e k there here =
            subst (λ x. Contains names x) (name_parts e.0 (id k.0))
            (contains_given (λ p. names_in p.0 p.1) f.0 e (components_of (declared_name e.0 (id k.0))) there
            (contains_map (λ p. components_of (declared_name e.0 (id p.0))) (entries e.1) k here))

        pub entries_spell : (e : Place) (s : List ℕ) → Contains f.0 e → Contains (spelled_there e.0 e.1) s
            → Spells role (Contains names) s
        entries_spell e s there c =
            let r = contains_flat (λ k. spelled q (kind_for role) (namespace_words e.0) (id k.0).text) (entries e.1) s c
            in spells role (Contains names) is_there (namespace_words e.0) (id r.0.0).text s
            (called e r.0 there r.1) r.2

        pub spelled_entry : (s : List ℕ) → Spells role (Contains names) s
            → (e : Place) × Contains f.0 e × Contains (spelled_there e.0 e.1) s
        spelled_entry s (before, word, c, is, b) =
            let r = contains_flat (λ p. names_in p.0 p.1) f.0 (before ++ word ∷ []) c in
            let e : Place = r.0 in
            let k = contains_unmap (λ p. components_of (declared_name e.0 (id p.0))) (entries e.1) (before ++ word ∷ [])
            r.2 in
            let w = (id k.0.0).text in
            let whole : namespace_words e.0 ++ w ∷ [] ≡ before ++ word ∷ [] = sym (name_parts e.0 (id k.0.0)) ∙ k.2 in
            let here : Contains names (namespace_words e.0 ++ w ∷ []) = subst (λ x. Contains names x) (sym whole) c in (
              e,
              r.1,
              contains_given (λ p. spelled q (kind_for role) (namespace_words e.0) (id p.0).text) (entries e.1) k.0 s
                  k.1
                  (spelled_so role (Contains names) is_there (namespace_words e.0) w s here
                  (other_parts role before (namespace_words e.0) word w s whole is) b),
            )

    -- the types of actions
    abbrev types : List (List (List ℕ))
    types = map (λ a. a.0) d.actions

    action_in : (e : Place) (id : List ℕ) → Contains f.0 e → Contains (map (λ a. a.0) e.1.actions) id
        → Contains d.actions (namespace_words e.0 ++ codes "Action" ∷ [], id)
    action_in e id there h =
        let a = contains_unmap (λ a. a.0) e.1.actions id h in
        contains_given (λ p. actions_in p.0 p.1) f.0 e (namespace_words e.0 ++ codes "Action" ∷ [], id) there
        (subst (λ x. Contains (actions_in e.0 e.1) x) (λ i. (type_parts e.0 i, a.2 i))
        (contains_map (λ p. (components_of (action_type e.0), p.0)) e.1.actions a.0 a.1))

    type_spelled : (e : Place) (s : List ℕ) → Contains f.0 e
        → Contains (spelled_type q (namespace_words e.0) e.1.actions) s → Spells TypePath (Contains types) s
    type_spelled e s there c = go e.1.actions (λ id h. action_in e id there h) c
      where
        go : {A : Type 0} (actions : List (List ℕ × A))
            → ((id : List ℕ) → Contains (map (λ a. a.0) actions) id
            → Contains d.actions (namespace_words e.0 ++ codes "Action" ∷ [], id))
            → Contains (spelled_type q (namespace_words e.0) actions) s → Spells TypePath (Contains types) s
        go [] all h = nothing_in s h
        go (a ∷ actions) all h =
            let action = all a.0 (contains_first a.0 (map (λ x. x.0) actions)) in
            let ty : Contains types (namespace_words e.0 ++ codes "Action" ∷ []) =
            contains_map (λ a. a.0) d.actions (namespace_words e.0 ++ codes "Action" ∷ [], a.0) action in
            spells TypePath (Contains types) (λ n h. or_right (t.is_common n) (t.is_entity n) (type_defined n h))
            (namespace_words e.0) (codes "Action") s ty h

    spelled_types : (s : List ℕ) → Spells TypePath (Contains types) s
        → (e : Place) × Contains f.0 e × Contains (spelled_type q (namespace_words e.0) e.1.actions) s
    spelled_types s (before, word, c, is, b) =
        let a = contains_unmap (λ a. a.0) d.actions (before ++ word ∷ []) c in
        let r = contains_flat (λ p. actions_in p.0 p.1) f.0 a.0 a.1 in
        let e : Place = r.0 in
        let k = contains_unmap (λ p. (components_of (action_type e.0), p.0)) e.1.actions a.0 r.2 in
        let whole : namespace_words e.0 ++ codes "Action" ∷ [] ≡ before ++ word ∷ [] =
        sym (type_parts e.0) ∙ ap (λ p. p.0) k.2 ∙ a.2 in
        let here : Contains types (namespace_words e.0 ++ codes "Action" ∷ []) =
        subst (λ x. Contains types x) (sym whole) c in
        let there = spelled_so TypePath (Contains types)
        (λ n h. or_right (t.is_common n) (t.is_entity n) (type_defined n h)) (namespace_words e.0) (codes "Action") s
        here
        (other_parts TypePath before (namespace_words e.0) word (codes "Action") s whole is) b in
        (e, r.1, some (namespace_words e.0) e.1.actions k.0 k.1 there)
      where
        some : {A : Type 0} (home : List (List ℕ)) (actions : List A) (x : A) → Contains actions x
            → Contains (spelled q (kind_for TypePath) home (codes "Action")) s
            → Contains (spelled_type q home actions) s
        some home [] x c h = nothing_in x c
        some home (y ∷ actions) x c h = h

    -- the ids of actions
    action_spelled : (e : Place) (s : List ℕ) → Contains f.0 e
        → Contains (actions_spelled q (namespace_words e.0) e.1) s → OffersAction f table ns s × Completes s front
    action_spelled e s there c =
        let r = contains_flat (λ a. spelled_action q (namespace_words e.0) a.0) e.1.actions s c in
        let id = r.0.0 in
        let ty = namespace_words e.0 ++ codes "Action" ∷ [] in
        let action : Contains d.actions (ty, id) =
        action_in e id there (contains_map (λ a. a.0) e.1.actions r.0 r.1) in
        let m = (action_as_meant q id (namespace_words e.0) (action_there d.actions (ty, id) action) s).0 r.2 in
        (record { ty = ty; id = id; declared = action; meant = m.0.0; spelled = m.0.1 }, m.1)

    spelled_actions : (s : List ℕ) → OffersAction f table ns s → Completes s front
        → (e : Place) × Contains f.0 e × Contains (actions_spelled q (namespace_words e.0) e.1) s
    spelled_actions s o b =
        let r = contains_flat (λ p. actions_in p.0 p.1) f.0 (o.ty, o.id) o.declared in
        let e : Place = r.0 in
        let k = contains_unmap (λ p. (components_of (action_type e.0), p.0)) e.1.actions (o.ty, o.id) r.2 in
        let ty : o.ty ≡ namespace_words e.0 ++ codes "Action" ∷ [] = sym (ap (λ p. p.0) k.2) ∙ type_parts e.0 in
        let id : k.0.0 ≡ o.id = ap (λ p. p.1) k.2 in
        let declared : Contains d.actions (namespace_words e.0 ++ codes "Action" ∷ [], o.id) =
        subst (λ x. Contains d.actions (x, o.id)) ty o.declared in
        let meant : MeansAction t ns o.id (namespace_words e.0 ++ codes "Action" ∷ []) =
        subst (λ x. MeansAction t ns o.id x) ty o.meant in
        let here = (action_as_meant q o.id (namespace_words e.0) (action_there d.actions _ declared) s).1
        ((meant, o.spelled), b) in (
          e,
          r.1,
          contains_given (λ a. spelled_action q (namespace_words e.0) a.0) e.1.actions k.0 s k.1
              (subst (λ x. Contains (spelled_action q (namespace_words e.0) x) s) (sym id) here),
        )

    -- where all names are of one list
    types_of : (role : Role) (s : List ℕ) → Spells role (IsDeclaredFor role d) s
        → OffersType f table role ns s × Completes s front
    types_of role s (before, word, n, is, b) =
        (record { before = before; word = word; declared = n; spelled = is }, b)

    wider : (role : Role) (A B : List (List ℕ) → Type 0) → ((n : List (List ℕ)) → A n → B n) → (s : List ℕ)
        → Spells role A s → Spells role B s
    wider role A B g s (before, word, n, is, b) = (before, word, g (before ++ word ∷ []) n, is, b)

    entities_there : (role : Role)
        → ((n : List (List ℕ)) → Contains d.entities n → is_defined t (kind_for role) n ≡ true)
        → (e : Place) (s : List ℕ) → Contains f.0 e
        → Contains (entities_spelled q (kind_for role) (namespace_words e.0) e.1) s
        → Spells role (Contains d.entities) s
    entities_there role is_there e s there c =
        entries_spell role (λ n. n.entity_types) (λ k. k.id) is_there e s there c

    commons_there : (role : Role) → ((n : List (List ℕ)) → Contains d.commons n → is_defined t (kind_for role) n ≡ true)
        → (e : Place) (s : List ℕ) → Contains f.0 e
        → Contains (commons_spelled q (kind_for role) (namespace_words e.0) e.1) s
        → Spells role (Contains d.commons) s
    commons_there role is_there e s there c =
        entries_spell role (λ n. n.common_types) (λ k. k.id.id) is_there e s there c

    entity_is : (n : List (List ℕ)) → Contains d.entities n → is_defined t (kind_for TypePath) n ≡ true
    entity_is n h = declared_defined TypePath n (inl h)

    common_is : (n : List (List ℕ)) → Contains d.commons n → is_defined t (kind_for TypePath) n ≡ true
    common_is n h = declared_defined TypePath n (inr (inl h))

    -- what is spelled in a namespace is offered
    spelled_offers : (role : Role) (e : Place) (s : List ℕ) → Contains f.0 e
        → Contains (spelled_in q role (namespace_words e.0) e.1) s
        → offers f table role ns s × Completes s front
    spelled_offers TypePath e s there c =
        let home = namespace_words e.0 in
        types_of TypePath s (elim (Contains-append_cases (entities_spelled q (kind_for TypePath) home e.1)
        (commons_spelled q (kind_for TypePath) home e.1 ++ spelled_type q home e.1.actions) s c) [
          | inl entity ↦ wider TypePath (Contains d.entities) (IsDeclaredFor TypePath d) (λ n h. inl h) s
              (entities_there TypePath entity_is e s there entity)
          | inr other ↦ elim (Contains-append_cases (commons_spelled q (kind_for TypePath) (namespace_words e.0) e.1)
              (spelled_type q (namespace_words e.0) e.1.actions) s other) [
                | inl common ↦ wider TypePath (Contains d.commons) (IsDeclaredFor TypePath d) (λ n h. inr (inl h)) s
                    (commons_there TypePath common_is e s there common)
                | inr ty ↦ wider TypePath (Contains types) (IsDeclaredFor TypePath d) (λ n h. inr (inr h)) s
                    (type_spelled e s there ty)
              ]
        ])
    spelled_offers EntityPath e s there c = types_of EntityPath s (entities_there EntityPath entity_defined e s there c)
    spelled_offers ContextPath e s there c =
        types_of ContextPath s (commons_there ContextPath common_defined e s there c)
    spelled_offers ActionRef e s there c = action_spelled e s there c

    abbrev SpelledIn : Role → List ℕ → Type 0
    SpelledIn role s = (e : Place) × Contains f.0 e × Contains (spelled_in q role (namespace_words e.0) e.1) s

    entities_found : (role : Role)
        → ((n : List (List ℕ)) → Contains d.entities n → is_defined t (kind_for role) n ≡ true) → (s : List ℕ) → Spells role (Contains d.entities) s
        → (e : Place) × Contains f.0 e × Contains (entities_spelled q (kind_for role) (namespace_words e.0) e.1) s
    entities_found role is_there s h = spelled_entry role (λ n. n.entity_types) (λ k. k.id) is_there s h

    commons_found : (role : Role) → ((n : List (List ℕ)) → Contains d.commons n → is_defined t (kind_for role) n ≡ true)
        → (s : List ℕ) → Spells role (Contains d.commons) s
        → (e : Place) × Contains f.0 e × Contains (commons_spelled q (kind_for role) (namespace_words e.0) e.1) s
    commons_found role is_there s h = spelled_entry role (λ n. n.common_types) (λ k. k.id.id) is_there s h

    type_found : (before : List (List ℕ)) (word s : List ℕ) → IsDeclaredFor TypePath d (before ++ word ∷ [])
        → IsSpelledIn t (kind_for TypePath) ns before word s → Completes s front → SpelledIn TypePath s
    type_found before word s (inl h) is b =
        let r = entities_found TypePath entity_is s (before, word, h, is, b) in
        (r.0, r.1, Contains-append_left (entities_spelled q (kind_for TypePath) (namespace_words r.0.0) r.0.1) _ s r.2)
    type_found before word s (inr (inl h)) is b =
        let r = commons_found TypePath common_is s (before, word, h, is, b) in (
          r.0,
          r.1,
          Contains-append_right (entities_spelled q (kind_for TypePath) (namespace_words r.0.0) r.0.1) _ s
              (Contains-append_left (commons_spelled q (kind_for TypePath) (namespace_words r.0.0) r.0.1) _ s r.2),
        )
    type_found before word s (inr (inr h)) is b =
        let r = spelled_types s (before, word, h, is, b) in (
          r.0,
          r.1,
          Contains-append_right (entities_spelled q (kind_for TypePath) (namespace_words r.0.0) r.0.1) _ s
              (Contains-append_right (commons_spelled q (kind_for TypePath) (namespace_words r.0.0) r.0.1) _ s r.2),
        )

    -- what is offered is spelled in some namespace
    offers_spelled : (role : Role) (s : List ℕ) → offers f table role ns s → Completes s front → SpelledIn role s
    offers_spelled TypePath s o b = type_found o.before o.word s o.declared o.spelled b
    offers_spelled EntityPath s o b =
        entities_found EntityPath entity_defined s (o.before, o.word, o.declared, o.spelled, b)
    offers_spelled ContextPath s o b =
        commons_found ContextPath common_defined s (o.before, o.word, o.declared, o.spelled, b)
    offers_spelled ActionRef s o b = spelled_actions s o b

    -- all that is spelled is offered, and all that is offered is spelled
    pub all_offered : (role : Role) (s : List ℕ)
        → (Contains (all_spelled q role f) s ↔ (offers f table role ns s × Completes s front))
    all_offered role s = (
      λ c. let r = contains_flat (λ e. spelled_in q role (namespace_words e.0) e.1) f.0 s c in
          spelled_offers role r.0 s r.1 r.2,
      λ (o, b). let r = offers_spelled role s o b in
          contains_given (λ e. spelled_in q role (namespace_words e.0) e.1) f.0 r.0 s r.1 r.2,
    )

-- what is put in order of all that is spelled is what is offered
pub offered_answer : {N : Type 0} {G : named.Ghosts N} (f : Fragment N G) (table : ExtensionTable) (role : Role)
    (ns : List (List ℕ)) (front : List ℕ) (defs : Definitions) (old new : List (List ℕ)) → defs ≡ defined f table
    → old ≡ all_spelled (record { tests = tests_of defs; ns = ns; front = front }) role f
    → ((s : List ℕ) → (Contains new s ↔ Contains old s))
    → (s : List ℕ) → (Contains new s ↔ (offers f table role ns s × Completes s front))
offered_answer f table role ns front defs old new same is moved s =
    let all : old ≡ all_spelled (record { tests = tests_of (defined f table); ns = ns; front = front }) role f =
    is ∙ ap (λ d. all_spelled (record { tests = tests_of d; ns = ns; front = front }) role f) same in
    let told = all_offered f table ns front role s in (
      λ c. told.0 (subst (λ l. Contains l s) all ((moved s).0 c)),
      λ h. (moved s).1 (subst (λ l. Contains l s) (sym all) (told.1 h)),
    )
