-- In a namespace of which a word is no name nothing is defined, so words mean there what they mean in the empty one.
use Rattle.std.proofs.Common.{◌≡◌, ℕ, Bool, true, false, ◌||◌, List, [], ◌∷◌, ◌++◌, map, cond, find, Some}
use Rattle.std.proofs.Common.{None, Contains, refl, sym, ap, ◌∙◌, subst, inl, inr, codes, arith, zero, suc}
use Rattle.std.specs.Prelude.{◌↔◌, if◌then◌else◌}
use Rattle.std.specs.List.{list_all}
use Rattle.std.specs.Cmp.{first_so, second_so}
use Rattle.std.specs.Str.{bytes_eq, encode_utf8_all}
use Rattle.std.proofs.lemmas.Bool.{cases_Bool, false≢true, and_from, or_cases}
use Rattle.std.proofs.lemmas.Map.Views.{Contains-from_any}
use Rattle.std.proofs.lemmas.List.Elements.{Contains-append_cases}
use Rattle.cedar_data.proofs.Lists.{contains_first, contains_later, contains_flat, contains_unmap}
use Rattle.cedar_identifiers.specs.Names.{components_of, texts_of}
use Rattle.cedar_identifiers.specs.Words.{is_id}
use Rattle.cedar_identifiers.specs.declared.id.Id.{Id}
use Rattle.cedar_identifiers.specs.declared.internal_name.InternalName.{InternalName}
use Rattle.cedar_identifiers.specs.declared.name_text.NameText as named
use Rattle.cedar_identifiers.specs.declared.reference_type.ReferenceType.{ReferenceType}
use Rattle.cedar_identifiers.specs.declared.reference_type.ReferenceType.TheVariants.{Common, Entity, CommonOrEntity}
use Rattle.cedar_names.specs.Definitions.{among_actions, same_name, same_action}
use Rattle.cedar_names.specs.Tables.{table_names}
use Rattle.cedar_names.specs.declared.extension_table.ExtensionTable.{ExtensionTable}
use Rattle.cedar_names.proofs.Defined.{equal_names}
use Rattle.schema_json.specs.declared.fragment.Fragment.{Fragment}
use Rattle.schema_resolve_definitions.specs.Declarations.{declared_name, action_type, declared, commons_in}
use Rattle.schema_resolve_definitions.specs.Declarations.{entities_in, actions_in}
use Rattle.schema_resolve_definitions.specs.Defined.{builtins, defined, is_hidden, names_of_builtin, names_of_builtins}
use Rattle.schema_resolve_definitions.specs.Tests.{Tests, tests_of}
use Rattle.schema_resolve_targets.specs.Targets.{is_defined}
use Rattle.schema_assist_places.specs.declared.role.Role.{Role}
use Rattle.schema_assist_places.specs.declared.role.Role.TheVariants.{TypePath, EntityPath, ContextPath, ActionRef}
use Rattle.schema_assist_offers.specs.Offers.{candidates_in, kind_for, IsSpelledIn, offers, OffersType}
use Rattle.schema_assist_offers.specs.Offers.IsSpelledIn.{by_word, in_full}
use Rattle.schema_assist_offers.proofs.Meant.{nothing_in}

-- the words are names
abbrev Ids : List (List ℕ) → Type 0
Ids words = list_all is_id words ≡ true

ids_all : (ids : List Id) → Ids (texts_of ids)
ids_all [] = refl
ids_all (i ∷ is) = and_from (is_id i.text) (list_all is_id (texts_of is)) i.word (ids_all is)

name_ids : (name : InternalName) → Ids (components_of name)
name_ids name = ids_all (name.first ∷ name.others)

front_ids : (xs ys : List (List ℕ)) → Ids (xs ++ ys) → Ids xs
front_ids [] ys h = refl
front_ids (x ∷ xs) ys h =
    and_from (is_id x) (list_all is_id xs) (first_so (is_id x) (list_all is_id (xs ++ ys)) h)
    (front_ids xs ys (second_so (is_id x) (list_all is_id (xs ++ ys)) h))

-- the words of the builtin types
table_word : (table : ExtensionTable) (w : List ℕ) → Contains (table_names table) w → is_id w ≡ true
table_word table w c =
    let r = contains_unmap (λ n. n.id.text) table.names w c in subst (λ x. is_id x ≡ true) r.2 r.0.id.word

builtin_word : (table : ExtensionTable) (w : List ℕ) → Contains (builtins table) w → is_id w ≡ true
builtin_word table w (zero, l, e) = ap is_id (sym e)
builtin_word table w (suc zero, l, e) = ap is_id (sym e)
builtin_word table w (suc (suc zero), l, e) = ap is_id (sym e)
builtin_word table w (suc (suc (suc k)), l, e) = table_word table w (k, omega arith, e)

builtin_ids : (t : Tests) (w : List ℕ) (n : List (List ℕ)) → is_id w ≡ true → Contains (names_of_builtin t w) n → Ids n
builtin_ids t w n h c = elim (Contains-append_cases ((codes "__cedar" ∷ w ∷ []) ∷ [])
    (if is_hidden t w then [] else (w ∷ []) ∷ []) n c) [
      | inl full ↦ one (codes "__cedar" ∷ w ∷ []) n (and_from (is_id w) true h refl) full
      | inr plain ↦ go (is_hidden t w) plain
    ]
  where
    one : (x n : List (List ℕ)) → Ids x → Contains (x ∷ []) n → Ids n
    one x n h (zero, l, e) = subst (λ y. Ids y) e h
    one x n h (suc k, l, e) = absurd (omega arith)

    go : (b : Bool) → Contains (if b then [] else (w ∷ []) ∷ []) n → Ids n
    go true c = nothing_in n c
    go false c = one (w ∷ []) n (and_from (is_id w) true h refl) c

-- the type of an action that is found
among_ids : (ty : List (List ℕ)) (id : List ℕ) (actions : List (List (List ℕ) × List ℕ))
    → ((x : List (List ℕ)) (i : List ℕ) → Contains actions (x, i) → Ids x)
    → among_actions actions (ty, id) ≡ true → Ids ty
among_ids ty id [] each e = cc
among_ids ty id (a ∷ actions) each e =
    elim (or_cases (same_action (ty, id) a) (among_actions actions (ty, id)) e) [
      | inl h ↦ subst (λ x. Ids x)
          (sym (equal_names ty a.0
          (first_so (same_name ty a.0) (bytes_eq (encode_utf8_all id) (encode_utf8_all a.1)) h)))
          (each a.0 a.1 (contains_first a actions))
      | inr h ↦ among_ids ty id actions (λ x i c. each x i (contains_later a actions (x, i) c)) h
    ]

-- where nothing passes behind a namespace, the first that passes is that of the empty one
found_alike : (p : List (List ℕ) → Bool) (ns : List (List ℕ)) → ((w : List ℕ) → p (ns ++ w ∷ []) ≡ false)
    → (words : List (List ℕ)) → find p (candidates_in ns words) ≡ find p (candidates_in [] words)
found_alike p ns none [] = refl
found_alike p ns none (w ∷ []) =
    ap (λ b. cond b (Some (ns ++ w ∷ [])) (find p ((w ∷ []) ∷ []))) (none w) ∙ twice (p (w ∷ []))
  where
    twice : (b : Bool) → cond b (Some (w ∷ [])) None ≡ cond b (Some (w ∷ [])) (cond b (Some (w ∷ [])) None)
    twice true = refl
    twice false = refl
found_alike p ns none (w ∷ x ∷ xs) = refl

module _ {N : Type 0} {G : named.Ghosts N} (f : Fragment N G) (table : ExtensionTable) where
  abbrev t : Tests
  t = tests_of (defined f table)

  common_ids : (n : List (List ℕ)) → t.is_common n ≡ true → Ids n
  common_ids n h = elim (Contains-append_cases (declared f).commons
      (names_of_builtins (tests_of (declared f)) (builtins table)) n
      (Contains-from_any equal_names n (defined f table).commons h)) [
        | inl c ↦
            let r = contains_flat (λ e. commons_in e.0 e.1) f.0 n c in
            let k = contains_unmap (λ e. components_of (declared_name r.0.0 e.0.id.id)) r.0.1.common_types n r.2 in
            subst (λ x. Ids x) k.2 (name_ids (declared_name r.0.0 k.0.0.id.id))
        | inr c ↦
            let r = contains_flat (names_of_builtin (tests_of (declared f))) (builtins table) n c in
            builtin_ids (tests_of (declared f)) r.0 n (builtin_word table r.0 r.1) r.2
      ]

  action_type_ids : (ty : List (List ℕ)) (id : List ℕ) → Contains (declared f).actions (ty, id) → Ids ty
  action_type_ids ty id c =
      let r = contains_flat (λ e. actions_in e.0 e.1) f.0 (ty, id) c in
      let k = contains_unmap (λ e. (components_of (action_type r.0.0), e.0)) r.0.1.actions (ty, id) r.2 in
      subst (λ x. Ids x) (ap (λ p. p.0) k.2) (name_ids (action_type r.0.0))

  entity_ids : (n : List (List ℕ)) → t.is_entity n ≡ true → Ids n
  entity_ids n h = elim (Contains-append_cases (declared f).entities (map (λ a. a.0) (declared f).actions) n
      (Contains-from_any equal_names n (defined f table).entities h)) [
        | inl c ↦
            let r = contains_flat (λ e. entities_in e.0 e.1) f.0 n c in
            let k = contains_unmap (λ e. components_of (declared_name r.0.0 e.0.id)) r.0.1.entity_types n r.2 in
            subst (λ x. Ids x) k.2 (name_ids (declared_name r.0.0 k.0.0.id))
        | inr c ↦
            let a = contains_unmap (λ a. a.0) (declared f).actions n c in
            subst (λ x. Ids x) a.2 (action_type_ids a.0.0 a.0.1 a.1)
      ]

  action_ids : (ty : List (List ℕ)) (id : List ℕ) → t.is_action (ty, id) ≡ true → Ids ty
  action_ids ty id h = among_ids ty id (declared f).actions (λ x i c. action_type_ids x i c) h

  module _ (ns : List (List ℕ)) (not_named : list_all is_id ns ≡ false) where
    never : (b : Bool) (w : List ℕ) → (b ≡ true → Ids (ns ++ w ∷ [])) → b ≡ false
    never b w g = elim (cases_Bool b) [
      | inl h ↦ absurd (false≢true (sym not_named ∙ front_ids ns (w ∷ []) (g h)))
      | inr h ↦ h
    ]

    no_common : (w : List ℕ) → t.is_common (ns ++ w ∷ []) ≡ false
    no_common w = never (t.is_common (ns ++ w ∷ [])) w (common_ids (ns ++ w ∷ []))

    no_entity : (w : List ℕ) → t.is_entity (ns ++ w ∷ []) ≡ false
    no_entity w = never (t.is_entity (ns ++ w ∷ [])) w (entity_ids (ns ++ w ∷ []))

    no_action : (w id : List ℕ) → t.is_action (ns ++ w ∷ [], id) ≡ false
    no_action w id = never (t.is_action (ns ++ w ∷ [], id)) w (action_ids (ns ++ w ∷ []) id)

    none_defined : (kind : ReferenceType) (w : List ℕ) → is_defined t kind (ns ++ w ∷ []) ≡ false
    none_defined Common w = no_common w
    none_defined Entity w = no_entity w
    none_defined CommonOrEntity w = λ i. no_common w i || no_entity w i

    meant_alike : (kind : ReferenceType) (words : List (List ℕ))
        → find (is_defined t kind) (candidates_in ns words) ≡ find (is_defined t kind) (candidates_in [] words)
    meant_alike kind words = found_alike (is_defined t kind) ns (none_defined kind) words

    action_alike : (id : List ℕ)
        → find (λ name. t.is_action (name, id)) (candidates_in ns (codes "Action" ∷ []))
        ≡ find (λ name. t.is_action (name, id)) (candidates_in [] (codes "Action" ∷ []))
    action_alike id = found_alike (λ name. t.is_action (name, id)) ns (λ w. no_action w id) (codes "Action" ∷ [])

    there : (kind : ReferenceType) (before : List (List ℕ)) (word s : List ℕ) → IsSpelledIn t kind ns before word s
        → IsSpelledIn t kind [] before word s
    there kind before word _ (by_word m) = by_word (sym (meant_alike kind (word ∷ [])) ∙ m)
    there kind before word _ (in_full n m) = in_full (λ h. n (meant_alike kind (word ∷ []) ∙ h))
        (sym (meant_alike kind (before ++ word ∷ [])) ∙ m)

    back : (kind : ReferenceType) (before : List (List ℕ)) (word s : List ℕ) → IsSpelledIn t kind [] before word s
        → IsSpelledIn t kind ns before word s
    back kind before word _ (by_word m) = by_word (meant_alike kind (word ∷ []) ∙ m)
    back kind before word _ (in_full n m) = in_full (λ h. n (sym (meant_alike kind (word ∷ [])) ∙ h))
        (meant_alike kind (before ++ word ∷ []) ∙ m)

    types_alike : (role : Role) (s : List ℕ) → (OffersType f table role ns s ↔ OffersType f table role [] s)
    types_alike role s = (
      λ o. record {
        before = o.before;
        word = o.word;
        declared = o.declared;
        spelled = there (kind_for role) o.before o.word s o.spelled;
      },
      λ o. record {
        before = o.before;
        word = o.word;
        declared = o.declared;
        spelled = back (kind_for role) o.before o.word s o.spelled;
      },
    )

    pub offered_alike : (role : Role) (s : List ℕ) → (offers f table role ns s ↔ offers f table role [] s)
    offered_alike TypePath s = types_alike TypePath s
    offered_alike EntityPath s = types_alike EntityPath s
    offered_alike ContextPath s = types_alike ContextPath s
    offered_alike ActionRef s = (
      λ o. record {
        ty = o.ty;
        id = o.id;
        declared = o.declared;
        meant = sym (action_alike o.id) ∙ o.meant;
        spelled = o.spelled;
      },
      λ o. record {
        ty = o.ty;
        id = o.id;
        declared = o.declared;
        meant = action_alike o.id ∙ o.meant;
        spelled = o.spelled;
      },
    )
