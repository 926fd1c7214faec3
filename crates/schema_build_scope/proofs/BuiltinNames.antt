-- A name that is defined as a common type and is not declared is a builtin name.
use Rattle.std.proofs.Common.{◌≡◌, ℕ, suc, Bool, true, false, ◌||◌, List, [], ◌∷◌, ◌++◌, map, codes, Option, Some}
use Rattle.std.proofs.Common.{None}
use Rattle.std.proofs.Common.{refl, sym, ap, ◌∙◌, subst, inl, inr}
use Rattle.std.specs.Prelude.{◌⊎◌, IsSome, slice_get, if◌then◌else◌}
use Rattle.std.specs.List.{list_any, flat_map, AllByRecursion}
use Rattle.std.specs.Map.{keys_of}
use Rattle.std.specs.Option.{option_map}
use Rattle.std.specs.Str.{bytes_eq}
use Rattle.std.proofs.lemmas.List.{map-append}
use Rattle.std.proofs.lemmas.List.Folds.{list_any-append}
use Rattle.std.proofs.lemmas.Slice.Eq.{bytes_eq-Decides}
use Rattle.std.proofs.lemmas.Option.{slice_get-map}
use Rattle.std.proofs.lemmas.Bool.{or_cases, or_right}
use Rattle.cedar_data.specs.declared.loc.Loc.{Loc}
use Rattle.cedar_data.proofs.Lists.{list_any-map}
use Rattle.cedar_identifiers.specs.Names.{components_of}
use Rattle.cedar_identifiers.specs.declared.id.Id.{Id}
use Rattle.cedar_identifiers.specs.declared.internal_name.InternalName.{InternalName}
use Rattle.cedar_identifiers.specs.declared.name.Name.{Name}
use Rattle.cedar_identifiers.specs.declared.name_text.NameText as named
use Rattle.cedar_identifiers.specs.declared.raw_name.RawName.{RawName}
use Rattle.cedar_names.specs.Definitions.{among, same_name}
use Rattle.cedar_names.specs.Orders.{names_in_order}
use Rattle.cedar_names.specs.Tables.{table_names}
use Rattle.cedar_names.specs.declared.extension_table.ExtensionTable.{ExtensionTable}
use Rattle.cedar_names.proofs.Defined.{equal_names}
use Rattle.schema_json.specs.declared.common_type.CommonType.{CommonType}
use Rattle.schema_json.specs.declared.common_type.CommonTypeId.{CommonTypeId}
use Rattle.schema_json.specs.declared.fragment.Fragment.{Fragment}
use Rattle.schema_json.specs.declared.fragment.NamespaceDefinition.{NamespaceDefinition}
use Rattle.schema_resolve_definitions.specs.Declarations.{declared_name, commons_in, declared}
use Rattle.schema_resolve_definitions.specs.Defined.{builtins, names_of_builtin, names_of_builtins, is_hidden, defined}
use Rattle.schema_resolve_definitions.specs.Tests.{Tests, tests_of}
use Rattle.schema_build_expand.specs.Scope.{Scope, DeclaredType, Declares, IsUndeclared, in_table, builtin}
use Rattle.schema_build_checks.specs.DeclaredAt.{declared_at}
use Rattle.schema_build_checks.proofs.Names.{names_exact}
use Rattle.schema_build_scope.specs.Commons.{TypeAt, full_common_entry, declared_commons, commons_in_order}
use Rattle.schema_build_scope.specs.FragmentScope.{declaration, fragment_scope}
use Rattle.schema_build_scope.proofs.Entries.{with_there}

bytes_same : (w : List ℕ) → bytes_eq w w ≡ true
bytes_same w = (bytes_eq-Decides w w).1 refl

-- the declared names, as keys
same_parts : (ns : Option Name) (id : Id) (loc : Option Loc)
    → components_of (declared_at ns id loc) ≡ components_of (declared_name ns id)
same_parts None id loc = refl
same_parts (Some ns) id loc = refl

keys_in : (ns : Option Name) (cs : List (CommonTypeId × CommonType RawName))
    → map components_of (keys_of (map (full_common_entry ns) cs))
    ≡ map (λ e. components_of (declared_name ns e.0.id.id)) cs
keys_in ns [] = refl
keys_in ns (c ∷ cs) = λ i. same_parts ns c.0.id.id c.1.loc i ∷ keys_in ns cs i

module _ {G : named.Ghosts RawName} where
  keys_of_all : (es : List (Option Name × NamespaceDefinition RawName G))
      → map components_of (keys_of (flat_map (λ e. map (full_common_entry e.0) e.1.common_types) es))
      ≡ flat_map (λ e. commons_in e.0 e.1) es
  keys_of_all [] = refl
  keys_of_all (e ∷ es) =
      let first = map (full_common_entry e.0) e.1.common_types in
      let others = flat_map (λ (e : Option Name × NamespaceDefinition RawName G). map (full_common_entry e.0)
      e.1.common_types) es in
      ap (map components_of) (map-append (λ (x : InternalName × TypeAt). x.0) first others)
      ∙ map-append components_of (keys_of first) (keys_of others)
      ∙ (λ i. keys_in e.0 e.1.common_types i ++ keys_of_all es i)

-- the entry whose key passes a test
entry_passing : {V : Type 0} (test : InternalName → Bool) (es : List (InternalName × V))
    → list_any test (keys_of es) ≡ true
    → (k : ℕ) × (e : InternalName × V) × (slice_get es k ≡ Some e) × (test e.0 ≡ true)
entry_passing test [] h = cc
entry_passing test (e ∷ es) h = go (entry_passing test es) (or_cases (test e.0) (list_any test (keys_of es)) h)
  where
    go : (list_any test (keys_of es) ≡ true
        → (k : ℕ) × (d : InternalName × _) × (slice_get es k ≡ Some d) × (test d.0 ≡ true))
        → (test e.0 ≡ true) ⊎ (list_any test (keys_of es) ≡ true)
        → (k : ℕ) × (d : InternalName × _) × (slice_get (e ∷ es) k ≡ Some d) × (test d.0 ≡ true)
    go more (inl here) = (0, e, refl, here)
    go more (inr there) = let m = more there in (suc m.0, m.1, m.2, m.3)

-- what a word stands for that is in the table, or is the name of a primitive type
if_some : {A : Type 0} (a b c d : Bool) (w x y z : A) → d ≡ true
    → IsSome (if a then Some w else (if b then Some x else (if c then Some y else (if d then Some z else None))))
if_some true b c d w x y z h = refl
if_some false true c d w x y z h = refl
if_some false false true d w x y z h = refl
if_some false false false true w x y z h = refl
if_some false false false false w x y z h = cc

module _ {N : Type 0} (s : Scope N) where
  abbrev IsBuiltin : List (List ℕ) → Type 0
  IsBuiltin name = IsSome (builtin s name)

  word_builtin : (w : List ℕ) → in_table s w ≡ true → IsBuiltin (w ∷ [])
  word_builtin w h =
      if_some (bytes_eq w (codes "Bool")) (bytes_eq w (codes "Long")) (bytes_eq w (codes "String"))
      (in_table s w) _ _ _ _ h

  -- both names of a builtin word
  named_builtin : (t : Tests) (w : List ℕ) (n : List (List ℕ)) → IsBuiltin (w ∷ [])
      → among (names_of_builtin t w) n ≡ true
      → IsBuiltin n
  named_builtin t w n is h = go (is_hidden t w) h
    where
      full : same_name n (codes "__cedar" ∷ w ∷ []) ≡ true → IsBuiltin n
      full e = subst IsBuiltin (sym (equal_names n (codes "__cedar" ∷ w ∷ []) e)) is

      plain : same_name n (w ∷ []) ≡ true → IsBuiltin n
      plain e = subst IsBuiltin (sym (equal_names n (w ∷ []) e)) is

      either_of : (a b : Bool) → (a ≡ true → IsBuiltin n) → (b ≡ true → IsBuiltin n) → (a || (b || false)) ≡ true
          → IsBuiltin n
      either_of true b f g h = f refl
      either_of false true f g h = g refl
      either_of false false f g h = cc

      one_of : (a : Bool) → (a ≡ true → IsBuiltin n) → (a || false) ≡ true → IsBuiltin n
      one_of true f h = f refl
      one_of false f h = cc

      go : (hidden : Bool) → among ((codes "__cedar" ∷ w ∷ []) ∷ (if hidden then [] else (w ∷ []) ∷ [])) n ≡ true
          → IsBuiltin n
      go true h = one_of (same_name n (codes "__cedar" ∷ w ∷ [])) full h
      go false h = either_of (same_name n (codes "__cedar" ∷ w ∷ [])) (same_name n (w ∷ [])) full plain h

  among_builtins : (t : Tests) (ws : List (List ℕ)) (n : List (List ℕ)) → AllByRecursion (λ w. IsBuiltin (w ∷ [])) ws
      → among (names_of_builtins t ws) n ≡ true → IsBuiltin n
  among_builtins t [] n all h = cc
  among_builtins t (w ∷ ws) n all h =
      go (or_cases (among (names_of_builtin t w) n) (among (names_of_builtins t ws) n)
      (sym (list_any-append (same_name n) (names_of_builtin t w) (names_of_builtins t ws)) ∙ h))
      (among_builtins t ws n all.1)
    where
      go : (among (names_of_builtin t w) n ≡ true) ⊎ (among (names_of_builtins t ws) n ≡ true)
          → (among (names_of_builtins t ws) n ≡ true → IsBuiltin n) → IsBuiltin n
      go (inl here) more = named_builtin t w n all.0 here
      go (inr there) more = more there

  -- each word of the table is a builtin one
  table_builtin : (ws more : List (List ℕ)) → ((w : List ℕ) → list_any (bytes_eq w) more ≡ true → in_table s w ≡ true)
      → (ws ≡ more) → AllByRecursion (λ w. IsBuiltin (w ∷ [])) more
  table_builtin ws [] all e = tt
  table_builtin ws (w ∷ more) all e = (
    word_builtin w (all w (ap (λ b. b || list_any (bytes_eq w) more) (bytes_same w))),
    table_builtin more more (λ x h. all x (or_right (bytes_eq x w) (list_any (bytes_eq x) more) h)) refl,
  )

module _ {G : named.Ghosts RawName} (f : Fragment RawName G) (table : ExtensionTable) where
  -- a declared name is the name of a declared common type
  declares : (n : List (List ℕ)) → among (declared f).commons n ≡ true
      → (d : DeclaredType RawName) × Declares (fragment_scope f table) n d
  declares n h =
      let test : InternalName → Bool = λ k. same_name n (components_of k) in
      let there : list_any test (keys_of (declared_commons f)) ≡ true =
      sym (list_any-map (same_name n) components_of (keys_of (declared_commons f)))
      ∙ ap (λ l. among l n) (keys_of_all f.0) ∙ h in
      let kept : list_any test (keys_of (commons_in_order f)) ≡ true =
      with_there names_in_order test (λ a b e. ap (same_name n) (names_exact a b e)) [] (declared_commons f) there in
      let e = entry_passing test (commons_in_order f) kept in (
        declaration e.1,
        (
          e.0,
          slice_get-map declaration (commons_in_order f) e.0 ∙ ap (option_map declaration) e.2,
          sym (equal_names n (components_of e.1.0) e.3),
        ),
      )

  -- a common type that is defined and not declared is builtin
  pub undeclared_builtin : (n : List (List ℕ)) → (tests_of (defined f table)).is_common n ≡ true
      → IsUndeclared (fragment_scope f table) n → IsSome (builtin (fragment_scope f table) n)
  undeclared_builtin n h none =
      let s = fragment_scope f table in
      let t = tests_of (declared f) in
      let ws = builtins table in
      elim (or_cases (among (declared f).commons n) (among (names_of_builtins t ws) n)
      (sym (list_any-append (same_name n) (declared f).commons (names_of_builtins t ws)) ∙ h)) [
        | inl here ↦ let d = declares n here in absurd (none d.0 d.1)
        | inr there ↦ among_builtins s t ws n
            (refl, (refl, (refl, table_builtin s (table_names table) (table_names table) (λ w e. e) refl))) there
      ]
