-- A fragment and its form in a text declare the same, and resolve alike, where one of them resolves.
use Rattle.std.proofs.Common.{◌≡◌, Bool, true, false, ◌||◌, List, [], ◌∷◌, ◌++◌, map, Option, Some, None, refl, sym}
use Rattle.std.proofs.Common.{ap}
use Rattle.std.proofs.Common.{◌∙◌, true≢false}
use Rattle.std.specs.Prelude.{if◌then◌else◌}
use Rattle.std.specs.List.{flat_map, filter_map, cons_option, AllByRecursion}
use Rattle.cedar_data.specs.Entries.{on_value}
use Rattle.cedar_identifiers.specs.Names.{components_of}
use Rattle.cedar_identifiers.specs.declared.internal_name.InternalName.{InternalName}
use Rattle.cedar_identifiers.specs.declared.name.Name.{Name}
use Rattle.cedar_identifiers.specs.declared.name_text.NameText as named
use Rattle.cedar_identifiers.specs.declared.raw_name.RawName.{RawName}
use Rattle.schema_json.specs.declared.fragment.Fragment.{Fragment}
use Rattle.schema_json.specs.declared.fragment.NamespaceDefinition.{NamespaceDefinition}
use Rattle.schema_json.specs.AsWritten.{as_written}
use Rattle.schema_json_walk.specs.Walk.{itself, each_value, of_common, of_entity, of_action, of_namespace}
use Rattle.schema_resolve_definitions.specs.Declarations.{name_of, declared_name, action_type, commons_in, entities_in}
use Rattle.schema_resolve_definitions.specs.Declarations.{actions_in, declared}
use Rattle.schema_resolve_definitions.specs.Tests.{Tests}
use Rattle.schema_resolve_lookup.specs.Sought.{is_some_list}
use Rattle.schema_resolve.specs.Renamed.{renamed_common, renamed_entity, renamed_action, renamed_entry}
use Rattle.schema_resolve.specs.Resolved.{resolving_in, meant_type}
use Rattle.schema_resolve_targets.specs.Undefined.{Undefined}
use Rattle.schema_print.proofs.Tested.{none}
use Rattle.laws_print.specs.Printed.CedarForm.{Block, changed_values, cedar_common, cedar_entity}
use Rattle.laws_print.specs.Printed.CedarForm.{cedar_action, cedar_namespace, declares, cedar_block, cedar_form}
use Rattle.laws_print.specs.Resolving.Alike.{declares_some, referred_namespace, referred_block}
use Rattle.laws_print.proofs.Resolving.References.{visit}
use Rattle.laws_print.proofs.Resolving.TypesAlike.{Good, KnowsPrimitives}
use Rattle.laws_print.proofs.Resolving.ItemsAlike.{both_found, first_none, second_none}
use Rattle.laws_print.proofs.Resolving.BlocksAlike.{namespace_found, namespace_alike}

-- the blocks in their form give what the blocks give, where those that are gone give nothing
gives_as_before : {U : Type 0} (give : Block → List U)
    → ((n : NamespaceDefinition RawName as_written) → declares n ≡ false → give (None, n) ≡ [])
    → ((ns : Option Name) (n : NamespaceDefinition RawName as_written) → give (ns, n) ≡ give (ns, cedar_namespace n))
    → (es : List Block) → flat_map give es ≡ flat_map give (filter_map cedar_block es)
gives_as_before give gone same [] = refl
gives_as_before give gone same ((Some ns, n) ∷ es) = λ i. same (Some ns) n i ++ gives_as_before give gone same es i
gives_as_before {U} give gone same ((None, n) ∷ es) = go (declares n) refl (gives_as_before give gone same es)
  where
    go : (b : Bool) → declares n ≡ b → flat_map give es ≡ flat_map give (filter_map cedar_block es)
        → give (None, n) ++ flat_map give es
        ≡ flat_map give (cons_option (if b then Some (None, cedar_namespace n) else None) (filter_map cedar_block es))
    go true e more = λ i. same None n i ++ more i
    go false e more = λ i. gone n e i ++ more i

keys_kept : {K V U : Type 0} (see : K → U) (change : V → V) (es : List (K × V))
    → map (λ e. see e.0) es ≡ map (λ e. see e.0) (changed_values change es)
keys_kept see change [] = refl
keys_kept see change (e ∷ es) = ap (λ l. see e.0 ∷ l) (keys_kept see change es)

none_of : {A : Type 0} (xs : List A) (b : Bool) → (is_some_list xs || b) ≡ false → xs ≡ []
none_of [] b h = refl
none_of (x ∷ xs) b h = absurd (true≢false h)

rest_of : {A : Type 0} (xs : List A) (b : Bool) → (is_some_list xs || b) ≡ false → b ≡ false
rest_of [] b h = h
rest_of (x ∷ xs) b h = absurd (true≢false h)

last_of : {A : Type 0} (xs : List A) → is_some_list xs ≡ false → xs ≡ []
last_of [] h = refl
last_of (x ∷ xs) h = absurd (true≢false h)

-- a namespace that declares nothing has no items
pub record HasNone (n : NamespaceDefinition RawName as_written) : Type 0 where
  pub commons : n.common_types ≡ []
  pub entities : n.entity_types ≡ []
  pub actions : n.actions ≡ []

has_none : (n : NamespaceDefinition RawName as_written) → declares n ≡ false → HasNone n
has_none n h =
    let rest = rest_of n.common_types _ h in
    record {
      commons = none_of n.common_types _ h;
      entities = none_of n.entity_types _ rest;
      actions = last_of n.actions (rest_of n.entity_types _ rest);
    }

-- what is declared stays
pub declared_alike : (f : Fragment RawName as_written) → declared f ≡ declared (cedar_form f)
declared_alike f =
    let commons = gives_as_before (λ e. commons_in e.0 e.1)
    (λ n h. ap (map (λ e. components_of (declared_name None e.0.id.id))) (has_none n h).commons)
    (λ ns n. keys_kept (λ k. components_of (declared_name ns k.id.id)) cedar_common n.common_types) f.0 in
    let entities = gives_as_before (λ e. entities_in e.0 e.1)
    (λ n h. ap (map (λ e. components_of (declared_name None e.0.id))) (has_none n h).entities)
    (λ ns n. keys_kept (λ k. components_of (declared_name ns k.id)) cedar_entity n.entity_types) f.0 in
    let actions = gives_as_before (λ e. actions_in e.0 e.1)
    (λ n h. ap (map (λ e. (components_of (action_type None), e.0))) (has_none n h).actions)
    (λ ns n. keys_kept (λ k. (components_of (action_type ns), k)) cedar_action n.actions) f.0 in
    λ i. record { commons = commons i; entities = entities i; actions = actions i }

some_kept : {A B : Type 0} (f : A → B) (xs : List A) → is_some_list (map f xs) ≡ is_some_list xs
some_kept f [] = refl
some_kept f (x ∷ xs) = refl

changed_kept : {K V : Type 0} (change : V → V) (es : List (K × V))
    → is_some_list (changed_values change es) ≡ is_some_list es
changed_kept change [] = refl
changed_kept change (e ∷ es) = refl

form_declares : (n : NamespaceDefinition RawName as_written) → declares (cedar_namespace n) ≡ declares n
form_declares n =
    λ i. changed_kept cedar_common n.common_types i ||
    (changed_kept cedar_entity n.entity_types i || changed_kept cedar_action n.actions i)

-- each block
module _ (t : Tests) (knows : (ns : Option InternalName) → KnowsPrimitives t ns) where
  abbrev told : Block → List Undefined
  told e = of_namespace (visit t (name_of e.0)) e.1

  abbrev pub Goods : Block → Type 0
  Goods e = AllByRecursion (Good t (name_of e.0)) (of_namespace itself e.1)

  nothing_told : (n : NamespaceDefinition RawName as_written) → declares n ≡ false → told (None, n) ≡ []
  nothing_told n h =
      let gone = has_none n h in
      λ i. each_value (of_common (visit t None)) (gone.commons i)
      ++ (each_value (of_entity (visit t None)) (gone.entities i)
      ++ each_value (of_action (visit t None)) (gone.actions i))

  pub all_found : (es : List Block) → AllByRecursion Goods es
      → none (flat_map told es) ≡ none (flat_map told (filter_map cedar_block es))
  all_found [] goods = refl
  all_found ((Some ns, n) ∷ es) (good, goods) =
      both_found (told (Some ns, n)) _ (told (Some ns, cedar_namespace n)) _
      (namespace_found t (Some ns.name) (knows (Some ns.name)) n good) (all_found es goods)
  all_found ((None, n) ∷ es) (good, goods) = go (declares n) refl (all_found es goods)
    where
      go : (b : Bool) → declares n ≡ b → none (flat_map told es) ≡ none (flat_map told (filter_map cedar_block es))
          → none (told (None, n) ++ flat_map told es)
          ≡ none (flat_map told (cons_option (if b then Some (None, cedar_namespace n) else None)
          (filter_map cedar_block es)))
      go true e more =
          both_found (told (None, n)) _ (told (None, cedar_namespace n)) _
          (namespace_found t None (knows None) n good) more
      go false e more = ap (λ l. none (l ++ flat_map told es)) (nothing_told n e) ∙ more

  module _ (H : named.Ghosts InternalName) where
    abbrev pub entry_resolved : Block → Option Name × NamespaceDefinition InternalName H
    entry_resolved e = renamed_entry (λ ns. resolving_in t (name_of ns)) (λ ns. meant_type t (name_of ns)) e

    declares_kept : (n : NamespaceDefinition RawName as_written)
        → declares_some (entry_resolved (None, n)).1 ≡ declares n
    declares_kept n = λ i. some_kept (on_value (renamed_common (resolving_in t None))) n.common_types i
        || (some_kept (on_value (renamed_entity (resolving_in t None))) n.entity_types i
        || some_kept (on_value (renamed_action (resolving_in t None) (meant_type t None) {G = as_written} {H = H}))
        n.actions i)

    pub all_alike : (es : List Block) → AllByRecursion Goods es → none (flat_map told es) ≡ true
        → filter_map referred_block (map entry_resolved es)
        ≡ filter_map referred_block (map entry_resolved (filter_map cedar_block es))
    all_alike [] goods h = refl
    all_alike ((Some ns, n) ∷ es) (good, goods) h =
        let here = namespace_alike t (Some ns.name) (knows (Some ns.name)) {H = H} n good
        (first_none (told (Some ns, n)) _ h) in
        let more = all_alike es goods (second_none (told (Some ns, n)) _ h) in
        λ i. (Some ns, here i) ∷ more i
    all_alike ((None, n) ∷ es) (good, goods) h =
        go (declares n) refl (all_alike es goods (second_none (told (None, n)) _ h))
      where
        block_of : Bool → NamespaceDefinition RawName as_written
            → Option (Option Name × NamespaceDefinition InternalName H)
        block_of b n = if b then Some (None, referred_namespace (entry_resolved (None, n)).1) else None

        as_declared : (n : NamespaceDefinition RawName as_written) (b : Bool) → declares n ≡ b
            → referred_block (entry_resolved (None, n)) ≡ block_of b n
        as_declared n b e = ap (λ c. block_of c n) (declares_kept n ∙ e)

        go : (b : Bool) → declares n ≡ b
            → filter_map referred_block (map entry_resolved es)
            ≡ filter_map referred_block (map entry_resolved (filter_map cedar_block es))
            → cons_option (referred_block (entry_resolved (None, n)))
            (filter_map referred_block (map entry_resolved es))
            ≡ filter_map referred_block (map entry_resolved
            (cons_option (if b then Some (None, cedar_namespace n) else None) (filter_map cedar_block es)))
        go true e more =
            let here = namespace_alike t None (knows None) {H = H} n good (first_none (told (None, n)) _ h) in
            (λ i. cons_option (as_declared n true e i) (more i))
            ∙ (λ i. (None, here i) ∷ filter_map referred_block (map entry_resolved (filter_map cedar_block es)))
            ∙ sym (ap (λ o. cons_option o (filter_map referred_block (map entry_resolved (filter_map cedar_block es))))
            (as_declared (cedar_namespace n) true (form_declares n ∙ e)))
        go false e more = (λ i. cons_option (as_declared n false e i) (more i))
