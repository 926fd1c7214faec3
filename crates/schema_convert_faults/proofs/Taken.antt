-- The warnings of names that are taken: no other name has a part in them.
use Rattle.std.proofs.Common.{◌≡◌, Bool, true, false, cond, List, [], ◌∷◌, ◌++◌, map, refl, sym, ap, ◌∙◌, flat_map}
use Rattle.std.specs.Prelude.{Result, Ok, Err, OnOk}
use Rattle.std.specs.declared.cmp.Ordering.{Ordering}
use Rattle.std.specs.declared.cmp.Ordering.TheVariants.{Less, Equal, Greater}
use Rattle.std.specs.BTreeMap.{insert_entry}
use Rattle.std.specs.List.{AllByRecursion, filter}
use Rattle.std.specs.Ordering.{match_ordering}
use Rattle.std.specs.Str.{encode_utf8_all}
use Rattle.std.proofs.lemmas.Map.Lookups.{exact_bytes}
use Rattle.std.proofs.lemmas.Str.{encodes_same}
use Rattle.cedar_data.specs.Maps.{with_entries, map_of}
use Rattle.cedar_data.specs.declared.node.Node.{Node}
use Rattle.cedar_identifiers.specs.declared.id.Id.{Id}
use Rattle.cedar_names.specs.declared.extension_table.ExtensionTable.{ExtensionTable}
use Rattle.cedar_names.specs.Orders.{id_text_order, id_text_total}
use Rattle.schema_syntax_tree.specs.declared.annotated.Annotated.{Annotated}
use Rattle.schema_syntax_tree.specs.declared.declaration.Declaration.{Declaration}
use Rattle.schema_convert_fragments.proofs.Filtered.{given_of_filtered}
use Rattle.schema_convert_errors.specs.declared.warnings.SchemaWarning.{SchemaWarning}
use Rattle.schema_convert_faults.specs.NamesIn.{entity_names_in, common_names_in}
use Rattle.schema_convert_faults.specs.Shadowings.{by_id, is_taken, builtin_shadowed, warnings_in, declared_warnings}

-- words that their order does not tell apart
same_text : (a b : Id) → id_text_order a b ≡ Equal → a.text ≡ b.text
same_text a b e = encodes_same a.text b.text (exact_bytes (encode_utf8_all a.text) (encode_utf8_all b.text) e)

-- the key is the name's word
abbrev IsOwn : Id × Node Id → Type 0
IsOwn e = e.0.text ≡ e.1.node.text

put_own : (k : Id) (v : Node Id) (es : List (Id × Node Id)) → IsOwn (k, v) → AllByRecursion IsOwn es
    → AllByRecursion IsOwn (insert_entry id_text_order es k v)
put_own k v [] own all = (own, tt)
put_own k v (e ∷ es) own all = by (put_own k v es own all.1) (id_text_order k e.0) refl
  where
    by : AllByRecursion IsOwn (insert_entry id_text_order es k v) → (r : Ordering) → id_text_order k e.0 ≡ r
        → AllByRecursion IsOwn
        (match_ordering r ((k, v) ∷ e ∷ es) ((e.0, v) ∷ es) (e ∷ insert_entry id_text_order es k v))
    by more Less h = (own, all)
    by more Equal h = (sym (same_text k e.0 h) ∙ own, all.1)
    by more Greater h = (all.0, more)

with_own : (es more : List (Id × Node Id)) → AllByRecursion IsOwn es → AllByRecursion IsOwn more
    → AllByRecursion IsOwn (with_entries id_text_order es more)
with_own es [] all own = all
with_own es (e ∷ more) all own =
    with_own (insert_entry id_text_order es e.0 e.1) more (put_own e.0 e.1 es own.0 all) own.1

each_own : (names : List (Node Id)) → AllByRecursion IsOwn (map (λ n. (n.node, n)) names)
each_own [] = tt
each_own (n ∷ names) = (refl, each_own names)

twice : {X : Type 0} (t : Bool) (xs : List X) → cond t xs [] ≡ cond t (cond t xs []) []
twice true xs = refl
twice false xs = refl

module _ (table : ExtensionTable) where
  abbrev is_taken_key : Id → Bool
  is_taken_key k = is_taken table k.text

  abbrev told : Id × Node Id → List SchemaWarning
  told e = builtin_shadowed table e.1

  -- what is told of a name whose key is taken
  abbrev told_by_key : Id × Node Id → List SchemaWarning
  told_by_key e = cond (is_taken_key e.0) (told e) []

  own_told : (e : Id × Node Id) → IsOwn e → told e ≡ told_by_key e
  own_told e own =
      twice (is_taken table e.1.node.text) _ ∙ ap (λ w. cond (is_taken table w) (told e) []) (sym own)

  all_told : (es : List (Id × Node Id)) → AllByRecursion IsOwn es → flat_map told es ≡ flat_map told_by_key es
  all_told [] all = refl
  all_told (e ∷ es) all = λ i. own_told e all.0 i ++ all_told es all.1 i

  taken_entries : (names : List (Node Id))
      → filter (λ (e : Id × Node Id). is_taken_key e.0) (map (λ n. (n.node, n)) names)
      ≡ map (λ n. (n.node, n)) (filter (λ (n : Node Id). is_taken table n.node.text) names)
  taken_entries [] = refl
  taken_entries (n ∷ names) = by (taken_entries names) (is_taken table n.node.text)
    where
      by : filter (λ (e : Id × Node Id). is_taken_key e.0) (map (λ n. (n.node, n)) names)
          ≡ map (λ n. (n.node, n)) (filter (λ (n : Node Id). is_taken table n.node.text) names) → (t : Bool)
          → cond t ((n.node, n) ∷ filter (λ (e : Id × Node Id). is_taken_key e.0) (map (λ n. (n.node, n)) names))
          (filter (λ (e : Id × Node Id). is_taken_key e.0) (map (λ n. (n.node, n)) names))
          ≡ map (λ n. (n.node, n)) (cond t (n ∷ filter (λ (n : Node Id). is_taken table n.node.text) names)
          (filter (λ (n : Node Id). is_taken table n.node.text) names))
      by more true = ap (λ l. (n.node, n) ∷ l) more
      by more false = more

  pub taken_alone : (names : List (Node Id))
      → flat_map told (by_id names)
      ≡ flat_map told (by_id (filter (λ n. is_taken table n.node.text) names))
  taken_alone names =
      let taken = filter (λ (n : Node Id). is_taken table n.node.text) names in
      all_told (by_id names) (with_own [] (map (λ n. (n.node, n)) names) tt (each_own names))
      ∙ given_of_filtered id_text_total is_taken_key (λ a b e. ap (is_taken table) (same_text a b e)) told_by_key
      (λ e h. ap (λ t. cond t (told e) []) h) (map (λ n. (n.node, n)) names)
      ∙ ap (λ l. flat_map told_by_key (map_of id_text_order l)) (taken_entries names)
      ∙ sym (all_told (by_id taken) (with_own [] (map (λ n. (n.node, n)) taken) tt (each_own taken)))

  -- where no common type is declared, the warnings are those of entity types alone
  pub entities_alone : (decls : List (Annotated (Node Declaration))) → common_names_in decls ≡ []
      → declared_warnings table decls ≡ flat_map told (by_id (entity_names_in decls))
  entities_alone decls none = ap (λ cs. warnings_in table (by_id cs) (by_id (entity_names_in decls))) none

  pub told_alone : {A E : Type 0} (r : Result A E) (decls : List (Annotated (Node Declaration)))
      (old new : List SchemaWarning) → common_names_in decls ≡ []
      → OnOk r (new ≡ old ++ flat_map told (by_id (entity_names_in decls)))
      → OnOk r (new ≡ old ++ declared_warnings table decls)
  told_alone (Err e) decls old new none h = tt
  told_alone (Ok x) decls old new none h = h ∙ ap (λ ws. old ++ ws) (sym (entities_alone decls none))
