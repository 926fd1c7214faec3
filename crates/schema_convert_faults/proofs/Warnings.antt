-- What a tree without faults is warned of.
use Rattle.std.proofs.Common.{◌≡◌, ◌↔◌, ◌⊎◌, inl, inr, Bool, true, false, List, [], ◌∷◌, find, Option, Some, None}
use Rattle.std.proofs.Common.{if◌then◌else◌, refl, sym, ap, ◌∙◌, subst, true≢false, flat_map, is_some}
use Rattle.std.proofs.lemmas.Option.{same_Some}
use Rattle.std.proofs.lemmas.Bool.{or_parts}
use Rattle.std.specs.declared.cmp.Ordering.TheVariants.{Equal}
use Rattle.std.specs.List.{AllByRecursion, list_any}
use Rattle.std.specs.Ordering.{is_eq}
use Rattle.std.specs.BTreeMap.{is_at}
use Rattle.std.specs.Map.{lookup}
use Rattle.std.specs.Option.{option_cmp}
use Rattle.cedar_data.specs.declared.node.Node.{Node}
use Rattle.cedar_data.proofs.Orders.{equal_from}
use Rattle.cedar_identifiers.specs.declared.id.Id.{Id}
use Rattle.cedar_names.specs.declared.extension_table.ExtensionTable.{ExtensionTable}
use Rattle.cedar_names.specs.Orders.{id_text_order, id_text_total}
use Rattle.schema_syntax_tree.specs.declared.annotated.Annotated.{Annotated}
use Rattle.schema_syntax_tree.specs.declared.declaration.Declaration.{Declaration}
use Rattle.schema_syntax_tree.specs.declared.namespace.Namespace.{Namespace}
use Rattle.schema_convert_errors.specs.declared.warnings.SchemaWarning.{SchemaWarning}
use Rattle.schema_convert_errors.specs.declared.warnings.SchemaWarning.TheVariants.{ShadowsEntity}
use Rattle.schema_convert_faults.specs.Faults.{translation_faults}
use Rattle.schema_convert_openings.specs.Joined.{have_one_name, joined, path_cmp}
use Rattle.schema_convert_faults.specs.NamesIn.{entity_names_in, common_names_in, id_cmp}
use Rattle.schema_convert_openings.specs.Repeats.{NoneRepeats}
use Rattle.schema_convert_faults.specs.Shadowings.{by_id, is_taken, builtin_shadowed, entity_shadowed, common_warnings}
use Rattle.schema_convert_faults.specs.Shadowings.{declared_warnings, shadowings}
use Rattle.schema_convert_faults.specs.Translatable.{IsLawfulNamespace}
use Rattle.schema_convert_faults.specs.Warned.{IsAmong, SaysBuiltin, SaysEntity, IsOfDeclared, IsWarnedOf}
use Rattle.schema_convert_faults.proofs.Among.{among_append, flat_entries, looked_up}
use Rattle.schema_convert_openings.proofs.FirstRepeat.{AreNew, new_from}
use Rattle.schema_convert_openings.proofs.OneName.{names_total, one_name_swaps}
use Rattle.schema_convert_faults.proofs.Lawful.{lawful}
use Rattle.schema_convert_openings.proofs.Own.{own_names}

abbrev id_eq : Node Id → Node Id → Bool
id_eq a b = is_eq (id_cmp a b)

builtin_by : (w : SchemaWarning) (b : Bool) (v : SchemaWarning)
    → IsAmong w (if b then v ∷ [] else []) ↔ (b ≡ true) × (w ≡ v)
builtin_by w true v = (λ h. elim h [ inl e ↦ (refl, e) | inr e ↦ absurd e ], λ h. inl h.1)
builtin_by w false v = (λ h. absurd h, λ h. absurd (true≢false (sym h.0)))

builtin_said : (table : ExtensionTable) (d : Node Id) (w : SchemaWarning)
    → IsAmong w (builtin_shadowed table d) ↔ SaysBuiltin table d w
builtin_said table d w = builtin_by w (is_taken table d.node.text) _

no : (e : Node Id) → None ≡ Some e → ⊥
no e h = true≢false (sym (ap is_some h))

entity_said : (o : Option (Node Id)) (c : Node Id) (w : SchemaWarning)
    → IsAmong w (entity_shadowed o c) ↔ (e : Node Id) × (o ≡ Some e)
    × (w ≡ ShadowsEntity (record { name = c.node.text; entity_loc = e.loc; common_loc = c.loc }))
entity_said None c w = (λ h. absurd h, λ h. absurd (no h.0 h.1))
entity_said (Some e) c w = (
  λ h. elim h [ inl i ↦ (e, refl, i) | inr i ↦ absurd i ],
  λ h. inl (h.2 ∙ ap (λ (d : Node Id). ShadowsEntity
      (record { name = c.node.text; entity_loc = d.loc; common_loc = c.loc })) (sym (same_Some e h.0 h.1))),
)

-- what the names of one kind tell, where none repeats
module _ (names : List (Node Id)) (once : NoneRepeats id_cmp names) where
  new : AreNew id_eq [] names
  new = new_from id_eq [] names once

  of_names : (f : Id × Node Id → List SchemaWarning) (w : SchemaWarning)
      → IsAmong w (flat_map f (by_id names)) ↔ (d : Node Id) × IsAmong d names × IsAmong w (f (d.node, d))
  of_names f w = flat_entries id_text_order id_text_total (λ (d : Node Id). d.node) (λ (d : Node Id). d) f w names new

  at_name : (c e : Node Id)
      → lookup (is_at (id_text_order c.node)) (by_id names) ≡ Some e ↔ IsAmong e names × (id_cmp c e ≡ Equal)
  at_name c e =
      let found = looked_up id_text_order id_text_total (λ (d : Node Id). d.node)
      (λ (d : Node Id). d) c.node names e new in (
        λ h. let f = found.0 h in (
          subst (λ d. IsAmong d names) f.3 f.1,
          equal_from (id_cmp c e)
              (subst (λ d. is_eq (id_cmp c d) ≡ true) f.3 f.2),
        ),
        λ h. found.1 (e, h.0, ap is_eq h.1, refl),
      )

module _ (table : ExtensionTable) (decls : List (Annotated (Node Declaration))) (w : SchemaWarning)
    (commons_once : NoneRepeats id_cmp (common_names_in decls))
    (entities_once : NoneRepeats id_cmp (entity_names_in decls)) where
  abbrev commons : List (Node Id)
  commons = common_names_in decls

  abbrev entities : List (Node Id)
  entities = entity_names_in decls

  entity_of : (c : Node Id)
      → IsAmong w (entity_shadowed (lookup (is_at (id_text_order c.node)) (by_id entities)) c) ↔ (e : Node Id)
      × IsAmong e entities × SaysEntity c e w
  entity_of c =
      let said = entity_said (lookup (is_at (id_text_order c.node)) (by_id entities)) c w in (
        λ h. let s = said.0 h in let at = (at_name entities entities_once c s.0).0 s.1 in (s.0, at.0, (at.1, s.2)),
        λ h. said.1 (h.0, (at_name entities entities_once c h.0).1 (h.1, h.2.0), h.2.1),
      )

  common_of : (c : Node Id)
      → IsAmong w (common_warnings table (by_id entities) c) ↔ ((e : Node Id) × IsAmong e entities × SaysEntity c e w)
      ⊎ SaysBuiltin table c w
  common_of c =
      let split = among_append w (entity_shadowed (lookup (is_at (id_text_order c.node)) (by_id entities)) c)
      (builtin_shadowed table c) in (
        λ h. elim (split.0 h) [ inl e ↦ inl ((entity_of c).0 e) | inr b ↦ inr ((builtin_said table c w).0 b) ],
        λ h. split.1 (elim h [ inl e ↦ inl ((entity_of c).1 e) | inr b ↦ inr ((builtin_said table c w).1 b) ]),
      )

  of_declared : IsAmong w (declared_warnings table decls) ↔ IsOfDeclared table decls w
  of_declared =
      let split = among_append w (flat_map (λ (c : Id × Node Id). common_warnings table (by_id entities) c.1)
      (by_id commons)) (flat_map (λ (e : Id × Node Id). builtin_shadowed table e.1) (by_id entities)) in
      let by_common = of_names commons commons_once (λ c. common_warnings table (by_id entities) c.1) w in
      let by_entity = of_names entities entities_once (λ e. builtin_shadowed table e.1) w in (
        λ h. elim (split.0 h) [
          | inl f ↦
              let c = by_common.0 f in
              elim ((common_of c.0).0 c.2) [ inl e ↦ inr (inr (c.0, c.1, e)) | inr b ↦ inl (c.0, c.1, b) ]
          | inr f ↦ let e = by_entity.0 f in inr (inl (e.0, e.1, (builtin_said table e.0 w).0 e.2))
        ],
        λ h. split.1 (elim h [
          | inl c ↦ inl (by_common.1 (c.0, c.1, (common_of c.0).1 (inr c.2)))
          | inr f ↦ elim f [
            | inl e ↦ inr (by_entity.1 (e.0, e.1, (builtin_said table e.0 w).1 e.2))
            | inr c ↦ inl (by_common.1 (c.0, c.1, (common_of c.0).1 (inl c.2)))
          ]
        ]),
      )

-- what is among items that are all so is so
pub all_at : {A : Type 0} (P : A → Type 0) (x : A) (xs : List A) → AllByRecursion P xs → IsAmong x xs → P x
all_at P x [] h i = absurd i
all_at P x (y ∷ xs) h (inl is) = subst P (sym is) h.0
all_at P x (y ∷ xs) h (inr i) = all_at P x xs h.1 i

none_before : (n : Annotated Namespace) (before : List (Annotated Namespace))
    → list_any (λ b. have_one_name b n) before ≡ false
    → find (have_one_name n) before ≡ None
none_before n [] h = refl
none_before n (b ∷ before) h =
    let both = or_parts (have_one_name b n) (list_any (λ c. have_one_name c n) before) h in
    rw (one_name_swaps n b ∙ both.0) (none_before n before both.1)

-- the namespaces of a tree are warned of one by one
of_namespaces : (tree : List (Annotated Namespace)) (table : ExtensionTable) (w : SchemaWarning)
    → IsAmong w (shadowings tree table) ↔ (n : Annotated Namespace) × IsAmong n (joined tree)
    × IsAmong w (declared_warnings table n.item.decls)
of_namespaces tree table w =
    flat_entries (option_cmp path_cmp) names_total (λ (n : Annotated Namespace). n.item.name)
    (λ (n : Annotated Namespace). n)
    (λ p. declared_warnings table p.1.item.decls) w (joined tree)
    (new_from have_one_name [] (joined tree)
    (λ before after n e. none_before n before (own_names tree before after n e)))

pub warned : (tree : List (Annotated Namespace)) (table : ExtensionTable) (w : SchemaWarning)
    → translation_faults tree ≡ []
    → IsAmong w (shadowings tree table) ↔ IsWarnedOf tree table w
warned tree table w h =
    let each = of_namespaces tree table w in
    let all = (lawful tree).0 h in
    let at = λ (n : Annotated Namespace) (i : IsAmong n (joined tree)).
    let l = all_at IsLawfulNamespace n (joined tree) all i in
    of_declared table n.item.decls w l.commons_once l.entities_once in (
      λ g. let n = each.0 g in (n.0, n.1, (at n.0 n.1).0 n.2),
      λ g. each.1 (g.0, g.1, (at g.0 g.1).1 g.2),
    )
