-- A fragment that is written as groups is laid out as these are.
use Rattle.std.proofs.Common.{◌≡◌, ℕ, ◌+◌, Bool, true, false, List, [], ◌∷◌, ◌++◌, codes, map, refl, ap, sym, ◌∙◌}
use Rattle.std.proofs.Common.{append_assoc, Option, Some, None}
use Rattle.std.specs.List.{AllZip}
use Rattle.std.specs.Option.{option_map}
use Rattle.std.proofs.lemmas.List.{map-append, append-nil}
use Rattle.cedar_identifiers.specs.Names.{components_of}
use Rattle.cedar_identifiers.specs.declared.name.Name.{Name}
use Rattle.cedar_identifiers.specs.declared.name_text.NameText as named
use Rattle.cedar_names.specs.CanonicalText.{spaces}
use Rattle.schema_json.specs.declared.entity_type.EntityTypeKind.{EntityTypeKind}
use Rattle.schema_json.specs.declared.entity_type.EntityTypeKind.TheVariants.{Standard, Enum}
use Rattle.schema_json.specs.declared.action_type.ApplySpec.{ApplySpec}
use Rattle.schema_json.specs.declared.fragment.Fragment.{Fragment}
use Rattle.schema_json.specs.declared.fragment.NamespaceDefinition.{NamespaceDefinition}
use Rattle.schema_syntax_grammar.specs.declared.token_kind.TokenKind.TheVariants.{LBrace, RBrace, LBracket, RBracket}
use Rattle.schema_syntax_grammar.specs.declared.token_kind.TokenKind.TheVariants.{Comma, Colon}
use Rattle.schema_syntax_reader.specs.Leaves.{Notes}
use Rattle.schema_syntax_tokens.specs.Laid.{Piece, gap}
use Rattle.schema_syntax_tree.specs.declared.pr.PR.TheVariants.{Principal, Resource}
use Rattle.laws_written.specs.Written.{WrittenType, path, set, rec, WrittenRef, WrittenMember, types, WrittenDecl}
use Rattle.laws_written.specs.Written.{WrittenDeclared}
use Rattle.laws_written.specs.Printed.{word, mark, string, space, line_break, path_pieces, notes_pieces}
use Rattle.laws_written.specs.PrintedDecls.{Group, list_pieces, applies_pieces, decl_pieces, declared_pieces}
use Rattle.laws_written.specs.PrintedDecls.{joined_pieces, parents_pieces, ref_pieces, shape_pieces, tags_pieces}
use Rattle.laws_written.specs.PrintedDecls.{context_pieces, ended, namespace_pieces, group_pieces, schema_pieces}
use Rattle.schema_print_text.specs.PrintedTypes.{printed_name, printed_type}
use Rattle.schema_print.specs.FragmentGroups.{ContextAs, TargetsAs, KindAs, EntityAs, CommonAs, SpecAs, AppliedAs}
use Rattle.schema_print.specs.FragmentGroups.{ActionAs, AreItemsOf, IsGroupOf, AreGroupsOf, written_name}
use Rattle.schema_print.specs.PrintedFragments.{paths_of_names, shape_type_pieces, targets_pieces, item_pieces}
use Rattle.schema_print.specs.PrintedFragments.{kind_pieces, applied_pieces, spec_pieces, common_type_pieces}
use Rattle.schema_print.specs.PrintedFragments.{entity_pieces, action_pieces, items_pieces, named_block, block_pieces}
use Rattle.schema_print.specs.PrintedFragments.{fragment_pieces}

regrouped : (a b k u v w t : List Piece)
    → a ++ (u ++ (b ++ (v ++ (k ++ (w ++ t))))) ≡ (a ++ (u ++ (b ++ (v ++ (k ++ w))))) ++ t
regrouped a b k u v w t = simp append_assoc

-- the lines of the block, with a context and what stands behind it
targets_by : (base : ℕ) (ps rs : List (List (List ℕ))) (k w : List Piece)
    → (let a = list_pieces path_pieces ps ++ mark RBracket (codes "]") ∷ [] in
    let b = list_pieces path_pieces rs ++ mark RBracket (codes "]") ∷ [] in
    let u = mark Comma (codes ",") ∷ line_break ∷ gap (spaces (base + 2)) ∷ word (codes "resource") ∷ mark Colon
    (codes ":") ∷ space ∷ mark LBracket (codes "[") ∷ [] in
    let v = mark Comma (codes ",") ∷ line_break ∷ gap (spaces (base + 2)) ∷ word (codes "context") ∷ mark Colon
    (codes ":") ∷ space ∷ [] in
    let t = gap (spaces base) ∷ mark RBrace (codes "}") ∷ [] in
    let head = λ (z : List Piece). space ∷ word (codes "appliesTo") ∷ space ∷ mark LBrace (codes "{") ∷ line_break
    ∷ gap (spaces (base + 2)) ∷ word (codes "principal") ∷ mark Colon (codes ":") ∷ space ∷ mark LBracket
    (codes "[") ∷ z in
    head (a ++ (u ++ (b ++ (v ++ (k ++ (w ++ t)))))) ≡ head ((a ++ (u ++ (b ++ (v ++ (k ++ w))))) ++ t))
targets_by base ps rs k w =
    ap (λ (z : List Piece). space ∷ word (codes "appliesTo") ∷ space ∷ mark LBrace (codes "{") ∷ line_break ∷ gap
    (spaces (base + 2)) ∷ word (codes "principal") ∷ mark Colon (codes ":") ∷ space ∷ mark LBracket (codes "[") ∷ z)
    (regrouped (list_pieces path_pieces ps ++ mark RBracket (codes "]") ∷ [])
    (list_pieces path_pieces rs ++ mark RBracket (codes "]") ∷ []) k
    (mark Comma (codes ",") ∷ line_break ∷ gap (spaces (base + 2)) ∷ word (codes "resource") ∷ mark Colon (codes ":")
    ∷ space ∷ mark LBracket (codes "[") ∷ [])
    (mark Comma (codes ",") ∷ line_break ∷ gap (spaces (base + 2)) ∷ word (codes "context") ∷ mark Colon (codes ":")
    ∷ space ∷ []) w
    (gap (spaces base) ∷ mark RBrace (codes "}") ∷ []))

targets_raw : (closing : Bool) (base : ℕ) (p : List (List ℕ)) (ps : List (List (List ℕ))) (r : List (List ℕ))
    (rs : List (List (List ℕ))) (w : WrittenType) (m : WrittenMember)
    → ContextAs w m
    → targets_pieces closing base (p ∷ ps) (r ∷ rs) w
    ≡ applies_pieces closing base (Some (types Principal (p ∷ ps) ∷ types Resource (r ∷ rs) ∷ m ∷ []))
targets_raw true base p ps r rs (rec xs) m h =
    targets_by base (p ∷ ps) (r ∷ rs) (context_pieces true (base + 2) xs) (mark Comma (codes ",") ∷ line_break ∷ [])
    ∙ ap (λ x. applies_pieces true base (Some (types Principal (p ∷ ps) ∷ types Resource (r ∷ rs) ∷ x ∷ []))) (sym h)
targets_raw false base p ps r rs (rec xs) m h =
    targets_by base (p ∷ ps) (r ∷ rs) (context_pieces false (base + 2) xs) (line_break ∷ [])
    ∙ ap (λ x. applies_pieces false base (Some (types Principal (p ∷ ps) ∷ types Resource (r ∷ rs) ∷ x ∷ []))) (sym h)
targets_raw true base p ps r rs (path q) m h =
    targets_by base (p ∷ ps) (r ∷ rs) (path_pieces q) (mark Comma (codes ",") ∷ line_break ∷ [])
    ∙ ap (λ x. applies_pieces true base (Some (types Principal (p ∷ ps) ∷ types Resource (r ∷ rs) ∷ x ∷ []))) (sym h)
targets_raw false base p ps r rs (path q) m h =
    targets_by base (p ∷ ps) (r ∷ rs) (path_pieces q) (line_break ∷ [])
    ∙ ap (λ x. applies_pieces false base (Some (types Principal (p ∷ ps) ∷ types Resource (r ∷ rs) ∷ x ∷ []))) (sym h)
targets_raw closing base p ps r rs (set t) m h = absurd h

targets_as : (closing : Bool) (base : ℕ) (ps rs : List (List (List ℕ))) (w : WrittenType)
    (ms : Option (List WrittenMember))
    → TargetsAs ps rs w ms → targets_pieces closing base ps rs w ≡ applies_pieces closing base ms
targets_as closing base [] rs w ms h = ap (applies_pieces closing base) (sym h)
targets_as closing base (p ∷ ps) [] w ms h = ap (applies_pieces closing base) (sym h)
targets_as closing base (p ∷ ps) (r ∷ rs) w ms h = targets_raw closing base p ps r rs w h.0 h.1
    ∙ ap (applies_pieces closing base) (sym h.2)

zipped : {A B : Type 0} (R : A → B → Type 0) (g : A → List Piece) (k : B → List Piece)
    (step : (a : A) (b : B) → R a b → g a ≡ k b)
    (xs : List A) (ys : List B) → AllZip R xs ys → map g xs ≡ map k ys
zipped R g k step [] [] h = refl
zipped R g k step [] (y ∷ ys) h = absurd h
zipped R g k step (x ∷ xs) [] h = absurd h
zipped R g k step (x ∷ xs) (y ∷ ys) h = ap (λ t. t ∷ map g xs) (step x y h.0)
    ∙ ap (λ t. k y ∷ t) (zipped R g k step xs ys h.1)

joined_map : {A : Type 0} (f : A → List Piece) (xs : List A) → joined_pieces (λ p. p) (map f xs) ≡ joined_pieces f xs
joined_map f [] = refl
joined_map f (x ∷ []) = refl
joined_map f (x ∷ y ∷ xs) = ap (λ t. f x ++ line_break ∷ t) (joined_map f (y ∷ xs))

module _ {N : Type 0} (names : N → List (List ℕ)) where
  kind_as : (closing : Bool) (base : ℕ) (notes : Notes) (e : Bool) (k : EntityTypeKind N) (name : List ℕ)
      (d : WrittenDecl) → KindAs names e k name d
      → item_pieces base notes e (codes "entity") (word name) (kind_pieces names closing base e k)
      ≡ notes_pieces base notes ++ decl_pieces closing base d
  kind_as closing base notes true (Standard e) name d h =
      ap (λ x. notes_pieces base notes ++ decl_pieces closing base x) (sym h)
  kind_as closing base notes true (Enum cs) name d h =
      ap (λ x. notes_pieces base notes ++ decl_pieces closing base x) (sym h)
  kind_as closing base notes false (Enum cs) name d h =
      ap (λ x. notes_pieces base notes ++ decl_pieces closing base x) (sym h)
  kind_as closing base notes false (Standard e) name d h =
      let P = parents_pieces path_pieces (paths_of_names names e.member_of_types) in
      let T = tags_pieces closing (option_map (printed_type names) e.tags) in
      let S = shape_pieces closing base h.0 in
      ap (λ w. item_pieces base notes false (codes "entity") (word name)
      (P ++ (shape_type_pieces closing base w ++ T))) h.1
      ∙ (ap (λ t. notes_pieces base notes ++ gap (spaces base) ∷ word (codes "entity") ∷ space ∷ word name ∷ t)
      (append_assoc P (S ++ T) ended ∙ ap (λ t. P ++ t) (append_assoc S T ended))
      ∙ ap (λ x. notes_pieces base notes ++ decl_pieces closing base x) (sym h.2))

  spec_as : (closing : Bool) (base : ℕ) (o : Option (ApplySpec N)) (ms : Option (List WrittenMember))
      → SpecAs names o ms
      → spec_pieces names closing base o ≡ applies_pieces closing base ms
  spec_as closing base None ms h = ap (applies_pieces closing base) (sym h)
  spec_as closing base (Some s) ms h =
      targets_as closing base (paths_of_names names s.principal_types) (paths_of_names names s.resource_types)
      (printed_type names s.context.0) ms h

  applied_as : (closing : Bool) (base : ℕ) (notes : Notes) (e : Bool) (o : Option (ApplySpec N))
      (rs : List WrittenRef) (id : List ℕ) (d : WrittenDecl) → AppliedAs names e o rs id d
      → item_pieces base notes e (codes "action") (string id)
      (parents_pieces ref_pieces rs ++ applied_pieces names closing base e o) ≡ notes_pieces base notes
      ++ decl_pieces closing base d
  applied_as closing base notes true o rs id d h =
      ap (item_pieces base notes true (codes "action") (string id)) (append-nil (parents_pieces ref_pieces rs))
      ∙ ap (λ x. notes_pieces base notes ++ decl_pieces closing base x) (sym h)
  applied_as closing base notes false o rs id d h =
      let P = parents_pieces ref_pieces rs in
      ap (λ t. item_pieces base notes false (codes "action") (string id) (P ++ t)) (spec_as closing base o h.0 h.1)
      ∙ (ap (λ t. notes_pieces base notes ++ gap (spaces base) ∷ word (codes "action") ∷ space ∷ string id ∷ t)
      (append_assoc P (applies_pieces closing base h.0) ended)
      ∙ ap (λ x. notes_pieces base notes ++ decl_pieces closing base x) (sym h.2))

  module _ {G : named.Ghosts N} where
    items_as : (closing : Bool) (base : ℕ) (n : NamespaceDefinition N G) (ds : List WrittenDeclared)
        → AreItemsOf names {G = G} n ds
        → items_pieces names {G = G} closing base n ≡ joined_pieces (declared_pieces closing base) ds
    items_as closing base n ds h =
        let D = declared_pieces closing base in
        let cs = zipped (CommonAs names) (common_type_pieces names closing base) D
        (λ p d r. ap (λ t. notes_pieces base p.1.annotations.0 ++ decl_pieces closing base t) (sym r.1)
        ∙ ap (λ t. notes_pieces base t ++ decl_pieces closing base d.decl) (sym r.0)) n.common_types h.commons
        h.of_commons in
        let es = zipped (EntityAs names) (entity_pieces names closing base) D
        (λ p d r. kind_as closing base p.1.annotations.0 p.1.external p.1.kind p.0.id.text d.decl r.1
        ∙ ap (λ t. notes_pieces base t ++ decl_pieces closing base d.decl) (sym r.0)) n.entity_types h.entities
        h.of_entities in
        let acts = zipped (ActionAs names {G = G}) (action_pieces names {G = G} closing base) D
        (λ p d r. applied_as closing base p.1.annotations.0 p.1.external p.1.applies_to _ p.0 d.decl r.1
        ∙ ap (λ t. notes_pieces base t ++ decl_pieces closing base d.decl) (sym r.0)) n.actions h.actions
        h.of_actions in
        ap (joined_pieces (λ p. p)) (λ i. cs i ++ (es i ++ acts i))
        ∙ (ap (joined_pieces (λ p. p))
        (ap (λ t. map D h.commons ++ t) (sym (map-append D h.entities h.actions))
        ∙ sym (map-append D h.commons (h.entities ++ h.actions)))
        ∙ (joined_map D (h.commons ++ (h.entities ++ h.actions)) ∙ ap (joined_pieces D) (sym h.all)))

    named_as : (closing : Bool) (name : Option Name) (n : NamespaceDefinition N G) (ds : List WrittenDeclared)
        → AreItemsOf names {G = G} n ds
        → named_block names {G = G} closing name n ≡ namespace_pieces closing n.annotations.0 (written_name name) ds
    named_as closing None n ds h = items_as closing 0 n ds h
    named_as closing (Some name) n ds h =
        ap (λ t. notes_pieces 0 n.annotations.0
        ++ word (codes "namespace") ∷ space
        ∷ (path_pieces (printed_name (components_of name.name))
        ++ space ∷ mark LBrace (codes "{") ∷ line_break ∷ (t ++ mark RBrace (codes "}") ∷ line_break ∷ [])))
        (items_as closing 2 n ds h)

    -- the pieces of the fragment are those of the groups
    pub groups_laid_out : (closing : Bool) (f : Fragment N G) (groups : List Group) → AreGroupsOf names {G = G} f groups
        → fragment_pieces names {G = G} closing f ≡ schema_pieces closing groups
    groups_laid_out closing f groups h =
        sym (joined_map (block_pieces names {G = G} closing) f.0)
        ∙ (ap (joined_pieces (λ p. p))
        (zipped (IsGroupOf names {G = G}) (block_pieces names {G = G} closing) (group_pieces closing)
        (λ p g r. named_as closing p.0 p.1 g.decls r.items
        ∙ (λ i. namespace_pieces closing (sym r.notes i) (sym r.name i) g.decls)) f.0 groups h)
        ∙ joined_map (group_pieces closing) groups)
