-- The canonical text of a schema is what is written of it, laid out.
use Rattle.std.proofs.Common.{◌≡◌, ℕ, Bool, true, false, cond, List, [], ◌∷◌, ◌++◌, Option, Some, None, map, refl, sym}
use Rattle.std.proofs.Common.{ap, ◌∙◌, append-nil, append_assoc, ◌+◌}
use Rattle.std.specs.Prelude.{codes, filter, if◌then◌else◌}
use Rattle.std.proofs.lemmas.List.{map-append}
use Rattle.cedar_data.specs.Rows.{joined_by}
use Rattle.cedar_data.proofs.Lists.{map-map}
use Rattle.schema_syntax_grammar.specs.declared.token_kind.TokenKind.TheVariants.{Comma, PathSep, LBrace, RBrace}
use Rattle.schema_syntax_grammar.specs.declared.token_kind.TokenKind.TheVariants.{RBracket}
use Rattle.schema_syntax_tokens.specs.Quotes.{quoted}
use Rattle.schema_syntax_tokens.specs.Laid.{Piece, gap, laid}
use Rattle.cedar_identifiers.specs.Names.{name_text}
use Rattle.cedar_names.specs.CanonicalText.{parents_text}
use Rattle.cedar_names.specs.Meaning.{PlainType, Attributes, EntityMeaning, ActionMeaning, SchemaMeaning}
use Rattle.cedar_names.specs.Meaning as m
use Rattle.cedar_names.specs.Definitions.{same_name}
use Rattle.cedar_names.specs.CanonicalText.{line_end, spaces, basename, namespace, list_text, shape_text, tags_text}
use Rattle.cedar_names.specs.CanonicalText.{entity_type_text, action_name_text, context_text, applies_text, action_text}
use Rattle.cedar_names.specs.CanonicalText.{items_text, namespace_text, namespaces, schema_text}
use Rattle.schema_syntax_tree.specs.declared.pr.PR.TheVariants.{Principal, Resource}
use Rattle.laws_written.specs.Written.{WrittenMember, types, context_record}
use Rattle.laws_written.specs.Printed.{mark, space, path_pieces, string}
use Rattle.laws_written.specs.Printed as printed
use Rattle.laws_written.specs.PrintedDecls.{list_pieces, bracketed, parents_pieces, word_pieces, string_pieces}
use Rattle.laws_written.specs.PrintedDecls.{ref_pieces, shape_pieces, tags_pieces, context_pieces, members_pieces}
use Rattle.laws_written.specs.PrintedDecls.{applies_pieces, comma_behind_member, ended, declared_pieces}
use Rattle.laws_written.specs.PrintedDecls.{joined_pieces, group_pieces, schema_pieces}
use Rattle.laws_written.specs.Meant.{attributes_of_meaning, tags_of_meaning, ref_of_meaning, members_of_meaning}
use Rattle.laws_written.specs.Meant.{entity_of_meaning, action_of_meaning, items_of_meaning, group_of_meaning}
use Rattle.laws_written.specs.Meant.{groups_of_meaning}
use Rattle.laws_written.proofs.Following.{laid-append}
use Rattle.laws_written.proofs.MeantTexts.{path_laid, type_laid}

both : (a b : List Piece) (s t : List ℕ) → laid a ≡ s → laid b ≡ t → laid (a ++ b) ≡ s ++ t
both a b s t e f = laid-append a b ∙ (ap (λ l. l ++ laid b) e ∙ ap (λ l. s ++ l) f)

list_laid : {A : Type 0} (f : A → List Piece) (g : A → List ℕ) → ((x : A) → laid (f x) ≡ g x) → (xs : List A)
    → laid (list_pieces f xs) ≡ joined_by (codes ", ") (map g xs)
list_laid f g each [] = refl
list_laid f g each (x ∷ []) = each x
list_laid f g each (x ∷ y ∷ xs) =
    both (f x) (mark Comma (codes ",") ∷ space ∷ list_pieces f (y ∷ xs)) (g x)
    (codes ", " ++ joined_by (codes ", ") (map g (y ∷ xs))) (each x)
    (ap (λ l. codes ", " ++ l) (list_laid f g each (y ∷ xs)))

bracketed_laid : {A : Type 0} (f : A → List Piece) (g : A → List ℕ) → ((x : A) → laid (f x) ≡ g x) → (xs : List A)
    → laid (bracketed f xs) ≡ list_text (map g xs)
bracketed_laid f g each xs = ap (λ l. codes "[" ++ l)
    (both (list_pieces f xs) (mark RBracket (codes "]") ∷ []) (joined_by (codes ", ") (map g xs)) (codes "]")
    (list_laid f g each xs) refl)

parents_laid : {A : Type 0} (f : A → List Piece) (g : A → List ℕ) → ((x : A) → laid (f x) ≡ g x) → (xs : List A)
    → laid (parents_pieces f xs) ≡ parents_text (map g xs)
parents_laid f g each [] = refl
parents_laid f g each (x ∷ xs) = ap (λ l. codes " in " ++ l) (bracketed_laid f g each (x ∷ xs))

word_laid : (n : List ℕ) → laid (list_pieces word_pieces (n ∷ [])) ≡ n
word_laid n = append-nil n

string_laid : (n : List ℕ) → laid (string_pieces n) ≡ quoted n
string_laid n = append-nil (quoted n)

ref_laid : (a : List (List ℕ) × List ℕ) → laid (ref_pieces (ref_of_meaning a)) ≡ action_name_text a
ref_laid a = both (path_pieces a.0) (mark PathSep (codes "::") ∷ string a.1 ∷ []) (name_text a.0)
    (codes "::" ++ quoted a.1) (path_laid a.0) (ap (λ l. codes "::" ++ l) (append-nil (quoted a.1)))

refs_laid : (as' : List (List (List ℕ) × List ℕ))
    → laid (parents_pieces ref_pieces (map ref_of_meaning as')) ≡ parents_text (map action_name_text as')
refs_laid [] = refl
refs_laid (a ∷ as') = ap (λ l. codes " in [" ++ l)
    (both (list_pieces ref_pieces (map ref_of_meaning (a ∷ as'))) (mark RBracket (codes "]") ∷ [])
    (joined_by (codes ", ") (map action_name_text (a ∷ as'))) (codes "]") (listed a as') refl)
  where
    listed : (a : List (List ℕ) × List ℕ) (as' : List (List (List ℕ) × List ℕ))
        → laid (list_pieces ref_pieces (map ref_of_meaning (a ∷ as')))
        ≡ joined_by (codes ", ") (map action_name_text (a ∷ as'))
    listed a [] = ref_laid a
    listed a (b ∷ as') =
        both (ref_pieces (ref_of_meaning a))
        (mark Comma (codes ",") ∷ space ∷ list_pieces ref_pieces (map ref_of_meaning (b ∷ as'))) (action_name_text a)
        (codes ", " ++ joined_by (codes ", ") (map action_name_text (b ∷ as'))) (ref_laid a)
        (ap (λ l. codes ", " ++ l) (listed b as'))

regrouped : (at p a k r b c x q n s : List ℕ)
    → (at ++ (p ++ (a ++ (k ++ (at ++ (r ++ (b ++ (k ++ (at ++ (c ++ (x ++ (q ++ n)))))))))))) ++ s
    ≡ at ++ (p ++ (a ++ (k ++ (at ++ (r ++ (b ++ (k ++ (at ++ (c ++ (x ++ (q ++ (n ++ s))))))))))))
regrouped at p a k r b c x q n s = simp append_assoc

grouped_two : (a b c e : List ℕ) → a ++ (b ++ (c ++ e)) ≡ (a ++ (b ++ c)) ++ e
grouped_two a b c e = sym (simp append_assoc)

grouped_three : (a b c d e : List ℕ) → a ++ (b ++ (c ++ (d ++ e))) ≡ (a ++ (b ++ (c ++ d))) ++ e
grouped_three a b c d e = sym (simp append_assoc)

grouped_four : (a b c d f e : List ℕ) → a ++ (b ++ (c ++ (d ++ (f ++ e)))) ≡ (a ++ (b ++ (c ++ (d ++ f)))) ++ e
grouped_four a b c d f e = sym (simp append_assoc)

grouped_action : (a b c d e : List ℕ) → a ++ (b ++ (c ++ (d ++ e))) ≡ ((a ++ (b ++ c)) ++ d) ++ e
grouped_action a b c d e = sym (simp append_assoc)

last_laid : (c : Bool)
    → laid (comma_behind_member {A = WrittenMember} c [] ++ printed.line_break ∷ [])
    ≡ (if c then codes "," else []) ++ line_end
last_laid true = refl
last_laid false = refl

module _ (closing : Bool) where
  shape_laid : (base : ℕ) (xs : Attributes)
      → laid (shape_pieces closing base (attributes_of_meaning xs)) ≡ shape_text closing base xs
  shape_laid base m.no_more = refl
  shape_laid base (m.attribute n r t xs) =
      ap (λ l. codes " = " ++ l) (type_laid closing base (PlainType.Rec (m.attribute n r t xs)))

  tags_laid : (tags : Option PlainType) → laid (tags_pieces closing (tags_of_meaning tags)) ≡ tags_text closing tags
  tags_laid None = refl
  tags_laid (Some t) = ap (λ l. codes " tags " ++ l) (type_laid closing 0 t)

  pub entity_laid : (base : ℕ) (name : List (List ℕ)) (x : Bool) (ancestors : List (List (List ℕ)))
      (attributes : Attributes) (tags : Option PlainType) (choices : Option (List (List ℕ)))
      → laid (declared_pieces closing base
      (entity_of_meaning (record {
        name = name;
        is_external = x;
        ancestors = ancestors;
        attributes = attributes;
        tags = tags;
        choices = choices;
      })))
      ≡ entity_type_text closing base
      (record {
        name = name;
        is_external = x;
        ancestors = ancestors;
        attributes = attributes;
        tags = tags;
        choices = choices;
      })
  entity_laid base name true ancestors attributes tags choices =
      let b = basename name in
      let parents = parents_pieces path_pieces ancestors in
      ap (λ l. spaces base ++ (codes "external entity " ++ l))
      (both (list_pieces word_pieces (b ∷ [])) (parents ++ ended) b _ (word_laid b)
      (both parents ended (parents_text (map name_text ancestors)) _
      (parents_laid path_pieces name_text path_laid ancestors) refl))
      ∙ ap (λ l. spaces base ++ l) (grouped_two (codes "external entity ") b (parents_text (map name_text ancestors))
      (codes ";\n"))
  entity_laid base name false ancestors attributes tags None =
      let b = basename name in
      let parents = parents_pieces path_pieces ancestors in
      let shape = shape_pieces closing base (attributes_of_meaning attributes) in
      let marks = tags_pieces closing (tags_of_meaning tags) in
      ap (λ l. spaces base ++ (codes "entity " ++ l))
      (both (list_pieces word_pieces (b ∷ [])) (parents ++ (shape ++ (marks ++ ended))) b _ (word_laid b)
      (both parents (shape ++ (marks ++ ended)) (parents_text (map name_text ancestors)) _
      (parents_laid path_pieces name_text path_laid ancestors)
      (both shape (marks ++ ended) (shape_text closing base attributes) _ (shape_laid base attributes)
      (both marks ended (tags_text closing tags) _ (tags_laid tags) refl))))
      ∙ ap (λ l. spaces base ++ l) (grouped_four (codes "entity ") b (parents_text (map name_text ancestors))
      (shape_text closing base attributes) (tags_text closing tags) (codes ";\n"))
  entity_laid base name false ancestors attributes tags (Some choices) =
      let b = basename name in
      let list = bracketed string_pieces choices in
      ap (λ l. spaces base ++ (codes "entity " ++ l))
      (both (list_pieces word_pieces (b ∷ [])) (space ∷ printed.word (codes "enum") ∷ space ∷ (list ++ ended)) b _
      (word_laid b)
      (ap (λ l. codes " enum " ++ l)
      (both list ended (list_text (map quoted choices)) (codes ";" ++ line_end)
      (bracketed_laid string_pieces quoted string_laid choices) refl)))
      ∙ ap (λ l. spaces base ++ l) (grouped_three (codes "entity ") b (codes " enum ")
      (list_text (map quoted choices)) (codes ";\n"))

  -- actions
  context_laid : (base : ℕ) (xs : Attributes)
      → laid (context_pieces closing base (attributes_of_meaning xs)) ≡ context_text closing base xs
  context_laid base m.no_more = refl
  context_laid base (m.attribute n r t xs) = type_laid closing base (PlainType.Rec (m.attribute n r t xs))

  paths_laid : (ps : List (List (List ℕ))) → laid (bracketed path_pieces ps) ≡ list_text (map name_text ps)
  paths_laid = bracketed_laid path_pieces name_text path_laid

  pub applies_laid : (base : ℕ) (ps rs : List (List (List ℕ))) (context : Attributes)
      → laid (applies_pieces closing base (members_of_meaning ps rs context)) ≡ applies_text closing base ps rs context
  applies_laid base [] rs context = refl
  applies_laid base (p ∷ ps) [] context = refl
  applies_laid base (p ∷ ps) (r ∷ rs) context =
      let at = spaces (base + 2) in
      let last_comma : List ℕ = if closing then codes "," else [] in
      let close : List Piece = gap (spaces base) ∷ mark RBrace (codes "}") ∷ [] in
      let last : List WrittenMember = context_record (attributes_of_meaning context) ∷ [] in
      let second : List WrittenMember = types Resource (r ∷ rs) ∷ last in
      let end : List ℕ = last_comma ++ line_end in
      let third : laid (members_pieces closing base last) ≡ at
      ++ (codes "context: " ++ (context_text closing (base + 2) context ++ end)) =
      ap (λ l. at ++ (codes "context: " ++ l))
      (both (context_pieces closing (base + 2) (attributes_of_meaning context))
      (comma_behind_member {A = WrittenMember} closing [] ++ printed.line_break ∷ [])
      (context_text closing (base + 2) context) end (context_laid (base + 2) context) (last_laid closing)) in
      let more : laid (members_pieces closing base second) ≡ at
      ++ (codes "resource: " ++ (list_text (map name_text (r ∷ rs))
      ++ (codes ",\n" ++ (at ++ (codes "context: " ++ (context_text closing (base + 2) context ++ end)))))) =
      ap (λ l. at ++ (codes "resource: " ++ l))
      (both (bracketed path_pieces (r ∷ rs))
      (mark Comma (codes ",") ∷ printed.line_break ∷ members_pieces closing base last)
      (list_text (map name_text (r ∷ rs))) _ (paths_laid (r ∷ rs)) (ap (λ l. codes ",\n" ++ l) third)) in
      let all : laid (members_pieces closing base (types Principal (p ∷ ps) ∷ second)) ≡ at
      ++ (codes "principal: " ++ (list_text (map name_text (p ∷ ps))
      ++ (codes ",\n" ++ (at ++ (codes "resource: "
      ++ (list_text (map name_text (r ∷ rs))
      ++ (codes ",\n" ++ (at ++ (codes "context: " ++ (context_text closing (base + 2) context ++ end)))))))))) =
      ap (λ l. at ++ (codes "principal: " ++ l))
      (both (bracketed path_pieces (p ∷ ps))
      (mark Comma (codes ",") ∷ printed.line_break ∷ members_pieces closing base second)
      (list_text (map name_text (p ∷ ps))) _ (paths_laid (p ∷ ps)) (ap (λ l. codes ",\n" ++ l) more)) in
      ap (λ l. codes " appliesTo {\n" ++ l)
      (both (members_pieces closing base (types Principal (p ∷ ps) ∷ second)) close _
      (spaces base ++ codes "}") all refl
      ∙ regrouped at (codes "principal: ") (list_text (map name_text (p ∷ ps))) (codes ",\n") (codes "resource: ")
      (list_text (map name_text (r ∷ rs))) (codes "context: ") (context_text closing (base + 2) context) last_comma
      line_end (spaces base ++ codes "}"))

  action_laid : (base : ℕ) (ty : List (List ℕ)) (id : List ℕ) (x : Bool) (ancestors : List (List (List ℕ) × List ℕ))
      (ps rs : List (List (List ℕ))) (context : Attributes)
      → laid (declared_pieces closing base
      (action_of_meaning (record {
        ty = ty;
        id = id;
        is_external = x;
        ancestors = ancestors;
        principals = ps;
        resources = rs;
        context = context;
      })))
      ≡ action_text closing base (record
      { ty = ty; id = id; is_external = x; ancestors = ancestors; principals = ps; resources = rs; context = context })
  action_laid base ty id true ancestors ps rs context =
      let parents = parents_pieces ref_pieces (map ref_of_meaning ancestors) in
      ap (λ l. spaces base ++ (codes "external action " ++ l))
      (both (list_pieces string_pieces (id ∷ [])) (parents ++ ended) (quoted id) _ (string_laid id)
      (both parents ended (parents_text (map action_name_text ancestors)) _ (refs_laid ancestors) refl))
      ∙ ap (λ l. spaces base ++ l) (grouped_two (codes "external action ") (quoted id)
      (parents_text (map action_name_text ancestors)) (codes ";\n"))
  action_laid base ty id false ancestors ps rs context =
      let parents = parents_pieces ref_pieces (map ref_of_meaning ancestors) in
      let applies = applies_pieces closing base (members_of_meaning ps rs context) in
      ap (λ l. spaces base ++ (codes "action " ++ l))
      (both (list_pieces string_pieces (id ∷ [])) (parents ++ (applies ++ ended)) (quoted id) _ (string_laid id)
      (both parents (applies ++ ended) (parents_text (map action_name_text ancestors)) _ (refs_laid ancestors)
      (both applies ended (applies_text closing base ps rs context) _ (applies_laid base ps rs context) refl)))
      ∙ ap (λ l. spaces base ++ l) (grouped_action (codes "action ") (quoted id)
      (parents_text (map action_name_text ancestors)) (applies_text closing base ps rs context) (codes ";\n"))

  -- items and namespaces
  joined_laid : {A : Type 0} (f : A → List Piece) (xs : List A)
      → laid (joined_pieces f xs) ≡ joined_by line_end (map (λ x. laid (f x)) xs)
  joined_laid f [] = refl
  joined_laid f (x ∷ []) = refl
  joined_laid f (x ∷ y ∷ xs) = laid-append (f x) (printed.line_break ∷ joined_pieces f (y ∷ xs))
      ∙ ap (λ l. laid (f x) ++ (line_end ++ l)) (joined_laid f (y ∷ xs))

  entities_laid : (base : ℕ) (test : EntityMeaning → Bool) (es : List EntityMeaning)
      → map (λ d. laid (declared_pieces closing base d)) (map entity_of_meaning (filter test es))
      ≡ map (entity_type_text closing base) (filter test es)
  entities_laid base test [] = refl
  entities_laid base test (e ∷ es) = by_test (test e) (entities_laid base test es)
    where
      by_test : (b : Bool)
          → map (λ d. laid (declared_pieces closing base d)) (map entity_of_meaning (filter test es))
          ≡ map (entity_type_text closing base) (filter test es)
          → map (λ d. laid (declared_pieces closing base d))
          (map entity_of_meaning (cond b (e ∷ filter test es) (filter test es)))
          ≡ map (entity_type_text closing base) (cond b (e ∷ filter test es) (filter test es))
      by_test true others = let first = entity_laid base e.name e.is_external e.ancestors e.attributes e.tags
          e.choices in λ i. first i ∷ others i
      by_test false others = others

  actions_laid : (base : ℕ) (test : ActionMeaning → Bool) (as' : List ActionMeaning)
      → map (λ d. laid (declared_pieces closing base d)) (map action_of_meaning (filter test as'))
      ≡ map (action_text closing base) (filter test as')
  actions_laid base test [] = refl
  actions_laid base test (a ∷ as') = by_test (test a) (actions_laid base test as')
    where
      by_test : (b : Bool)
          → map (λ d. laid (declared_pieces closing base d)) (map action_of_meaning (filter test as'))
          ≡ map (action_text closing base) (filter test as')
          → map (λ d. laid (declared_pieces closing base d))
          (map action_of_meaning (cond b (a ∷ filter test as') (filter test as')))
          ≡ map (action_text closing base) (cond b (a ∷ filter test as') (filter test as'))
      by_test true others = let first = action_laid base a.ty a.id a.is_external a.ancestors a.principals a.resources
          a.context in λ i. first i ∷ others i
      by_test false others = others

  items_laid : (base : ℕ) (m : SchemaMeaning) (n : List (List ℕ))
      → laid (joined_pieces (declared_pieces closing base) (items_of_meaning m n)) ≡ items_text closing base m n
  items_laid base m n =
      let es = filter (λ e. same_name n (namespace e.name)) m.entities in
      let as' = filter (λ a. same_name n (namespace a.ty)) m.actions in
      joined_laid (declared_pieces closing base) (items_of_meaning m n)
      ∙ ap (joined_by line_end) (map-append (λ d. laid (declared_pieces closing base d)) (map entity_of_meaning es)
      (map action_of_meaning as')
      ∙ (λ i. entities_laid base (λ e. same_name n (namespace e.name)) m.entities i
      ++ actions_laid base (λ a. same_name n (namespace a.ty)) m.actions i))

  namespace_laid : (m : SchemaMeaning) (n : List (List ℕ))
      → laid (group_pieces closing (group_of_meaning m n)) ≡ namespace_text closing m n
  namespace_laid m [] = items_laid 0 m []
  namespace_laid m (c ∷ cs) =
      let inner = joined_pieces (declared_pieces closing 2) (items_of_meaning m (c ∷ cs)) in
      ap (λ l. codes "namespace " ++ l)
      (both (path_pieces (c ∷ cs)) (space ∷ mark LBrace (codes "{") ∷ printed.line_break
      ∷ (inner ++ mark RBrace (codes "}") ∷ printed.line_break ∷ [])) (name_text (c ∷ cs)) _ (path_laid (c ∷ cs))
      (ap (λ l. codes " {\n" ++ l) (both inner (mark RBrace (codes "}") ∷ printed.line_break ∷ [])
      (items_text closing 2 m (c ∷ cs)) (codes "}" ++ line_end) (items_laid 2 m (c ∷ cs)) refl)))

  pub schema_laid : (m : SchemaMeaning) → laid (schema_pieces closing (groups_of_meaning m)) ≡ schema_text closing m
  schema_laid m =
      joined_laid (group_pieces closing) (groups_of_meaning m)
      ∙ ap (joined_by line_end) (map-map (λ g. laid (group_pieces closing g)) (group_of_meaning m) (namespaces m)
      ∙ each (namespaces m))
    where
      each : (ns : List (List (List ℕ)))
          → map (λ n. laid (group_pieces closing (group_of_meaning m n))) ns ≡ map (namespace_text closing m) ns
      each [] = refl
      each (n ∷ ns) = let first = namespace_laid m n in let others = each ns in λ i. first i ∷ others i
