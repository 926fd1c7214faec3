-- Lists of parts that are read each.
use Rattle.std.proofs.Common.{◌≡◌, ℕ, List, [], ◌∷◌, ◌++◌, Option, Some, None, refl, sym, ◌∙◌, subst}
use Rattle.std.specs.List.{AllZip, flat_map}
use Rattle.std.proofs.lemmas.List.Elements.{All-nil, All-append}
use Rattle.schema_syntax_tokens.specs.declared.token.Token.{Token}
use Rattle.schema_syntax_tokens.specs.Laid.{Lexeme, Spells}
use Rattle.schema_syntax_parser.specs.declared.syntax.PathSyntax.{PathSyntax}
use Rattle.schema_syntax_parser.specs.Syntax.{AreSeparated, AreListed, AreMany, AreParents}
use Rattle.schema_syntax_parser.specs.Syntax as grammar
use Rattle.schema_syntax_reader.specs.Sites.{Site}
use Rattle.schema_syntax_reader.specs.Trees.{IsOptional}
use Rattle.laws_written.specs.Spellings.{AreSeparatedOf, no_item, last_item, more_items, AreListedOf, single_item}
use Rattle.laws_written.specs.Spellings.{listed_items, AreManyOf, no_more_items, item_first, AreParentsOf, no_parent}
use Rattle.laws_written.specs.Spellings.{some_parents}
use Rattle.laws_written.specs.Shows.{SaysOptional}
use Rattle.laws_written.specs.Reads.{IsFaultless, Reads, ReadsAll}
use Rattle.laws_written.proofs.Split.{split, closed, between}

module _ (source : List ℕ) where
  module _ {S T A : Type 0} (Is : S → T → Type 0) (Says : T → A → Type 0) (sites : S → List Site) where
    none_read : (Parsed : List S → Type 0) → Parsed [] → ReadsAll source Parsed Is Says sites []
    none_read Parsed p = record {
      syns = [];
      parsed = p;
      nodes = [];
      are = tt;
      says = tt;
      lawful = All-nil (IsFaultless source);
    }

    more_read : (First : S → Type 0) (Rest Parsed : List S → Type 0) (x : A) (xs : List A)
        → ((s : S) (ss : List S) → First s → Rest ss → Parsed (s ∷ ss)) → Reads source First Is Says sites x
        → ReadsAll source Rest Is Says sites xs
        → ReadsAll source Parsed Is Says sites (x ∷ xs)
    more_read First Rest Parsed x xs with_first r rs =
        record {
          syns = r.syn ∷ rs.syns;
          parsed = with_first r.syn rs.syns r.parsed rs.parsed;
          nodes = r.node ∷ rs.nodes;
          are = (r.is, rs.are);
          says = (r.says, rs.says);
          lawful = All-append (IsFaultless source) (sites r.syn) (flat_map sites rs.syns) r.lawful rs.lawful;
        }

    parsed_as : (Before After : List S → Type 0) (xs : List A) → ((ss : List S) → Before ss → After ss)
        → ReadsAll source Before Is Says sites xs → ReadsAll source After Is Says sites xs
    parsed_as Before After xs f r =
        record {
          syns = r.syns;
          parsed = f r.syns r.parsed;
          nodes = r.nodes;
          are = r.are;
          says = r.says;
          lawful = r.lawful;
        }

  module _ {S T A : Type 0} (P : List Lexeme → A → Type 0) (Q : List Token → S → Type 0) (Is : S → T → Type 0)
      (Says : T → A → Type 0) (sites : S → List Site)
      (read : (u : List Lexeme) (x : A) → P u x → (ts : List Token) → Spells source ts u
      → Reads source (Q ts) Is Says sites x) where
    pub separated : {u : List Lexeme} {xs : List A} → AreSeparatedOf P u xs → (ts : List Token) → Spells source ts u
        → ReadsAll source (AreSeparated Q ts) Is Says sites xs
    separated no_item [] s = none_read Is Says sites (AreSeparated Q []) grammar.none
    separated no_item (t ∷ ts) s = absurd s
    separated (last_item {u = u} {x = x} h) ts s =
        let Nothing : List S → Type 0 = λ ss. ss ≡ [] in
        more_read Is Says sites (Q ts) Nothing (AreSeparated Q ts) x []
        (λ a as' q e. subst (λ l. AreSeparated Q ts (a ∷ l)) (sym e) (grammar.last q)) (read u x h ts s)
        (none_read Is Says sites Nothing refl)
    separated (more_items {u = u} {v = v} c {x = x} {xs = xs} h k others) ts s =
        let b = between source u v c ts s in
        subst (λ l. ReadsAll source (AreSeparated Q l) Is Says sites (x ∷ xs)) (sym b.whole)
        (more_read Is Says sites (Q b.left) (AreSeparated Q b.right) (AreSeparated Q (b.left ++ b.token ∷ b.right)) x
        xs (λ a as' q r. grammar.more b.token q (b.is.0 ∙ k) r)
        (read u x h b.left b.first) (separated others b.right b.second))

    pub listed : {u : List Lexeme} {xs : List A} → AreListedOf P u xs → (ts : List Token) → Spells source ts u
        → ReadsAll source (AreListed Q ts) Is Says sites xs
    listed (single_item {u = u} {x = x} h) ts s =
        let Nothing : List S → Type 0 = λ ss. ss ≡ [] in
        more_read Is Says sites (Q ts) Nothing (AreListed Q ts) x []
        (λ a as' q e. subst (λ l. AreListed Q ts (a ∷ l)) (sym e) (grammar.single q)) (read u x h ts s)
        (none_read Is Says sites Nothing refl)
    listed (listed_items c ho h hc) [] s = absurd s
    listed (listed_items c {u = u} {xs = xs} ho h hc) (o ∷ ts) s =
        let k = closed source u c ts s.1 in
        subst (λ l. ReadsAll source (AreListed Q (o ∷ l)) Is Says sites xs) (sym k.whole)
        (parsed_as Is Says sites (AreSeparated Q k.left) (AreListed Q (o ∷ (k.left ++ k.token ∷ []))) xs
        (λ ss r. grammar.listed k.token (s.0.0 ∙ ho) r (k.is.0 ∙ hc)) (separated h k.left k.first))

    pub many : {u : List Lexeme} {xs : List A} → AreManyOf P u xs → (ts : List Token) → Spells source ts u
        → ReadsAll source (AreMany Q ts) Is Says sites xs
    many no_more_items [] s = none_read Is Says sites (AreMany Q []) grammar.none
    many no_more_items (t ∷ ts) s = absurd s
    many (item_first {u = u} {v = v} {x = x} {xs = xs} h others) ts s =
        let b = split source u v ts s in
        subst (λ l. ReadsAll source (AreMany Q l) Is Says sites (x ∷ xs)) (sym b.whole)
        (more_read Is Says sites (Q b.left) (AreMany Q b.right) (AreMany Q (b.left ++ b.right)) x xs
        (λ a as' q r. grammar.more q r) (read u x h b.left b.first) (many others b.right b.second))

  module _ {T A : Type 0} (P : List Lexeme → A → Type 0) (Q : List Token → PathSyntax → Type 0)
      (Is : PathSyntax → T → Type 0) (Says : T → A → Type 0) (sites : PathSyntax → List Site)
      (read : (u : List Lexeme) (x : A) → P u x → (ts : List Token) → Spells source ts u
      → Reads source (Q ts) Is Says sites x) where
    pub parents : {u : List Lexeme} {xs : List A} → AreParentsOf P u xs → (ts : List Token) → Spells source ts u
        → ReadsAll source (AreParents Q ts) Is Says sites xs
    parents no_parent [] s = none_read Is Says sites (AreParents Q []) grammar.no_parents
    parents no_parent (t ∷ ts) s = absurd s
    parents (some_parents h l) [] s = absurd s
    parents (some_parents {xs = xs} h l) (i ∷ ts) s =
        parsed_as Is Says sites (AreListed Q ts) (AreParents Q (i ∷ ts)) xs (λ ss r. grammar.in_parents (s.0.0 ∙ h) r)
        (listed P Q Is Says sites read l ts s.1)

  -- a list that is absent where it has no item
  pub optional : {S T A : Type 0} (Is : S → T → Type 0) (Says : T → A → Type 0) (syns : List S) (nodes : List T)
      (xs : List A)
      → AllZip Is syns nodes → AllZip Says nodes xs
      → (found : Option (List T)) × IsOptional source (AllZip Is) syns found × SaysOptional Says found xs
  optional Is Says [] [] [] are says = (None, refl, tt)
  optional Is Says [] [] (x ∷ xs) are says = absurd says
  optional Is Says [] (n ∷ nodes) xs are says = absurd are
  optional Is Says (s ∷ syns) [] xs are says = absurd are
  optional Is Says (s ∷ syns) (n ∷ nodes) [] are says = absurd says
  optional Is Says (s ∷ syns) (n ∷ nodes) (x ∷ xs) are says = (Some (n ∷ nodes), are, says)
