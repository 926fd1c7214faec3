-- The tokens of the sites of a syntax are those that each derivation of its kinds reads as words and strings.
use Rattle.std.proofs.Common.{◌≡◌, true, Bool, List, [], ◌∷◌, ◌++◌, refl, sym, ap, ◌∙◌, subst}
use Rattle.std.specs.List.{flat_map}
use Rattle.std.proofs.lemmas.List.{append-nil}
use Rattle.std.proofs.lemmas.Grind.{flat_map-append}
use Rattle.cedar_data.specs.Span.{Span}
use Rattle.schema_syntax_grammar.specs.declared.token_kind.TokenKind.{TokenKind}
use Rattle.schema_syntax_grammar.specs.declared.token_kind.TokenKind.TheVariants.{StringLit}
use Rattle.schema_syntax_grammar.specs.declared.token_kind.TokenKind.TheVariants.{Comma, PathSep}
use Rattle.schema_syntax_grammar.specs.Grammar.{is_ident, is_name_kind, is_word_kind, Kinds, Sentence, Nonterminal}
use Rattle.schema_syntax_grammar.specs.Grammar.{schema}
use Rattle.schema_syntax_grammar.specs.Grammar.{item, decls, decl, bare_decl, idents, parents, shape, tags, strings}
use Rattle.schema_syntax_grammar.specs.Grammar.{names, name, in_refs, applies, apps, app, types, paths, refs, ref_list}
use Rattle.schema_syntax_grammar.specs.Grammar.{ref, ty, rec, attrs, attr, path, anns, Phrase}
use Rattle.schema_syntax_grammar.specs.Grammar as G
use Rattle.schema_syntax_grammar.proofs.Complete.{ident_is_name}
use Rattle.schema_syntax_tokens.specs.declared.token.Token.{Token}
use Rattle.schema_syntax_tokens.specs.TokenLists.{kinds_of}
use Rattle.schema_syntax_parser.specs.declared.syntax.PathSyntax.{PathSyntax}
use Rattle.schema_syntax_parser.specs.declared.syntax.AppSyntax.{AppSyntax}
use Rattle.schema_syntax_parser.specs.declared.syntax.ItemSyntax.{ItemSyntax}
use Rattle.schema_syntax_parser.specs.Syntax.{IsChain, AreSeparated, AreListed, AreMany, IsPath, IsRef, AreParents}
use Rattle.schema_syntax_parser.specs.Syntax.{AreAnnotations, IsMark, IsType, IsRecord, AreAttrs, IsAttr, IsShape}
use Rattle.schema_syntax_parser.specs.Syntax.{AreTags, IsStringToken, is_role, IsApp, Applies, IsDecl, IsDeclared}
use Rattle.schema_syntax_parser.specs.Syntax.{IsItem, IsSyntax}
use Rattle.schema_syntax_parser.specs.Syntax as S
use Rattle.schema_syntax_parser.proofs.Back.{one_syntax}
use Rattle.schema_syntax_parser.proofs.Sentences.{sentence_of}
use Rattle.schema_syntax_reader.specs.Placed.{note_tokens}
use Rattle.schema_syntax_reader.specs.Sites.{Site, site_of_kind, name_sites, names_sites, path_sites, paths_sites}
use Rattle.schema_syntax_reader.specs.Sites.{sites_of_type, sites_of_attr, sites_of_attrs, shape_sites, tags_sites}
use Rattle.schema_syntax_reader.specs.Sites.{app_sites, choices_sites, apps_sites, applies_sites, decl_sites}
use Rattle.schema_syntax_reader.specs.Sites.{declared_sites, item_sites, sites_of}
use Rattle.schema_syntax_reader.proofs.SiteEquations.{of_path, of_set, of_record, of_attr}
use Rattle.laws_syntax.specs.Sites.Readings.{reads, picked, AreReadings}
use Rattle.laws_syntax.specs.Sites.SiteTokens.{site_tokens, tokens_of_sites}
use Rattle.laws_syntax.proofs.Sites.ReadingForms.{readings}
use Rattle.laws_syntax.proofs.Sites.ReadParts.{Reads, done, whole, mark, word, part}

-- the tokens of sites, part by part
both : {a b c d : List Token} → a ≡ c → b ≡ d → a ++ b ≡ c ++ d
both e f = λ i. e i ++ f i

ended : {a c : List Token} → a ≡ c → a ≡ c ++ []
ended {c = c} e = e ∙ sym (append-nil c)

joined : (a b : List Site) {c d : List Token} → tokens_of_sites a ≡ c → tokens_of_sites b ≡ d
    → tokens_of_sites (a ++ b) ≡ c ++ d
joined a b e f = flat_map-append site_tokens a b ∙ both e f

one_token : (k : TokenKind) (t : Token) → site_tokens (site_of_kind k t) ≡ t ∷ []
one_token StringLit t = refl
one_token _ t = refl

named : (t : Token) (sites : List Site) {c : List Token} → tokens_of_sites sites ≡ c
    → tokens_of_sites (name_sites t ++ sites) ≡ t ∷ c
named t sites e = both (one_token t.kind t) e

names_tokens : (ts : List Token) → tokens_of_sites (names_sites ts) ≡ ts
names_tokens [] = refl
names_tokens (t ∷ ts) = named t (names_sites ts) (names_tokens ts)

abbrev path_tokens : PathSyntax → List Token
path_tokens p = p.names

paths_tokens : (ps : List PathSyntax) → tokens_of_sites (paths_sites ps) ≡ flat_map path_tokens ps
paths_tokens [] = refl
paths_tokens (p ∷ ps) = joined (path_sites p) (paths_sites ps) (names_tokens p.names) (paths_tokens ps)

choices_tokens : (choices : List Token) (place : Span) → tokens_of_sites (choices_sites choices place) ≡ choices
choices_tokens [] place = refl
choices_tokens (t ∷ ts) place = names_tokens (t ∷ ts)

apps_tokens : (xs : List AppSyntax) (place : Span)
    → tokens_of_sites (apps_sites xs place) ≡ tokens_of_sites (flat_map app_sites xs)
apps_tokens [] place = refl
apps_tokens (x ∷ xs) place = refl

-- the tokens u are those of some part P, and ts are the tokens of its sites
record Is {A : Type 0} (P : List Token → A → Type 0) (tokens : A → List Token) (u ts : List Token) : Type 0 where
  value : A
  is : P u value
  exact : tokens value ≡ ts

so : {A : Type 0} {P : List Token → A → Type 0} {tokens : A → List Token} {u ts : List Token} (x : A) → P u x
    → tokens x ≡ ts → Is P tokens u ts
so x h e = record { value = x; is = h; exact = e }

-- u is one name, and ts is the same
data IsName : List Token → List Token → Type 0 where
  name_is : (t : Token) → is_name_kind t.kind ≡ true → IsName (t ∷ []) (t ∷ [])

abbrev ArePaths : (List Token → List PathSyntax → Type 0) → List Token → List Token → Type 0
ArePaths P = Is P (λ ps. flat_map path_tokens ps)

-- of each part of the grammar: the syntax of its tokens, with the tokens of the sites
abbrev Made : Nonterminal → List Token → List Token → Type 0
Made schema = Is (AreMany IsItem) (λ xs. tokens_of_sites (sites_of xs))
Made item = Is IsItem (λ x. tokens_of_sites (item_sites x))
Made decls = Is (AreMany IsDeclared) (λ xs. tokens_of_sites (flat_map declared_sites xs))
Made decl = Is IsDeclared (λ x. tokens_of_sites (declared_sites x))
Made bare_decl = Is IsDecl (λ x. tokens_of_sites (decl_sites x))
Made idents = Is (IsChain Comma is_ident) (λ ts. ts)
Made parents = ArePaths (AreParents IsPath)
Made shape = Is IsShape (λ x. tokens_of_sites (shape_sites x))
Made tags = Is AreTags (λ x. tokens_of_sites (tags_sites x))
Made strings = Is (AreSeparated IsStringToken) (λ ts. ts)
Made names = Is (IsChain Comma is_name_kind) (λ ts. ts)
Made name = IsName
Made in_refs = ArePaths (AreParents IsRef)
Made applies = Is Applies (λ x. tokens_of_sites (applies_sites x))
Made apps = Is (AreSeparated IsApp) (λ xs. tokens_of_sites (flat_map app_sites xs))
Made app = Is IsApp (λ x. tokens_of_sites (app_sites x))
Made types = ArePaths (AreListed IsPath)
Made paths = ArePaths (AreSeparated IsPath)
Made refs = ArePaths (AreListed IsRef)
Made ref_list = ArePaths (AreSeparated IsRef)
Made ref = Is IsRef path_tokens
Made ty = Is IsType (λ t. tokens_of_sites (sites_of_type t))
Made rec = Is IsRecord (λ xs. tokens_of_sites (sites_of_attrs xs))
Made attrs = Is AreAttrs (λ xs. tokens_of_sites (sites_of_attrs xs))
Made attr = Is IsAttr (λ a. tokens_of_sites (sites_of_attr a))
Made G.mark = Is IsMark (λ required. [])
Made path = Is (IsChain PathSep is_ident) (λ ts. ts)
Made anns = Is AreAnnotations note_tokens

-- a name, and then the rest
name_rest : (Q : List Token → List Token → Type 0) {b : Kinds} {d : List Bool} {u ts : List Token} → IsName u ts
    → ((t : Token) → is_name_kind t.kind ≡ true → Reads (λ v us. Q (t ∷ v) (t ∷ us)) b d)
    → Reads (λ v us. Q (u ++ v) (ts ++ us)) b d
name_rest Q (name_is t h) f = f t h

name_part : {Q : List Token → List Token → Type 0} {a b : Kinds} {c d : List Bool} → AreReadings c a
    → Reads IsName a c
    → ((t : Token) → is_name_kind t.kind ≡ true → Reads (λ v us. Q (t ∷ v) (t ∷ us)) b d)
    → Reads Q (a ++ b) (c ++ d)
name_part {Q} n r f = part n r (λ u ts h. name_rest Q h f)

one_name : {u ts : List Token} → IsName u ts → Made names u ts
one_name (name_is t h) = so _ (S.one h) refl

plain_ref : {u ts : List Token} → IsName u ts → Made ref u ts
plain_ref (name_is t h) = so _ (S.plain h) refl

as_kind : (P : TokenKind → Bool) {k j : TokenKind} → k ≡ j → P j ≡ true → P k ≡ true
as_kind P e h = subst (λ i. P i ≡ true) (sym e) h

string_name : (k : TokenKind) → k ≡ StringLit → is_name_kind k ≡ true
string_name k e = ap is_name_kind e

-- Tokens whose kinds are derived so have a syntax, and the tokens of its sites are picked as the derivation reads.
made : {p : Nonterminal} {kinds : Kinds} (d : Phrase p kinds) → Reads (Made p) kinds (reads d)
made G.no_item = done (so _ S.none refl)
made (G.more_items x y) =
    part (readings x) (made x) (λ _ _ h. whole (made y) (λ _ _ r.
    so _ (S.more h.is r.is) (joined (item_sites h.value) (sites_of r.value) h.exact r.exact)))
made (G.namespace_item x y z) =
    part (readings x) (made x) (λ _ _ notes. mark (λ n kn. part (readings y) (made y) (λ _ _ p.
    mark (λ o ko. part (readings z) (made z) (λ _ _ ds. mark (λ c kc. done (
    so _ (S.namespace n o c notes.is kn (S.path p.is) ko ds.is kc)
    (both notes.exact (joined (names_sites p.value) (flat_map declared_sites ds.value)
    (names_tokens p.value ∙ p.exact) (ended ds.exact))))))))))
made (G.decl_item x) = whole (made x) (λ _ _ h. so _ (S.outside h.is) h.exact)
made G.no_decl = done (so _ S.none refl)
made (G.more_decls x y) =
    part (readings x) (made x) (λ _ _ h. whole (made y) (λ _ _ r.
    so _ (S.more h.is r.is) (joined (declared_sites h.value) (flat_map declared_sites r.value) h.exact r.exact)))
made (G.annotated x y) =
    part (readings x) (made x) (λ _ _ notes. whole (made y) (λ _ _ d.
    so _ (S.declared notes.is d.is) (both notes.exact d.exact)))
made (G.entity_decl x y z w) =
    mark (λ e ke. part (readings x) (made x) (λ _ _ i. part (readings y) (made y) (λ _ _ p.
    part (readings z) (made z) (λ _ _ s. part (readings w) (made w) (λ _ _ t. mark (λ c kc. done (
    so _ (S.entity_decl c ke i.is p.is s.is t.is kc)
    (joined (names_sites i.value) (paths_sites p.value ++ (shape_sites s.value ++ tags_sites t.value))
    (names_tokens i.value ∙ i.exact)
    (joined (paths_sites p.value) (shape_sites s.value ++ tags_sites t.value) (paths_tokens p.value ∙ p.exact)
    (joined (shape_sites s.value) (tags_sites t.value) s.exact (ended t.exact)))))))))))
made (G.enum_decl x y) =
    mark (λ e ke. part (readings x) (made x) (λ _ _ i. mark (λ n kn. mark (λ o ko.
    part (readings y) (made y) (λ _ _ s. mark (λ c kc. mark (λ z kz. done (
    so _ (S.enum_decl n o c z ke i.is kn ko s.is kc kz)
    (joined (names_sites i.value) (choices_sites s.value _) (names_tokens i.value ∙ i.exact)
    (ended (choices_tokens s.value _ ∙ s.exact)))))))))))
made (G.external_entity x y) =
    mark (λ e ke. mark (λ n kn. part (readings x) (made x) (λ _ _ i. part (readings y) (made y) (λ _ _ p.
    mark (λ z kz. done (
    so _ (S.external_entity z ke kn i.is p.is kz)
    (joined (names_sites i.value) (paths_sites p.value) (names_tokens i.value ∙ i.exact)
    (ended (paths_tokens p.value ∙ p.exact)))))))))
made (G.action_decl x y z) =
    mark (λ a ka. part (readings x) (made x) (λ _ _ n. part (readings y) (made y) (λ _ _ r.
    part (readings z) (made z) (λ _ _ s. mark (λ c kc. done (
    so _ (S.action_decl c ka n.is r.is s.is kc)
    (joined (names_sites n.value) (paths_sites r.value ++ applies_sites s.value) (names_tokens n.value ∙ n.exact)
    (joined (paths_sites r.value) (applies_sites s.value) (paths_tokens r.value ∙ r.exact) (ended s.exact)))))))))
made (G.external_action x y) =
    mark (λ e ke. mark (λ a ka. part (readings x) (made x) (λ _ _ n. part (readings y) (made y) (λ _ _ r.
    mark (λ z kz. done (
    so _ (S.external_action z ke ka n.is r.is kz)
    (joined (names_sites n.value) (paths_sites r.value) (names_tokens n.value ∙ n.exact)
    (ended (paths_tokens r.value ∙ r.exact)))))))))
made (G.common_decl h x) =
    mark (λ w kw. word (λ n kn. mark (λ e ke. part (readings x) (made x) (λ _ _ t. mark (λ z kz. done (
    so _ (S.common_decl z kw (as_kind is_ident kn h) ke t.is kz)
    (named n (sites_of_type t.value) (ended t.exact))))))))
made (G.one_ident h) = word (λ t k. done (so _ (S.one (as_kind is_ident k h)) refl))
made (G.more_idents h x) =
    word (λ t k. mark (λ c kc. whole (made x) (λ _ _ r.
    so _ (S.more (as_kind is_ident k h) kc r.is) (ap (λ l. t ∷ l) r.exact))))
made G.no_parents = done (so _ S.no_parents refl)
made (G.in_parents x) = mark (λ i k. whole (made x) (λ _ _ h. so _ (S.in_parents k h.is) h.exact))
made G.no_shape = done (so _ S.no_shape refl)
made (G.bare_shape x) = whole (made x) (λ _ _ h. so _ (S.bare_shape h.is) h.exact)
made (G.equals_shape x) = mark (λ e k. whole (made x) (λ _ _ h. so _ (S.equals_shape k h.is) h.exact))
made G.no_tags = done (so _ S.no_tags refl)
made (G.some_tags x) = mark (λ w k. whole (made x) (λ _ _ h. so _ (S.some_tags k h.is) h.exact))
made G.no_string = done (so _ S.none refl)
made G.last_string = word (λ t k. done (so _ (S.last (S.string k)) refl))
made (G.more_strings x) =
    word (λ t k. mark (λ c kc. whole (made x) (λ _ _ r.
    so _ (S.more c (S.string k) kc r.is) (ap (λ l. t ∷ l) r.exact))))
made (G.one_name x) = whole (made x) (λ _ _ h. one_name h)
made (G.more_names x y) =
    name_part (readings x) (made x) (λ t k. mark (λ c kc. whole (made y) (λ _ _ r.
    so _ (S.more k kc r.is) (ap (λ l. t ∷ l) r.exact))))
made (G.ident_name h) = word (λ t k. done (name_is t (ident_is_name t.kind (as_kind is_ident k h))))
made G.string_name = word (λ t k. done (name_is t (string_name t.kind k)))
made G.no_refs = done (so _ S.no_parents refl)
made (G.some_refs x) = mark (λ i k. whole (made x) (λ _ _ h. so _ (S.in_parents k h.is) h.exact))
made G.no_applies = done (so _ S.no_applies refl)
made (G.some_applies x) =
    mark (λ w kw. mark (λ o ko. part (readings x) (made x) (λ _ _ h. mark (λ c kc. done (
    so _ (S.some_applies c kw ko h.is kc) (apps_tokens h.value _ ∙ ended h.exact))))))
made G.no_app = done (so _ S.none refl)
made (G.last_app x) = whole (made x) (λ _ _ h.
    so _ (S.last h.is) (ap tokens_of_sites (append-nil (app_sites h.value)) ∙ h.exact))
made (G.more_apps x y) =
    part (readings x) (made x) (λ _ _ h. mark (λ c kc. whole (made y) (λ _ _ r.
    so _ (S.more c h.is kc r.is) (joined (app_sites h.value) (flat_map app_sites r.value) h.exact r.exact))))
made (G.principal_app x) =
    mark (λ w k. mark (λ c kc. whole (made x) (λ _ _ h.
    so _ (S.types (as_kind is_role k refl) kc h.is) (paths_tokens h.value ∙ h.exact))))
made (G.resource_app x) =
    mark (λ w k. mark (λ c kc. whole (made x) (λ _ _ h.
    so _ (S.types (as_kind is_role k refl) kc h.is) (paths_tokens h.value ∙ h.exact))))
made (G.context_path x) =
    mark (λ w k. mark (λ c kc. whole (made x) (λ _ _ h.
    so _ (S.context_path k kc (S.path h.is)) (names_tokens h.value ∙ h.exact))))
made (G.context_record x) =
    mark (λ w k. mark (λ c kc. whole (made x) (λ _ _ h. so _ (S.context_record k kc h.is) h.exact)))
made (G.one_type x) = whole (made x) (λ _ _ h. so _ (S.single (S.path h.is)) (append-nil h.value ∙ h.exact))
made (G.listed_types x) =
    mark (λ o ko. part (readings x) (made x) (λ _ _ h. mark (λ c kc. done (
    so _ (S.listed c ko h.is kc) (ended h.exact)))))
made G.no_path = done (so _ S.none refl)
made (G.last_path x) = whole (made x) (λ _ _ h. so _ (S.last (S.path h.is)) (append-nil h.value ∙ h.exact))
made (G.more_paths x y) =
    part (readings x) (made x) (λ _ _ h. mark (λ c kc. whole (made y) (λ _ _ r.
    so _ (S.more c (S.path h.is) kc r.is) (both h.exact r.exact))))
made (G.one_ref x) = whole (made x) (λ _ _ h. so _ (S.single h.is) (append-nil (path_tokens h.value) ∙ h.exact))
made (G.listed_refs x) =
    mark (λ o ko. part (readings x) (made x) (λ _ _ h. mark (λ c kc. done (
    so _ (S.listed c ko h.is kc) (ended h.exact)))))
made G.no_ref = done (so _ S.none refl)
made (G.last_ref x) = whole (made x) (λ _ _ h. so _ (S.last h.is) (append-nil (path_tokens h.value) ∙ h.exact))
made (G.more_refs x y) =
    part (readings x) (made x) (λ _ _ h. mark (λ c kc. whole (made y) (λ _ _ r.
    so _ (S.more c h.is kc r.is) (both h.exact r.exact))))
made (G.plain_ref x) = whole (made x) (λ _ _ h. plain_ref h)
made (G.typed_ref x) =
    part (readings x) (made x) (λ _ _ h. mark (λ s ks. word (λ q kq. done (
    so _ (S.typed s q h.is ks kq) (ap (λ l. l ++ q ∷ []) h.exact)))))
made (G.path_type x) = whole (made x) (λ _ _ h.
    so _ (S.path_type (S.path h.is)) (ap tokens_of_sites (of_path _) ∙ (names_tokens h.value ∙ h.exact)))
made (G.set_type x) =
    mark (λ s ks. mark (λ o ko. part (readings x) (made x) (λ _ _ h. mark (λ c kc. done (
    so _ (S.set_type c ks ko h.is kc) (ap tokens_of_sites (of_set h.value _) ∙ ended h.exact))))))
made (G.record_type x) = whole (made x) (λ _ _ h.
    so _ (S.record_type h.is) (ap tokens_of_sites (of_record h.value _) ∙ h.exact))
made (G.braces x) =
    mark (λ o ko. part (readings x) (made x) (λ _ _ h. mark (λ c kc. done (
    so _ (S.braces c ko h.is kc) (ended h.exact)))))
made G.no_attr = done (so _ S.no_attr refl)
made (G.last_attr x) = whole (made x) (λ _ _ h.
    so _ (S.last_attr h.is) (ap tokens_of_sites (append-nil (sites_of_attr h.value)) ∙ h.exact))
made (G.more_attrs x y) =
    part (readings x) (made x) (λ _ _ h. mark (λ c kc. whole (made y) (λ _ _ r.
    so _ (S.more_attrs c h.is kc r.is) (joined (sites_of_attr h.value) (sites_of_attrs r.value) h.exact r.exact))))
made (G.one_attr x y z w) =
    part (readings x) (made x) (λ _ _ notes. name_part (readings y) (made y) (λ t k.
    part (readings z) (made z) (λ _ _ m. mark (λ c kc. whole (made w) (λ _ _ h.
    so _ (S.attr t c notes.is k m.is kc h.is)
    (ap tokens_of_sites (of_attr _)
    ∙ both notes.exact (named t (sites_of_type h.value) (both m.exact h.exact))))))))
made G.no_mark = done (so _ S.no_mark refl)
made G.question = mark (λ q k. done (so _ (S.question k) refl))
made (G.one_step h) = word (λ t k. done (so _ (S.one (as_kind is_ident k h)) refl))
made (G.more_steps h x) =
    word (λ t k. mark (λ c kc. whole (made x) (λ _ _ r.
    so _ (S.more (as_kind is_ident k h) kc r.is) (ap (λ l. t ∷ l) r.exact))))
made G.no_ann = done (so _ S.none refl)
made (G.bare_ann h x) =
    mark (λ a ka. word (λ k kk. whole (made x) (λ _ _ r.
    so _ (S.bare ka (as_kind is_word_kind kk h) r.is) (ap (λ l. k ∷ l) r.exact))))
made (G.valued_ann h x) =
    mark (λ a ka. word (λ k kk. mark (λ o ko. word (λ v kv. mark (λ c kc. whole (made x) (λ _ _ r.
    so _ (S.valued ka (as_kind is_word_kind kk h) ko kv kc r.is) (ap (λ l. k ∷ v ∷ l) r.exact)))))))

-- the tokens have but one syntax, whichever derivation it is made from
pub exact_sites : (tokens : List Token) (items : List ItemSyntax) → IsSyntax tokens items
    → Sentence (kinds_of tokens)
    × ((d : Sentence (kinds_of tokens)) → tokens_of_sites (sites_of items) ≡ picked (reads d) tokens)
exact_sites tokens items r = (
  sentence_of r,
  λ d.
      let m = (made d).read tokens refl in
      ap (λ xs. tokens_of_sites (sites_of xs)) (one_syntax tokens items m.value r m.is) ∙ m.exact,
)

pub one_picking : {kinds : Kinds} (d e : Sentence kinds) (u : List Token) → kinds_of u ≡ kinds
    → picked (reads d) u ≡ picked (reads e) u
one_picking d e u is =
    let m = (made d).read u is in
    let n = (made e).read u is in
    sym m.exact ∙ (ap (λ xs. tokens_of_sites (sites_of xs)) (one_syntax u m.value n.value m.is n.is) ∙ n.exact)
