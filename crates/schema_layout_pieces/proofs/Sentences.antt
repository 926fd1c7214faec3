-- In a schema no `:` stands before a `:` or `::`.
use Rattle.std.proofs.Common.{◌≡◌, Bool, true, not, ◌&&◌, ◌||◌, [], ◌∷◌, ◌++◌, refl, sym, ap, ◌∙◌, subst}
use Rattle.std.proofs.lemmas.List.{append_assoc, append-nil}
use Rattle.schema_syntax_grammar.specs.declared.token_kind.TokenKind.{TokenKind}
use Rattle.schema_syntax_grammar.specs.declared.token_kind.TokenKind.TheVariants.{Colon, Comma, Equals, Greater, KwEnum}
use Rattle.schema_syntax_grammar.specs.declared.token_kind.TokenKind.TheVariants.{KwNamespace, LBrace, LBracket, LParen}
use Rattle.schema_syntax_grammar.specs.declared.token_kind.TokenKind.TheVariants.{PathSep, RBrace, RBracket, RParen}
use Rattle.schema_syntax_grammar.specs.declared.token_kind.TokenKind.TheVariants.{Semi, StringLit}
use Rattle.schema_syntax_grammar.specs.Grammar.{is_word_kind, is_ident, same_kind, Kinds, Nonterminal, Phrase, Sentence}
use Rattle.schema_syntax_grammar.specs.Grammar.{ty, rec, path, types}
use Rattle.schema_syntax_grammar.specs.Grammar as G
use Rattle.schema_syntax_grammar.proofs.Accept.{at_kind}
use Rattle.schema_layout_pieces.specs.Kinds.{has_colon, begins_apart, is_apart}

-- the kinds keep apart whatever follows them
abbrev Keeps : Kinds → Type 0
Keeps a = (rest : Kinds) → is_apart rest ≡ true → is_apart (a ++ rest) ≡ true

-- they begin with no colon, whatever follows them
abbrev Opens : Kinds → Type 0
Opens a = (rest : Kinds) → begins_apart (a ++ rest) ≡ true

pub both : (a b : Bool) → a ≡ true → b ≡ true → a && b ≡ true
both a b e f = ap (λ t. t && b) e ∙ f

-- an implication that passes, at a premise that holds
pub chosen : (a b : Bool) → not a || b ≡ true → a ≡ true → b ≡ true
chosen a b i e = sym (ap (λ t. not t || b) e) ∙ i

word_plain : (k : TokenKind) → is_word_kind k ≡ true → not (same_kind k Colon) ≡ true
word_plain k h =
    chosen (is_word_kind k) (not (same_kind k Colon))
    (at_kind (λ j. not (is_word_kind j) || not (same_kind j Colon)) k refl) h

ident_plain : (k : TokenKind) → is_ident k ≡ true → not (same_kind k Colon) ≡ true
ident_plain k h =
    chosen (is_ident k) (not (same_kind k Colon))
    (at_kind (λ j. not (is_ident j) || not (same_kind j Colon)) k refl) h

ident_apart : (k : TokenKind) → is_ident k ≡ true → not (has_colon k) ≡ true
ident_apart k h =
    chosen (is_ident k) (not (has_colon k)) (at_kind (λ j. not (is_ident j) || not (has_colon j)) k refl) h

nil : Keeps []
nil rest h = h

join : (a b : Kinds) → Keeps a → Keeps b → Keeps (a ++ b)
join a b f g rest h = subst (λ x. is_apart x ≡ true) (sym (append_assoc a b rest)) (f (b ++ rest) (g rest h))

cons : (k : TokenKind) (a : Kinds) → not (same_kind k Colon) ≡ true → Keeps a → Keeps (k ∷ a)
cons k a n f rest h =
    both (not (same_kind k Colon) || begins_apart (a ++ rest)) (is_apart (a ++ rest))
    (ap (λ t. t || begins_apart (a ++ rest)) n) (f rest h)

colon : (a : Kinds) → Opens a → Keeps a → Keeps (Colon ∷ a)
colon a o f rest h = both (begins_apart (a ++ rest)) (is_apart (a ++ rest)) (o rest) (f rest h)

path_opens : {a : Kinds} → Phrase path a → Opens a
path_opens (G.one_step {i = i} h) rest = ident_apart i h
path_opens (G.more_steps {i = i} h p) rest = ident_apart i h

types_opens : {a : Kinds} → Phrase types a → Opens a
types_opens (G.one_type p) rest = path_opens p rest
types_opens (G.listed_types p) rest = refl

rec_opens : {a : Kinds} → Phrase rec a → Opens a
rec_opens (G.braces p) rest = refl

ty_opens : {a : Kinds} → Phrase ty a → Opens a
ty_opens (G.path_type p) rest = path_opens p rest
ty_opens (G.set_type p) rest = refl
ty_opens (G.record_type p) rest = rec_opens p rest

apart : {n : Nonterminal} {a : Kinds} → Phrase n a → Keeps a
apart G.no_item = nil
apart (G.more_items {a = a} {b = b} p_a p_b) = join a b (apart p_a) (apart p_b)
apart (G.namespace_item {a = a} {p = p} {d = d} p_a p_p p_d) =
    join a (KwNamespace ∷ (p ++ LBrace ∷ (d ++ RBrace ∷ []))) (apart p_a)
    (join p (LBrace ∷ (d ++ RBrace ∷ [])) (apart p_p) (join d (RBrace ∷ []) (apart p_d) nil))
apart (G.decl_item p_a) = apart p_a
apart G.no_decl = nil
apart (G.more_decls {a = a} {b = b} p_a p_b) = join a b (apart p_a) (apart p_b)
apart (G.annotated {a = a} {b = b} p_a p_b) = join a b (apart p_a) (apart p_b)
apart (G.entity_decl {i = i} {p = p} {s = s} {t = t} p_i p_p p_s p_t) =
    join i (p ++ (s ++ (t ++ Semi ∷ []))) (apart p_i) (join p (s ++ (t ++ Semi ∷ [])) (apart p_p)
    (join s (t ++ Semi ∷ []) (apart p_s) (join t (Semi ∷ []) (apart p_t) nil)))
apart (G.enum_decl {i = i} {s = s} p_i p_s) =
    join i (KwEnum ∷ LBracket ∷ (s ++ RBracket ∷ Semi ∷ [])) (apart p_i)
    (join s (RBracket ∷ Semi ∷ []) (apart p_s) nil)
apart (G.external_entity {i = i} {p = p} p_i p_p) =
    join i (p ++ Semi ∷ []) (apart p_i) (join p (Semi ∷ []) (apart p_p) nil)
apart (G.action_decl {n = n} {r = r} {a = a} p_n p_r p_a) =
    join n (r ++ (a ++ Semi ∷ [])) (apart p_n) (join r (a ++ Semi ∷ []) (apart p_r)
    (join a (Semi ∷ []) (apart p_a) nil))
apart (G.external_action {n = n} {r = r} p_n p_r) =
    join n (r ++ Semi ∷ []) (apart p_n) (join r (Semi ∷ []) (apart p_r) nil)
apart (G.common_decl {i = i} {t = t} h p_t) =
    cons i (Equals ∷ (t ++ Semi ∷ [])) (ident_plain i h) (join t (Semi ∷ []) (apart p_t) nil)
apart (G.one_ident {i = i} h) = cons i [] (ident_plain i h) nil
apart (G.more_idents {i = i} {a = a} h p_a) = cons i (Comma ∷ a) (ident_plain i h) (apart p_a)
apart G.no_parents = nil
apart (G.in_parents p_a) = apart p_a
apart G.no_shape = nil
apart (G.bare_shape p_a) = apart p_a
apart (G.equals_shape p_a) = apart p_a
apart G.no_tags = nil
apart (G.some_tags p_a) = apart p_a
apart G.no_string = nil
apart G.last_string = nil
apart (G.more_strings p_a) = apart p_a
apart (G.one_name p_a) = apart p_a
apart (G.more_names {a = a} {b = b} p_a p_b) = join a (Comma ∷ b) (apart p_a) (apart p_b)
apart (G.ident_name {i = i} h) = cons i [] (ident_plain i h) nil
apart G.string_name = nil
apart G.no_refs = nil
apart (G.some_refs p_a) = apart p_a
apart G.no_applies = nil
apart (G.some_applies {a = a} p_a) = join a (RBrace ∷ []) (apart p_a) nil
apart G.no_app = nil
apart (G.last_app p_a) = apart p_a
apart (G.more_apps {a = a} {b = b} p_a p_b) = join a (Comma ∷ b) (apart p_a) (apart p_b)
apart (G.principal_app {a = a} p_a) = colon a (types_opens p_a) (apart p_a)
apart (G.resource_app {a = a} p_a) = colon a (types_opens p_a) (apart p_a)
apart (G.context_path {a = a} p_a) = colon a (path_opens p_a) (apart p_a)
apart (G.context_record {a = a} p_a) = colon a (rec_opens p_a) (apart p_a)
apart (G.one_type p_a) = apart p_a
apart (G.listed_types {a = a} p_a) = join a (RBracket ∷ []) (apart p_a) nil
apart G.no_path = nil
apart (G.last_path p_a) = apart p_a
apart (G.more_paths {a = a} {b = b} p_a p_b) = join a (Comma ∷ b) (apart p_a) (apart p_b)
apart (G.one_ref p_a) = apart p_a
apart (G.listed_refs {a = a} p_a) = join a (RBracket ∷ []) (apart p_a) nil
apart G.no_ref = nil
apart (G.last_ref p_a) = apart p_a
apart (G.more_refs {a = a} {b = b} p_a p_b) = join a (Comma ∷ b) (apart p_a) (apart p_b)
apart (G.plain_ref p_a) = apart p_a
apart (G.typed_ref {a = a} p_a) = join a (PathSep ∷ StringLit ∷ []) (apart p_a) nil
apart (G.path_type p_a) = apart p_a
apart (G.set_type {a = a} p_a) = join a (Greater ∷ []) (apart p_a) nil
apart (G.record_type p_a) = apart p_a
apart (G.braces {a = a} p_a) = join a (RBrace ∷ []) (apart p_a) nil
apart G.no_attr = nil
apart (G.last_attr p_a) = apart p_a
apart (G.more_attrs {a = a} {b = b} p_a p_b) = join a (Comma ∷ b) (apart p_a) (apart p_b)
apart (G.one_attr {a = a} {n = n} {m = m} {t = t} p_a p_n p_m p_t) =
    join a (n ++ (m ++ Colon ∷ t)) (apart p_a) (join n (m ++ Colon ∷ t) (apart p_n) (join m (Colon ∷ t) (apart p_m)
    (colon t (ty_opens p_t) (apart p_t))))
apart G.no_mark = nil
apart G.question = nil
apart (G.one_step {i = i} h) = cons i [] (ident_plain i h) nil
apart (G.more_steps {i = i} {a = a} h p_a) = cons i (PathSep ∷ a) (ident_plain i h) (apart p_a)
apart G.no_ann = nil
apart (G.bare_ann {w = w} {a = a} h p_a) = cons w a (word_plain w h) (apart p_a)
apart (G.valued_ann {w = w} {a = a} h p_a) = cons w (LParen ∷ StringLit ∷ RParen ∷ a) (word_plain w h) (apart p_a)

pub sentence_apart : (kinds : Kinds) → Sentence kinds → is_apart kinds ≡ true
sentence_apart kinds s = subst (λ x. is_apart x ≡ true) (append-nil kinds) (apart s [] refl)
