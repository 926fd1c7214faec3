-- What a part may begin with.
use Rattle.std.proofs.Common.{◌≡◌, ◌<◌, List, [], ◌∷◌, ◌++◌, length, Bool, true, false, refl, ap, ◌∙◌, arith}
use Rattle.std.proofs.Common.{length-append}
use Rattle.std.specs.Prelude.{Option}
use Rattle.cedar_data.specs.Span.{Span}
use Rattle.schema_syntax_grammar.specs.declared.token_kind.TokenKind.{TokenKind}
use Rattle.schema_syntax_grammar.specs.declared.token_kind.TokenKind.TheVariants.{KwNamespace, KwEntity, KwExternal}
use Rattle.schema_syntax_grammar.specs.declared.token_kind.TokenKind.TheVariants.{KwIn, KwType, KwSet, KwAppliesTo}
use Rattle.schema_syntax_grammar.specs.declared.token_kind.TokenKind.TheVariants.{KwPrincipal, KwAction, KwResource}
use Rattle.schema_syntax_grammar.specs.declared.token_kind.TokenKind.TheVariants.{KwContext, KwTags, KwEnum, Identifier}
use Rattle.schema_syntax_grammar.specs.declared.token_kind.TokenKind.TheVariants.{StringLit, At, LParen, LBrace, RBrace}
use Rattle.schema_syntax_grammar.specs.declared.token_kind.TokenKind.TheVariants.{LBracket, RBracket, Equals}
use Rattle.schema_syntax_grammar.specs.Grammar.{is_ident, same_kind, is_name_kind}
use Rattle.schema_syntax_tokens.specs.declared.token.Token.{Token}
use Rattle.schema_syntax_parser.specs.declared.syntax.PathSyntax.{PathSyntax}
use Rattle.schema_syntax_parser.specs.declared.syntax.AnnotationSyntax.{AnnotationSyntax}
use Rattle.schema_syntax_parser.specs.declared.syntax.TypeSyntax.{TypeSyntax}
use Rattle.schema_syntax_parser.specs.declared.syntax.AttrSyntax.{AttrSyntax}
use Rattle.schema_syntax_parser.specs.declared.syntax.AppSyntax.{AppSyntax}
use Rattle.schema_syntax_parser.specs.declared.syntax.DeclSyntax.{DeclSyntax}
use Rattle.schema_syntax_parser.specs.declared.syntax.DeclaredSyntax.{DeclaredSyntax}
use Rattle.schema_syntax_parser.specs.declared.syntax.ItemSyntax.{ItemSyntax}
use Rattle.schema_syntax_parser.specs.Syntax.{IsChain, one, more, IsPath, path, IsRef, plain, typed, AreParents}
use Rattle.schema_syntax_parser.specs.Syntax.{no_parents, in_parents, AreAnnotations, none, bare, valued, IsShape}
use Rattle.schema_syntax_parser.specs.Syntax.{no_shape, bare_shape, equals_shape, braces, AreTags, no_tags, some_tags}
use Rattle.schema_syntax_parser.specs.Syntax.{Applies, no_applies, some_applies, IsStringToken, string, IsApp, types}
use Rattle.schema_syntax_parser.specs.Syntax.{context_path, context_record, is_role, IsAttr, attr, IsDecl, entity_decl}
use Rattle.schema_syntax_parser.specs.Syntax.{enum_decl, external_entity, action_decl, external_action, common_decl}
use Rattle.schema_syntax_parser.specs.Syntax.{IsDeclared, declared, IsItem, namespace, outside}

-- does a token of the kind stand at the front?
abbrev pub begins : TokenKind → List Token → Bool
begins k [] = false
begins k (t ∷ ts) = same_kind k t.kind

-- kinds that are not those of names
pub record Apart (k : TokenKind) : Type 0 where
  pub at : same_kind At k ≡ false
  pub lparen : same_kind LParen k ≡ false
  pub lbracket : same_kind LBracket k ≡ false
  pub rbracket : same_kind RBracket k ≡ false
  pub lbrace : same_kind LBrace k ≡ false
  pub rbrace : same_kind RBrace k ≡ false

abbrev apart : (k : TokenKind) → same_kind At k ≡ false → same_kind LParen k ≡ false → same_kind LBracket k ≡ false
    → same_kind RBracket k ≡ false → same_kind LBrace k ≡ false → same_kind RBrace k ≡ false → Apart k
apart k a b c d e f = record { at = a; lparen = b; lbracket = c; rbracket = d; lbrace = e; rbrace = f }

pub ident_apart : (k : TokenKind) → is_ident k ≡ true → Apart k
ident_apart KwNamespace h = apart KwNamespace refl refl refl refl refl refl
ident_apart KwEntity h = apart KwEntity refl refl refl refl refl refl
ident_apart KwExternal h = apart KwExternal refl refl refl refl refl refl
ident_apart KwType h = apart KwType refl refl refl refl refl refl
ident_apart KwSet h = apart KwSet refl refl refl refl refl refl
ident_apart KwAppliesTo h = apart KwAppliesTo refl refl refl refl refl refl
ident_apart KwPrincipal h = apart KwPrincipal refl refl refl refl refl refl
ident_apart KwAction h = apart KwAction refl refl refl refl refl refl
ident_apart KwResource h = apart KwResource refl refl refl refl refl refl
ident_apart KwContext h = apart KwContext refl refl refl refl refl refl
ident_apart KwTags h = apart KwTags refl refl refl refl refl refl
ident_apart KwEnum h = apart KwEnum refl refl refl refl refl refl
ident_apart Identifier h = apart Identifier refl refl refl refl refl refl
ident_apart _ h = cc

pub name_apart : (k : TokenKind) → is_name_kind k ≡ true → Apart k
name_apart StringLit h = apart StringLit refl refl refl refl refl refl
name_apart KwNamespace h = ident_apart KwNamespace h
name_apart KwEntity h = ident_apart KwEntity h
name_apart KwExternal h = ident_apart KwExternal h
name_apart KwType h = ident_apart KwType h
name_apart KwSet h = ident_apart KwSet h
name_apart KwAppliesTo h = ident_apart KwAppliesTo h
name_apart KwPrincipal h = ident_apart KwPrincipal h
name_apart KwAction h = ident_apart KwAction h
name_apart KwResource h = ident_apart KwResource h
name_apart KwContext h = ident_apart KwContext h
name_apart KwTags h = ident_apart KwTags h
name_apart KwEnum h = ident_apart KwEnum h
name_apart Identifier h = ident_apart Identifier h
name_apart _ h = cc

-- a part that is not empty, and its first token
pub record Head (P : TokenKind → Type 0) (u : List Token) : Type 0 where
  pub first : Token
  pub rest : List Token
  pub whole : u ≡ first ∷ rest
  pub is : P first.kind

pub begins_head : {P : TokenKind → Type 0} {u : List Token} (k : TokenKind) (v : List Token) (h : Head P u)
    → same_kind k h.first.kind ≡ false → begins k (u ++ v) ≡ false
begins_head k v h e = ap (λ (x : List Token). begins k (x ++ v)) h.whole ∙ e

pub chain_head : {s : TokenKind} {is : TokenKind → Bool} {u names : List Token} → IsChain s is u names
    → Head (λ k. is k ≡ true) u
chain_head (one {t = t} h) = record { first = t; rest = []; whole = refl; is = h }
chain_head (more {t = t} {s = s} {u = u} h k r) = record { first = t; rest = s ∷ u; whole = refl; is = h }

pub path_head : {u : List Token} {p : PathSyntax} → IsPath u p → Head Apart u
path_head (path c) = let h = chain_head c in
    record { first = h.first; rest = h.rest; whole = h.whole; is = ident_apart h.first.kind h.is }

pub ref_head : {u : List Token} {p : PathSyntax} → IsRef u p → Head Apart u
ref_head (plain {t = t} h) = record { first = t; rest = []; whole = refl; is = name_apart t.kind h }
ref_head (typed {u = u} s q c k l) =
    let h = chain_head c in
    record {
      first = h.first;
      rest = h.rest ++ s ∷ q ∷ [];
      whole = ap (λ (x : List Token). x ++ s ∷ q ∷ []) h.whole;
      is = ident_apart h.first.kind h.is;
    }

pub string_head : {u : List Token} {t : Token} → IsStringToken u t → Head (λ k. k ≡ StringLit) u
string_head (string {t = t} h) = record { first = t; rest = []; whole = refl; is = h }

-- no bracket or brace closes with this kind
abbrev pub NoClose : TokenKind → Type 0
NoClose k = (same_kind RBrace k ≡ false) × (same_kind LBrace k ≡ false)

pub role_facts : (k : TokenKind) → is_role k ≡ true → NoClose k
role_facts KwPrincipal h = (refl, refl)
role_facts KwResource h = (refl, refl)
role_facts _ h = cc

pub app_head : {u : List Token} {a : AppSyntax} → IsApp u a → Head NoClose u
app_head (types {w = w} {c = c} {u = u} h k l) =
    record { first = w; rest = c ∷ u; whole = refl; is = role_facts w.kind h }
app_head (context_path {w = w} {c = c} {u = u} h k l) =
    record { first = w; rest = c ∷ u; whole = refl; is = rw h (refl, refl) }
app_head (context_record {w = w} {c = c} {u = u} h k l) =
    record { first = w; rest = c ∷ u; whole = refl; is = rw h (refl, refl) }

pub attr_head : {u : List Token} {a : AttrSyntax} → IsAttr u a → Head NoClose u
attr_head (attr n c {m = m} {u = u} none h k l t) =
    let f = name_apart n.kind h in record { first = n; rest = m ++ c ∷ u; whole = refl; is = (f.rbrace, f.lbrace) }
attr_head (attr n c {m = m} {u = u} (bare {a = a} {k = k} {u = b} x w r) h y l t) =
    record { first = a; rest = k ∷ (b ++ n ∷ (m ++ c ∷ u)); whole = refl; is = rw x (refl, refl) }
attr_head (attr n c {m = m} {u = u} (valued {a = a} {k = k} {o = o} {v = v} {c = d} {u = b} x w y z q r) h s l t) =
    record { first = a; rest = k ∷ o ∷ v ∷ d ∷ (b ++ n ∷ (m ++ c ∷ u)); whole = refl; is = rw x (refl, refl) }

-- what follows a part that may be empty
pub skip_parents : {P : List Token → PathSyntax → Type 0} {u : List Token} {ps : List PathSyntax} (k : TokenKind)
    (v : List Token)
    → AreParents P u ps → same_kind k KwIn ≡ false → begins k v ≡ false → begins k (u ++ v) ≡ false
skip_parents k v no_parents e f = f
skip_parents k v (in_parents h l) e f = rw h e

pub skip_shape : {u : List Token} {s : Option (List AttrSyntax × Span)} (k : TokenKind) (v : List Token) → IsShape u s
    → same_kind k Equals ≡ false → same_kind k LBrace ≡ false → begins k v ≡ false → begins k (u ++ v) ≡ false
skip_shape k v no_shape e f g = g
skip_shape k v (bare_shape (braces c h r l)) e f g = rw h f
skip_shape k v (equals_shape h r) e f g = rw h e

pub skip_tags : {u : List Token} {t : Option TypeSyntax} (k : TokenKind) (v : List Token) → AreTags u t
    → same_kind k KwTags ≡ false → begins k v ≡ false → begins k (u ++ v) ≡ false
skip_tags k v no_tags e f = f
skip_tags k v (some_tags h r) e f = rw h e

pub skip_applies : {u : List Token} {s : Option (List AppSyntax × Span)} (k : TokenKind) (v : List Token)
    → Applies u s → same_kind k KwAppliesTo ≡ false → begins k v ≡ false → begins k (u ++ v) ≡ false
skip_applies k v no_applies e f = f
skip_applies k v (some_applies c h o r l) e f = rw h e

pub skip_annotations : {u : List Token} {xs : List AnnotationSyntax} (k : TokenKind) (v : List Token)
    → AreAnnotations u xs → same_kind k At ≡ false → begins k v ≡ false → begins k (u ++ v) ≡ false
skip_annotations k v none e f = f
skip_annotations k v (bare h w r) e f = rw h e
skip_annotations k v (valued h w o l c r) e f = rw h e

-- a declaration begins with one of four words
abbrev pub DeclFacts : TokenKind → Type 0
DeclFacts k = (same_kind At k ≡ false) × (same_kind LParen k ≡ false) × (same_kind RBrace k ≡ false)
    × (same_kind KwNamespace k ≡ false)

pub decl_head : {u : List Token} {d : DeclSyntax} → IsDecl u d → Head DeclFacts u
decl_head (entity_decl z h i p s t k) = record { first = _; rest = _; whole = refl; is = rw h (refl, refl, refl, refl) }
decl_head (enum_decl n o c z h i a b s d k) =
    record { first = _; rest = _; whole = refl; is = rw h (refl, refl, refl, refl) }
decl_head (external_entity z h e i p k) =
    record { first = _; rest = _; whole = refl; is = rw h (refl, refl, refl, refl) }
decl_head (action_decl z h n r s k) = record { first = _; rest = _; whole = refl; is = rw h (refl, refl, refl, refl) }
decl_head (external_action z h a n r k) =
    record { first = _; rest = _; whole = refl; is = rw h (refl, refl, refl, refl) }
decl_head (common_decl z h n e t k) = record { first = _; rest = _; whole = refl; is = rw h (refl, refl, refl, refl) }

-- not empty
pub head_length : {P : TokenKind → Type 0} {u : List Token} → Head P u → 0 < length u
head_length h = omega (arith, ap length h.whole)

pub declared_length : {u : List Token} {d : DeclaredSyntax} → IsDeclared u d → 0 < length u
declared_length (declared {a = a} {u = u} xs d) = omega (arith, length-append a u, head_length (decl_head d))

pub declared_close : {u : List Token} {d : DeclaredSyntax} (v : List Token) → IsDeclared u d
    → begins RBrace (u ++ v) ≡ false
declared_close v (declared {u = u} none d) = begins_head RBrace v (decl_head d) (decl_head d).is.2
declared_close v (declared (bare h w r) d) = rw h refl
declared_close v (declared (valued h w o l c r) d) = rw h refl

pub item_length : {u : List Token} {i : ItemSyntax} → IsItem u i → 0 < length u
item_length (namespace n o c {a = a} {p = p} {u = u} xs h q k ds l) =
    omega (arith, length-append a (n ∷ (p ++ o ∷ (u ++ c ∷ []))))
item_length (outside d) = declared_length d
