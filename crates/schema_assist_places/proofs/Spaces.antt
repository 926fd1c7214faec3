-- The namespace around each token is the one that was opened last, unless a declaration outside of namespaces came
-- after it.
use Rattle.std.proofs.Common.{◌≡◌, ℕ, zero, suc, ◌+◌, List, [], ◌∷◌, ◌++◌, length, take, Option, Some, None, refl, sym}
use Rattle.std.proofs.Common.{ap, ◌∙◌, subst, arith}
use Rattle.std.specs.Prelude.{slice_get}
use Rattle.std.proofs.lemmas.List.{length-append}
use Rattle.schema_syntax_grammar.specs.declared.token_kind.TokenKind.{TokenKind}
use Rattle.schema_syntax_grammar.specs.declared.token_kind.TokenKind.TheVariants.{KwEntity, KwExternal, KwType}
use Rattle.schema_syntax_grammar.specs.declared.token_kind.TokenKind.TheVariants.{KwAction, Identifier}
use Rattle.schema_syntax_grammar.specs.declared.token_kind.TokenKind.TheVariants.{StringLit, Comma, Semi, Colon}
use Rattle.schema_syntax_grammar.specs.declared.token_kind.TokenKind.TheVariants.{PathSep, RBrace, RBracket, Greater}
use Rattle.schema_syntax_grammar.specs.Grammar.{Nonterminal, schema, item, decl}
use Rattle.schema_syntax_grammar.specs.Grammar.{bare_decl}
use Rattle.schema_syntax_grammar.specs.Grammar.{Phrase, no_item, more_items, namespace_item}
use Rattle.schema_syntax_grammar.specs.Grammar.{decl_item, no_decl, more_decls, annotated, entity_decl, enum_decl}
use Rattle.schema_syntax_grammar.specs.Grammar.{external_entity, action_decl, external_action, common_decl, one_ident}
use Rattle.schema_syntax_grammar.specs.Grammar.{more_idents, no_parents, in_parents, no_shape, bare_shape, equals_shape}
use Rattle.schema_syntax_grammar.specs.Grammar.{no_tags, some_tags, no_string, last_string, more_strings, one_name}
use Rattle.schema_syntax_grammar.specs.Grammar.{more_names, ident_name, string_name, no_refs, some_refs, no_applies}
use Rattle.schema_syntax_grammar.specs.Grammar.{some_applies, no_app, last_app, more_apps, principal_app, resource_app}
use Rattle.schema_syntax_grammar.specs.Grammar.{context_path, context_record, one_type, listed_types, no_path}
use Rattle.schema_syntax_grammar.specs.Grammar.{last_path, more_paths, one_ref, listed_refs, no_ref, last_ref}
use Rattle.schema_syntax_grammar.specs.Grammar.{more_refs, plain_ref, typed_ref, path_type, set_type, record_type}
use Rattle.schema_syntax_grammar.specs.Grammar.{braces, no_attr, last_attr, more_attrs, one_attr, no_mark, question}
use Rattle.schema_syntax_grammar.specs.Grammar.{one_step, more_steps, no_ann, bare_ann, valued_ann}
use Rattle.schema_syntax_grammar.specs.Grammar.{Sentence}
use Rattle.schema_assist_places.specs.declared.role.Role.{Role}
use Rattle.schema_assist_places.specs.declared.role.Role.TheVariants.{TypePath, EntityPath, ContextPath, ActionRef}
use Rattle.schema_assist_places.specs.declared.duty.Duty.{Duty}
use Rattle.schema_assist_places.specs.declared.duty.Duty.TheVariants.{Begins, Opens, Outside, Plain}
use Rattle.schema_assist_places.specs.Duties.{plains, begun, starts, duties}
use Rattle.schema_assist_places.specs.Trace.{space_after, space_behind}
use Rattle.schema_assist_places.specs.Homes.{alls, homes}

-- a duty that changes no namespace
abbrev Still : Duty → Type 0
Still d = (i : ℕ) (now : Option ℕ) → space_after now i d ≡ now

-- as many duties as kinds, and none changes the namespace
abbrev Quiet : List TokenKind → List Duty → Type 0
Quiet [] [] = Unit {0}
Quiet [] (d ∷ ds) = ⊥
Quiet (k ∷ w) [] = ⊥
Quiet (k ∷ w) (d ∷ ds) = Still d × Quiet w ds

both : (a : List TokenKind) (ds : List Duty) (b : List TokenKind) (es : List Duty) → Quiet a ds → Quiet b es
    → Quiet (a ++ b) (ds ++ es)
both [] [] b es q r = r
both [] (d ∷ ds) b es q r = absurd q
both (k ∷ a) [] b es q r = absurd q
both (k ∷ a) (d ∷ ds) b es q r = (q.0, both a ds b es q.1 r)

still_plain : Still Plain
still_plain i now = refl

still_begun : (role : Role) (k : TokenKind) → Still (begun role k)
still_begun role Identifier = λ i now. refl
still_begun role _ = λ i now. refl

quiet_plains : (w : List TokenKind) → Quiet w (plains w)
quiet_plains [] = tt
quiet_plains (k ∷ w) = (still_plain, quiet_plains w)

quiet_starts : (role : Role) (w : List TokenKind) → Quiet w (starts role w)
quiet_starts role [] = tt
quiet_starts role (k ∷ w) = (still_begun role k, quiet_plains w)

-- between two parts, or behind one, a token that changes nothing
between : (a : List TokenKind) (ds : List Duty) (k : TokenKind) (b : List TokenKind) (es : List Duty) → Quiet a ds
    → Quiet b es → Quiet (a ++ k ∷ b) (ds ++ Plain ∷ es)
between a ds k b es q r = both a ds (k ∷ b) (Plain ∷ es) q (still_plain, r)

closed : (a : List TokenKind) (ds : List Duty) (k : TokenKind) → Quiet a ds → Quiet (a ++ k ∷ []) (ds ++ Plain ∷ [])
closed a ds k q = between a ds k [] [] q tt

-- annotations, the first word of a declaration, and the rest of it
record Led (o : Duty) (w : List TokenKind) (ds : List Duty) : Type 0 where
  notes : List TokenKind
  word : TokenKind
  rest : List TokenKind
  marks : List Duty
  whole : w ≡ notes ++ word ∷ rest
  all : ds ≡ plains notes ++ o ∷ marks
  quiet : Quiet rest marks

abbrev Calm : Nonterminal → Duty → List TokenKind → List Duty → Type 0
Calm schema o w ds = Unit {0}
Calm item o w ds = Unit {0}
Calm decl o w ds = Led o w ds
Calm bare_decl o w ds = (k : TokenKind) × (r : List TokenKind) × (m : List Duty) × (w ≡ k ∷ r) × (ds ≡ o ∷ m)
    × Quiet r m
Calm _ o w ds = Quiet w ds

led_quiet : (w : List TokenKind) (ds : List Duty) → Led Plain w ds → Quiet w ds
led_quiet w ds l = rw (l.whole, l.all)
    (between l.notes (plains l.notes) l.word l.rest l.marks (quiet_plains l.notes) l.quiet)

calm : {p : Nonterminal} {w : List TokenKind} (o : Duty) (r : Phrase p w) → Calm p o w (duties o r)
unfolding duties
calm o no_item = tt
calm o (more_items d r) = tt
calm o (namespace_item c q r) = tt
calm o (decl_item r) = tt
calm o no_decl = tt
calm o (more_decls {a = a} {b = b} d r) =
    both a (duties Plain d) b (duties Plain r) (led_quiet a (duties Plain d) (calm Plain d)) (calm Plain r)
calm o (annotated {a = a} {b = b} c r) =
    let d = calm o r in
    record {
      notes = a;
      word = d.0;
      rest = d.1;
      marks = d.2;
      whole = ap (λ z. a ++ z) d.3;
      all = ap (λ z. plains a ++ z) d.4;
      quiet = d.5;
    }
calm o (entity_decl {i = i} {p = p} {s = s} {t = t} c q r u) = (
  KwEntity,
  _,
  _,
  refl,
  refl,
  both i (plains i) _ _ (quiet_plains i) (both p (duties o q) _ _ (calm o q) (both s (duties o r) _ _ (calm o r)
      (closed t (duties o u) Semi (calm o u)))),
)
calm o (enum_decl {i = i} {s = s} c r) = (
  KwEntity,
  _,
  _,
  refl,
  refl,
  both i (plains i) _ _ (quiet_plains i) (
    still_plain,
    (
      still_plain,
      both s (plains s) (RBracket ∷ Semi ∷ []) (Plain ∷ Plain ∷ []) (quiet_plains s) (still_plain, (still_plain, tt)),
    ),
  ),
)
calm o (external_entity {i = i} {p = p} c q) = (
  KwExternal,
  _,
  _,
  refl,
  refl,
  (still_plain, both i (plains i) _ _ (quiet_plains i) (closed p (duties o q) Semi (calm o q))),
)
calm o (action_decl {n = b} {r = r} {a = a} c q u) = (
  KwAction,
  _,
  _,
  refl,
  refl,
  both b (plains b) _ _ (quiet_plains b) (both r (duties o q) _ _ (calm o q)
      (closed a (duties o u) Semi (calm o u))),
)
calm o (external_action {n = b} {r = r} c q) = (
  KwExternal,
  _,
  _,
  refl,
  refl,
  (still_plain, both b (plains b) _ _ (quiet_plains b) (closed r (duties o q) Semi (calm o q))),
)
calm o (common_decl {i = i} {t = t} h r) = (
  KwType,
  _,
  _,
  refl,
  refl,
  (still_plain, (still_plain, closed t (duties o r) Semi (calm o r))),
)
calm {w = w} o (one_ident h) = quiet_plains w
calm {w = w} o (more_idents h r) = quiet_plains w
calm o no_parents = tt
calm o (in_parents r) = (still_plain, calm o r)
calm o no_shape = tt
calm o (bare_shape r) = calm o r
calm o (equals_shape r) = (still_plain, calm o r)
calm o no_tags = tt
calm o (some_tags r) = (still_plain, calm o r)
calm {w = w} o no_string = tt
calm {w = w} o last_string = quiet_plains w
calm {w = w} o (more_strings r) = quiet_plains w
calm {w = w} o (one_name r) = quiet_plains w
calm {w = w} o (more_names r t) = quiet_plains w
calm {w = w} o (ident_name h) = quiet_plains w
calm {w = w} o string_name = quiet_plains w
calm o no_refs = tt
calm o (some_refs r) = (still_plain, calm o r)
calm o no_applies = tt
calm o (some_applies {a = a} r) = (still_plain, (still_plain, closed a (duties o r) RBrace (calm o r)))
calm o no_app = tt
calm o (last_app r) = calm o r
calm o (more_apps {a = a} {b = b} r t) = between a (duties o r) Comma b (duties o t) (calm o r) (calm o t)
calm o (principal_app r) = (still_plain, (still_plain, calm o r))
calm o (resource_app r) = (still_plain, (still_plain, calm o r))
calm o (context_path {a = a} r) = (still_plain, (still_plain, quiet_starts ContextPath a))
calm o (context_record r) = (still_plain, (still_plain, calm o r))
calm o (one_type {a = a} r) = quiet_starts EntityPath a
calm o (listed_types {a = a} r) = (still_plain, closed a (duties o r) RBracket (calm o r))
calm o no_path = tt
calm o (last_path {a = a} r) = quiet_starts EntityPath a
calm o (more_paths {a = a} {b = b} r t) =
    between a (starts EntityPath a) Comma b (duties o t) (quiet_starts EntityPath a) (calm o t)
calm o (one_ref r) = calm o r
calm o (listed_refs {a = a} r) = (still_plain, closed a (duties o r) RBracket (calm o r))
calm o no_ref = tt
calm o (last_ref r) = calm o r
calm o (more_refs {a = a} {b = b} r t) = between a (duties o r) Comma b (duties o t) (calm o r) (calm o t)
calm o (plain_ref {a = a} r) = quiet_starts ActionRef a
calm o (typed_ref {a = a} r) =
    both a (starts ActionRef a) (PathSep ∷ StringLit ∷ []) (Plain ∷ Plain ∷ []) (quiet_starts ActionRef a)
    (still_plain, (still_plain, tt))
calm o (path_type {a = a} r) = quiet_starts TypePath a
calm o (set_type {a = a} r) = (still_plain, (still_plain, closed a (duties o r) Greater (calm o r)))
calm o (record_type r) = calm o r
calm o (braces {a = a} r) = (still_plain, closed a (duties o r) RBrace (calm o r))
calm o no_attr = tt
calm o (last_attr r) = calm o r
calm o (more_attrs {a = a} {b = b} r t) = between a (duties o r) Comma b (duties o t) (calm o r) (calm o t)
calm o (one_attr {a = a} {n = b} {m = m} {t = t} c r q u) =
    both a (plains a) _ _ (quiet_plains a) (both b (plains b) _ _ (quiet_plains b)
    (between m (plains m) Colon t (duties o u) (quiet_plains m) (calm o u)))
calm {w = w} o no_mark = tt
calm {w = w} o question = quiet_plains w
calm {w = w} o (one_step h) = quiet_plains w
calm {w = w} o (more_steps h r) = quiet_plains w
calm {w = w} o no_ann = tt
calm {w = w} o (bare_ann h r) = quiet_plains w
calm {w = w} o (valued_ann h r) = quiet_plains w

-- wherever a path in a role begins, the namespace is this one

abbrev At : Duty → Option ℕ → Option ℕ → Type 0
At d home now = (role : Role) → d ≡ Begins role → home ≡ now

abbrev Agree : ℕ → Option ℕ → List Duty → List (Option ℕ) → Type 0
Agree i now [] [] = Unit {0}
Agree i now [] (h ∷ hs) = ⊥
Agree i now (d ∷ ds) [] = ⊥
Agree i now (d ∷ ds) (h ∷ hs) = At d h now × Agree (i + 1) (space_after now i d) ds hs

plain_at : (home now : Option ℕ) → At Plain home now
plain_at home now role e = cc

agree_both : (i : ℕ) (now : Option ℕ) (ds : List Duty) (hs : List (Option ℕ)) (es : List Duty) (gs : List (Option ℕ))
    → Agree i now ds hs → Agree (i + length ds) (space_behind i now ds) es gs → Agree i now (ds ++ es) (hs ++ gs)
agree_both i now [] [] es gs a b = let zero_more : i + 0 ≡ i = omega arith in subst (λ j. Agree j now es gs) zero_more b
agree_both i now [] (h ∷ hs) es gs a b = absurd a
agree_both i now (d ∷ ds) [] es gs a b = absurd a
agree_both i now (d ∷ ds) (h ∷ hs) es gs a b =
    let next : i + length (d ∷ ds) ≡ (i + 1) + length ds = omega arith in (
      a.0,
      agree_both (i + 1) (space_after now i d) ds hs es gs a.1
          (subst (λ j. Agree j (space_behind (i + 1) (space_after now i d) ds) es gs) next b),
    )

agree_quiet : (i : ℕ) (now : Option ℕ) (w : List TokenKind) (ds : List Duty) → Quiet w ds → Agree i now ds (alls now w)
agree_quiet i now [] [] q = tt
agree_quiet i now [] (d ∷ ds) q = absurd q
agree_quiet i now (k ∷ w) [] q = absurd q
agree_quiet i now (k ∷ w) (d ∷ ds) q = (
  (λ role e. refl),
  subst (λ n. Agree (i + 1) n ds (alls now w))
      (sym (q.0 i now)) (agree_quiet (i + 1) now w ds q.1),
)

agree_plains : (i : ℕ) (now home : Option ℕ) (w : List TokenKind) → Agree i now (plains w) (alls home w)
agree_plains i now home [] = tt
agree_plains i now home (k ∷ w) = (plain_at home now, agree_plains (i + 1) now home w)

behind_quiet : (i : ℕ) (now : Option ℕ) (w : List TokenKind) (ds : List Duty) → Quiet w ds → space_behind i now ds ≡ now
behind_quiet i now [] [] q = refl
behind_quiet i now [] (d ∷ ds) q = absurd q
behind_quiet i now (k ∷ w) [] q = absurd q
behind_quiet i now (k ∷ w) (d ∷ ds) q =
    ap (λ n. space_behind (i + 1) n ds) (q.0 i now) ∙ behind_quiet (i + 1) now w ds q.1

long_quiet : (w : List TokenKind) (ds : List Duty) → Quiet w ds → length ds ≡ length w
long_quiet [] [] q = refl
long_quiet [] (d ∷ ds) q = absurd q
long_quiet (k ∷ w) [] q = absurd q
long_quiet (k ∷ w) (d ∷ ds) q = ap (λ n. suc n) (long_quiet w ds q.1)

alls_both : (home : Option ℕ) (a b : List TokenKind) → alls home (a ++ b) ≡ alls home a ++ alls home b
alls_both home [] b = refl
alls_both home (k ∷ a) b = ap (λ r. home ∷ r) (alls_both home a b)

agree_led_parts : (i : ℕ) (now : Option ℕ) (n : List TokenKind) (k : TokenKind) (r : List TokenKind) (m : List Duty)
    → Quiet r m → Agree i now (plains n ++ Outside ∷ m) (alls None (n ++ k ∷ r))
agree_led_parts i now n k r m q =
    let parts = agree_both i now (plains n) (alls None n) (Outside ∷ m) (None ∷ alls None r) (agree_plains i now None n)
    ((λ role e. cc), agree_quiet ((i + length (plains n)) + 1) None r m q) in
    subst (Agree i now (plains n ++ Outside ∷ m)) (sym (alls_both None n (k ∷ r))) parts

agree_led : (i : ℕ) (now : Option ℕ) (w : List TokenKind) (ds : List Duty) → Led Outside w ds
    → Agree i now ds (alls None w)
agree_led i now w ds l = rw (l.whole, l.all) (agree_led_parts i now l.notes l.word l.rest l.marks l.quiet)

long_parts : (n : List TokenKind) (k : TokenKind) (r : List TokenKind) (m : List Duty) → Quiet r m
    → length (plains n ++ Outside ∷ m) ≡ length (n ++ k ∷ r)
long_parts [] k r m q = ap (λ z. suc z) (long_quiet r m q)
long_parts (j ∷ n) k r m q = ap (λ z. suc z) (long_parts n k r m q)

long_led : (w : List TokenKind) (ds : List Duty) → Led Outside w ds → length ds ≡ length w
long_led w ds l = rw (l.whole, l.all) (long_parts l.notes l.word l.rest l.marks l.quiet)

long_item : {w : List TokenKind} (r : Phrase item w) → length (duties Outside r) ≡ length w
unfolding duties
long_item (namespace_item {a = a} {p = p} {d = d} c q r) =
    let la = long_quiet a (plains a) (quiet_plains a) in
    let lp = long_quiet p (plains p) (quiet_plains p) in
    let ld = long_quiet d (duties Outside r) (calm Outside r) in
    simp (length-append, la, lp, ld) refl
long_item {w = w} (decl_item r) = long_led w (duties Outside r) (calm Outside r)

agree_item : {w : List TokenKind} (i : ℕ) (now : Option ℕ) (r : Phrase item w)
    → Agree i now (duties Outside r) (homes i r)
unfolding duties homes
agree_item i now (namespace_item {a = a} {p = p} {d = d} c q r) =
    let j = i + length (plains a) in
    let inner_marks = Plain ∷ (duties Outside r ++ Plain ∷ []) in
    let inner_homes = None ∷ (alls (Some (i + length a)) d ++ None ∷ []) in
    let place : j ≡ i + length a = ap (λ n. i + n) (long_quiet a (plains a) (quiet_plains a)) in
    let inner = space_behind (j + 1) (Some j) (plains p) in
    let same : inner ≡ Some (i + length a) = behind_quiet (j + 1) (Some j) p (plains p) (quiet_plains p)
    ∙ ap (λ n. Some n) place in
    let k = ((j + 1) + length (plains p)) + 1 in
    let inside : Agree k inner (duties Outside r) (alls (Some (i + length a)) d) =
    subst (λ h. Agree k inner (duties Outside r) (alls h d)) same
    (agree_quiet k inner d (duties Outside r) (calm Outside r)) in
    agree_both i now (plains a) (alls None a) (Opens ∷ (plains p ++ inner_marks))
    (None ∷ (alls None p ++ inner_homes)) (agree_plains i now None a) (
      (λ role e. cc),
      agree_both (j + 1) (Some j) (plains p) (alls None p) inner_marks inner_homes (agree_plains (j + 1)
          (Some j) None p) (
            plain_at None inner,
            agree_both k inner (duties Outside r) (alls (Some (i + length a)) d) (Plain ∷ []) (None ∷ []) inside
                (plain_at None _, tt),
          ),
    )
agree_item {w = w} i now (decl_item r) = agree_led i now w (duties Outside r) (calm Outside r)

agree_schema : {w : List TokenKind} (i : ℕ) (now : Option ℕ) (r : Phrase schema w)
    → Agree i now (duties Outside r) (homes i r)
unfolding duties homes
agree_schema i now no_item = tt
agree_schema i now (more_items {a = a} {b = b} d r) =
    agree_both i now (duties Outside d) (homes i d) (duties Outside r) (homes (i + length a) r) (agree_item i now d)
    (subst (λ n. Agree (i + n) (space_behind i now (duties Outside d)) (duties Outside r) (homes (i + length a) r))
    (sym (long_item d)) (agree_schema (i + length a) (space_behind i now (duties Outside d)) r))

agree_get : (i : ℕ) (now : Option ℕ) (ds : List Duty) (hs : List (Option ℕ)) (n : ℕ) (role : Role) → Agree i now ds hs
    → slice_get ds n ≡ Some (Begins role) → slice_get hs n ≡ Some (space_behind i now (take n ds))
agree_get i now [] [] n role a e = cc
agree_get i now [] (h ∷ hs) n role a e = absurd a
agree_get i now (d ∷ ds) [] n role a e = absurd a
agree_get i now (d ∷ ds) (h ∷ hs) zero role a e =
    let same : d ≡ Begins role = cc in ap (λ x. Some x) (a.0 role same)
agree_get i now (d ∷ ds) (h ∷ hs) (suc n) role a e = agree_get (i + 1) (space_after now i d) ds hs n role a.1 e

-- the namespace around an identifier that begins a path in a role
pub home_of : {w : List TokenKind} (s : Sentence w) (n : ℕ) (role : Role)
    → slice_get (duties Outside s) n ≡ Some (Begins role)
    → slice_get (homes 0 s) n ≡ Some (space_behind 0 None (take n (duties Outside s)))
home_of s n role e = agree_get 0 None (duties Outside s) (homes 0 s) n role (agree_schema 0 None s) e
