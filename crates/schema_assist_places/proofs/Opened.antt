-- Where a role stands in a namespace, the front holds the opening of that namespace.
use Rattle.std.proofs.Common.{◌≡◌, ℕ, zero, suc, ◌+◌, List, [], ◌∷◌, ◌++◌, length, take, Option, Some, None, refl, sym}
use Rattle.std.proofs.Common.{ap, ◌∙◌, subst, arith, append_assoc}
use Rattle.std.specs.Prelude.{slice_get}
use Rattle.std.proofs.Math.Seq.{take-append_seam}
use Rattle.std.proofs.lemmas.List.{length-append}
use Rattle.schema_syntax_grammar.specs.declared.token_kind.TokenKind.{TokenKind}
use Rattle.schema_syntax_grammar.specs.declared.token_kind.TokenKind.TheVariants.{KwNamespace, LBrace, RBrace}
use Rattle.schema_syntax_grammar.specs.Grammar.{Phrase, schema, item, no_item, more_items}
use Rattle.schema_syntax_grammar.specs.Grammar.{namespace_item, decl_item}
use Rattle.schema_assist_places.specs.declared.role.Role.{Role}
use Rattle.schema_assist_places.specs.Homes.{alls, homes, StandsIn}
use Rattle.schema_assist_places.specs.Names.{IsOpened}

abbrev Kinds : Type 0
Kinds = List TokenKind

-- a namespace around a place is opened before it
abbrev At : Kinds → ℕ → Option ℕ → Type 0
At w n None = Unit {0}
At w n (Some i) = IsOpened (take n w) i

abbrev Each : Kinds → ℕ → List (Option ℕ) → Type 0
Each w n [] = Unit {0}
Each w n (h ∷ hs) = At w n h × Each w (n + 1) hs

each_both : (w : Kinds) (n : ℕ) (a b : List (Option ℕ)) → Each w n a → Each w (n + length a) b → Each w n (a ++ b)
each_both w n [] b e f = let none : n + 0 ≡ n = omega arith in subst (λ j. Each w j b) none f
each_both w n (h ∷ a) b e f =
    let next : n + length (h ∷ a) ≡ (n + 1) + length a = omega arith in
    (e.0, each_both w (n + 1) a b e.1 (subst (λ j. Each w j b) next f))

each_none : (w : Kinds) (n : ℕ) (u : Kinds) → Each w n (alls None u)
each_none w n [] = tt
each_none w n (k ∷ u) = (tt, each_none w (n + 1) u)

long_alls : (h : Option ℕ) (u : Kinds) → length (alls h u) ≡ length u
long_alls h [] = refl
long_alls h (k ∷ u) = ap (λ n. suc n) (long_alls h u)

opened_more : (u : Kinds) (i : ℕ) (v : Kinds) → IsOpened u i → IsOpened (u ++ v) i
opened_more u i v o = record {
  before = o.before;
  name = o.name;
  rest = o.rest ++ v;
  place = o.place;
  split = ap (λ z. z ++ v) o.split ∙ simp append_assoc refl;
  is = o.is;
}

each_inside : (u d post w : Kinds) (i : ℕ) → IsOpened u i → w ≡ u ++ (d ++ post) → Each w (length u) (alls (Some i) d)
each_inside u [] post w i o e = tt
each_inside u (k ∷ d) post w i o e =
    let cut : take (length u) w ≡ u = ap (take (length u)) e ∙ take-append_seam u ((k ∷ d) ++ post) in
    let whole : w ≡ (u ++ k ∷ []) ++ (d ++ post) = e ∙ sym (append_assoc u (k ∷ []) (d ++ post)) in
    let next : length (u ++ k ∷ []) ≡ length u + 1 = length-append u (k ∷ []) in (
      subst (λ z. IsOpened z i) (sym cut) o,
      subst (λ n. Each w n (alls (Some i) d)) next
          (each_inside (u ++ k ∷ []) d post w i (opened_more u i (k ∷ []) o) whole),
    )

named_item : (pre post w : Kinds) {a : Kinds} (r : Phrase item a) → w ≡ pre ++ (a ++ post)
    → Each w (length pre) (homes (length pre) r)
unfolding homes
named_item pre post w (namespace_item {a = a} {p = p} {d = d} c q r) e =
    let i = length pre + length a in
    let u = pre ++ (a ++ KwNamespace ∷ (p ++ LBrace ∷ [])) in
    let opened : IsOpened u i = record {
      before = pre ++ a;
      name = p;
      rest = [];
      place = length-append pre a;
      split = sym (append_assoc pre a (KwNamespace ∷ (p ++ LBrace ∷ [])));
      is = q;
    } in
    let whole : w ≡ u ++ (d ++ (RBrace ∷ post)) = e ∙ simp append_assoc refl in
    let la = long_alls None a in
    let lp = long_alls None p in
    let size : length u ≡ (((length pre + length (alls None a)) + 1) + length (alls None p)) + 1 =
    simp (la, lp, length-append) (omega arith) in
    each_both w (length pre) (alls None a) (None ∷ (alls None p ++ None ∷ (alls (Some i) d ++ None ∷ [])))
    (each_none w (length pre) a) (
      tt,
      each_both w ((length pre + length (alls None a)) + 1) (alls None p) (None ∷ (alls (Some i) d ++ None ∷ []))
          (each_none w ((length pre + length (alls None a)) + 1) p) (
            tt,
            each_both w ((((length pre + length (alls None a)) + 1) + length (alls None p)) + 1)
                (alls (Some i) d) (None ∷ [])
                (subst (λ n. Each w n (alls (Some i) d)) size
                (each_inside u d (RBrace ∷ post) w i opened whole)) (tt, tt),
          ),
    )
named_item pre post w {a = a} (decl_item r) e = each_none w (length pre) a

long_homes : {a : Kinds} (i : ℕ) (r : Phrase item a) → length (homes i r) ≡ length a
unfolding homes
long_homes i (namespace_item {a = a} {p = p} {d = d} c q r) =
    simp (length-append, long_alls None a, long_alls None p, long_alls (Some (i + length a)) d) refl
long_homes {a = a} i (decl_item r) = long_alls None a

named_schema : (pre w : Kinds) {a : Kinds} (r : Phrase schema a)
    → w ≡ pre ++ a → Each w (length pre) (homes (length pre) r)
unfolding homes
named_schema pre w no_item e = tt
named_schema pre w (more_items {a = a} {b = b} d r) e =
    let whole : w ≡ (pre ++ a) ++ b = e ∙ sym (append_assoc pre a b) in
    let size : length (pre ++ a) ≡ length pre + length a = length-append pre a in
    let rest = subst (λ n. Each w n (homes n r)) size (named_schema (pre ++ a) w r whole) in
    each_both w (length pre) (homes (length pre) d) (homes (length pre + length a) r) (named_item pre b w d e)
    (subst (λ n. Each w (length pre + n) (homes (length pre + length a) r)) (sym (long_homes (length pre) d)) rest)

each_get : (w : Kinds) (n : ℕ) (hs : List (Option ℕ)) (m i : ℕ) → Each w n hs → slice_get hs m ≡ Some (Some i)
    → IsOpened (take (n + m) w) i
each_get w n [] m i e g = cc
each_get w n (h ∷ hs) zero i e g =
    let same : h ≡ Some i = cc in
    let here : n + 0 ≡ n = omega arith in
    subst (λ j. IsOpened (take j w) i) (sym here) (subst (At w n) same e.0)
each_get w n (h ∷ hs) (suc m) i e g =
    let next : (n + 1) + m ≡ n + suc m = omega arith in
    subst (λ j. IsOpened (take j w) i) next (each_get w (n + 1) hs m i e.1 g)

-- what stands in a namespace is behind its opening
pub opened : (front : Kinds) (role : Role) (i : ℕ) → StandsIn front role (Some i) → IsOpened front i
opened front role i (more, s, h, g) =
    let o = each_get (front ++ more) 0 (homes 0 s) (length front) i (named_schema [] (front ++ more) s refl) g in
    let n : 0 + length front ≡ length front = omega arith in
    subst (λ z. IsOpened z i) (ap (λ j. take j (front ++ more)) n ∙ take-append_seam front more) o
