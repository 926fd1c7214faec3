-- The faults of annotations: of those that were read there is none, and the one at which reading stops is the first.
use Rattle.std.proofs.Common.{◌≡◌, ◌≢◌, ℕ, zero, suc, ◌≤◌, List, [], ◌∷◌, ◌++◌, map, Option, None, Some, ◌⊎◌, inl, inr}
use Rattle.std.proofs.Common.{refl, sym, ap, ◌∙◌, subst, append_assoc, append-nil, arith}
use Rattle.std.specs.List.{All, AllZip, AllPairs, AllByRecursion}
use Rattle.std.specs.List.Sorted.{IsStrictlySortedBy}
use Rattle.std.specs.Option.{option_to_list}
use Rattle.std.specs.Map.{lookup}
use Rattle.std.specs.Str.{bytes_eq}
use Rattle.std.proofs.lemmas.List.{map-append}
use Rattle.std.proofs.lemmas.List.Elements.{All-from_recursion, recursion_from_All, All-head, All-tail, All-nil}
use Rattle.std.proofs.lemmas.Grind.{flat_map-append}
use Rattle.std.proofs.lemmas.Slice.Zip.{AllZip-long}
use Rattle.std.proofs.lemmas.List.Elements.{All-weaker}
use Rattle.cedar_data.proofs.Lists.{nothing_is}
use Rattle.cedar_data.proofs.Every.{at_middle, all_unmapped}
use Rattle.schema_syntax_tokens.specs.declared.token.Token.{Token}
use Rattle.cedar_identifiers.proofs.Same.{any_id_same}
use Rattle.schema_syntax_parser.specs.declared.syntax.AnnotationSyntax.{AnnotationSyntax}
use Rattle.schema_syntax_errors.specs.declared.user_error.UserError.{UserError}
use Rattle.schema_syntax_errors.specs.declared.user_error.UserError.TheVariants.{DuplicateAnnotations}
use Rattle.schema_syntax_reader.specs.declared.stopped.Stopped.TheVariants.{User}
use Rattle.schema_syntax_reader.specs.Sites.{annotations}
use Rattle.schema_syntax_reader.specs.Leaves.{word_at, Notes, HasNote, AreNotes}
use Rattle.schema_syntax_reader.specs.UserFaults.{FaultAt, IsBadEscapeAt, IsOtherKey, note_escape, duplicate}
use Rattle.schema_syntax_reader.specs.Placed.{Rise, note_tokens, NoSiteFault}
use Rattle.schema_syntax_reader.specs.Stops.{IsFaultOf, IsEscapeStop}
use Rattle.schema_syntax_reader.specs.Deduplicated.{Placed, placed_key, key_place, value_of, HaveOtherKeys, AreKept}
use Rattle.schema_syntax_reader.specs.Deduplicated.{IsTwice}
use Rattle.schema_syntax_reader.specs.ReadNotes.{NoBadValue, IsBadValue, IsKeyRead, IsRead, AreReadTo, AreRead}
use Rattle.schema_syntax_reader.proofs.RisingNotes.{kept_found, kept_as_many}
use Rattle.schema_syntax_reader.proofs.SiteFaults.{end_of}

-- an item of two lists, joined, is in the first or in the second
two_splits : {A : Type 0} (done rest fr : List A) (a : A) (bk : List A) → done ++ rest ≡ fr ++ a ∷ bk
    → ((y : List A) × (done ≡ fr ++ a ∷ y) × (bk ≡ y ++ rest)) ⊎
    ((z : List A) × (rest ≡ z ++ a ∷ bk) × (fr ≡ done ++ z))
two_splits [] rest fr a bk e = inr (fr, e, refl)
two_splits (x ∷ done) rest [] a bk e = inl (done, cc, cc)
two_splits (x ∷ done) rest (y ∷ fr) a bk e =
    let same : x ≡ y = cc in
    let below : done ++ rest ≡ fr ++ a ∷ bk = cc in
    elim (two_splits done rest fr a bk below) [
      | inl r ↦ inl (r.0, λ i. same i ∷ r.1 i, r.2)
      | inr r ↦ inr (r.0, r.1, λ i. sym same i ∷ r.2 i)
    ]

zip_split : {A B : Type 0} (R : A → B → Type 0) (xs : List A) (D : List B) (p : B) (b : List B)
    → AllZip R xs (D ++ p ∷ b)
    → (done : List A) × (x : A) × (rest : List A) × (xs ≡ done ++ x ∷ rest) × AllZip R done D × R x p × AllZip R rest b
zip_split R [] [] p b h = absurd h
zip_split R [] (d ∷ D) p b h = absurd h
zip_split R (x ∷ xs) [] p b h = ([], x, xs, refl, tt, h.0, h.1)
zip_split R (x ∷ xs) (d ∷ D) p b h =
    let r = zip_split R xs D p b h.1 in (x ∷ r.0, r.1, r.2, ap (λ l. x ∷ l) r.3, (h.0, r.4), r.5, r.6)

-- ---- keys
abbrev words : List ℕ → List AnnotationSyntax → List (List ℕ)
words source list = map (λ a. word_at source a.key) list

abbrev texts : List Placed → List (List ℕ)
texts ps = map (λ p. (placed_key p).text) ps

words_read : (source : List ℕ) (list : List AnnotationSyntax) (ps : List Placed) → AllZip (IsRead source) list ps
    → words source list ≡ texts ps
words_read source [] [] h = refl
words_read source [] (p ∷ ps) h = absurd h
words_read source (a ∷ as') [] h = absurd h
words_read source (a ∷ as') (p ∷ ps) h = λ i. sym h.0.key.0 i ∷ words_read source as' ps h.1 i

-- no two are the same
abbrev Apart : List (List ℕ) → Type 0
Apart [] = Unit {0}
Apart (w ∷ ws) = AllByRecursion (λ v. w ≢ v) ws × Apart ws

others : (p : Placed) (ps : List Placed) → All (HaveOtherKeys p) ps
    → AllByRecursion (λ v. (placed_key p).text ≢ v) (texts ps)
others p [] h = tt
others p (q ∷ qs) h = (
  λ e. All-head (HaveOtherKeys p) q qs h (any_id_same (placed_key p) (placed_key q) e),
  others p
      qs (All-tail (HaveOtherKeys p) q qs h),
)

apart_texts : (ps : List Placed) → AllPairs HaveOtherKeys ps → Apart (texts ps)
apart_texts [] h = tt
apart_texts (p ∷ ps) h = (
  others p ps (λ k d lt. h zero (suc k) d (omega arith) (omega arith)),
  apart_texts ps
      (λ i j d lt b. h (suc i) (suc j) d (omega arith) (omega arith)),
)

apart_split : {A : Type 0} (w : A → List ℕ) (fr : List A) (f : A) (mid : List A) (s : A) (y : List A)
    → Apart (map w (fr ++ f ∷ (mid ++ s ∷ y))) → w f ≢ w s
apart_split w [] f mid s y h = at_middle (λ a. w f ≢ w a) mid s y
    (all_unmapped (λ v. w f ≢ v) w (mid ++ s ∷ y) h.0)
apart_split w (x ∷ fr) f mid s y h = apart_split w fr f mid s y h.1

others_front : {A : Type 0} (w : A → List ℕ) (key : List ℕ) (fr : List A) (f : A) (mi : List A)
    → Apart (map w (fr ++ f ∷ mi)) → w f ≡ key → AllByRecursion (λ a. w a ≡ key → ⊥) fr
others_front w key [] f mi h e = tt
others_front w key (x ∷ fr) f mi h e = (
  λ k. at_middle (λ a. w x ≢ w a) fr f mi (all_unmapped (λ v. w x ≢ v) w (fr ++ f ∷ mi) h.0) (k ∙ sym e),
  others_front w key fr f mi h.1 e,
)

others_middle : {A : Type 0} (w : A → List ℕ) (key : List ℕ) (fr : List A) (f : A) (mi : List A)
    → Apart (map w (fr ++ f ∷ mi)) → w f ≡ key → AllByRecursion (λ a. w a ≡ key → ⊥) mi
others_middle w key [] f mi h e =
    recursion_from_All (λ a. w a ≡ key → ⊥) mi
    (All-weaker (λ a. w f ≢ w a) (λ a. w a ≡ key → ⊥) (λ a other k. other (e ∙ sym k)) mi
    (All-from_recursion (λ a. w f ≢ w a) mi (all_unmapped (λ v. w f ≢ v) w mi h.0)))
others_middle w key (x ∷ fr) f mi h e = others_middle w key fr f mi h.1 e

-- ---- values
all_lawful : (source : List ℕ) (list : List AnnotationSyntax) (ps : List Placed) → AllZip (IsRead source) list ps
    → AllByRecursion (λ a. NoBadValue source a.value) list
all_lawful source [] ps h = tt
all_lawful source (a ∷ as') [] h = absurd h
all_lawful source (a ∷ as') (p ∷ ps) h = (h.0.lawful, all_lawful source as' ps h.1)

lawful_split : (source : List ℕ) (fr : List AnnotationSyntax) (a : AnnotationSyntax) (y : List AnnotationSyntax)
    (t : Token) (at : ℕ)
    → AllByRecursion (λ x. NoBadValue source x.value) (fr ++ a ∷ y) → a.value ≡ Some t
    → IsBadEscapeAt source t at → ⊥
lawful_split source [] a y t at h e bad = let free = subst (NoBadValue source) e h.0 in free at bad
lawful_split source (x ∷ fr) a y t at h e bad = lawful_split source fr a y t at h.1 e bad

-- ---- ends
abbrev Behind : ℕ → List Token → Type 0
Behind end ts = AllByRecursion (λ t. end ≤ t.loc.end) ts

skip : (end : ℕ) (xs ys : List Token) → Behind end (xs ++ ys) → Behind end ys
skip end [] ys h = h
skip end (x ∷ xs) ys h = skip end xs ys h.1

behind_key : (end : ℕ) (fr : List AnnotationSyntax) (a : AnnotationSyntax) (bk : List AnnotationSyntax)
    → Behind end (note_tokens (fr ++ a ∷ bk)) → end ≤ a.key.loc.end
behind_key end [] a bk h = h.0
behind_key end (x ∷ fr) a bk h =
    behind_key end fr a bk (skip end (option_to_list x.value) (note_tokens (fr ++ a ∷ bk)) h.1)

behind_value : (end : ℕ) (fr : List AnnotationSyntax) (a : AnnotationSyntax) (bk : List AnnotationSyntax) (t : Token)
    → Behind end (note_tokens (fr ++ a ∷ bk)) → a.value ≡ Some t → end ≤ t.loc.end
behind_value end [] a bk t h e =
    let there = subst (λ v. Behind end (option_to_list v ++ note_tokens bk)) e h.1 in there.0
behind_value end (x ∷ fr) a bk t h e =
    behind_value end fr a bk t (skip end (option_to_list x.value) (note_tokens (fr ++ a ∷ bk)) h.1) e

rise_tokens : (xs ys : List Token) → Rise (xs ++ ys) → Rise ys
rise_tokens [] ys h = h
rise_tokens (x ∷ xs) ys h = rise_tokens xs ys h.1

rise_rest : (done rest : List AnnotationSyntax) → Rise (note_tokens (done ++ rest)) → Rise (note_tokens rest)
rise_rest done rest h = rise_tokens (note_tokens done) (note_tokens rest)
    (subst Rise (flat_map-append (λ a. a.key ∷ option_to_list a.value) done rest) h)

-- the tokens from a key on end no earlier than it
from_key : (s : AnnotationSyntax) (rest : List AnnotationSyntax) → Rise (note_tokens (s ∷ rest))
    → Behind s.key.loc.end (note_tokens (s ∷ rest))
from_key s rest h = (
  omega arith,
  recursion_from_All (λ t. s.key.loc.end ≤ t.loc.end)
      (option_to_list s.value ++ note_tokens rest) h.0,
)

past_value : (s : AnnotationSyntax) (rest : List AnnotationSyntax) (t : Token) → s.value ≡ Some t
    → Rise (note_tokens (s ∷ rest)) → Behind t.loc.end (note_tokens rest)
past_value s rest t e h = let there = subst (λ v. Rise (option_to_list v ++ note_tokens rest)) e h.1 in
    recursion_from_All (λ u. t.loc.end ≤ u.loc.end) (note_tokens rest) there.0

value_or_later : (s : AnnotationSyntax) (rest z : List AnnotationSyntax) (a : AnnotationSyntax)
    (bk : List AnnotationSyntax) (t u : Token)
    → s ∷ rest ≡ z ++ a ∷ bk → s.value ≡ Some t → a.value ≡ Some u
    → Behind t.loc.end (note_tokens rest) → t.loc.end ≤ u.loc.end
value_or_later s rest [] a bk t u e has has' h =
    let same : s ≡ a = cc in
    let tokens : Some t ≡ Some u = sym has ∙ (ap (λ x. x.value) same ∙ has') in
    let token : t ≡ u = cc in
    subst (λ x. t.loc.end ≤ x.loc.end) token (omega arith)
value_or_later s rest (x ∷ z) a bk t u e has has' h =
    let below : rest ≡ z ++ a ∷ bk = cc in
    behind_value t.loc.end z a bk u (subst (λ l. Behind t.loc.end (note_tokens l)) below h) has'

-- ---- the faults
-- nothing that was read has a fault
pub none_at : (source : List ℕ) (list : List AnnotationSyntax) (ps : List Placed) (notes : Notes)
    → AllZip (IsRead source) list ps → AreKept ps notes → NoSiteFault source (annotations list)
none_at source list ps notes h kept = λ fault end x.
    let apart : Apart (words source list) = subst Apart (sym (words_read source list ps h))
    (apart_texts ps kept.apart) in
    elim (end_of source (annotations list) fault end x) [
      | inl e ↦ lawful_split source e.front e.here e.back e.value e.at
          (subst (λ l. AllByRecursion (λ a. NoBadValue source a.value) l) e.split (all_lawful source list ps h)) e.has
          e.bad
      | inr e ↦ apart_split (λ a. word_at source a.key) e.front e.first e.middle e.second e.back
          (subst (λ l. Apart (words source l)) e.split apart) e.same
    ]

each_note : (source : List ℕ) (notes : Notes) (list : List AnnotationSyntax) (ps : List Placed)
    → AllZip (IsRead source) list ps
    → AllByRecursion (λ p. lookup (λ key. bytes_eq key.text (placed_key p).text) notes ≡ Some (value_of p)) ps
    → AllByRecursion (HasNote source notes) list
each_note source notes [] ps h found = tt
each_note source notes (a ∷ as') [] h found = absurd h
each_note source notes (a ∷ as') (p ∷ ps) h found = (
  (value_of p, ap (λ w. lookup (λ key. bytes_eq key.text w) notes) (sym h.0.key.0) ∙ found.0, h.0.value),
  each_note
      source notes as' ps h.1 found.1,
)

pub are_notes : (source : List ℕ) (list : List AnnotationSyntax) (ps : List Placed) (notes : Notes)
    → AllZip (IsRead source) list ps → AreKept ps notes → AreNotes source list notes
are_notes source list ps notes h kept = record {
  sorted = kept.rising;
  as_many = kept_as_many ps notes kept ∙ AllZip-long (IsRead source) list ps h;
  each = All-from_recursion (HasNote source notes) list (each_note source notes list ps h (kept_found ps notes kept));
}

-- a key stands again behind what was read
key_stops : (source : List ℕ) (list done : List AnnotationSyntax) (s : AnnotationSyntax)
    (rest : List AnnotationSyntax) (front : List Placed) (old : Placed) (middle : List Placed) (new : Placed)
    (fault : UserError)
    → Rise (note_tokens list)
    → list ≡ done ++ s ∷ rest → AllZip (IsRead source) done (front ++ old ∷ middle) → IsKeyRead source s new
    → AllPairs HaveOtherKeys (front ++ old ∷ middle) → placed_key new ≡ placed_key old
    → fault ≡ DuplicateAnnotations (placed_key new) (record { node = tt; loc = key_place old })
    (record { node = tt; loc = key_place new })
    → IsFaultOf source (annotations list) fault
key_stops source list done s rest front old middle new fault rise split read key pairs again told =
    let w = λ (a : AnnotationSyntax). word_at source a.key in
    let r = zip_split (IsRead source) done front old middle read in
    let f = r.1 in
    let apart : Apart (words source done) = subst Apart (sym (words_read source done (front ++ old ∷ middle) read))
    (apart_texts (front ++ old ∷ middle) pairs) in
    let parts : Apart (words source (r.0 ++ f ∷ r.2)) = subst (λ l. Apart (words source l)) r.3 apart in
    let first : word_at source f.key ≡ (placed_key new).text = sym r.5.key.0 ∙ ap (λ k. k.text) (sym again) in
    let second : word_at source s.key ≡ (placed_key new).text = sym key.0 in
    let whole : list ≡ r.0 ++ f ∷ (r.2 ++ s ∷ rest) = split
    ∙ (ap (λ l. l ++ s ∷ rest) r.3 ∙ append_assoc r.0 (f ∷ r.2) (s ∷ rest)) in
    let here : FaultAt source (annotations list)
    (DuplicateAnnotations (placed_key new) (record { node = tt; loc = Some f.key.loc })
    (record { node = tt; loc = Some s.key.loc })) s.key.loc.end =
    duplicate r.0 r.2 rest f s (placed_key new) whole first second
    (All-from_recursion (IsOtherKey source (placed_key new).text) r.0
    (others_front w (placed_key new).text r.0 f r.2 parts first))
    (All-from_recursion (IsOtherKey source (placed_key new).text) r.2
    (others_middle w (placed_key new).text r.0 f r.2 parts first)) in
    let same : fault ≡ DuplicateAnnotations (placed_key new) (record { node = tt; loc = Some f.key.loc })
    (record { node = tt; loc = Some s.key.loc }) =
    told ∙ (λ i. DuplicateAnnotations (placed_key new) (record { node = tt; loc = r.5.key.1 i })
    (record { node = tt; loc = key.1 i })) in
    let behind : Behind s.key.loc.end (note_tokens (s ∷ rest)) = from_key s rest
    (rise_rest done (s ∷ rest) (subst (λ l. Rise (note_tokens l)) split rise)) in
    record {
      end = s.key.loc.end;
      here = subst (λ x. FaultAt source (annotations list) x s.key.loc.end) (sym same) here;
      least = λ other later x. elim (end_of source (annotations list) other later x) [
        | inl e ↦ elim (two_splits done (s ∷ rest) e.front e.here e.back (sym split ∙ e.split)) [
          | inl q ↦ absurd (lawful_split source e.front e.here q.0 e.value e.at
              (subst (λ l. AllByRecursion (λ a. NoBadValue source a.value) l) q.1
              (all_lawful source done (front ++ old ∷ middle) read)) e.has e.bad)
          | inr q ↦ subst (λ n. s.key.loc.end ≤ n) (sym e.ends)
              (behind_value s.key.loc.end q.0 e.here e.back e.value
              (subst (λ l. Behind s.key.loc.end (note_tokens l)) q.1 behind) e.has)
        ]
        | inr e ↦ elim (two_splits done (s ∷ rest) (e.front ++ e.first ∷ e.middle) e.second e.back
            (sym split ∙ (e.split ∙ sym (append_assoc e.front (e.first ∷ e.middle) (e.second ∷ e.back))))) [
              | inl q ↦ absurd (apart_split w e.front e.first e.middle e.second q.0
                  (subst (λ l. Apart (words source l))
                  (q.1 ∙ append_assoc e.front (e.first ∷ e.middle) (e.second ∷ q.0))
                  apart) e.same)
              | inr q ↦ subst (λ n. s.key.loc.end ≤ n) (sym e.ends)
                  (behind_key s.key.loc.end q.0 e.second e.back
                  (subst (λ l. Behind s.key.loc.end (note_tokens l)) q.1 behind))
            ]
      ];
    }

-- behind what was read stands a value with an unlawful escape
value_stops : (source : List ℕ) (list done : List AnnotationSyntax) (s : AnnotationSyntax)
    (rest : List AnnotationSyntax) (before : List Placed) (last : Placed) (t : Token) (fault : UserError)
    → Rise (note_tokens list)
    → list ≡ done ++ s ∷ rest → AllZip (IsRead source) done before → IsKeyRead source s last
    → AllPairs HaveOtherKeys (before ++ last ∷ []) → s.value ≡ Some t → IsEscapeStop source t (User fault)
    → IsFaultOf source (annotations list) fault
value_stops source list done s rest before last t fault rise split read key pairs has stop =
    let w = λ (a : AnnotationSyntax). word_at source a.key in
    let here : AnnotationSyntax = record { key = s.key; value = Some t } in
    let same : s ≡ here = λ i. record { key = s.key; value = has i } in
    let keys : words source (done ++ s ∷ []) ≡ texts (before ++ last ∷ []) =
    map-append w done (s ∷ []) ∙ ((λ i. words_read source done before read i ++ sym key.0 i ∷ [])
    ∙ sym (map-append (λ p. (placed_key p).text) before (last ∷ []))) in
    let apart : Apart (words source (done ++ s ∷ [])) = subst Apart (sym keys)
    (apart_texts (before ++ last ∷ []) pairs) in
    let behind : Behind t.loc.end (note_tokens rest) = past_value s rest t has
    (rise_rest done (s ∷ rest) (subst (λ l. Rise (note_tokens l)) split rise)) in
    record {
      end = t.loc.end;
      here = subst (λ x. FaultAt source (annotations list) x t.loc.end) (sym stop.2)
          (note_escape done rest s.key t stop.0 (split ∙ ap (λ a. done ++ a ∷ rest) same) stop.1);
      least = λ other later x. elim (end_of source (annotations list) other later x) [
        | inl e ↦ elim (two_splits done (s ∷ rest) e.front e.here e.back (sym split ∙ e.split)) [
          | inl q ↦ absurd (lawful_split source e.front e.here q.0 e.value e.at
              (subst (λ l. AllByRecursion (λ a. NoBadValue source a.value) l) q.1 (all_lawful source done before read))
              e.has e.bad)
          | inr q ↦ subst (λ n. t.loc.end ≤ n) (sym e.ends)
              (value_or_later s rest q.0 e.here e.back t e.value q.1 has e.has behind)
        ]
        | inr e ↦ elim (two_splits (done ++ s ∷ []) rest (e.front ++ e.first ∷ e.middle) e.second e.back
            (append_assoc done (s ∷ []) rest
            ∙ (sym split ∙ (e.split ∙ sym (append_assoc e.front (e.first ∷ e.middle) (e.second ∷ e.back)))))) [
              | inl q ↦ absurd (apart_split w e.front e.first e.middle e.second q.0
                  (subst (λ l. Apart (words source l))
                  (q.1 ∙ append_assoc e.front (e.first ∷ e.middle) (e.second ∷ q.0))
                  apart) e.same)
              | inr q ↦ subst (λ n. t.loc.end ≤ n) (sym e.ends)
                  (behind_key t.loc.end q.0 e.second e.back (subst (λ l. Behind t.loc.end (note_tokens l)) q.1 behind))
            ]
      ];
    }

-- ---- what stopped the reading
-- before the annotation all are read, and of it the key
record ReadUpTo (source : List ℕ) (list : List AnnotationSyntax) (ps : List Placed) (new : Placed) : Type 0 where
  done : List AnnotationSyntax
  here : AnnotationSyntax
  rest : List AnnotationSyntax
  split : list ≡ done ++ here ∷ rest
  read : AllZip (IsRead source) done ps
  key : IsKeyRead source here new

only_one : {A : Type 0} (last new : A) (z back : List A) → last ∷ [] ≡ z ++ new ∷ back → (z ≡ []) × (last ≡ new)
only_one last new [] back e = (refl, cc)
only_one last new (x ∷ []) back e = cc
only_one last new (x ∷ y ∷ z) back e = cc

read_up_to : (source : List ℕ) (list : List AnnotationSyntax) (all : List Placed) (fault : Option UserError)
    (ps : List Placed) (new : Placed) (back : List Placed)
    → AreRead source list all fault → all ≡ ps ++ new ∷ back
    → ReadUpTo source list ps new
read_up_to source list all None ps new back h e =
    let r = zip_split (IsRead source) list ps new back (subst (AllZip (IsRead source) list) e h) in
    record { done = r.0; here = r.1; rest = r.2; split = r.3; read = r.4; key = r.5.key }
read_up_to source list all (Some fault) ps new back h e =
    elim (two_splits h.before (h.last ∷ []) ps new back (sym h.split_read ∙ e)) [
      | inl q ↦
          let r = zip_split (IsRead source) h.front ps new q.0 (subst (AllZip (IsRead source) h.front) q.1 h.each) in
          record {
            done = r.0;
            here = r.1;
            rest = r.2 ++ h.here ∷ h.back;
            split = h.split
                ∙ (ap (λ l. l ++ h.here ∷ h.back) r.3 ∙ append_assoc r.0 (r.1 ∷ r.2) (h.here ∷ h.back));
            read = r.4;
            key = r.5.key;
          }
      | inr q ↦
          let one = only_one h.last new q.0 back q.1 in
          let same : ps ≡ h.before = q.2 ∙ (ap (λ l. h.before ++ l) one.0 ∙ append-nil h.before) in
          record {
            done = h.front;
            here = h.here;
            rest = h.back;
            split = h.split;
            read = subst (AllZip (IsRead source) h.front) (sym same) h.each;
            key = subst (IsKeyRead source h.here) one.1 h.key;
          }
    ]

pub twice_stops : (source : List ℕ) (list : List AnnotationSyntax) (all : List Placed) (found : Option UserError)
    (fault : UserError)
    → Rise (note_tokens list) → AreRead source list all found → IsTwice all fault
    → IsFaultOf source (annotations list) fault
twice_stops source list all found fault rise h t =
    let r = read_up_to source list all found (t.front ++ t.old ∷ t.middle) t.new t.back h t.split in
    key_stops source list r.done r.here r.rest t.front t.old t.middle t.new fault rise r.split r.read r.key t.apart
    t.again t.told

bad_stops : (source : List ℕ) (list done : List AnnotationSyntax) (s : AnnotationSyntax)
    (rest : List AnnotationSyntax) (before : List Placed) (last : Placed) (value : Option Token) (fault : UserError)
    → Rise (note_tokens list)
    → list ≡ done ++ s ∷ rest → AllZip (IsRead source) done before → IsKeyRead source s last
    → AllPairs HaveOtherKeys (before ++ last ∷ []) → s.value ≡ value → IsBadValue source value fault
    → IsFaultOf source (annotations list) fault
bad_stops source list done s rest before last None fault rise split read key pairs has bad = absurd bad
bad_stops source list done s rest before last (Some t) fault rise split read key pairs has bad =
    value_stops source list done s rest before last t fault rise split read key pairs has bad

pub escape_stops : (source : List ℕ) (list : List AnnotationSyntax) (all : List Placed) (fault : UserError)
    (notes : Notes)
    → Rise (note_tokens list) → AreReadTo source list all fault → AreKept all notes
    → IsFaultOf source (annotations list) fault
escape_stops source list all fault notes rise h kept =
    bad_stops source list h.front h.here h.back h.before h.last h.here.value fault rise h.split h.each h.key
    (subst (AllPairs HaveOtherKeys) h.split_read kept.apart) refl h.bad

-- no annotation at all
pub no_note : (source : List ℕ) → AreNotes source [] []
unfolding IsStrictlySortedBy
no_note source = record { sorted = tt; as_many = refl; each = All-nil (HasNote source []) }

pub nothing_at : (source : List ℕ) → NoSiteFault source (annotations [])
nothing_at source fault end f = elim (end_of source (annotations []) fault end f) [
  | inl h ↦ nothing_is h.front h.here h.back h.split
  | inr h ↦ nothing_is h.front h.first (h.middle ++ h.second ∷ h.back) h.split
]
