-- A text reads one way.
use Rattle.std.proofs.Common.{◌≡◌, ◌≢◌, ℕ, Bool, true, false, List, [], ◌∷◌, ◌++◌, Option, Some, None, find, codes}
use Rattle.std.proofs.Common.{refl, sym, ap, ◌∙◌, subst, append-nil, append_assoc}
use Rattle.std.specs.List.{All}
use Rattle.std.specs.Option.{option_and_then}
use Rattle.std.proofs.lemmas.List.Elements.{All-head, All-tail}
use Rattle.cedar_data.specs.Rows.{joined_by}
use Rattle.cedar_identifiers.specs.NameReading.{is_single, refuses, due_next, due_behind, separated, HasWords}
use Rattle.cedar_identifiers.specs.NameReading.{NameFaultOf}
use Rattle.cedar_identifiers.specs.OneReading.{OneName, NoFault, OneFault}
use Rattle.cedar_identifiers.specs.declared.name_kind.NameKind.{NameKind}
use Rattle.cedar_identifiers.specs.declared.name_fault.NameFault.{NameFault}
use Rattle.cedar_identifiers.specs.declared.name_fault.NameFault.TheVariants.{End, Token, Invalid, NotNormalized}
use Rattle.cedar_identifiers.specs.declared.name_fault.NameFault.TheVariants.{Reserved, Memory}
use Rattle.cedar_identifiers.proofs.Cut.{pieces_of, pieces_of-nil, pieces_of-stuck, pieces_of-begins, pieces_some}

-- how pieces in turn end: at one that cannot stand, or with a word due or not
data Verdict : Type 0 where
  Stops : List ℕ → Verdict
  Over : Bool → Verdict

abbrev after_next : List ℕ → Option Bool → (Bool → Verdict) → Verdict
after_next p None next = Stops p
after_next p (Some due) next = next due

abbrev verdict : Bool → Bool → List (List ℕ) → Verdict
verdict single due [] = Over due
verdict single due (p ∷ ps) = after_next p (due_next single due p) (λ d. verdict single d ps)

-- pieces that can stand
verdict-append : (single due d : Bool) (ps qs : List (List ℕ)) → due_behind single due ps ≡ Some d
    → verdict single due (ps ++ qs) ≡ verdict single d qs
verdict-append single due d [] qs e = let same : due ≡ d = cc in ap (λ x. verdict single x qs) same
verdict-append single due d (p ∷ ps) qs e = by_next (due_next single due p) (λ x. verdict-append single x d ps qs) e
  where
    by_next : (n : Option Bool)
        → ((x : Bool) → due_behind single x ps ≡ Some d → verdict single x (ps ++ qs) ≡ verdict single d qs)
        → option_and_then (λ x. due_behind single x ps) n ≡ Some d
        → after_next p n (λ x. verdict single x (ps ++ qs)) ≡ verdict single d qs
    by_next None rec h = cc
    by_next (Some x) rec h = rec x h

-- what is no piece cannot stand
nothing_next : (single due : Bool) → due_next single due [] ≡ None
nothing_next single true = refl
nothing_next true false = refl
nothing_next false false = refl

-- a word that is due, or none
abbrev outcome : NameFault → Verdict
outcome Invalid = Stops []
outcome (Token t) = Stops t
outcome End = Over true
outcome (Reserved w) = Over false
outcome NotNormalized = Over false
outcome Memory = Over false

words_over : (kind : NameKind) (text : List ℕ) (ws : List (List ℕ)) → HasWords kind text ws
    → (pieces_of text ≡ separated ws) × (verdict (is_single kind) true (pieces_of text) ≡ Over false)
words_over kind text ws h =
    let all : pieces_of text ≡ separated ws ++ [] = pieces_of-begins h.pieces
    ∙ ap (λ ps. separated ws ++ ps) pieces_of-nil in (
      all ∙ append-nil (separated ws),
      ap (verdict (is_single kind) true) all
          ∙ verdict-append (is_single kind) true false (separated ws) [] h.whole,
    )

faults_end : (kind : NameKind) (text : List ℕ) (f : NameFault) → f ≢ Memory → NameFaultOf kind text f
    → verdict (is_single kind) true (pieces_of text) ≡ outcome f
faults_end kind text Invalid m (ps, due, rest, b, d, n) =
    ap (verdict (is_single kind) true) (pieces_of-begins b ∙ ap (λ qs. ps ++ qs) (pieces_of-stuck rest n)) ∙
    (verdict-append (is_single kind) true due ps ([] ∷ []) d
    ∙ ap (λ x. after_next [] x (λ e. Over e)) (nothing_next (is_single kind) due))
faults_end kind text (Token t) m (ps, due, rest, b, d, n) =
    ap (verdict (is_single kind) true) (pieces_of-begins b ∙ append_assoc ps (t ∷ []) (pieces_of rest)) ∙
    (verdict-append (is_single kind) true due ps (t ∷ pieces_of rest) d
    ∙ ap (λ x. after_next t x (λ e. verdict (is_single kind) e (pieces_of rest))) n)
faults_end kind text End m (ps, b, d) =
    ap (verdict (is_single kind) true) (pieces_of-begins b ∙ ap (λ qs. ps ++ qs) pieces_of-nil)
    ∙ verdict-append (is_single kind) true true ps [] d
faults_end kind text (Reserved w) m (ws, h, r) = (words_over kind text ws h).1
faults_end kind text NotNormalized m (ws, h, r, n) = (words_over kind text ws h).1
faults_end kind text Memory m h = absurd (m refl)

-- words are told by their pieces
separated-same : (v w : List (List ℕ)) → separated v ≡ separated w → v ≡ w
separated-same [] [] e = refl
separated-same [] (x ∷ []) e = cc
separated-same [] (x ∷ y ∷ ws) e = cc
separated-same (a ∷ []) [] e = cc
separated-same (a ∷ []) (x ∷ []) e = e
separated-same (a ∷ []) (x ∷ y ∷ ws) e = cc
separated-same (a ∷ b ∷ vs) [] e = cc
separated-same (a ∷ b ∷ vs) (x ∷ []) e = cc
separated-same (a ∷ b ∷ vs) (x ∷ y ∷ ws) e = let rest : b ∷ vs ≡ y ∷ ws = separated-same (b ∷ vs) (y ∷ ws) cc in cc

one_words : (kind : NameKind) (text : List ℕ) (v w : List (List ℕ)) → HasWords kind text v → HasWords kind text w
    → v ≡ w
one_words kind text v w h k = separated-same v w (sym (words_over kind text v h).0 ∙ (words_over kind text w k).0)

-- the last of them
last_too : (P : List ℕ → Type 0) (ps : List (List ℕ)) (t : List ℕ) → All P (ps ++ t ∷ []) → P t
last_too P [] t a = All-head P t [] a
last_too P (p ∷ ps) t a = last_too P ps t (All-tail P p (ps ++ t ∷ []) a)

-- a token has bytes
token_some : (kind : NameKind) (text t : List ℕ) → NameFaultOf kind text (Token t) → t ≢ []
token_some kind text t (ps, due, rest, b, d, n) = last_too (λ p. p ≢ []) ps t (pieces_some b)

pub one_name : (text : List ℕ) → OneName text
one_name text kind v w h k = one_words kind text v w h.has k.has

pub no_fault : (text : List ℕ) → NoFault text
no_fault text kind w Memory r f = refl
no_fault text kind w Invalid r f =
    let e = sym (faults_end kind text Invalid (λ x. cc) f) ∙ (words_over kind text w r.has).1 in cc
no_fault text kind w (Token t) r f =
    let e = sym (faults_end kind text (Token t) (λ x. cc) f) ∙ (words_over kind text w r.has).1 in cc
no_fault text kind w End r f =
    let e = sym (faults_end kind text End (λ x. cc) f) ∙ (words_over kind text w r.has).1 in cc
no_fault text kind w (Reserved x) r (ws, h, e) =
    let same = one_words kind text w ws r.has h in
    let k : find (refuses kind) ws
    ≡ None = subst (λ (y : List (List ℕ)). find (refuses kind) y ≡ None) same r.allowed in cc
no_fault text kind w NotNormalized r (ws, h, e, n) =
    let same = one_words kind text w ws r.has h in absurd (n (r.normal ∙ ap (joined_by (codes "::")) same))

same_end : (kind : NameKind) (text : List ℕ) (f g : NameFault) → f ≢ Memory → g ≢ Memory → NameFaultOf kind text f
    → NameFaultOf kind text g → outcome f ≡ outcome g
same_end kind text f g m n h k = sym (faults_end kind text f m h) ∙ faults_end kind text g n k

refused_once : (kind : NameKind) (text x y : List ℕ) → NameFaultOf kind text (Reserved x)
    → NameFaultOf kind text (Reserved y) → x ≡ y
refused_once kind text x y (v, h, e) (w, k, f) =
    let same : v ≡ w = one_words kind text v w h k in
    let both : Some x ≡ Some y = sym e ∙ (ap (find (refuses kind)) same ∙ f) in cc

refused_or_not : (kind : NameKind) (text x : List ℕ) → NameFaultOf kind text (Reserved x)
    → NameFaultOf kind text NotNormalized → ⊥
refused_or_not kind text x (v, h, e) (w, k, f, n) =
    let same : v ≡ w = one_words kind text v w h k in
    let both : Some x ≡ None = sym e ∙ (ap (find (refuses kind)) same ∙ f) in cc

pub one_fault : (text : List ℕ) → OneFault text
one_fault text kind Invalid Invalid m n h k = refl
one_fault text kind Invalid (Token u) m n h k =
    let e = same_end kind text Invalid (Token u) m n h k in
    let none : u ≡ [] = cc in absurd (token_some kind text u k none)
one_fault text kind Invalid End m n h k = let e = same_end kind text Invalid End m n h k in cc
one_fault text kind Invalid (Reserved y) m n h k = let e = same_end kind text Invalid (Reserved y) m n h k in cc
one_fault text kind Invalid NotNormalized m n h k = let e = same_end kind text Invalid NotNormalized m n h k in cc
one_fault text kind Invalid Memory m n h k = absurd (n refl)
one_fault text kind (Token t) Invalid m n h k =
    let e = same_end kind text (Token t) Invalid m n h k in
    let none : t ≡ [] = cc in absurd (token_some kind text t h none)
one_fault text kind (Token t) (Token u) m n h k = let e = same_end kind text (Token t) (Token u) m n h k in cc
one_fault text kind (Token t) End m n h k = let e = same_end kind text (Token t) End m n h k in cc
one_fault text kind (Token t) (Reserved y) m n h k = let e = same_end kind text (Token t) (Reserved y) m n h k in cc
one_fault text kind (Token t) NotNormalized m n h k = let e = same_end kind text (Token t) NotNormalized m n h k in cc
one_fault text kind (Token t) Memory m n h k = absurd (n refl)
one_fault text kind End Invalid m n h k = let e = same_end kind text End Invalid m n h k in cc
one_fault text kind End (Token u) m n h k = let e = same_end kind text End (Token u) m n h k in cc
one_fault text kind End End m n h k = refl
one_fault text kind End (Reserved y) m n h k = let e = same_end kind text End (Reserved y) m n h k in cc
one_fault text kind End NotNormalized m n h k = let e = same_end kind text End NotNormalized m n h k in cc
one_fault text kind End Memory m n h k = absurd (n refl)
one_fault text kind (Reserved x) Invalid m n h k = let e = same_end kind text (Reserved x) Invalid m n h k in cc
one_fault text kind (Reserved x) (Token u) m n h k = let e = same_end kind text (Reserved x) (Token u) m n h k in cc
one_fault text kind (Reserved x) End m n h k = let e = same_end kind text (Reserved x) End m n h k in cc
one_fault text kind (Reserved x) (Reserved y) m n h k = ap (λ w. Reserved w) (refused_once kind text x y h k)
one_fault text kind (Reserved x) NotNormalized m n h k = absurd (refused_or_not kind text x h k)
one_fault text kind (Reserved x) Memory m n h k = absurd (n refl)
one_fault text kind NotNormalized Invalid m n h k = let e = same_end kind text NotNormalized Invalid m n h k in cc
one_fault text kind NotNormalized (Token u) m n h k = let e = same_end kind text NotNormalized (Token u) m n h k in cc
one_fault text kind NotNormalized End m n h k = let e = same_end kind text NotNormalized End m n h k in cc
one_fault text kind NotNormalized (Reserved y) m n h k = absurd (refused_or_not kind text y k h)
one_fault text kind NotNormalized NotNormalized m n h k = refl
one_fault text kind NotNormalized Memory m n h k = absurd (n refl)
one_fault text kind Memory g m n h k = absurd (m refl)
