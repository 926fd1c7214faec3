-- One step of the writer: past a blank, a comment, a token, and at the end.
use Rattle.std.proofs.Common.{◌≡◌, ℕ, Bool, true, false, not, ◌&&◌, List, [], ◌∷◌, ◌++◌, length, take, drop, refl, sym}
use Rattle.std.proofs.Common.{ap}
use Rattle.std.proofs.Common.{◌∙◌, subst, inl, inr, arith}
use Rattle.std.specs.List.{All}
use Rattle.std.specs.Char.{encode_utf8, is_whitespace}
use Rattle.std.proofs.lemmas.List.{append_assoc, take-append-drop, length-take-le}
use Rattle.std.proofs.lemmas.List.Elements.{All-tail}
use Rattle.std.proofs.lemmas.Str.{encode_same}
use Rattle.schema_syntax_grammar.specs.declared.token_kind.TokenKind.{TokenKind}
use Rattle.schema_syntax_tokens.specs.Laid.{Lexeme}
use Rattle.schema_syntax_tokens.specs.Scans.{IsInLine, EndsLine, NoBlank, NoForm, IsLongest}
use Rattle.schema_syntax_tokens.specs.Steps.{StartsComment}
use Rattle.schema_layout_pieces.specs.declared.context.Feeds.{Feeds}
use Rattle.schema_layout_pieces.specs.declared.context.Feeds.TheVariants.{NoFeed}
use Rattle.schema_layout_pieces.specs.Pieces.{token, comment, ends_line}
use Rattle.schema_layout_pieces.specs.Layout.{Before, past_token, past_comment, last_end}
use Rattle.schema_layout_pieces.specs.Kept.{fed, has_empty_line, Spaced, spaced_by, HasSpaced, kept_behind}
use Rattle.schema_layout_pieces.specs.Kept.HasSpaced.{none, blank, note, lexeme}
use Rattle.schema_layout_pieces.specs.Writing.{IsWhole, comment_gap, token_gap, is_near}
use Rattle.schema_layout_pieces.proofs.OnePieces.{one_line, no_nil, token_no_nil, token_no_blank, token_no_note}
use Rattle.schema_layout_pieces.proofs.OnePieces.{blank_no_note, one_lexeme, form_here}

at_blank : {near : Bool} {s : Feeds} {r : List ℕ} {ps : List Spaced} → HasSpaced near s r ps → (c : ℕ) (after : List ℕ)
    → is_whitespace c ≡ true → r ≡ encode_utf8 c ++ after → HasSpaced (near && not (ends_line c)) (fed s c) after ps
at_blank none c after w e = absurd (no_nil c after e)
at_blank {near} {s} {r} {ps} (blank {rest = u} d x h) c after w e =
    let same = encode_same d c u after e in
    subst (λ t. HasSpaced (near && not (ends_line c)) (fed s c) t ps) same.1
    (subst (λ b. HasSpaced (near && not (ends_line b)) (fed s b) u ps) same.0 h)
at_blank (note {rest = u} line i t h) c after w e = absurd (blank_no_note c after (47 ∷ (line ++ u)) w (sym e))
at_blank (lexeme {rest = u} x i h) c after w e = absurd (token_no_blank x.text u after x.kind c (form_here x u i) w e)

at_note : {near : Bool} {s : Feeds} {r : List ℕ} {ps : List Spaced} → HasSpaced near s r ps → (line after : List ℕ)
    → All IsInLine line → EndsLine after → r ≡ 47 ∷ 47 ∷ (line ++ after)
    → (qs : List Spaced) × HasSpaced false NoFeed after qs × (ps ≡ spaced_by s (comment near line) ∷ qs)
at_note none line after i t e = cc
at_note (blank {rest = u} d x h) line after i t e = absurd (blank_no_note d u (47 ∷ (line ++ after)) x e)
at_note {near} {s} (note {rest = u} {ps = qs} other j z h) line after i t e =
    let same = one_line other line u after j i z t cc in
    (qs, subst (λ v. HasSpaced false NoFeed v qs) same.1 h, λ n. spaced_by s (comment near (same.0 n)) ∷ qs)
at_note (lexeme {rest = u} x j h) line after i t e =
    absurd (token_no_note x.text u (47 ∷ (line ++ after)) x.kind (form_here x u j) e)

at_lexeme : {near : Bool} {s : Feeds} {r : List ℕ} {ps : List Spaced} → HasSpaced near s r ps
    → (y : Lexeme) (after : List ℕ) → IsLongest (y.text ++ after) y.kind (length y.text) → r ≡ y.text ++ after
    → (qs : List Spaced) × HasSpaced true NoFeed after qs × (ps ≡ spaced_by s (token y) ∷ qs)
at_lexeme none y after i e = absurd (token_no_nil y.text after y.kind (form_here y after i) e)
at_lexeme (blank {rest = u} d x h) y after i e =
    absurd (token_no_blank y.text after u y.kind d (form_here y after i) x (sym e))
at_lexeme (note {rest = u} line j t h) y after i e =
    absurd (token_no_note y.text after (47 ∷ (line ++ u)) y.kind (form_here y after i) (sym e))
at_lexeme {s = s} (lexeme {rest = u} {ps = qs} x j h) y after i e =
    let same = one_lexeme x y u after j i e in
    (qs, subst (λ v. HasSpaced true NoFeed v qs) same.1 h, λ n. spaced_by s (token (same.0 n)) ∷ qs)

-- one more gap and piece are written
regroup : (written g piece left : List ℕ) → written ++ (g ++ (piece ++ left)) ≡ ((written ++ g) ++ piece) ++ left
regroup written g piece left =
    sym (append_assoc (written ++ g) piece left ∙ append_assoc written g (piece ++ left))

whole_note : (keeps : Bool) (whole written : List ℕ) (f : Before) (near : Bool) (s : Feeds) (line rest after : List ℕ)
    → All IsInLine line → EndsLine after → rest ≡ 47 ∷ 47 ∷ (line ++ after) → IsWhole keeps whole written f near s rest
    → IsWhole keeps whole ((written ++ comment_gap f near (keeps && has_empty_line s)) ++ 47 ∷ 47 ∷ line)
    (past_comment f) false NoFeed after
whole_note keeps whole written f near s line rest after i t e h =
    let a = at_note h.1 line after i t e in
    let g = comment_gap f near (keeps && has_empty_line s) in
    let left = kept_behind keeps (past_comment f) a.0 in
    (a.0, a.1, h.2 ∙ (ap (λ ps. written ++ kept_behind keeps f ps) a.2 ∙ regroup written g (47 ∷ 47 ∷ line) left))

whole_token : (keeps : Bool) (whole written : List ℕ) (f : Before) (near : Bool) (s : Feeds) (k : TokenKind) (n : ℕ)
    (rest : List ℕ) → IsLongest rest k n → IsWhole keeps whole written f near s rest
    → IsWhole keeps whole ((written ++ token_gap f (keeps && has_empty_line s) k) ++ take n rest) (past_token f k) true
    NoFeed (drop n rest)
whole_token keeps whole written f near s k n rest i h =
    let x : Lexeme = record { kind = k; text = take n rest } in
    let all : take n rest ++ drop n rest ≡ rest = take-append-drop n rest in
    let long : IsLongest (x.text ++ drop n rest) k (length x.text) =
    subst (λ m. IsLongest (x.text ++ drop n rest) k m) (sym (length-take-le n rest i.in_range))
    (subst (λ t. IsLongest t k n) (sym all) i) in
    let a = at_lexeme h.1 x (drop n rest) long (sym all) in
    let left = kept_behind keeps (past_token f k) a.0 in
    let grouped = regroup written (token_gap f (keeps && has_empty_line s) k) (take n rest) left in
    (a.0, a.1, h.2 ∙ (ap (λ ps. written ++ kept_behind keeps f ps) a.2 ∙ grouped))

no_end : (b : ℕ) (bs : List ℕ) → b ≡ 47 → EndsLine (b ∷ bs) → ⊥
no_end b bs e (inl h) = omega (arith, e, h)
no_end b bs e (inr h) = omega (arith, e, h)

-- a line that begins with `//` is a comment
comment_line : (rest line after : List ℕ) → StartsComment rest → rest ≡ line ++ after → All IsInLine line
    → EndsLine after → (text : List ℕ) × (line ≡ 47 ∷ 47 ∷ text) × All IsInLine text
comment_line [] line after s e i t = absurd s
comment_line (b ∷ []) line after s e i t = absurd s
comment_line (b ∷ c ∷ bs) [] after s e i t = absurd (no_end b (c ∷ bs) s.0 (subst (λ r. EndsLine r) (sym e) t))
comment_line (b ∷ c ∷ bs) (x ∷ []) after s e i t =
    let f : c ∷ bs ≡ after = cc in absurd (no_end c bs s.1 (subst (λ r. EndsLine r) (sym f) t))
comment_line (b ∷ c ∷ bs) (x ∷ y ∷ text) after s e i t =
    let f : x ≡ 47 = (let g : b ≡ x = cc in sym g ∙ s.0) in
    let h : y ≡ 47 = (let g : c ≡ y = cc in sym g ∙ s.1) in
    (text, (λ n. f n ∷ h n ∷ text), All-tail IsInLine y text (All-tail IsInLine x (y ∷ text) i))

pub step_note : (keeps : Bool) (whole written new : List ℕ) (f g : Before) (near : Bool) (s : Feeds) (spaced : Bool)
    (rest line after : List ℕ)
    → StartsComment rest → rest ≡ line ++ after → All IsInLine line → EndsLine after
    → spaced ≡ (keeps && has_empty_line s)
    → new ≡ (written ++ comment_gap f near spaced) ++ line → g ≡ past_comment f
    → IsWhole keeps whole written f near s rest → IsWhole keeps whole new g false NoFeed after
step_note keeps whole written new f g near s spaced rest line after c e i t d n p h =
    let l = comment_line rest line after c e i t in
    let old = written ++ comment_gap f near (keeps && has_empty_line s) in
    let step = whole_note keeps whole written f near s l.0 rest after l.2 t (e ∙ ap (λ l. l ++ after) l.1) h in
    let given : (written ++ comment_gap f near spaced) ++ line ≡ old ++ line =
    ap (λ b. (written ++ comment_gap f near b) ++ line) d in
    let text : old ++ 47 ∷ 47 ∷ l.0 ≡ new = ap (λ l. old ++ l) (sym l.1) ∙ (sym given ∙ sym n) in
    subst (λ u. IsWhole keeps whole u g false NoFeed after) text
    (subst (λ x. IsWhole keeps whole (old ++ 47 ∷ 47 ∷ l.0) x false NoFeed after) (sym p) step)

pub step_blank : (keeps : Bool) (whole written : List ℕ) (f : Before) (near next : Bool) (s t : Feeds) (c : ℕ)
    (rest after : List ℕ)
    → is_whitespace c ≡ true → rest ≡ encode_utf8 c ++ after → next ≡ (near && not (ends_line c)) → t ≡ fed s c
    → IsWhole keeps whole written f near s rest → IsWhole keeps whole written f next t after
step_blank keeps whole written f near next s t c rest after w e n m h =
    let step : IsWhole keeps whole written f (near && not (ends_line c)) (fed s c) after =
    (h.0, at_blank h.1 c after w e, h.2) in
    subst (λ b. IsWhole keeps whole written f b t after) (sym n)
    (subst (λ u. IsWhole keeps whole written f (near && not (ends_line c)) u after) (sym m) step)

-- where neither a blank nor a token begins, the text has ended
pub step_end : (keeps : Bool) (whole written : List ℕ) (f : Before) (near : Bool) (s : Feeds) (rest : List ℕ)
    → NoBlank rest → NoForm rest → IsWhole keeps whole written f near s rest → whole ≡ written ++ last_end f.last
step_end keeps whole written f near s rest n m h =
    h.2 ∙ ap (λ ps. written ++ kept_behind keeps f ps) (nothing_left h.1 n m)
  where
    nothing_left : {near : Bool} {s : Feeds} {rest : List ℕ} {ps : List Spaced} → HasSpaced near s rest ps
        → NoBlank rest → NoForm rest → ps ≡ []
    nothing_left none n m = refl
    nothing_left (blank {rest = u} c w h) n m = absurd (n (encode_utf8 c) u refl (inl (c, w, refl)))
    nothing_left (note {rest = u} line i t h) n m = absurd (n (47 ∷ 47 ∷ line) u refl (inr (line, refl, i, t)))
    nothing_left (lexeme {rest = u} x i h) n m = absurd (m (length x.text) x.kind i.form)

pub step_token : (keeps : Bool) (whole written new : List ℕ) (f g : Before) (near : Bool) (s : Feeds) (spaced : Bool)
    (k : TokenKind) (n : ℕ) (rest word after : List ℕ)
    → IsLongest rest k n → word ≡ take n rest → after ≡ drop n rest → spaced ≡ (keeps && has_empty_line s)
    → new ≡ (written ++ token_gap f spaced k) ++ word → g ≡ past_token f k
    → IsWhole keeps whole written f near s rest → IsWhole keeps whole new g (is_near g.last) NoFeed after
step_token keeps whole written new f g near s spaced k n rest word after i w a d t p h =
    let old = written ++ token_gap f (keeps && has_empty_line s) k in
    let step : IsWhole keeps whole (old ++ take n rest) (past_token f k) (is_near (past_token f k).last) NoFeed
    (drop n rest) = whole_token keeps whole written f near s k n rest i h in
    let given : (written ++ token_gap f spaced k) ++ word ≡ old ++ word =
    ap (λ b. (written ++ token_gap f b k) ++ word) d in
    let text : old ++ take n rest ≡ new = ap (λ l. old ++ l) (sym w) ∙ (sym given ∙ sym t) in
    subst (λ r. IsWhole keeps whole new g (is_near g.last) NoFeed r) (sym a)
    (subst (λ u. IsWhole keeps whole u g (is_near g.last) NoFeed (drop n rest)) text
    (subst (λ x. IsWhole keeps whole (old ++ take n rest) x (is_near x.last) NoFeed (drop n rest)) (sym p) step))
