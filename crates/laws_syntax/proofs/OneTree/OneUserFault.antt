-- No two user faults of a text end together, so the one that ends first is one.
use Rattle.std.proofs.Common.{◌≡◌, ℕ, ◌+◌, ◌<◌, List, [], ◌∷◌, ◌++◌, Some, refl, sym, ap, ◌∙◌}
use Rattle.std.proofs.Common.{subst, inl, inr, arith, append_assoc}
use Rattle.std.specs.List.{All}
use Rattle.std.proofs.lemmas.List.Elements.{All-head, All-tail, All-map}
use Rattle.std.proofs.lemmas.List.Concat.{flat_map-append}
use Rattle.std.proofs.lemmas.Option.{same_Some}
use Rattle.cedar_data.proofs.Lists.{All-front}
use Rattle.schema_syntax_tokens.specs.declared.token.Token.{Token}
use Rattle.schema_syntax_tokens.specs.Escapes.{BadEscape}
use Rattle.cedar_identifiers.specs.declared.any_id.AnyId.{AnyId}
use Rattle.cedar_identifiers.proofs.Same.{any_id_same}
use Rattle.schema_syntax_parser.specs.declared.syntax.AnnotationSyntax.{AnnotationSyntax}
use Rattle.schema_syntax_parser.specs.declared.syntax.ItemSyntax.{ItemSyntax}
use Rattle.schema_syntax_errors.specs.declared.user_error.UserError.{UserError}
use Rattle.schema_syntax_errors.specs.declared.user_error.UserError.TheVariants.{StringEscape}
use Rattle.schema_syntax_errors.specs.declared.user_error.UserError.TheVariants.{DuplicateAnnotations}
use Rattle.schema_syntax_reader.specs.Leaves.{word_at}
use Rattle.schema_syntax_reader.specs.Placed.{note_tokens}
use Rattle.schema_syntax_reader.specs.Sites.{Site, annotations, sites_of}
use Rattle.schema_syntax_reader.specs.UserFaults.{IsBadEscapeAt, IsOtherKey, HasUserFault, FaultAt, empty_list}
use Rattle.schema_syntax_reader.specs.UserFaults.{reserved, escape, note_escape, duplicate}
use Rattle.schema_syntax_reader.proofs.Fits.{ends, site_ends, sites_ends}
use Rattle.schema_syntax_reader.proofs.Rising.{Among, among_left, among_right, InTurn, turns_apart, turns_back}
use Rattle.schema_syntax_reader.proofs.Rising.{Sub, sub_turns}
use Rattle.schema_syntax_reader.proofs.Order.{places, note_ends, one_note, notes_join, among_note, fault_end}
use Rattle.schema_syntax_reader.proofs.Order.Where.{earlier, same, later}
use Rattle.laws_syntax.proofs.OneTree.TokenPlaces.{Mount}
use Rattle.laws_syntax.proofs.OneTree.Values.{one_body}

-- numbers, each of which is above those before it
abbrev pub Mounts : List ℕ → Type 0
Mounts = InTurn (λ n m. n < m)

pub mount_ends : (ts : List Token) → Mount ts → Mounts (ends ts)
mount_ends [] m = tt
mount_ends (t ∷ ts) m = (All-map (λ n. t.loc.end < n) (λ s. s.loc.end) ts m.0, mount_ends ts m.1)

pub sub_mounts : {xs ys : List ℕ} → Sub xs ys → Mounts ys → Mounts xs
sub_mounts s m = sub_turns (λ n k. n < k) s m

mounts_left : (xs ys : List ℕ) → Mounts (xs ++ ys) → Mounts xs
mounts_left [] ys m = tt
mounts_left (x ∷ xs) ys m = (All-front (λ n. x < n) xs ys m.0, mounts_left xs ys m.1)

mounts_right : (xs ys : List ℕ) → Mounts (xs ++ ys) → Mounts ys
mounts_right xs ys m = turns_back (λ n k. n < k) xs ys m

-- an annotation in front of another ends before it
notes_apart : (front back : List AnnotationSyntax) (x y : AnnotationSyntax) (n m : ℕ)
    → Mounts (ends (note_tokens (front ++ y ∷ back))) → (a b : List AnnotationSyntax) → front ≡ a ++ x ∷ b
    → Among n (note_ends x) → Among m (note_ends y) → n < m
notes_apart front back x y n m mounts a b e h k =
    turns_apart (λ n m. n < m) (ends (note_tokens front)) (ends (note_tokens (y ∷ back))) n m
    (subst Mounts (notes_join front (y ∷ back)) mounts)
    (subst (λ l. Among n (ends (note_tokens l))) (sym e) (among_note a b x n h))
    (among_note [] back y m k)

-- annotations of a list that end together are one
notes_once : (front back a b : List AnnotationSyntax) (x y : AnnotationSyntax) (n : ℕ)
    → front ++ x ∷ back ≡ a ++ y ∷ b → Mounts (ends (note_tokens (front ++ x ∷ back)))
    → Among n (note_ends x) → Among n (note_ends y) → x ≡ y
notes_once front back a b x y n e mounts h k = elim (places front back a b x y e) [
  | earlier c d f ↦ absurd (let lt : n < n = notes_apart front back y x n n mounts c d f k h in omega (arith, lt))
  | same f ↦ f
  | later c d f ↦ absurd (
      let whole : front ++ x ∷ back ≡ (front ++ x ∷ c) ++ y ∷ d = ap (λ l. front ++ x ∷ l) f
      ∙ sym (append_assoc front (x ∷ c) (y ∷ d)) in
      let lt : n < n = notes_apart (front ++ x ∷ c) d x y n n
      (subst (λ l. Mounts (ends (note_tokens l))) whole mounts) front c refl h k in
      omega (arith, lt))
]

module _ (bad_once : (body : List ℕ) (at bt : ℕ) → BadEscape body at → BadEscape body bt → at ≡ bt)
    (source : List ℕ) where
  -- a string has one first bad escape
  escape_once : (t : Token) (at bt : ℕ) → IsBadEscapeAt source t at → IsBadEscapeAt source t bt → at ≡ bt
  escape_once t at bt h k =
      let place : h.1 ≡ k.1 =
      bad_once k.0 h.1 k.1 (subst (λ b. BadEscape b h.1) (one_body source t h.0 k.0 h.2 k.2) h.3) k.3 in
      h.4 ∙ ap (λ p. t.loc.start + 1 + p) place ∙ sym k.4

  abbrev escape_fault : Token → ℕ → UserError
  escape_fault t at = StringEscape (record { node = record { at = at } ∷ []; loc = Some t.loc })

  -- an annotation's value ends behind its key
  key_below : (front back : List AnnotationSyntax) (key t : Token)
      → Mounts (ends (note_tokens (front ++ record { key = key; value = Some t } ∷ back))) → key.loc.end < t.loc.end
  key_below front back key t mounts =
      let x : AnnotationSyntax = record { key = key; value = Some t } in
      let here : Mounts (note_ends x ++ ends (note_tokens back)) =
      subst Mounts (one_note x back) (mounts_right (ends (note_tokens front)) (ends (note_tokens (x ∷ back)))
      (subst Mounts (notes_join front (x ∷ back)) mounts)) in
      All-head (λ m. key.loc.end < m) t.loc.end (ends (note_tokens back)) here.0

  -- the first item of a kind is one
  firsts_once : (P : AnnotationSyntax → Type 0) (f back g other : List AnnotationSyntax) (x y : AnnotationSyntax)
      → f ++ x ∷ back ≡ g ++ y ∷ other → All (λ z. P z → ⊥) f → P x → All (λ z. P z → ⊥) g → P y → x ≡ y
  firsts_once P [] back [] other x y e af px ag py = cc
  firsts_once P [] back (z ∷ g) other x y e af px ag py =
      absurd (let same : x ≡ z = cc in All-head (λ z. P z → ⊥) z g ag (subst P same px))
  firsts_once P (z ∷ f) back [] other x y e af px ag py =
      absurd (let same : y ≡ z = cc in All-head (λ z. P z → ⊥) z f af (subst P same py))
  firsts_once P (z ∷ f) back (w ∷ g) other x y e af px ag py =
      firsts_once P f back g other x y (cc) (All-tail (λ z. P z → ⊥) z f af) px
      (All-tail (λ z. P z → ⊥) w g ag) py

  -- no value ends where a second key does
  no_value_there : (list front back g other : List AnnotationSyntax) (key t : Token) (y : AnnotationSyntax)
      → Mounts (ends (note_tokens list)) → list ≡ front ++ record { key = key; value = Some t } ∷ back
      → list ≡ g ++ y ∷ other → t.loc.end ≡ y.key.loc.end → ⊥
  no_value_there list front back g other key t y mounts l k e =
      let x : AnnotationSyntax = record { key = key; value = Some t } in
      let here : Mounts (ends (note_tokens (front ++ x ∷ back))) = subst
      (λ n. Mounts (ends (note_tokens n))) l mounts in
      let same : x ≡ y = notes_once front back g other x y t.loc.end (sym l ∙ k) here (inr (inl refl)) (inl e) in
      let lt = key_below front back key t here in
      let at : key.loc.end ≡ y.key.loc.end = ap (λ (a : AnnotationSyntax). a.key.loc.end) same in
      omega (arith, lt, at, e)

  abbrev twice : AnyId → AnnotationSyntax → AnnotationSyntax → UserError
  twice key first second =
      DuplicateAnnotations key (record { node = tt; loc = Some first.key.loc })
      (record { node = tt; loc = Some second.key.loc })

  -- faults of one site that end together are one
  fault_once : {site : Site} {f g : UserError} {p q : ℕ} → Mounts (site_ends site) → FaultAt source site f p
      → FaultAt source site g q → p ≡ q → f ≡ g
  fault_once m (empty_list brackets) (empty_list _) e = refl
  fault_once m (reserved t h) (reserved _ k) e = refl
  fault_once m (escape t at h) (escape _ bt k) e = ap (escape_fault t) (escape_once t at bt h k)
  fault_once m (note_escape front back key t at l h) (note_escape g other yek u bt k i) e =
      let x : AnnotationSyntax = record { key = key; value = Some t } in
      let y : AnnotationSyntax = record { key = yek; value = Some u } in
      let here : Mounts (ends (note_tokens (front ++ x ∷ back))) = subst (λ n. Mounts (ends (note_tokens n))) l m in
      let same : x ≡ y = notes_once front back g other x y t.loc.end (sym l ∙ k) here (inr (inl refl)) (inr (inl e)) in
      let token : t ≡ u = same_Some t u (ap (λ (a : AnnotationSyntax). a.value) same) in
      let place : at ≡ bt = escape_once t at bt h (subst (λ z. IsBadEscapeAt source z bt) (sym token) i) in
      λ i. escape_fault (token i) (place i)
  fault_once {site = annotations list} m (note_escape front back key t at l h)
      (duplicate f n b first second yek k v w af am) e =
      absurd (no_value_there list front back (f ++ first ∷ n) b key t second m l
      (k ∙ sym (append_assoc f (first ∷ n) (second ∷ b))) e)
  fault_once {site = annotations list} m (duplicate f n b first second yek k v w af am)
      (note_escape front back key t at l h) e =
      absurd (no_value_there list front back (f ++ first ∷ n) b key t second m l
      (k ∙ sym (append_assoc f (first ∷ n) (second ∷ b))) (sym e))
  fault_once m (duplicate f n b first second key l v w af am) (duplicate g o c third fourth yek k x y ag ao) e =
      let split : _ ≡ (f ++ first ∷ n) ++ second ∷ b = l ∙ sym (append_assoc f (first ∷ n) (second ∷ b)) in
      let other : _ ≡ (g ++ third ∷ o) ++ fourth ∷ c = k ∙ sym (append_assoc g (third ∷ o) (fourth ∷ c)) in
      let here : Mounts (ends (note_tokens ((f ++ first ∷ n) ++ second ∷ b))) = subst
      (λ n. Mounts (ends (note_tokens n))) split m in
      let seconds : second ≡ fourth = notes_once (f ++ first ∷ n) b (g ++ third ∷ o) c second fourth
      second.key.loc.end (sym split ∙ other) here (inl refl) (inl e) in
      let texts : key.text ≡ yek.text = sym w ∙ ap (λ (a : AnnotationSyntax). word_at source a.key) seconds ∙ y in
      let keys : key ≡ yek = any_id_same key yek texts in
      let P : AnnotationSyntax → Type 0 = λ a. word_at source a.key ≡ key.text in
      let firsts : first ≡ third = firsts_once P f (n ++ second ∷ b) g (o ++ fourth ∷ c) first third (sym l ∙ k) af v
      (subst (λ text. All (IsOtherKey source text) g) (sym texts) ag) (x ∙ sym texts) in
      λ i. twice (keys i) (firsts i) (seconds i)

  -- a site in front of another has its faults end before those of the other
  sites_apart : (front back : List Site) (x y : Site) (n m : ℕ) → Mounts (sites_ends (front ++ y ∷ back))
      → (a b : List Site) → front ≡ a ++ x ∷ b → Among n (site_ends x) → Among m (site_ends y) → n < m
  sites_apart front back x y n m mounts a b e h k =
      turns_apart (λ n m. n < m) (sites_ends front) (sites_ends (y ∷ back)) n m
      (subst Mounts (flat_map-append site_ends front (y ∷ back)) mounts)
      (subst (λ l. Among n (sites_ends l)) (sym e)
      (subst (Among n) (sym (flat_map-append site_ends a (x ∷ b)))
      (among_right n (sites_ends a) (sites_ends (x ∷ b)) (among_left n (site_ends x) (sites_ends b) h))))
      (among_left m (site_ends y) (sites_ends back) k)

  -- user faults that end together are one
  pub faults_once : (items : List ItemSyntax) (f g : UserError) (p q : ℕ) → Mounts (sites_ends (sites_of items))
      → HasUserFault source items f p → HasUserFault source items g q → p ≡ q → f ≡ g
  faults_once items f g p q mounts (front, x, back, split, h) (a, y, b, other, k) e =
      let here : Mounts (sites_ends (front ++ x ∷ back)) = subst (λ l. Mounts (sites_ends l)) split mounts in
      elim (places front back a b x y (sym split ∙ other)) [
        | earlier c d i ↦ absurd (let lt : q < p = sites_apart front back y x q p here c d i (fault_end source k)
            (fault_end source h) in omega (arith, lt, e))
        | same i ↦
            let own : Mounts (site_ends x) =
            mounts_left (site_ends x) (sites_ends back)
            (mounts_right (sites_ends front) (sites_ends (x ∷ back))
            (subst Mounts (flat_map-append site_ends front (x ∷ back)) here)) in
            fault_once own h (subst (λ s. FaultAt source s g q) (sym i) k) e
        | later c d i ↦ absurd (
            let whole : front ++ x ∷ back ≡ (front ++ x ∷ c) ++ y ∷ d = ap (λ l. front ++ x ∷ l) i
            ∙ sym (append_assoc front (x ∷ c) (y ∷ d)) in
            let lt : p < q = sites_apart (front ++ x ∷ c) d x y p q (subst (λ l. Mounts (sites_ends l)) whole here)
            front c refl (fault_end source h) (fault_end source k) in
            omega (arith, lt, e))
      ]
