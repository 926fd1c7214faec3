-- A declared name is spelled as it is meant.
use Rattle.std.proofs.Common.{◌≡◌, ℕ, Bool, true, false, List, [], ◌∷◌, ◌++◌, cond, find}
use Rattle.std.proofs.Common.{Some}
use Rattle.std.proofs.Common.{Contains, refl, sym, ap, ◌∙◌, subst, inl, inr, arith, codes, None}
use Rattle.std.specs.Prelude.{◌⊎◌, ◌↔◌, if◌then◌else◌}
use Rattle.std.specs.Str.{chars}
use Rattle.std.proofs.lemmas.Bool.{false≢true}
use Rattle.cedar_identifiers.specs.Names.{name_text}
use Rattle.cedar_identifiers.specs.declared.reference_type.ReferenceType.{ReferenceType}
use Rattle.cedar_names.specs.CanonicalText.{attribute_name}
use Rattle.cedar_names.specs.Definitions.{same_name}
use Rattle.cedar_names.proofs.Defined.{equal_names, name_itself}
use Rattle.schema_resolve_definitions.specs.Tests.{Tests}
use Rattle.schema_resolve_targets.specs.Targets.{is_defined}
use Rattle.schema_assist_offers.specs.Offers.{candidates_in, Means, MeansAction, IsSpelledIn, Completes}
use Rattle.schema_assist_offers.specs.Offers.IsSpelledIn.{by_word, in_full}
use Rattle.schema_assist_offers.specs.Spellings.{kept, is_outer, Question, spelled, spelled_action}
use Rattle.schema_assist_offers.proofs.Fronts.{kept_is, is_kept}
use Rattle.schema_assist_offers.proofs.First.{first_own, first_alone, first_of_other, first_hidden}

pub nothing_in : {X Z : Type 0} (x : X) → Contains [] x → Z
nothing_in x (k, h, e) = absurd (omega arith)

-- what a spelling says
told : {t : Tests} {kind : ReferenceType} {ns before : List (List ℕ)} {word s : List ℕ}
    → IsSpelledIn t kind ns before word s
    → (Means t kind ns (word ∷ []) (before ++ word ∷ []) × (s ≡ word))
    ⊎ ((Means t kind ns (word ∷ []) (before ++ word ∷ []) → ⊥)
    × Means t kind ns (before ++ word ∷ []) (before ++ word ∷ []) × (s ≡ name_text (before ++ word ∷ [])))
told (by_word m) = inl (m, refl)
told (in_full n m) = inr (n, m, refl)

same_is : (a b : List (List ℕ)) → same_name a b ≡ false → a ≡ b → ⊥
same_is a b h e = false≢true (sym h ∙ ap (λ x. same_name x b) e ∙ name_itself b)

-- a name of several words stands for itself
several : (ns : List (List ℕ)) (x : List ℕ) (xs : List (List ℕ)) (w : List ℕ)
    → candidates_in ns ((x ∷ xs) ++ w ∷ []) ≡ ((x ∷ xs) ++ w ∷ []) ∷ []
several ns x [] w = refl
several ns x (y ∷ ys) w = refl

-- what is kept and what is said of it, where one spelling is right
abbrev Says : List (List ℕ) → (List ℕ → Type 0) → List ℕ → Type 0
Says list P front = (s : List ℕ) → (Contains list s ↔ (P s × Completes s front))

one : (front right : List ℕ) (P : List ℕ → Type 0) → P right → ((s : List ℕ) → P s → s ≡ right)
    → Says (kept front right) P front
one front right P here only s = (
  λ h. let k = kept_is front right s h in
      (subst P (sym k.0) here, subst (λ x. Completes x front) (sym k.0) k.1),
  λ h. let same : s ≡ right = only s h.0 in
      subst (λ x. Contains (kept front right) x) (sym same)
      (is_kept front right (subst (λ x. Completes x front) same h.1)),
)

none : (front : List ℕ) (P : List ℕ → Type 0) → ((s : List ℕ) → P s → ⊥) → Says [] P front
none front P never s = (λ h. nothing_in s h, λ h. absurd (never s h.0))

module _ (q : Question) (kind : ReferenceType) (word : List ℕ) where
  abbrev Spells : List (List ℕ) → List ℕ → Type 0
  Spells before s = IsSpelledIn q.tests kind q.ns before word s

  abbrev name : List (List ℕ) → List (List ℕ)
  name before = before ++ word ∷ []

  by_words : (before : List (List ℕ)) → Means q.tests kind q.ns (word ∷ []) (name before)
      → Says (kept q.front word) (Spells before) q.front
  by_words before m = one q.front word (Spells before) (by_word m) (λ s h. elim (told h) [
    | inl short ↦ short.1
    | inr full ↦ absurd (full.0 m)
  ])

  own : (before : List (List ℕ)) → is_defined q.tests kind (name before) ≡ true → before ≡ q.ns
      → Says (kept q.front word) (Spells before) q.front
  own before d same = by_words before (subst (λ x. Means q.tests kind x (word ∷ []) (name before)) same
      (first_own (is_defined q.tests kind) before word d))

  outer : is_defined q.tests kind (word ∷ []) ≡ true → ([] ≡ q.ns → ⊥)
      → Says (if is_defined q.tests kind (q.ns ++ word ∷ []) then [] else kept q.front word) (Spells []) q.front
  outer d other = go (is_defined q.tests kind (q.ns ++ word ∷ [])) refl
    where
      go : (b : Bool) → is_defined q.tests kind (q.ns ++ word ∷ []) ≡ b
          → Says (if b then [] else kept q.front word) (Spells []) q.front
      go true e = none q.front (Spells []) (λ s h. elim (told h) [
        | inl short ↦ first_hidden (is_defined q.tests kind) q.ns word other e short.0
        | inr full ↦ full.0 full.1
      ])
      go false e = by_words [] (first_alone (is_defined q.tests kind) q.ns word e d)

  elsewhere : (x : List ℕ) (xs : List (List ℕ)) → is_defined q.tests kind (name (x ∷ xs)) ≡ true
      → (x ∷ xs ≡ q.ns → ⊥)
      → Says (kept q.front (name_text (name (x ∷ xs)))) (Spells (x ∷ xs)) q.front
  elsewhere x xs d other =
      let not_short = first_of_other (is_defined q.tests kind) q.ns word x xs other in
      let full : Means q.tests kind q.ns (name (x ∷ xs)) (name (x ∷ xs)) =
      ap (find (is_defined q.tests kind)) (several q.ns x xs word)
      ∙ ap (λ b. cond b (Some (name (x ∷ xs))) None) d in
      one q.front (name_text (name (x ∷ xs))) (Spells (x ∷ xs)) (in_full not_short full) (λ s h. elim (told h) [
        | inl short ↦ absurd (not_short short.0)
        | inr it ↦ it.2
      ])

  -- a defined name is spelled as it is meant
  pub spelled_as_meant : (before : List (List ℕ)) → is_defined q.tests kind (before ++ word ∷ []) ≡ true
      → (s : List ℕ)
      → (Contains (spelled q kind before word) s
      ↔ (IsSpelledIn q.tests kind q.ns before word s × Completes s q.front))
  spelled_as_meant before d = go before d (same_name before q.ns) refl
    where
      go : (before : List (List ℕ)) → is_defined q.tests kind (name before) ≡ true
          → (b : Bool) → same_name before q.ns ≡ b
          → Says (if b then kept q.front word
          else (if is_outer before
          then (if is_defined q.tests kind (q.ns ++ word ∷ []) then [] else kept q.front word)
          else kept q.front (name_text (name before)))) (Spells before) q.front
      go before d true e = own before d (equal_names before q.ns e)
      go [] d false e = outer d (same_is [] q.ns e)
      go (x ∷ xs) d false e = elsewhere x xs d (same_is (x ∷ xs) q.ns e)

module _ (q : Question) (id : List ℕ) where
  abbrev is_there : List (List ℕ) → Bool
  is_there ty = q.tests.is_action (ty, id)

  -- the action with a type in this namespace is meant, and this is how its id is written
  abbrev pub Writes : List (List ℕ) → List ℕ → Type 0
  Writes before s = MeansAction q.tests q.ns id (before ++ codes "Action" ∷ []) × (s ≡ chars (attribute_name id))

  written : (before : List (List ℕ)) → MeansAction q.tests q.ns id (before ++ codes "Action" ∷ [])
      → Says (kept q.front (chars (attribute_name id))) (Writes before) q.front
  written before m = one q.front (chars (attribute_name id)) (Writes before) (m, refl) (λ s h. h.1)

  action_outer : is_there (codes "Action" ∷ []) ≡ true → ([] ≡ q.ns → ⊥)
      → Says (if is_there (q.ns ++ codes "Action" ∷ []) then [] else kept q.front (chars (attribute_name id)))
      (Writes []) q.front
  action_outer d other = go (is_there (q.ns ++ codes "Action" ∷ [])) refl
    where
      go : (b : Bool) → is_there (q.ns ++ codes "Action" ∷ []) ≡ b
          → Says (if b then [] else kept q.front (chars (attribute_name id))) (Writes []) q.front
      go true e = none q.front (Writes []) (λ s h. first_hidden is_there q.ns (codes "Action") other e h.0)
      go false e = written [] (first_alone is_there q.ns (codes "Action") e d)

  -- the id of a declared action is written where a reference by it means the action
  pub action_as_meant : (before : List (List ℕ)) → q.tests.is_action (before ++ codes "Action" ∷ [], id) ≡ true
      → (s : List ℕ)
      → (Contains (spelled_action q before id) s ↔ (Writes before s × Completes s q.front))
  action_as_meant before d = go before d (same_name before q.ns) refl
    where
      go : (before : List (List ℕ)) → is_there (before ++ codes "Action" ∷ []) ≡ true
          → (b : Bool) → same_name before q.ns ≡ b
          → Says (if b then kept q.front (chars (attribute_name id))
          else (if is_outer before
          then (if is_there (q.ns ++ codes "Action" ∷ []) then [] else kept q.front (chars (attribute_name id)))
          else [])) (Writes before) q.front
      go before d true e = written before
          (subst (λ x. MeansAction q.tests x id (before ++ codes "Action" ∷ [])) (equal_names before q.ns e)
          (first_own is_there before (codes "Action") d))
      go [] d false e = action_outer d (same_is [] q.ns e)
      go (x ∷ xs) d false e = none q.front (Writes (x ∷ xs))
          (λ s h. first_of_other is_there q.ns (codes "Action") x xs (same_is (x ∷ xs) q.ns e) h.0)
