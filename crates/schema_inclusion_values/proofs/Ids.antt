-- Ids of entity types: which fit, one that does, and one that is lost.
use Rattle.std.proofs.Common.{◌≡◌, ℕ, zero, suc, ◌+◌, ◌<◌, ◌≤◌, Bool, true, false, cond, List, [], ◌∷◌, ◌++◌, length}
use Rattle.std.proofs.Common.{Option, Some, None, inl, inr, refl, subst, ap, arith}
use Rattle.std.specs.Prelude.{◌⊎◌, ◌||◌, MatchOption}
use Rattle.std.specs.List.{AllByRecursion}
use Rattle.std.specs.Str.{bytes_eq}
use Rattle.std.proofs.lemmas.Bool.{cases_Bool}
use Rattle.std.proofs.lemmas.List.{length-replicate}
use Rattle.cedar_names.specs.Definitions.{same_name}
use Rattle.cedar_names.proofs.Defined.{equal_names}
use Rattle.cedar_names.specs.Meaning.{EntityMeaning, ActionMeaning, SchemaMeaning}
use Rattle.schema_inclusion_values.specs.Values.{Text, Name}
use Rattle.schema_inclusion_values.specs.Ids.{AnyOf, TakesId, Fits, IsNamed, IsNoEmptyEnum, HasChoices, with_ids}
use Rattle.schema_inclusion_values.specs.Ids.{entity_ids, action_ids, all_ids, first_id, some_id, letters, has_text}
use Rattle.schema_inclusion_values.specs.Ids.{first_unused, total_length, unused, IsLeastUnused, lost_choice, lost_id}
use Rattle.schema_inclusion_values.specs.Ids.{lost_of, IsLostId}
use Rattle.schema_inclusion_values.proofs.Values.{same, names_apart, same_itself}

-- ---- the least unused text

has_at : (c t : Text) (cs : List Text) (b : Bool) → bytes_eq c t ≡ b → (b || has_text cs t) ≡ true
    → (c ≡ t) ⊎ (has_text cs t ≡ true)
has_at c t cs true e h = inl (same c t e)
has_at c t cs false e h = inr h

had_next : (c t : Text) (cs : List Text) → (has_text cs t ≡ true → AnyOf (λ c. c ≡ t) cs)
    → (c ≡ t) ⊎ (has_text cs t ≡ true) → (c ≡ t) ⊎ AnyOf (λ c. c ≡ t) cs
had_next c t cs rest (inl e) = inl e
had_next c t cs rest (inr q) = inr (rest q)

pub had_text : (cs : List Text) (t : Text) → has_text cs t ≡ true → AnyOf (λ c. c ≡ t) cs
had_text [] t h = absurd (cc)
had_text (c ∷ cs) t h = had_next c t cs (had_text cs t) (has_at c t cs (bytes_eq c t) refl h)

or_right : (b c : Bool) → c ≡ true → (b || c) ≡ true
or_right true c e = refl
or_right false c e = e

pub text_had : (cs : List Text) (t : Text) → AnyOf (λ c. c ≡ t) cs → has_text cs t ≡ true
text_had [] t h = absurd h
text_had (c ∷ cs) t (inl e) = ap (λ b. b || has_text cs t) (same_itself c t e)
text_had (c ∷ cs) t (inr h) = or_right (bytes_eq c t) (has_text cs t) (text_had cs t h)

any_short : (cs : List Text) (t : Text) → AnyOf (λ c. c ≡ t) cs → length t ≤ total_length cs
any_short [] t h = absurd h
any_short (c ∷ cs) t (inl e) = let l = ap (λ x. length x) e in omega (arith, l)
any_short (c ∷ cs) t (inr h) = let l = any_short cs t h in omega (arith, l)

long_unused : (cs : List Text) (k : ℕ) → total_length cs < k → has_text cs (letters k) ≡ false
long_unused cs k lt = go (cases_Bool (has_text cs (letters k)))
  where
    go : (has_text cs (letters k) ≡ true) ⊎ (has_text cs (letters k) ≡ false) → has_text cs (letters k) ≡ false
    go (inl e) = let s = any_short cs (letters k) (had_text cs (letters k) e) in let l : length (letters k)
        ≡ k = length-replicate k 97 in absurd (omega (arith, s, l, lt))
    go (inr e) = e

unused_at : (cs : List Text) (more k : ℕ) (b : Bool) → has_text cs (letters k) ≡ b
    → has_text cs (letters (first_unused cs more (k + 1))) ≡ false
    → has_text cs (letters (cond b (first_unused cs more (k + 1)) k)) ≡ false
unused_at cs more k true e rest = rest
unused_at cs more k false e rest = e

pub is_unused : (cs : List Text) (more k : ℕ) → total_length cs < k + more
    → has_text cs (letters (first_unused cs more k)) ≡ false
is_unused cs zero k lt = long_unused cs k (omega (arith, lt))
is_unused cs (suc more) k lt = unused_at cs more k (has_text cs (letters k)) refl
    (is_unused cs more (k + 1) (omega (arith, lt)))

least_at : (cs : List Text) (more k j : ℕ) (b : Bool) → has_text cs (letters k) ≡ b → k ≤ j
    → j < cond b (first_unused cs more (k + 1)) k
    → (k + 1 ≤ j → j < first_unused cs more (k + 1) → has_text cs (letters j) ≡ true) → has_text cs (letters j) ≡ true
least_at cs more k j true e le lt rest = go (le_cases k j le)
  where
    le_cases : (k j : ℕ) → k ≤ j → (k ≡ j) ⊎ (k + 1 ≤ j)
    le_cases k j le = grind (arith, le)

    go : (k ≡ j) ⊎ (k + 1 ≤ j) → has_text cs (letters j) ≡ true
    go (inl q) = subst (λ x. has_text cs (letters x) ≡ true) q e
    go (inr later) = rest later lt
least_at cs more k j false e le lt rest = absurd (omega (arith, le, lt))

pub is_least : (cs : List Text) (more k j : ℕ) → k ≤ j → j < first_unused cs more k → has_text cs (letters j) ≡ true
is_least cs zero k j le lt = absurd (omega (arith, le, lt))
is_least cs (suc more) k j le lt = least_at cs more k j (has_text cs (letters k)) refl le lt
    (λ later less. is_least cs more (k + 1) j later less)

pub least_unused : (cs : List Text) → IsLeastUnused cs (unused cs)
least_unused cs = (
  is_unused cs (total_length cs + 1) 0 (omega arith),
  λ k lt. is_least cs (total_length cs + 1) 0 k
      (omega arith) lt,
)

-- ---- which ids fit

any_append_left : {A : Type 0} (P : A → Type 0) (xs ys : List A) → AnyOf P xs → AnyOf P (xs ++ ys)
any_append_left P [] ys h = absurd h
any_append_left P (x ∷ xs) ys (inl h) = inl h
any_append_left P (x ∷ xs) ys (inr h) = inr (any_append_left P xs ys h)

any_append_right : {A : Type 0} (P : A → Type 0) (xs ys : List A) → AnyOf P ys → AnyOf P (xs ++ ys)
any_append_right P [] ys h = h
any_append_right P (x ∷ xs) ys h = inr (any_append_right P xs ys h)

later_of : {A B C : Type 0} → B ⊎ C → (A ⊎ B) ⊎ C
later_of (inl b) = inl (inr b)
later_of (inr c) = inr c

any_split : {A : Type 0} (P : A → Type 0) (xs ys : List A) → AnyOf P (xs ++ ys) → AnyOf P xs ⊎ AnyOf P ys
any_split P [] ys h = inr h
any_split P (x ∷ xs) ys (inl h) = inl (inl h)
any_split P (x ∷ xs) ys (inr h) = later_of (any_split P xs ys h)

takes_left : (a b : Option (List Text)) (id : Text) → TakesId a id → TakesId (with_ids a b) id
takes_left None b id h = tt
takes_left (Some xs) None id h = tt
takes_left (Some xs) (Some ys) id h = any_append_left _ xs ys h

takes_right : (a b : Option (List Text)) (id : Text) → TakesId b id → TakesId (with_ids a b) id
takes_right None b id h = tt
takes_right (Some xs) None id h = tt
takes_right (Some xs) (Some ys) id h = any_append_right _ xs ys h

takes_split : (a b : Option (List Text)) (id : Text) → TakesId (with_ids a b) id → TakesId a id ⊎ TakesId b id
takes_split None b id h = inl tt
takes_split (Some xs) None id h = inr tt
takes_split (Some xs) (Some ys) id h = any_split _ xs ys h

abbrev EntityFits : Name → Text → EntityMeaning → Type 0
EntityFits ty id e = (e.name ≡ ty) × TakesId e.choices id

abbrev ActionFits : Name → Text → ActionMeaning → Type 0
ActionFits ty id a = (a.ty ≡ ty) × (a.id ≡ id)

-- what fits is listed
entity_in : (ty : Name) (id : Text) (e : EntityMeaning) (rest : Option (List Text)) (b : Bool) → same_name e.name ty ≡ b
    → EntityFits ty id e ⊎ TakesId rest id → TakesId (cond b (with_ids e.choices rest) rest) id
entity_in ty id e rest true q (inl h) = takes_left e.choices rest id h.1
entity_in ty id e rest true q (inr h) = takes_right e.choices rest id h
entity_in ty id e rest false q (inl h) = absurd (names_apart e.name ty q h.0)
entity_in ty id e rest false q (inr h) = h

entities_in : (ty : Name) (id : Text) (es : List EntityMeaning) → AnyOf (EntityFits ty id) es
    → TakesId (entity_ids ty es) id
entities_in ty id [] h = absurd h
entities_in ty id (e ∷ es) (inl h) = entity_in ty id e (entity_ids ty es) (same_name e.name ty) refl (inl h)
entities_in ty id (e ∷ es) (inr h) = entity_in ty id e (entity_ids ty es) (same_name e.name ty) refl
    (inr (entities_in ty id es h))

action_in : (ty : Name) (id : Text) (a : ActionMeaning) (rest : List Text) (b : Bool) → same_name a.ty ty ≡ b
    → ActionFits ty id a ⊎ AnyOf (λ c. c ≡ id) rest → AnyOf (λ c. c ≡ id) (cond b (a.id ∷ rest) rest)
action_in ty id a rest true q (inl h) = inl h.1
action_in ty id a rest true q (inr h) = inr h
action_in ty id a rest false q (inl h) = absurd (names_apart a.ty ty q h.0)
action_in ty id a rest false q (inr h) = h

actions_in : (ty : Name) (id : Text) (xs : List ActionMeaning) → AnyOf (ActionFits ty id) xs
    → AnyOf (λ c. c ≡ id) (action_ids ty xs)
actions_in ty id [] h = absurd h
actions_in ty id (a ∷ xs) (inl h) = action_in ty id a (action_ids ty xs) (same_name a.ty ty) refl (inl h)
actions_in ty id (a ∷ xs) (inr h) = action_in ty id a (action_ids ty xs) (same_name a.ty ty) refl
    (inr (actions_in ty id xs h))

pub listed : (m : SchemaMeaning) (ty : Name) (id : Text) → Fits m ty id → TakesId (all_ids m ty) id
listed m ty id (inl h) = takes_left (entity_ids ty m.entities) (Some (action_ids ty m.actions)) id
    (entities_in ty id m.entities h)
listed m ty id (inr h) = takes_right (entity_ids ty m.entities) (Some (action_ids ty m.actions)) id
    (actions_in ty id m.actions h)

-- what is listed fits
entity_out : (ty : Name) (id : Text) (e : EntityMeaning) (rest : Option (List Text)) (b : Bool)
    → same_name e.name ty ≡ b
    → TakesId (cond b (with_ids e.choices rest) rest) id → EntityFits ty id e ⊎ TakesId rest id
entity_out ty id e rest true q h = go (takes_split e.choices rest id h)
  where
    go : TakesId e.choices id ⊎ TakesId rest id → EntityFits ty id e ⊎ TakesId rest id
    go (inl t) = inl (equal_names e.name ty q, t)
    go (inr t) = inr t
entity_out ty id e rest false q h = inr h

abbrev or_later : {A B C : Type 0} → (B → C) → A ⊎ B → A ⊎ C
or_later f (inl a) = inl a
or_later f (inr b) = inr (f b)

entities_out : (ty : Name) (id : Text) (es : List EntityMeaning) → TakesId (entity_ids ty es) id
    → AnyOf (EntityFits ty id) es
entities_out ty id [] h = absurd h
entities_out ty id (e ∷ es) h = or_later (entities_out ty id es)
    (entity_out ty id e (entity_ids ty es) (same_name e.name ty) refl h)

action_out : (ty : Name) (id : Text) (a : ActionMeaning) (rest : List Text) (b : Bool) → same_name a.ty ty ≡ b
    → AnyOf (λ c. c ≡ id) (cond b (a.id ∷ rest) rest) → ActionFits ty id a ⊎ AnyOf (λ c. c ≡ id) rest
action_out ty id a rest true q (inl h) = inl (equal_names a.ty ty q, h)
action_out ty id a rest true q (inr h) = inr h
action_out ty id a rest false q h = inr h

actions_out : (ty : Name) (id : Text) (xs : List ActionMeaning) → AnyOf (λ c. c ≡ id) (action_ids ty xs)
    → AnyOf (ActionFits ty id) xs
actions_out ty id [] h = absurd h
actions_out ty id (a ∷ xs) h = or_later (actions_out ty id xs)
    (action_out ty id a (action_ids ty xs) (same_name a.ty ty) refl h)

pub fits_listed : (m : SchemaMeaning) (ty : Name) (id : Text) → TakesId (all_ids m ty) id → Fits m ty id
fits_listed m ty id h = go (takes_split (entity_ids ty m.entities) (Some (action_ids ty m.actions)) id h)
  where
    go : TakesId (entity_ids ty m.entities) id ⊎ AnyOf (λ c. c ≡ id) (action_ids ty m.actions) → Fits m ty id
    go (inl t) = inl (entities_out ty id m.entities t)
    go (inr t) = inr (actions_out ty id m.actions t)

-- ---- an id that is lost

abbrev pub Lost : Option (List Text) → Option (List Text) → Option Text → Type 0
Lost old new found = MatchOption found ((id : Text) → TakesId old id → TakesId new id) (λ id. TakesId old id
    × (TakesId new id → ⊥))

pub not_had : (cs : List Text) (t : Text) → has_text cs t ≡ false → AnyOf (λ c. c ≡ t) cs → ⊥
not_had cs t e h = let q = text_had cs t h in cc

one_more : (c : Text) (old new : List Text) (b : Bool) (rest : Option Text) → has_text new c ≡ b
    → Lost (Some old) (Some new) rest → Lost (Some (c ∷ old)) (Some new) (cond b rest (Some c))
one_more c old new true None e h = λ id t. go id t
  where
    go : (id : Text) → (c ≡ id) ⊎ AnyOf (λ c. c ≡ id) old → AnyOf (λ c. c ≡ id) new
    go id (inl q) = subst (λ x. AnyOf (λ c. c ≡ x) new) q (had_text new c e)
    go id (inr t) = h id t
one_more c old new true (Some id) e h = (inr h.0, h.1)
one_more c old new false rest e h = (inl refl, not_had new c e)

choice_lost : (old new : List Text) → Lost (Some old) (Some new) (lost_choice old new)
choice_lost [] new = λ id h. absurd h
choice_lost (c ∷ old) new = one_more c old new (has_text new c) (lost_choice old new) refl (choice_lost old new)

pub id_lost : (old new : Option (List Text)) → Lost old new (lost_id old new)
id_lost old None = λ id h. tt
id_lost None (Some new) = (tt, not_had new (letters (unused new)) (least_unused new).0)
id_lost (Some old) (Some new) = choice_lost old new

told : (old new : SchemaMeaning) (ty : Name) (found : Option Text) → Lost (all_ids old ty) (all_ids new ty) found
    → IsLostId old new ty found
told old new ty None h = λ id f. fits_listed new ty id (h id (listed old ty id f))
told old new ty (Some id) h = (fits_listed old ty id h.0, λ f. h.1 (listed new ty id f))

pub is_lost_id : (old new : SchemaMeaning) (ty : Name) → IsLostId old new ty (lost_of old new ty)
is_lost_id old new ty = told old new ty (lost_of old new ty) (id_lost (all_ids old ty) (all_ids new ty))

-- ---- some id

pub some_taken : (ids : Option (List Text)) → IsNoEmptyEnum ids → TakesId ids (first_id ids)
some_taken None h = tt
some_taken (Some []) h = absurd h
some_taken (Some (c ∷ cs)) h = inl refl

filled_left : (a b : Option (List Text)) → IsNoEmptyEnum a → IsNoEmptyEnum (with_ids a b)
filled_left None b h = tt
filled_left (Some []) b h = absurd h
filled_left (Some (c ∷ cs)) None h = tt
filled_left (Some (c ∷ cs)) (Some ys) h = tt

filled_right : (a b : Option (List Text)) → IsNoEmptyEnum b → IsNoEmptyEnum (with_ids a b)
filled_right None b h = tt
filled_right (Some []) None h = tt
filled_right (Some (c ∷ cs)) None h = tt
filled_right (Some xs) (Some []) h = absurd h
filled_right (Some []) (Some (y ∷ ys)) h = tt
filled_right (Some (c ∷ cs)) (Some (y ∷ ys)) h = tt

filled_at : (ty : Name) (e : EntityMeaning) (rest : Option (List Text)) (b : Bool) → same_name e.name ty ≡ b
    → IsNoEmptyEnum e.choices
    → (e.name ≡ ty) ⊎ IsNoEmptyEnum rest → IsNoEmptyEnum (cond b (with_ids e.choices rest) rest)
filled_at ty e rest true q full h = filled_left e.choices rest full
filled_at ty e rest false q full (inl h) = absurd (names_apart e.name ty q h)
filled_at ty e rest false q full (inr h) = h

entities_filled : (ty : Name) (es : List EntityMeaning) → AllByRecursion (λ e. IsNoEmptyEnum e.choices) es
    → AnyOf (λ e. e.name ≡ ty) es → IsNoEmptyEnum (entity_ids ty es)
entities_filled ty [] full h = absurd h
entities_filled ty (e ∷ es) full (inl h) = filled_at ty e (entity_ids ty es) (same_name e.name ty) refl full.0 (inl h)
entities_filled ty (e ∷ es) full (inr h) = filled_at ty e (entity_ids ty es) (same_name e.name ty) refl full.0
    (inr (entities_filled ty es full.1 h))

action_filled : (ty : Name) (a : ActionMeaning) (rest : List Text) (b : Bool) → same_name a.ty ty ≡ b
    → (a.ty ≡ ty) ⊎ IsNoEmptyEnum (Some rest) → IsNoEmptyEnum (Some (cond b (a.id ∷ rest) rest))
action_filled ty a rest true q h = tt
action_filled ty a rest false q (inl h) = absurd (names_apart a.ty ty q h)
action_filled ty a rest false q (inr h) = h

actions_filled : (ty : Name) (xs : List ActionMeaning) → AnyOf (λ a. a.ty ≡ ty) xs
    → IsNoEmptyEnum (Some (action_ids ty xs))
actions_filled ty [] h = absurd h
actions_filled ty (a ∷ xs) (inl h) = action_filled ty a (action_ids ty xs) (same_name a.ty ty) refl (inl h)
actions_filled ty (a ∷ xs) (inr h) = action_filled ty a (action_ids ty xs) (same_name a.ty ty) refl
    (inr (actions_filled ty xs h))

all_filled : (m : SchemaMeaning) (ty : Name) → HasChoices m → IsNamed m ty → IsNoEmptyEnum (all_ids m ty)
all_filled m ty full (inl h) = filled_left (entity_ids ty m.entities) (Some (action_ids ty m.actions))
    (entities_filled ty m.entities full h)
all_filled m ty full (inr h) = filled_right (entity_ids ty m.entities) (Some (action_ids ty m.actions))
    (actions_filled ty m.actions h)

pub some_id_fits : (m : SchemaMeaning) (ty : Name) → HasChoices m → IsNamed m ty → Fits m ty (some_id m ty)
some_id_fits m ty full h = fits_listed m ty (some_id m ty) (some_taken (all_ids m ty) (all_filled m ty full h))
