-- How a name of a namespace begins, and the id of an action.
use Rattle.std.proofs.Common.{◌≡◌, ℕ, Bool, true, false, List, [], ◌∷◌, ◌++◌, length, cond, refl, sym, ap, ◌∙◌}
use Rattle.std.proofs.Common.{inl, inr, arith, codes, nat_eq, append_assoc, arith}
use Rattle.std.specs.Prelude.{◌↔◌, Result, Ok, Err, IfOk}
use Rattle.std.specs.declared.alloc.AllocError.{AllocError}
use Rattle.cedar_names.specs.Definitions.{same_name}
use Rattle.cedar_names.proofs.Defined.{equal_names, name_itself}
use Rattle.std.specs.List.{starts_with}
use Rattle.std.specs.Str.{chars, encode_utf8_all, all_scalars}
use Rattle.std.proofs.lemmas.Bool.{cases_Bool}
use Rattle.std.proofs.lemmas.Bool.Decides.{nat_tests}
use Rattle.std.proofs.lemmas.Str.{chars-append, chars-IsAscii, chars-encodes, IsUtf8-from_ascii}
use Rattle.cedar_data.specs.Words.{is_word_start, is_word_part}
use Rattle.cedar_data.specs.Rows.{joined_by}
use Rattle.cedar_data.proofs.Ascii.{IsAscii-from_test, word_ascii}
use Rattle.cedar_identifiers.specs.Names.{name_text}
use Rattle.cedar_identifiers.specs.Words.{is_id}
use Rattle.cedar_identifiers.proofs.Ids.{id_is_word, id_bytes}
use Rattle.cedar_names.specs.CanonicalText.{attribute_name}
use Rattle.schema_syntax_tokens.specs.Forms.{IsWord}
use Rattle.schema_syntax_tokens.specs.Quotes.{quoted, quoted_body}
use Rattle.std.proofs.lemmas.List.Elements.{All-nil, All-cons, All-head, All-tail}
use Rattle.std.specs.List.{AllPass}
use Rattle.cedar_data.proofs.Ascii.{start_part}
use Rattle.schema_assist_offers.specs.Offers.{Completes}
use Rattle.schema_assist_offers.specs.Spellings.{IsWordOrNothing}
use Rattle.schema_assist_offers.proofs.Fronts.{begins_so, so_begins}

-- tests that hold together are the same
same_test : (a b : Bool) → (a ≡ true → b ≡ true) → (b ≡ true → a ≡ true) → a ≡ b
same_test true b f g = sym (f refl)
same_test false true f g = g refl
same_test false false f g = refl

-- the bytes are parts of words
abbrev Parts : List ℕ → Type 0
Parts front = AllPass is_word_part front

front_parts : (front : List ℕ) → IsWordOrNothing front → Parts front
front_parts [] h = All-nil (λ x. is_word_part x ≡ true)
front_parts (b ∷ bs) (inl e) = cc
front_parts (b ∷ bs) (inr w) = word_parts b bs w
  where
    word_parts : (b : ℕ) (bs : List ℕ) → IsWord (b ∷ bs) → Parts (b ∷ bs)
    word_parts b bs w = All-cons (λ x. is_word_part x ≡ true) b bs (start_part b w.0) w.1

-- what follows a colon is not looked at by a front of a word
begins_before : (w rest front : List ℕ) → Parts front → Completes (w ++ 58 ∷ rest) front → Completes w front
begins_before w rest [] p h = (w, refl)
begins_before [] rest (b ∷ bs) p h =
    let e : 58 ≡ b = cc in
    let part : is_word_part b ≡ true = All-head (λ x. is_word_part x ≡ true) b bs p in
    let wrong : is_word_part 58 ≡ true = ap is_word_part e ∙ part in cc
begins_before (c ∷ w) rest (b ∷ bs) p (more, h) =
    let same : c ≡ b = cc in
    let below : w ++ 58 ∷ rest ≡ bs ++ more = cc in
    let r = begins_before w rest bs (All-tail (λ x. is_word_part x ≡ true) b bs p) (more, below) in
    (r.0, λ i. same i ∷ r.1 i)

begins_longer : (w rest front : List ℕ) → Completes w front → Completes (w ++ rest) front
begins_longer w rest front (more, h) = (more ++ rest, ap (λ x. x ++ rest) h ∙ append_assoc front more rest)

-- a name with a namespace goes on behind its first word
name_rest : List (List ℕ) → List ℕ → List ℕ
name_rest [] v = 58 ∷ v
name_rest (x ∷ xs) v = 58 ∷ joined_by (codes "::") ((x ∷ xs) ++ v ∷ [])

name_front : (w : List ℕ) (ws : List (List ℕ)) (v : List ℕ)
    → name_text ((w ∷ ws) ++ v ∷ []) ≡ w ++ 58 ∷ name_rest ws v
unfolding name_rest
name_front w [] v = refl
name_front w (x ∷ xs) v = refl

-- so it begins as its first word does
pub begins_as_first : (w : List ℕ) (ws : List (List ℕ)) (v front : List ℕ) → IsWordOrNothing front
    → starts_with nat_eq (name_text ((w ∷ ws) ++ v ∷ [])) front ≡ starts_with nat_eq w front
begins_as_first w ws v front h =
    ap (λ s. starts_with nat_eq s front) (name_front w ws v)
    ∙ same_test _ _
    (λ e. so_begins w front (begins_before w (name_rest ws v) front (front_parts front h) (begins_so _ front e)))
    (λ e. so_begins _ front (begins_longer w (58 ∷ name_rest ws v) front (begins_so w front e)))

-- one word more at the end
pub name_behind : (w : List ℕ) (ws : List (List ℕ)) (v : List ℕ)
    → name_text ((w ∷ ws) ++ v ∷ []) ≡ (name_text (w ∷ ws) ++ codes "::") ++ v
name_behind w [] v = sym (append_assoc w (codes "::") v)
name_behind w (x ∷ ws) v =
    ap (λ t. w ++ (codes "::" ++ t)) (name_behind x ws v)
    ∙ simp append_assoc

-- an id in quotes begins with no word
quote_first : (rest : List ℕ) → chars (34 ∷ rest) ≡ 34 ∷ chars rest
quote_first rest =
    chars-append (34 ∷ []) rest (IsUtf8-from_ascii (34 ∷ []) (IsAscii-from_test (34 ∷ []) refl))
    ∙ ap (λ x. x ++ chars rest) (chars-IsAscii (34 ∷ []) (IsAscii-from_test (34 ∷ []) refl))

abbrev pub is_nothing : List ℕ → Bool
is_nothing [] = true
is_nothing (b ∷ bs) = false

pub quoted_begins : (id front : List ℕ) → IsWordOrNothing front → is_id id ≡ false
    → starts_with nat_eq (chars (attribute_name id)) front ≡ is_nothing front
quoted_begins id [] h quotes = so_begins (chars (attribute_name id)) [] (chars (attribute_name id), refl)
quoted_begins id (b ∷ bs) (inl e) quotes = cc
quoted_begins id (b ∷ bs) (inr w) quotes = elim (cases_Bool (starts_with nat_eq (chars (attribute_name id)) (b ∷ bs))) [
  | inl bare ↦
      let begins = begins_so (chars (attribute_name id)) (b ∷ bs) bare in
      let written : chars (attribute_name id) ≡ 34 ∷ chars (quoted_body id ++ 34 ∷ []) =
      ap (λ x. chars (cond x id (quoted id))) quotes ∙ quote_first (quoted_body id ++ 34 ∷ []) in
      let e : 34 ∷ chars (quoted_body id ++ 34 ∷ []) ≡ b ∷ (bs ++ begins.0) = sym written ∙ begins.1 in
      let first : 34 ≡ b = cc in
      let start : is_word_start 34 ≡ true = ap is_word_start first ∙ w.0 in cc
  | inr begins_not ↦ begins_not
]

-- an id without quotes is its own characters
pub bare_id : (id : List ℕ) → is_id id ≡ true → chars (attribute_name id) ≡ id
bare_id id bare = ap (λ x. chars (cond x id (quoted id))) bare ∙ chars-IsAscii id (word_ascii id (id_is_word id bare))

-- names are the same where their words are
pub same_words : (b : Bool) (xs ys : List (List ℕ)) → (b ≡ true ↔ xs ≡ ys) → b ≡ same_name xs ys
same_words b xs ys h =
    same_test b (same_name xs ys) (λ e. ap (λ x. same_name xs x) (sym (h.0 e)) ∙ name_itself xs)
    (λ e. h.1 (equal_names xs ys e))

-- whether an id as it is written begins so
pub bare_begins : (id bytes front : List ℕ) (b : Bool) → is_id id ≡ true → bytes ≡ encode_utf8_all id
    → b ≡ starts_with nat_eq bytes front → b ≡ starts_with nat_eq (chars (attribute_name id)) front
bare_begins id bytes front b bare e h =
    h ∙ ap (λ x. starts_with nat_eq x front) (e ∙ id_bytes id bare ∙ sym (bare_id id bare))

-- an id in quotes
pub quoted_id : (id bytes text : List ℕ) → is_id id ≡ false → all_scalars id ≡ true → bytes ≡ encode_utf8_all id
    → text ≡ [] ++ chars (quoted (chars bytes)) → text ≡ chars (attribute_name id)
quoted_id id bytes text quotes scalars e h =
    h ∙ ap (λ x. chars (quoted x)) (ap chars e ∙ chars-encodes id scalars)
    ∙ ap (λ b. chars (cond b id (quoted id))) (sym quotes)

pub bare_copy : (id : List ℕ) (r : Result (List ℕ) AllocError) → is_id id ≡ true → IfOk r (λ t. t ≡ id)
    → IfOk r (λ t. t ≡ chars (attribute_name id))
bare_copy id (Ok t) bare h = h ∙ sym (bare_id id bare)
bare_copy id (Err x) bare h = tt

pub nothing_long : (front : List ℕ) → nat_eq (length front) 0 ≡ is_nothing front
nothing_long [] = refl
nothing_long (b ∷ bs) = grind (arith, nat_tests)
