-- Words of a text as names.
use Rattle.std.proofs.Common.{◌≡◌, ℕ, zero, suc, ◌+◌, ◌<◌, ◌≤◌, Bool, true, false, ◌&&◌, cond, List, [], ◌∷◌, ◌++◌}
use Rattle.std.proofs.Common.{length}
use Rattle.std.proofs.Common.{drop, get_or, Option, Some, None, refl, sym, ap, ◌∙◌, inl, arith, add-one}
use Rattle.std.proofs.Common.{drop-cons, append_assoc, append-nil, slice_range}
use Rattle.std.specs.Prelude.{MatchOption, Result, Ok, Err, IfOk}
use Rattle.std.specs.declared.alloc.AllocError.{AllocError}
use Rattle.std.specs.List.{list_all}
use Rattle.std.specs.Str.{chars}
use Rattle.std.proofs.lemmas.List.{map-append}
use Rattle.std.proofs.lemmas.List.Folds.{list_all-append}
use Rattle.std.proofs.lemmas.Str.{chars-IsAscii}
use Rattle.cedar_data.proofs.Ascii.{word_ascii}
use Rattle.cedar_identifiers.specs.Names.{texts_of}
use Rattle.cedar_identifiers.specs.Words.{is_id}
use Rattle.cedar_identifiers.specs.declared.id.Id.{Id}
use Rattle.cedar_identifiers.specs.declared.internal_name.InternalName.{InternalName}
use Rattle.cedar_identifiers.proofs.Ids.{id_is_word}
use Rattle.schema_syntax_grammar.specs.Grammar.{is_word_kind}
use Rattle.schema_syntax_tokens.specs.declared.token.Token.{Token}
use Rattle.schema_assist_words.specs.Namespaces.{written_words, IsNameOfWords, IsWordAdded, AreWordsAdded}

-- the characters of a name are its bytes
pub id_text : (text word : List ℕ) → text ≡ chars word → is_id word ≡ true → text ≡ word
id_text text word e h = e ∙ chars-IsAscii word (word_ascii word (id_is_word word h))

-- one word more
pub texts_more : (old new : List Id) (id : Id) (word : List ℕ) → new ≡ old ++ id ∷ [] → id.text ≡ word
    → texts_of new ≡ texts_of old ++ word ∷ []
texts_more old new id word e h =
    ap texts_of e ∙ map-append (λ (i : Id). i.text) old (id ∷ []) ∙ ap (λ w. texts_of old ++ w ∷ []) h

-- the words that are gathered, and those that are left, are those of the tokens
abbrev pub Gathers : List ℕ → List Token → ℕ → List (List ℕ) → Type 0
Gathers text tokens i texts = texts ++ written_words text (drop i tokens) ≡ written_words text tokens

module _ (text : List ℕ) (tokens : List Token) (i : ℕ) (t : Token) (texts : List (List ℕ)) (h : i < length tokens)
    (at : t ≡ get_or tokens i t) (now : Gathers text tokens i texts) where
  left : drop i tokens ≡ t ∷ drop (i + 1) tokens
  left = drop-cons tokens i t h ∙ (λ j. sym at j ∷ drop (sym (add-one i) j) tokens)

  abbrev here : List (List ℕ)
  here = written_words text (t ∷ [])

  abbrev behind : List (List ℕ)
  behind = written_words text (drop (i + 1) tokens)

  split : written_words text (drop i tokens) ≡ here ++ behind
  split = ap (written_words text) left ∙ go (is_word_kind t.kind)
    where
      go : (b : Bool) → cond b (slice_range text t.loc.start t.loc.end ∷ behind) behind
          ≡ cond b (slice_range text t.loc.start t.loc.end ∷ []) [] ++ behind
      go true = refl
      go false = refl

  -- the words of one token more
  pub gathers_more : (more : List (List ℕ)) → more ≡ texts ++ here → Gathers text tokens (i + 1) more
  gathers_more more e = ap (λ x. x ++ behind) e ∙ append_assoc texts here behind
      ∙ ap (λ x. texts ++ x) (sym split) ∙ now

  -- a word that is no name
  pub unnamed : list_all is_id here ≡ false → list_all is_id (written_words text tokens) ≡ false
  unnamed bad = ap (list_all is_id) (sym now ∙ ap (λ x. texts ++ x) split) ∙ fails texts here behind bad
    where
      one : (b c : Bool) → c ≡ false → (b && c) ≡ false
      one true c e = e
      one false c e = refl

      first : (b c : Bool) → b ≡ false → (b && c) ≡ false
      first b c e = ap (λ x. x && c) e

      fails : (xs ys zs : List (List ℕ)) → list_all is_id ys ≡ false → list_all is_id (xs ++ (ys ++ zs)) ≡ false
      fails [] ys zs e = list_all-append is_id ys zs ∙ first (list_all is_id ys) (list_all is_id zs) e
      fails (x ∷ xs) ys zs e = one (is_id x) (list_all is_id (xs ++ (ys ++ zs))) (fails xs ys zs e)

-- the words of one token
pub no_words : (text : List ℕ) (t : Token) (texts : List (List ℕ)) → is_word_kind t.kind ≡ false
    → texts ≡ texts ++ written_words text (t ∷ [])
no_words text t texts k =
    sym (append-nil texts) ∙ ap (λ b. texts ++ cond b (slice_range text t.loc.start t.loc.end ∷ []) []) (sym k)

pub one_word : (text : List ℕ) (t : Token) (old new : List (List ℕ)) (word : List ℕ) (added : Bool)
    → is_word_kind t.kind ≡ true → word ≡ slice_range text t.loc.start t.loc.end → IsWordAdded old new word added
    → AreWordsAdded old new (written_words text (t ∷ [])) added
one_word text t old new word true k e h =
    h.1 ∙ ap (λ w. old ++ w ∷ []) e
    ∙ ap (λ b. old ++ cond b (slice_range text t.loc.start t.loc.end ∷ []) []) (sym k)
one_word text t old new word false k e h =
    ap (λ b. list_all is_id (cond b (slice_range text t.loc.start t.loc.end ∷ []) [])) k
    ∙ ap (λ w. is_id w && true) (sym e) ∙ ap (λ b. b && true) h

-- all words are gathered
pub all_gathered : (text : List ℕ) (tokens : List Token) (i : ℕ) (texts : List (List ℕ)) → length tokens ≤ i
    → Gathers text tokens i texts → texts ≡ written_words text tokens
all_gathered text tokens i texts h now =
    sym (append-nil texts) ∙ ap (λ x. texts ++ written_words text x) (sym (none tokens i h)) ∙ now
  where
    none : (ts : List Token) (i : ℕ) → length ts ≤ i → drop i ts ≡ []
    none [] zero h = refl
    none [] (suc i) h = refl
    none (t ∷ ts) zero h = absurd (omega arith)
    none (t ∷ ts) (suc i) h = none ts i (omega arith)

-- the name of the words
pub named : (o : Option InternalName) (ids : List Id) (words : List (List ℕ))
    → MatchOption o (ids ≡ []) (λ n. n.first ∷ n.others ≡ ids) → texts_of ids ≡ words → IsNameOfWords words o
named None ids words h e = inl (sym e ∙ ap texts_of h)
named (Some n) ids words h e = ap texts_of h ∙ e

pub word_answer : (text : List ℕ) (t : Token) (old new : List (List ℕ)) (word : List ℕ) (r : Result Bool AllocError)
    → is_word_kind t.kind ≡ true → word ≡ slice_range text t.loc.start t.loc.end
    → IfOk r (λ added. IsWordAdded old new word added)
    → IfOk r (λ added. AreWordsAdded old new (written_words text (t ∷ [])) added)
word_answer text t old new word (Ok added) k e h = one_word text t old new word added k e h
word_answer text t old new word (Err x) k e h = tt
