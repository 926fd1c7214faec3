-- The different meanings of messages.
use Rattle.std.proofs.Common.{◌≡◌, ◌↔◌, ℕ, List, [], ◌∷◌, ◌++◌, Some, refl, sym, ap, ◌∙◌, subst, arith}
use Rattle.std.proofs.Common.{slice_get, inl, inr}
use Rattle.std.specs.Prelude.{codes}
use Rattle.std.proofs.lemmas.List.{append-nil, append_assoc}
use Rattle.std.proofs.lemmas.Option.{slice_get_within}
use Rattle.cedar_names.specs.Meaning.{SchemaMeaning}
use Rattle.cedar_names.specs.declared.extension_table.ExtensionTable.{ExtensionTable}
use Rattle.cedar_schema_core.specs.Meanings.{TextMeaning}
use Rattle.schema_registry.specs.Replies.{IsAmong, ComeTo, no_more, meaningless, again, first, AreMeanings, HasEntry}
use Rattle.schema_registry.specs.Replies.{IsReply, not_text, refused, entry, entry_line, AreReplies, no_messages, next}
use Rattle.schema_registry.proofs.Places.{last_or_before}

module _ (table : ExtensionTable) where
  -- the meanings that were seen are the first of all
  pub extends : (seen : List SchemaMeaning) (messages : List (List ℕ)) (all : List SchemaMeaning)
      → ComeTo table seen messages all → (more : List SchemaMeaning) × (all ≡ seen ++ more)
  extends seen messages all (no_more _) = ([], sym (append-nil seen))
  extends seen messages all (meaningless _ message rest _ n h) = extends seen rest all h
  extends seen messages all (again _ message rest _ m means among h) = extends seen rest all h
  extends seen messages all (first _ message rest _ m means new h) =
      let r = extends (seen ++ m ∷ []) rest all h in
      (m ∷ r.0, r.1 ∙ append_assoc seen (m ∷ []) r.0)

  -- each meaning has one place
  abbrev pub IsOnce : List SchemaMeaning → Type 0
  IsOnce ms = (j k : ℕ) (m : SchemaMeaning) → slice_get ms j ≡ Some m → slice_get ms k ≡ Some m → j ≡ k

  once_more : (ms : List SchemaMeaning) (n : SchemaMeaning) → IsOnce ms → (IsAmong ms n → ⊥) → IsOnce (ms ++ n ∷ [])
  once_more ms n once new j k m a b = elim (last_or_before ms n j m a) [
    | inl x ↦ elim (last_or_before ms n k m b) [
      | inl y ↦ once j k m x y
      | inr y ↦ absurd (new (j, x ∙ ap Some y.1))
    ]
    | inr x ↦ elim (last_or_before ms n k m b) [
      | inl y ↦ absurd (new (k, y ∙ ap Some x.1))
      | inr y ↦ x.0 ∙ sym y.0
    ]
  ]

  pub once : (seen : List SchemaMeaning) (messages : List (List ℕ)) (all : List SchemaMeaning)
      → ComeTo table seen messages all → IsOnce seen → IsOnce all
  once seen messages all (no_more _) h = h
  once seen messages all (meaningless _ message rest _ n c) h = once seen rest all c h
  once seen messages all (again _ message rest _ m means among c) h = once seen rest all c h
  once seen messages all (first _ message rest _ m means new c) h =
      once (seen ++ m ∷ []) rest all c (once_more seen m h new)

  pub none_once : IsOnce []
  none_once j k m a b = let less = slice_get_within [] j m a in absurd (omega (arith, less))

  -- messages have an entry together exactly where they have a meaning together
  pub same_entry : (messages : List (List ℕ)) (all : List SchemaMeaning) (message other : List ℕ) (j k : ℕ)
      → AreMeanings table messages all → (h : HasEntry table all message j) → (i : HasEntry table all other k)
      → j ≡ k ↔ h.meaning ≡ i.meaning
  same_entry messages all message other j k are h i = (
    (λ e. let s : Some h.meaning ≡ Some i.meaning = sym h.place ∙ (ap (slice_get all) e ∙ i.place) in cc),
    (λ e. once [] messages all are none_once j k i.meaning (h.place ∙ ap Some e) i.place),
  )

  module _ (one : (text : List ℕ) (m n : SchemaMeaning) → TextMeaning text table m → TextMeaning text table n → m ≡ n)
    where
      -- messages come to one list of meanings
      pub one_list : (seen : List SchemaMeaning) (messages : List (List ℕ)) (all others : List SchemaMeaning)
          → ComeTo table seen messages all → ComeTo table seen messages others → all ≡ others
      one_list seen messages all others (no_more _) (no_more _) = refl
      one_list seen messages all others (meaningless _ message rest _ n h) (meaningless _ _ _ _ k i) =
          one_list seen rest all others h i
      one_list seen messages all others (meaningless _ message rest _ n h) (again _ _ _ _ m means among i) =
          absurd (n m means)
      one_list seen messages all others (meaningless _ message rest _ n h) (first _ _ _ _ m means new i) =
          absurd (n m means)
      one_list seen messages all others (again _ message rest _ m means among h) (meaningless _ _ _ _ n i) =
          absurd (n m means)
      one_list seen messages all others (again _ message rest _ m means among h) (again _ _ _ _ n too here i) =
          one_list seen rest all others h i
      one_list seen messages all others (again _ message rest _ m means among h) (first _ _ _ _ n too new i) =
          absurd (new (subst (IsAmong seen) (one message m n means.means too.means) among))
      one_list seen messages all others (first _ message rest _ m means new h) (meaningless _ _ _ _ n i) =
          absurd (n m means)
      one_list seen messages all others (first _ message rest _ m means new h) (again _ _ _ _ n too among i) =
          absurd (new (subst (IsAmong seen) (one message n m too.means means.means) among))
      one_list seen messages all others (first _ message rest _ m means new h) (first _ _ _ _ n too again_new i) =
          one_list (seen ++ m ∷ []) rest all others h
          (subst (λ x. ComeTo table (seen ++ x ∷ []) rest others) (one message n m too.means means.means) i)

      -- a message has one reply
      one_reply : (all : List SchemaMeaning) → IsOnce all → (message line other : List ℕ)
          → IsReply table all message line → IsReply table all message other → line ≡ other
      one_reply all o message line other (not_text n) (not_text k) = refl
      one_reply all o message line other (not_text n) (refused u k) = absurd (n u)
      one_reply all o message line other (not_text n) (entry id k) = absurd (n k.means.utf8)
      one_reply all o message line other (refused u h) (not_text n) = absurd (n u)
      one_reply all o message line other (refused u h) (refused v k) = refl
      one_reply all o message line other (refused u h) (entry id k) = absurd (h k.meaning k.means)
      one_reply all o message line other (entry id h) (not_text n) = absurd (n h.means.utf8)
      one_reply all o message line other (entry id h) (refused v k) = absurd (k h.meaning h.means)
      one_reply all o message line other (entry id h) (entry place k) =
          let same = one message h.meaning k.meaning h.means.means k.means.means in
          ap entry_line (o id place k.meaning (h.place ∙ ap Some same) k.place)

      pub one_replies : (all : List SchemaMeaning) → IsOnce all → (messages : List (List ℕ)) (out other : List ℕ)
          → AreReplies table all messages out → AreReplies table all messages other → out ≡ other
      one_replies all o messages out other no_messages no_messages = refl
      one_replies all o messages out other (next message line rest more h i) (next _ line' _ more' k l) =
          let same = one_reply all o message line line' h k in
          let behind = one_replies all o rest more more' i l in
          λ n. (same n ++ codes "\n") ++ behind n
