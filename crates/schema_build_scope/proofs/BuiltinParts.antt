-- What the code looks at of a builtin name: its last word.
use Rattle.std.proofs.Common.{◌≡◌, ℕ, ◌≤◌, Bool, true, false, ◌||◌, List, [], ◌∷◌, map, length, get_or, codes, Some}
use Rattle.std.proofs.Common.{None, refl, sym, ap, ◌∙◌, arith, subst}
use Rattle.std.specs.Prelude.{IsSome, if◌then◌else◌}
use Rattle.std.specs.List.{list_any}
use Rattle.std.specs.Str.{bytes_eq}
use Rattle.std.specs.Option.{is_some}
use Rattle.std.proofs.lemmas.Slice.Eq.{bytes_eq-Decides}
use Rattle.cedar_identifiers.specs.Names.{components_of, texts_of}
use Rattle.cedar_identifiers.specs.Words.{is_cedar}
use Rattle.cedar_identifiers.specs.declared.id.Id.{Id}
use Rattle.cedar_identifiers.specs.declared.internal_name.InternalName.{InternalName}
use Rattle.cedar_identifiers.specs.declared.unreserved_id.UnreservedId.{UnreservedId}
use Rattle.cedar_names.specs.Meaning as plain
use Rattle.cedar_names.specs.Meaning.{PlainType}
use Rattle.schema_build_expand.specs.Scope.{Scope, builtin, in_table}

module _ {N : Type 0} (s : Scope N) where
  under_cedar : (first word : List ℕ) → IsSome (builtin s (first ∷ word ∷ []))
      → builtin s (first ∷ word ∷ []) ≡ builtin s (word ∷ [])
  under_cedar first word h = go (bytes_eq first (codes "__cedar")) h
    where
      go : (b : Bool) → is_some (if b then builtin s (word ∷ []) else None) ≡ true
          → (if b then builtin s (word ∷ []) else None) ≡ builtin s (word ∷ [])
      go true h = refl
      go false h = cc

  last_word : (first : List ℕ) (others : List Id) (word : Id) → 1 ≤ length others → word ≡ get_or others 0 word
      → IsSome (builtin s (first ∷ texts_of others)) → builtin s (first ∷ texts_of others) ≡ builtin s (word.text ∷ [])
  last_word first [] word long is h = absurd (omega arith)
  last_word first (w ∷ []) word long is h =
      under_cedar first w.text h ∙ ap (λ (i : Id). builtin s (i.text ∷ [])) (sym is)
  last_word first (w ∷ x ∷ more) word long is h = cc

  -- a builtin name of more words than one stands for what its last word stands for
  pub last_decides : (name : InternalName) (others : List Id) (word : Id) → others ≡ name.others → 1 ≤ length others
      → word ≡ get_or others 0 word → IsSome (builtin s (components_of name))
      → builtin s (components_of name) ≡ builtin s (word.text ∷ [])
  last_decides name others word same long is h =
      ap (λ l. builtin s (name.first.text ∷ texts_of l)) (sym same)
      ∙ last_word name.first.text others word long is
      (subst (λ l. IsSome (builtin s (name.first.text ∷ texts_of l))) (sym same) h)

  table_only : (a b c d : Bool) (w x y z : PlainType) → a ≡ false → b ≡ false → c ≡ false
      → IsSome (if a then Some w else (if b then Some x else (if c then Some y else (if d then Some z else None))))
      → d ≡ true
  table_only true b c d w x y z p q r h = cc
  table_only false true c d w x y z p q r h = cc
  table_only false false true d w x y z p q r h = cc
  table_only false false false true w x y z p q r h = refl
  table_only false false false false w x y z p q r h = cc

  none_before : (a b c d : Bool) (w x y z : PlainType) → a ≡ false → b ≡ false → c ≡ false → d ≡ true
      → (if a then Some w else (if b then Some x else (if c then Some y else (if d then Some z else None)))) ≡ Some z
  none_before true b c d w x y z p q r h = cc
  none_before false true c d w x y z p q r h = cc
  none_before false false true d w x y z p q r h = cc
  none_before false false false true w x y z p q r h = refl
  none_before false false false false w x y z p q r h = cc

  module _ (w : List ℕ) (no_bool : bytes_eq w (codes "Bool") ≡ false) (no_long : bytes_eq w (codes "Long") ≡ false)
      (no_string : bytes_eq w (codes "String") ≡ false) (h : IsSome (builtin s (w ∷ []))) where
    pub word_in_table : in_table s w ≡ true
    word_in_table =
        table_only (bytes_eq w (codes "Bool")) (bytes_eq w (codes "Long")) (bytes_eq w (codes "String")) (in_table s w)
        plain.Bool plain.Long plain.String (plain.Ext w) no_bool no_long no_string h

    pub word_is_extension : builtin s (w ∷ []) ≡ Some (plain.Ext w)
    word_is_extension =
        none_before (bytes_eq w (codes "Bool")) (bytes_eq w (codes "Long")) (bytes_eq w (codes "String")) (in_table s w)
        plain.Bool plain.Long plain.String (plain.Ext w) no_bool no_long no_string word_in_table

-- a word of the table is not `__cedar`
pub table_word_free : (ids : List UnreservedId) (w : List ℕ) → list_any (bytes_eq w) (map (λ n. n.id.text) ids) ≡ true
    → is_cedar w ≡ false
table_word_free [] w h = cc
table_word_free (n ∷ ids) w h = go (table_word_free ids w) (bytes_eq w n.id.text) refl h
  where
    go : (list_any (bytes_eq w) (map (λ m. m.id.text) ids) ≡ true → is_cedar w ≡ false) → (b : Bool)
        → bytes_eq w n.id.text ≡ b → (b || list_any (bytes_eq w) (map (λ m. m.id.text) ids)) ≡ true → is_cedar w ≡ false
    go more true is h = ap is_cedar ((bytes_eq-Decides w n.id.text).0 is) ∙ n.unreserved
    go more false is h = more h

-- a text that is not this one, as a comparison of the same text tells
pub not_text : (v w lit : List ℕ) (same : Bool) → v ≡ w → same ≡ bytes_eq v lit → same ≡ false → bytes_eq w lit ≡ false
not_text v w lit same is told other = ap (λ t. bytes_eq t lit) (sym is) ∙ sym told ∙ other
