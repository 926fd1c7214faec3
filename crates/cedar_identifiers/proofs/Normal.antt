-- Names and their bytes.
use Rattle.std.proofs.Common.{◌≡◌, ℕ, Bool, true, false, cond, ◌||◌, List, [], ◌∷◌, ◌++◌, Some, None, find, codes, refl}
use Rattle.std.specs.List.{list_any}
use Rattle.std.specs.Str.{IsAscii, encode_utf8_all}
use Rattle.std.proofs.lemmas.Str.{IsAscii-append, encodes-IsAscii}
use Rattle.cedar_data.specs.Rows.{joined_by}
use Rattle.cedar_identifiers.specs.Words.{is_reserved, is_cedar}
use Rattle.cedar_identifiers.specs.Names.{texts_of}
use Rattle.cedar_identifiers.specs.NameReading.{refuses}
use Rattle.cedar_identifiers.specs.declared.id.Id.{Id}
use Rattle.cedar_identifiers.specs.declared.name_kind.NameKind.TheVariants.{Name}
use Rattle.cedar_identifiers.proofs.Ids.{id_is_word}
use Rattle.cedar_data.proofs.Ascii.{word_ascii, IsAscii-from_test}

-- a name's text is ASCII
joined_ascii : (i : Id) (ids : List Id) → IsAscii (joined_by (codes "::") (texts_of (i ∷ ids)))
joined_ascii i [] = word_ascii i.text (id_is_word i.text i.word)
joined_ascii i (j ∷ ids) =
    IsAscii-append i.text (codes "::" ++ joined_by (codes "::") (texts_of (j ∷ ids)))
    (word_ascii i.text (id_is_word i.text i.word))
    (IsAscii-append (codes "::") (joined_by (codes "::") (texts_of (j ∷ ids))) (IsAscii-from_test (codes "::") refl)
    (joined_ascii j ids))

pub joined_bytes : (i : Id) (ids : List Id)
    → encode_utf8_all (joined_by (codes "::") (texts_of (i ∷ ids))) ≡ joined_by (codes "::") (texts_of (i ∷ ids))
joined_bytes i ids = encodes-IsAscii (joined_by (codes "::") (texts_of (i ∷ ids))) (joined_ascii i ids)

-- no component of a declared name is `__cedar`
pub no_cedar : (ws : List (List ℕ)) → find (refuses Name) ws ≡ None → list_any is_cedar ws ≡ false
no_cedar [] e = refl
no_cedar (w ∷ ws) e = by_test (is_reserved w) (is_cedar w) (λ k. no_cedar ws k) e
  where
    by_test : (r t : Bool) → (find (refuses Name) ws ≡ None → list_any is_cedar ws ≡ false)
        → cond (r || t) (Some w) (find (refuses Name) ws) ≡ None → (t || list_any is_cedar ws) ≡ false
    by_test true t rec k = cc
    by_test false true rec k = cc
    by_test false false rec k = rec k
