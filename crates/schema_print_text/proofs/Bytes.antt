-- Characters that are pushed, as bytes.
use Rattle.std.proofs.Common.{◌≡◌, true, false, List, [], ◌∷◌, ◌++◌, codes, refl, ap, sym, ◌∙◌}
use Rattle.std.specs.Str.{IsUtf8, chars, encode_utf8_all, all_scalars}
use Rattle.std.proofs.lemmas.List.{append-nil}
use Rattle.std.proofs.lemmas.Str.{encodes-append, encodes-chars, chars-encodes}
use Rattle.std.proofs.Common.{ℕ, ◌+◌, Bool, if◌then◌else◌, add-one}
use Rattle.cedar_data.specs.Rows.{joined_by}
use Rattle.schema_syntax_grammar.specs.declared.token_kind.TokenKind.TheVariants.{StringLit}
use Rattle.schema_syntax_tokens.specs.Forms.{word_kind}
use Rattle.schema_syntax_tokens.specs.Quotes.{quoted}
use Rattle.schema_syntax_tokens.specs.Laid.{laid, piece_text, lexeme}
use Rattle.schema_syntax_tokens.proofs.Quoted.{quoted_utf8}
use Rattle.cedar_identifiers.specs.Words.{is_id}
use Rattle.cedar_identifiers.proofs.Ids.{id_bytes}
use Rattle.cedar_names.specs.CanonicalText.{spaces}
use Rattle.laws_written.specs.Printed.{path_pieces, name_piece}
use Rattle.schema_print_text.specs.Adds.{Adds}
use Rattle.schema_print_text.specs.PrintedTypes.{printed_name}
use Rattle.schema_print_text.specs.Growing.{so}

-- a text that is pushed adds its bytes
pub adds_chars : (old new more : List ℕ) → IsUtf8 more → new ≡ old ++ chars more → Adds old new more
adds_chars old new more u e = record {
  grown = ap encode_utf8_all e ∙ encodes-append old (chars more)
      ∙ ap (λ t. encode_utf8_all old ++ t) (encodes-chars more u);
}

-- the bytes of a name are its pieces laid out
pub name_bytes : (cs : List (List ℕ))
    → encode_utf8_all (joined_by (codes "::") cs) ≡ laid (path_pieces (printed_name cs))
unfolding lib.Utf8.encode
name_bytes [] = refl
name_bytes (c ∷ []) = sym (append-nil (encode_utf8_all c))
name_bytes (c ∷ d ∷ cs) =
    encodes-append c (codes "::" ++ joined_by (codes "::") (d ∷ cs))
    ∙ ap (λ t. encode_utf8_all c ++ t)
    (encodes-append (codes "::") (joined_by (codes "::") (d ∷ cs)) ∙ ap (λ t. codes "::" ++ t) (name_bytes (d ∷ cs)))

-- a value that is pushed as a string
pub string_added : (old new value s : List ℕ) → s ≡ encode_utf8_all value → all_scalars value ≡ true
    → new ≡ old ++ chars (quoted (chars s)) → Adds old new (quoted value)
string_added old new value s b sc e =
    let same : chars s ≡ value = ap chars b ∙ chars-encodes value sc in
    adds_chars old new (quoted value) (quoted_utf8 value sc) (e ∙ ap (λ t. old ++ chars (quoted t)) same)

-- a name that is pushed
pub name_added : {old new s : List ℕ} (name : List ℕ) (cs : List (List ℕ)) → Adds old new s → s ≡ encode_utf8_all name
    → name ≡ joined_by (codes "::") cs → Adds old new (laid (path_pieces (printed_name cs)))
name_added name cs e b j = so e (b ∙ ap encode_utf8_all j ∙ name_bytes cs)

-- a bare name of an attribute that is pushed
pub bare_added : {old new s : List ℕ} (name : List ℕ) → Adds old new s → s ≡ encode_utf8_all name → is_id name ≡ true
    → Adds old new (piece_text (name_piece name))
bare_added name e b h =
    let bare : name ≡ piece_text (name_piece name) = sym
    (ap (λ (t : Bool). piece_text (lexeme
    (if t then record { kind = word_kind name; text = name } else record { kind = StringLit; text = quoted name })))
    h) in
    so e (b ∙ id_bytes name h ∙ bare)

-- another, as a string
pub quoted_added : {old new : List ℕ} (name : List ℕ) → Adds old new (quoted name) → is_id name ≡ false
    → Adds old new (piece_text (name_piece name))
quoted_added name e h =
    so e (sym (ap (λ (t : Bool). piece_text
    (lexeme (if t then record { kind = word_kind name; text = name } else record
    { kind = StringLit; text = quoted name }))) h))

-- one space, and those after it
pub spaces_step : (n m : ℕ) → n ≡ m + 1 → spaces n ≡ codes " " ++ spaces m
spaces_step n m e = rw (e, add-one) refl
