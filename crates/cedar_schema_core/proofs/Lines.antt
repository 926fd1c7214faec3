-- Lines that the program writes, as bytes.
use Rattle.std.proofs.Common.{◌≡◌, ◌++◌, ℕ, true, List, refl, ap, ◌∙◌, append_assoc}
use Rattle.std.specs.Char.{is_ascii}
use Rattle.std.specs.List.{list_all}
use Rattle.std.specs.Prelude.{codes}
use Rattle.std.specs.Str.{encode_utf8_all, IsAscii}
use Rattle.std.proofs.lemmas.Str.{IsAscii-append, encodes-IsAscii}
use Rattle.cedar_data.proofs.Ascii.{IsAscii-from_test}

-- two numbers, with words behind each
pub count_bytes : (whole types counted actions e a : List ℕ) → whole ≡ types ++ counted → types ≡ e
    → counted ≡ codes " entity types, " ++ (actions ++ codes " actions\n") → actions ≡ a → IsAscii e → IsAscii a
    → encode_utf8_all whole ≡ e ++ (codes " entity types, " ++ (a ++ codes " actions\n"))
count_bytes whole types counted actions e a is first behind second low below =
    let line : List ℕ = e ++ (codes " entity types, " ++ (a ++ codes " actions\n")) in
    let inner : counted ≡ codes " entity types, " ++ (a ++ codes " actions\n") = behind
    ∙ ap (λ x. codes " entity types, " ++ (x ++ codes " actions\n")) second in
    let same : whole ≡ line = is ∙ ap (λ x. x ++ counted) first ∙ ap (λ x. e ++ x) inner in
    let ascii : IsAscii line =
    IsAscii-append e (codes " entity types, " ++ (a ++ codes " actions\n")) low
    (IsAscii-append (codes " entity types, ") (a ++ codes " actions\n")
    (IsAscii-from_test (codes " entity types, ") refl)
    (IsAscii-append a (codes " actions\n") below (IsAscii-from_test (codes " actions\n") refl))) in
    ap encode_utf8_all same ∙ encodes-IsAscii line ascii

-- a number, with words and others behind
behind : (a words rest : List ℕ) → IsAscii a → list_all is_ascii words ≡ true → IsAscii rest
    → IsAscii (a ++ (words ++ rest))
behind a words rest low plain h =
    IsAscii-append a (words ++ rest) low (IsAscii-append words rest (IsAscii-from_test words plain) h)

-- four numbers, with words behind each
pub made_bytes : (l₀ l₁ l₂ l₃ first last types actions written a b c d : List ℕ) → l₀ ≡ a → l₁ ≡ l₀ ++ first
    → first ≡ codes " bytes in, " ++ (types ++ codes " entity types, ") → types ≡ b → l₂ ≡ l₁ ++ actions → actions ≡ c
    → l₃ ≡ l₂ ++ last → last ≡ codes " actions, " ++ (written ++ codes " bytes out\n") → written ≡ d
    → IsAscii a → IsAscii b → IsAscii c → IsAscii d
    → encode_utf8_all l₃ ≡ a ++ (codes " bytes in, " ++ (b ++ (codes " entity types, " ++ (c ++ (codes " actions, "
    ++ (d ++ codes " bytes out\n"))))))
made_bytes l₀ l₁ l₂ l₃ first last types actions written a b c d e₀ e₁ f₁ t₁ e₂ t₂ e₃ f₃ t₃ ha hb hc hd =
    let line : List ℕ = a ++ (codes " bytes in, " ++ (b ++ (codes " entity types, " ++ (c ++ (codes " actions, "
    ++ (d ++ codes " bytes out\n")))))) in
    let front : List ℕ = codes " bytes in, " ++ (b ++ codes " entity types, ") in
    let back : List ℕ = codes " actions, " ++ (d ++ codes " bytes out\n") in
    let fronts : first ≡ front = f₁ ∙ ap (λ x. codes " bytes in, " ++ (x ++ codes " entity types, ")) t₁ in
    let backs : last ≡ back = f₃ ∙ ap (λ x. codes " actions, " ++ (x ++ codes " bytes out\n")) t₃ in
    let s₁ : l₁ ≡ a ++ front = e₁ ∙ (λ i. e₀ i ++ fronts i) in
    let s₂ : l₂ ≡ (a ++ front) ++ c = e₂ ∙ (λ i. s₁ i ++ t₂ i) in
    let same : l₃ ≡ line = e₃ ∙ (λ i. s₂ i ++ backs i) ∙ append_assoc (a ++ front) c back
    ∙ append_assoc a front (c ++ back)
    ∙ ap (λ x. a ++ x) (append_assoc (codes " bytes in, ") (b ++ codes " entity types, ") (c ++ back)
    ∙ ap (λ x. codes " bytes in, " ++ x) (append_assoc b (codes " entity types, ") (c ++ back))) in
    let ascii : IsAscii line =
    behind a (codes " bytes in, ") (b ++ (codes " entity types, " ++ (c ++ (codes " actions, "
    ++ (d ++ codes " bytes out\n"))))) ha refl
    (behind b (codes " entity types, ") (c ++ (codes " actions, " ++ (d ++ codes " bytes out\n"))) hb refl
    (behind c (codes " actions, ") (d ++ codes " bytes out\n") hc refl
    (IsAscii-append d (codes " bytes out\n") hd (IsAscii-from_test (codes " bytes out\n") refl)))) in
    ap encode_utf8_all same ∙ encodes-IsAscii line ascii
