-- The tokens of a text spell the lexemes at their places, and a lawful syntax has no fault at any site.
use Rattle.std.proofs.Common.{◌≡◌, ℕ, ◌+◌, ◌-◌, List, [], ◌∷◌, ◌++◌, length, take, drop, refl, sym, ap, ◌∙◌, subst}
use Rattle.std.proofs.Common.{append_assoc, arith, slice_range}
use Rattle.std.specs.List.{All}
use Rattle.std.proofs.lemmas.List.{take-append-drop, length-take-le, length-append, drop_at}
use Rattle.schema_syntax_tokens.specs.declared.token.Token.{Token}
use Rattle.schema_syntax_tokens.specs.Forms.{IsForm}
use Rattle.schema_syntax_tokens.specs.Laid.{Spells}
use Rattle.schema_syntax_tokens.specs.Scans.{ScansFrom, Scans}
use Rattle.schema_syntax_tokens.proofs.Whole.{skips_front}
use Rattle.schema_syntax_parser.specs.declared.syntax.ItemSyntax.{ItemSyntax}
use Rattle.schema_syntax_reader.specs.Sites.{sites_of}
use Rattle.schema_syntax_reader.specs.UserFaults.{IsLawful}
use Rattle.laws_written.specs.Lexemes.{lexemes_at}
use Rattle.laws_written.specs.Reads.{IsFaultless}
use Rattle.laws_written.proofs.ReadingBack.{faultless_all}

-- what stands in a text behind a front of this length
token_there : (text front here : List ℕ) (start end n : ℕ) → text ≡ front ++ here → start ≡ length front
    → end ≡ start + n → slice_range text start end ≡ take n here
token_there text front here start end n e s f =
    let width : end - start ≡ n = omega arith in
    let behind : drop start text ≡ here = (λ i. drop (s i) (e i)) ∙ drop_at front here (length front) refl in
    (λ i. take (width i) (behind i))

spells_from : (text front rest : List ℕ) (from : ℕ) (tokens : List Token) (at : ℕ) → text ≡ front ++ rest
    → from ≡ length front → ScansFrom from rest tokens at → Spells text tokens (lexemes_at text tokens)
spells_from text front rest from [] at e f scans = tt
spells_from text front rest from (t ∷ ts) at e f (here, n, next, scans) =
    let (blanks, b) = skips_front next.skips in
    let split : text ≡ (front ++ blanks) ++ here = e ∙ ap (λ x. front ++ x) b ∙ sym (append_assoc front blanks here) in
    let whole : length rest ≡ length blanks + length here = ap length b ∙ length-append blanks here in
    let start : t.loc.start ≡ length (front ++ blanks) =
    omega (arith, next.start, whole, f, length-append front blanks) in
    let there = token_there text (front ++ blanks) here t.loc.start t.loc.end n split start next.stop in
    let behind : text ≡ ((front ++ blanks) ++ take n here) ++ drop n here =
    split ∙ ap (λ x. (front ++ blanks) ++ x) (sym (take-append-drop n here))
    ∙ sym (append_assoc (front ++ blanks) (take n here) (drop n here)) in
    let stop : t.loc.end ≡ length ((front ++ blanks) ++ take n here) =
    omega (
      arith,
      start,
      next.stop,
      length-append (front ++ blanks) (take n here),
      length-take-le n here next.token.in_range,
    ) in (
      (refl, refl, subst (λ w. IsForm w t.kind) (sym there) next.token.form),
      spells_from text ((front ++ blanks) ++ take n here) (drop n here) t.loc.end ts at behind stop scans,
    )

pub tokens_spell : (text : List ℕ) (tokens : List Token) (at : ℕ) → Scans text tokens at
    → Spells text tokens (lexemes_at text tokens)
tokens_spell text tokens at scans = spells_from text [] text 0 tokens at refl refl scans

pub faultless : (source : List ℕ) (items : List ItemSyntax) → IsLawful source items
    → All (IsFaultless source) (sites_of items)
faultless source items h = faultless_all source items h [] (sites_of items) refl
