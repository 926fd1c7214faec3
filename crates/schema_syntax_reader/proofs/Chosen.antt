-- Lists that have to have an item.
use Rattle.std.proofs.Common.{◌≡◌, ◌<◌, ℕ, List, [], ◌∷◌, length, refl, sym, ap, ◌∙◌, subst, arith}
use Rattle.std.proofs.Common.{true, nat_eq, Some, None}
use Rattle.std.specs.List.{AllZip, flat_map}
use Rattle.std.proofs.lemmas.Bool.{eqb-true}
use Rattle.cedar_data.specs.Span.{Span}
use Rattle.schema_syntax_tokens.specs.declared.token.Token.{Token}
use Rattle.schema_syntax_parser.specs.declared.syntax.AppSyntax.{AppSyntax}
use Rattle.schema_syntax_reader.specs.declared.stopped.Stopped.{Stopped}
use Rattle.schema_syntax_reader.specs.Sites.{empty, names_sites, choices_sites, app_sites, apps_sites}
use Rattle.schema_syntax_reader.specs.Stops.{IsStopped, IsStoppedAt}
use Rattle.schema_syntax_tree.specs.declared.path.Path.{Path}
use Rattle.schema_syntax_tokens.specs.TokenLists.{whole_place}
use Rattle.schema_syntax_reader.specs.Trees.{IsId, IsOptional, IsTypeOfRef}
use Rattle.schema_syntax_reader.proofs.Readings.{Faultless, stopped_at}

-- whether a list has an item
pub is_nothing : {A : Type 0} (xs : List A) → nat_eq (length xs) 0 ≡ true → xs ≡ []
is_nothing [] h = refl
is_nothing (x ∷ xs) h = let none : length (x ∷ xs) ≡ 0 = eqb-true (length (x ∷ xs)) 0 h in absurd (omega (arith, none))

-- a list that may be absent is there where it has an item
pub optional_none : {A B : Type 0} (source : List ℕ) (Is : List A → List B → Type 0) (xs : List A) → xs ≡ []
    → IsOptional source Is xs None
optional_none source Is [] h = refl
optional_none source Is (x ∷ xs) h = cc

pub optional_some : {A B : Type 0} (source : List ℕ) (Is : List A → List B → Type 0) (xs : List A) (ys : List B)
    → 0 < length xs → Is xs ys → IsOptional source Is xs (Some ys)
optional_some source Is [] ys h is = absurd (omega (arith, h))
optional_some source Is (x ∷ xs) ys h is = is

-- the path of a reference's type
pub named_type : (source : List ℕ) (names : List Token) (t : Token) (ts : List Token) (path : Path) {loc : Span}
    → names ≡ t ∷ ts → AllZip (IsId source) names path.ids → path.loc ≡ Some loc → loc ≡ whole_place (t ∷ ts)
    → IsTypeOfRef source names (Some path)
named_type source names t ts path parts ids placed at =
    subst (λ l. IsTypeOfRef source l (Some path)) (sym parts)
    (subst (λ l. AllZip (IsId source) l path.ids) parts ids, placed ∙ ap (λ l. Some l) at)

module _ (source : List ℕ) where
  pub choices_empty : (choices : List Token) (brackets : Span) (e : Stopped) → choices ≡ []
      → IsStoppedAt source (empty brackets) e → IsStopped source (choices_sites choices brackets) e
  choices_empty choices brackets e none h =
      subst (λ l. IsStopped source (choices_sites l brackets) e) (sym none) (stopped_at source (empty brackets) e h)

  pub choices_are : (choices : List Token) (brackets : Span) → 0 < length choices
      → choices_sites choices brackets ≡ names_sites choices
  choices_are [] brackets h = absurd (omega (arith, h))
  choices_are (t ∷ ts) brackets h = refl

  pub choices_some : (choices : List Token) (brackets : Span) (e : Stopped) → 0 < length choices
      → IsStopped source (names_sites choices) e → IsStopped source (choices_sites choices brackets) e
  choices_some choices brackets e h stop =
      subst (λ l. IsStopped source l e) (sym (choices_are choices brackets h)) stop

  pub choices_faultless : (choices : List Token) (brackets : Span) → 0 < length choices
      → Faultless source (names_sites choices) → Faultless source (choices_sites choices brackets)
  choices_faultless choices brackets h all = subst (Faultless source) (sym (choices_are choices brackets h)) all

  pub apps_empty : (apps : List AppSyntax) (braces : Span) (e : Stopped) → apps ≡ []
      → IsStoppedAt source (empty braces) e → IsStopped source (apps_sites apps braces) e
  apps_empty apps braces e none h =
      subst (λ l. IsStopped source (apps_sites l braces) e) (sym none) (stopped_at source (empty braces) e h)

  pub apps_are : (apps : List AppSyntax) (braces : Span) → 0 < length apps
      → apps_sites apps braces ≡ flat_map app_sites apps
  apps_are [] braces h = absurd (omega (arith, h))
  apps_are (a ∷ others) braces h = refl

  pub apps_some : (apps : List AppSyntax) (braces : Span) (e : Stopped) → 0 < length apps
      → IsStopped source (flat_map app_sites apps) e → IsStopped source (apps_sites apps braces) e
  apps_some apps braces e h stop = subst (λ l. IsStopped source l e) (sym (apps_are apps braces h)) stop

  pub apps_faultless : (apps : List AppSyntax) (braces : Span) → 0 < length apps
      → Faultless source (flat_map app_sites apps) → Faultless source (apps_sites apps braces)
  apps_faultless apps braces h all = subst (Faultless source) (sym (apps_are apps braces h)) all
