-- The names that may stand behind tokens.
use Rattle.std.proofs.Common.{◌≡◌, ℕ, false, List, [], Option, Some, None, sym, subst, inl, inr, arith}
use Rattle.std.proofs.Common.{slice_range, Contains}
use Rattle.std.specs.Prelude.{◌↔◌, Result, Ok, Err, IfOk}
use Rattle.std.specs.List.{list_all}
use Rattle.cedar_data.specs.Span.{Span}
use Rattle.cedar_identifiers.specs.Words.{is_id}
use Rattle.cedar_identifiers.specs.declared.internal_name.InternalName.{InternalName}
use Rattle.cedar_names.specs.declared.extension_table.ExtensionTable.{ExtensionTable}
use Rattle.schema_syntax_grammar.specs.Grammar.{Kinds}
use Rattle.schema_syntax_tokens.specs.TokenLists.{kinds_of}
use Rattle.schema_syntax_tokens.specs.declared.token.Token.{Token}
use Rattle.schema_assist_places.specs.Homes.{StandsIn}
use Rattle.schema_assist_places.specs.declared.place.Place.{Place}
use Rattle.schema_assist_places.specs.declared.role.Role.{Role}
use Rattle.schema_assist_words.specs.Namespaces.{IsNameOfWords}
use Rattle.schema_assist_offers.specs.Offers.{Known, offers, Completes}
use Rattle.schema_assist_offers.specs.Spellings.{words_in}
use Rattle.schema_assist.specs.Assistance.{IsNameBehind, words_around}

-- what a success says, said otherwise
pub if_ok : {V E : Type 0} (r : Result V E) (P Q : V → Type 0) → ((v : V) → P v → Q v) → IfOk r P → IfOk r Q
if_ok (Ok v) P Q f h = f v h
if_ok (Err e) P Q f h = tt

module _ (known : Known) (table : ExtensionTable) where
  -- what is offered in a namespace is what is offered under its name, or where it has none, in the empty one
  pub named_offers : ((f : Known) (table : ExtensionTable) (role : Role) (words : List (List ℕ)) (s : List ℕ)
      → list_all is_id words ≡ false → (offers f table role words s ↔ offers f table role [] s))
      → (o : Option InternalName) (words : List (List ℕ)) → IsNameOfWords words o → (role : Role) (s : List ℕ)
      → (offers known table role (words_in o) s ↔ offers known table role words s)
  named_offers law (Some n) words is role s = (
    λ h. subst (λ w. offers known table role w s) is h,
    λ h. subst (λ w. offers known table role w s) (sym is) h,
  )
  named_offers law None words (inl nothing) role s = (
    λ h. subst (λ w. offers known table role w s) (sym nothing) h,
    λ h. subst (λ w. offers known table role w s) nothing h,
  )
  named_offers law None words (inr unnamed) role s =
      let alike = law known table role words s unnamed in (alike.1, alike.0)

  module _ (text : List ℕ) (front : List Token) (partial : Span) where
    abbrev word : List ℕ
    word = slice_range text partial.start partial.end

    abbrev Offered : Role → List (List ℕ) → List ℕ → Type 0
    Offered role words s = offers known table role words s × Completes s word

    -- the names that are offered
    pub offered_names : (law : (f : Known) (table : ExtensionTable) (role : Role) (words : List (List ℕ))
        (s : List ℕ) → list_all is_id words ≡ false → (offers f table role words s ↔ offers f table role [] s))
        → (o : Option InternalName) (words : List (List ℕ)) → IsNameOfWords words o → (role : Role) (found : List ℕ)
        → found ≡ word → (names : List (List ℕ))
        → ((s : List ℕ) → (Contains names s ↔ (offers known table role (words_in o) s × Completes s found)))
        → (s : List ℕ) → (Contains names s ↔ Offered role words s)
    offered_names law o words is role found same names each s =
        let to = named_offers law o words is role s in (
          λ c. let h = (each s).0 c in (to.0 h.0, subst (λ x. Completes s x) same h.1),
          λ h. (each s).1 (to.1 h.0, subst (λ x. Completes s x) (sym same) h.1),
        )

    -- where no role stands, no name does
    pub none_behind : ((role : Role) (space : Option ℕ) → StandsIn (kinds_of front) role space → ⊥) → (s : List ℕ)
        → (Contains [] s ↔ IsNameBehind text front partial known table s)
    none_behind none s = (λ c. absurd (omega (arith, c.1)), λ h. absurd (none h.role h.home h.stands))

    -- and else those that are offered in it
    pub some_behind : ((kinds : Kinds) (first second : Role) (here there : Option ℕ) → StandsIn kinds first here
        → StandsIn kinds second there → (first ≡ second) × (here ≡ there)) → (place : Place)
        → StandsIn (kinds_of front) place.role place.space → (names : List (List ℕ))
        → ((s : List ℕ) → (Contains names s ↔ Offered place.role (words_around text front place.space) s))
        → (s : List ℕ) → (Contains names s ↔ IsNameBehind text front partial known table s)
    some_behind one place stands names each s = (
      λ c. let h = (each s).0 c in
          record { role = place.role; home = place.space; stands = stands; offered = h.0; begins = h.1 },
      λ h. let same = one (kinds_of front) h.role place.role h.home place.space h.stands stands in
          (each s).1 (
            subst (λ r. offers known table r (words_around text front place.space) s) same.0
                (subst (λ o. offers known table h.role (words_around text front o) s) same.1 h.offered),
            h.begins,
          ),
    )
