-- The names of builtin types, added in turn.
use Rattle.std.proofs.Common.{◌≡◌, ℕ, true, false, List, [], ◌∷◌, ◌++◌, map, codes, if◌then◌else◌, refl, sym, ap, ◌∙◌}
use Rattle.std.proofs.Common.{append_assoc, append-nil}
use Rattle.std.proofs.lemmas.List.{map-append}
use Rattle.cedar_identifiers.specs.Names.{components_of}
use Rattle.cedar_identifiers.specs.declared.internal_name.InternalName.{InternalName}
use Rattle.schema_resolve_definitions.specs.Defined.{is_hidden, names_of_builtin, names_of_builtins}
use Rattle.schema_resolve_definitions.specs.Tests.{Tests}

pub three_added : {N : Type 0} (old one two three : List N) (a b c : List N) → one ≡ old ++ a → two ≡ one ++ b
    → three ≡ two ++ c → three ≡ old ++ (a ++ (b ++ (c ++ [])))
three_added old one two three a b c p q r =
    r ∙ ap (λ l. l ++ c) (q ∙ ap (λ l. l ++ b) p) ∙ append_assoc (old ++ a) b c ∙ append_assoc old a (b ++ c)
    ∙ ap (λ l. old ++ (a ++ (b ++ l))) (sym (append-nil c))

pub named_added : (t : Tests) (old new : List (List (List ℕ))) (w v : List ℕ) → new ≡ old ++ names_of_builtin t w
    → w ≡ v → new ≡ old ++ names_of_builtin t v
named_added t old new w v h same = h ∙ ap (λ x. old ++ names_of_builtin t x) same

full_added : (w : List ℕ) (old mid : List InternalName) (full : InternalName)
    → components_of full ≡ codes "__cedar" ∷ w ∷ [] → mid ≡ old ++ full ∷ []
    → map components_of mid ≡ map components_of old ++ (codes "__cedar" ∷ w ∷ []) ∷ []
full_added w old mid full is step = ap (map components_of) step ∙ map-append components_of old (full ∷ [])
    ∙ ap (λ n. map components_of old ++ n ∷ []) is

-- the name behind `__cedar` alone, and the word by itself too
pub one_named : (t : Tests) (w : List ℕ) (old mid : List InternalName) (full : InternalName)
    → components_of full ≡ codes "__cedar" ∷ w ∷ [] → mid ≡ old ++ full ∷ [] → is_hidden t w ≡ true
    → map components_of mid ≡ map components_of old ++ names_of_builtin t w
one_named t w old mid full is step hidden =
    full_added w old mid full is step
    ∙ ap (λ b. map components_of old ++ (codes "__cedar" ∷ w ∷ []) ∷ (if b then [] else (w ∷ []) ∷ [])) (sym hidden)

pub both_named : (t : Tests) (w : List ℕ) (old mid new : List InternalName) (full plain : InternalName)
    → components_of full ≡ codes "__cedar" ∷ w ∷ [] → components_of plain ≡ w ∷ [] → mid ≡ old ++ full ∷ []
    → new ≡ mid ++ plain ∷ [] → is_hidden t w ≡ false
    → map components_of new ≡ map components_of old ++ names_of_builtin t w
both_named t w old mid new full plain is by_itself step more hidden =
    ap (map components_of) more ∙ map-append components_of mid (plain ∷ [])
    ∙ (λ i. full_added w old mid full is step i ++ by_itself i ∷ [])
    ∙ append_assoc (map components_of old) ((codes "__cedar" ∷ w ∷ []) ∷ []) ((w ∷ []) ∷ [])
    ∙ ap (λ b. map components_of old ++ (codes "__cedar" ∷ w ∷ []) ∷ (if b then [] else (w ∷ []) ∷ [])) (sym hidden)

pub all_parts : (t : Tests) (vs ws : List (List ℕ))
    → names_of_builtins t (vs ++ ws) ≡ names_of_builtins t vs ++ names_of_builtins t ws
all_parts t [] ws = refl
all_parts t (v ∷ vs) ws = ap (λ l. names_of_builtin t v ++ l) (all_parts t vs ws)
    ∙ sym (append_assoc (names_of_builtin t v) (names_of_builtins t vs) (names_of_builtins t ws))
