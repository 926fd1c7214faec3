-- The first site with a fault has the fault that ends first.
use Rattle.std.proofs.Common.{◌≡◌, ℕ, ◌≤◌, List, [], ◌∷◌, ◌++◌, refl, sym, ap, ◌∙◌, subst, append_assoc, Some, inl, inr}
use Rattle.std.specs.List.{All}
use Rattle.std.specs.Option.{option_to_list}
use Rattle.std.proofs.lemmas.List.{map-append}
use Rattle.std.proofs.lemmas.List.Elements.{All-head}
use Rattle.std.proofs.lemmas.List.Concat.{flat_map-append}
use Rattle.cedar_data.proofs.Lists.{All-back}
use Rattle.schema_syntax_tokens.specs.declared.token.Token.{Token}
use Rattle.schema_syntax_tokens.specs.Scans.{IsPlaced, Scans}
use Rattle.schema_syntax_parser.specs.declared.syntax.AnnotationSyntax.{AnnotationSyntax}
use Rattle.schema_syntax_parser.specs.declared.syntax.ItemSyntax.{ItemSyntax}
use Rattle.schema_syntax_parser.specs.Syntax.{IsSyntax}
use Rattle.schema_syntax_errors.specs.declared.user_error.UserError.{UserError}
use Rattle.schema_syntax_reader.specs.Sites.{Site, sites_of}
use Rattle.schema_syntax_reader.specs.UserFaults.{FaultAt, empty_list, reserved, escape, note_escape, duplicate}
use Rattle.schema_syntax_reader.specs.UserFaults.{HasUserFault, IsFirstUserFault, IsLawful}
use Rattle.schema_syntax_reader.specs.Placed.{note_tokens, NoSiteFault, IsFirstSiteFault}
use Rattle.schema_syntax_reader.specs.Stops.{IsStopped}
use Rattle.schema_syntax_reader.specs.LawfulTrees.{IsStopOf}
use Rattle.schema_syntax_reader.specs.declared.stopped.Stopped.{Stopped}
use Rattle.schema_syntax_reader.specs.declared.stopped.Stopped.TheVariants.{Memory, User}
use Rattle.schema_syntax_reader.proofs.Rising.{Rises, Among, among_left, among_right, turns_apart, turns_back}
use Rattle.schema_syntax_reader.proofs.Rising.{sub_turns, rise_ends, scans_rise}
use Rattle.schema_syntax_reader.proofs.Fits.{ends, site_ends, sites_ends, syntax_fits}

-- the ends of one annotation, and of those in front of it and behind it
abbrev pub note_ends : AnnotationSyntax → List ℕ
note_ends a = ends (a.key ∷ option_to_list a.value)

pub one_note : (a : AnnotationSyntax) (back : List AnnotationSyntax)
    → ends (note_tokens (a ∷ back)) ≡ note_ends a ++ ends (note_tokens back)
one_note a back = map-append (λ t. t.loc.end) (a.key ∷ option_to_list a.value) (note_tokens back)

pub notes_join : (a b : List AnnotationSyntax)
    → ends (note_tokens (a ++ b)) ≡ ends (note_tokens a) ++ ends (note_tokens b)
notes_join [] b = refl
notes_join (x ∷ a) b =
    one_note x (a ++ b)
    ∙ (ap (λ w. note_ends x ++ w) (notes_join a b)
    ∙ (sym (append_assoc (note_ends x) (ends (note_tokens a)) (ends (note_tokens b)))
    ∙ ap (λ w. w ++ ends (note_tokens b)) (sym (one_note x a))))

-- what ends in one of the annotations ends in the list
pub among_note : (front back : List AnnotationSyntax) (a : AnnotationSyntax) (n : ℕ) → Among n (note_ends a)
    → Among n (ends (note_tokens (front ++ a ∷ back)))
among_note front back a n h =
    subst (Among n) (sym (notes_join front (a ∷ back)))
    (among_right n (ends (note_tokens front)) (ends (note_tokens (a ∷ back)))
    (subst (Among n) (sym (one_note a back)) (among_left n (note_ends a) (ends (note_tokens back)) h)))

-- where one of two places in a list is, seen from the other
pub data Where {A : Type 0} (front back : List A) (item other : A) : Type 0 where
  earlier : (a b : List A) → front ≡ a ++ other ∷ b → Where front back item other
  same : item ≡ other → Where front back item other
  later : (a b : List A) → back ≡ a ++ other ∷ b → Where front back item other

pub places : {A : Type 0} (front back a b : List A) (item other : A) → front ++ item ∷ back ≡ a ++ other ∷ b
    → Where front back item other
places [] back [] b item other e = same (cc)
places [] back (x ∷ a) b item other e = later a b (cc)
places (x ∷ front) back [] b item other e = earlier [] front (ap (λ y. y ∷ front) (cc))
places {A} (x ∷ front) back (y ∷ a) b item other e = step (places front back a b item other (cc))
  where
    step : Where front back item other → Where (x ∷ front) back item other
    step (earlier c d f) = earlier (x ∷ c) d (ap (λ l. x ∷ l) f)
    step (same f) = same f
    step (later c d f) = later c d f

module _ (source : List ℕ) where
  -- a fault ends where a token of its site does
  pub fault_end : {site : Site} {fault : UserError} {end : ℕ} → FaultAt source site fault end
      → Among end (site_ends site)
  fault_end (empty_list brackets) = inl refl
  fault_end (reserved t h) = inl refl
  fault_end (escape t at h) = inl refl
  fault_end (note_escape front back key t at e h) =
      subst (λ list. Among t.loc.end (ends (note_tokens list))) (sym e)
      (among_note front back (record { key = key; value = Some t }) t.loc.end (inr (inl refl)))
  fault_end (duplicate front middle back first second key e k l f m) =
      let whole : front ++ first ∷ (middle ++ second ∷ back) ≡ (front ++ first ∷ middle)
      ++ second ∷ back = sym (append_assoc front (first ∷ middle) (second ∷ back)) in
      subst (λ list. Among second.key.loc.end (ends (note_tokens list))) (sym (e ∙ whole))
      (among_note (front ++ first ∷ middle) back second second.key.loc.end (inl refl))

  no_fault_in : (front a b : List Site) (other : Site) → All (NoSiteFault source) front → front ≡ a ++ other ∷ b
      → NoSiteFault source other
  no_fault_in front a b other h e = All-head (NoSiteFault source) other b
      (All-back (NoSiteFault source) a (other ∷ b) (subst (All (NoSiteFault source)) e h))

  -- the ends of a later site
  later_end : (back a b : List Site) (other : Site) (n : ℕ) → back ≡ a ++ other ∷ b → Among n (site_ends other)
      → Among n (sites_ends back)
  later_end back a b other n e h =
      subst (λ l. Among n (sites_ends l)) (sym e)
      (subst (Among n) (sym (flat_map-append site_ends a (other ∷ b)))
      (among_right n (sites_ends a) (sites_ends (other ∷ b)) (among_left n (site_ends other) (sites_ends b) h)))

  -- the first fault of the sites is the one that ends first
  pub first_ends_first : (tokens : List Token) (at : ℕ) (items : List ItemSyntax) (fault : UserError)
      → Scans source tokens at → All (IsPlaced source) tokens → IsSyntax tokens items
      → IsFirstSiteFault source (sites_of items) fault
      → IsFirstUserFault source items fault
  first_ends_first tokens at items fault s p r f =
      let rise = scans_rise source tokens at s in
      let fits = syntax_fits source r (record { placed = p; rise = rise }) in
      let all = sub_turns (λ n m. n ≤ m) fits.sub (rise_ends tokens rise) in
      let here = turns_back (λ n m. n ≤ m) (sites_ends f.front) (sites_ends (f.site ∷ f.back))
      (subst Rises (flat_map-append site_ends f.front (f.site ∷ f.back))
      (subst (λ l. Rises (sites_ends l)) f.split all)) in
      record {
        end = f.end;
        has = (f.front, f.site, f.back, f.split, f.here);
        first = λ other n h. by_place here other n h (places f.front f.back h.0 h.2 f.site h.1 (sym f.split ∙ h.3));
      }
    where
      by_place : Rises (site_ends f.site ++ sites_ends f.back)
          → (other : UserError) (n : ℕ) (h : HasUserFault source items other n) → Where f.front f.back f.site h.1
          → f.end ≤ n
      by_place here other n h (earlier a b e) = absurd (no_fault_in f.front a b h.1 f.before e other n h.4)
      by_place here other n h (same e) = f.least other n (subst (λ s. FaultAt source s other n) (sym e) h.4)
      by_place here other n h (later a b e) =
          turns_apart (λ n m. n ≤ m) (site_ends f.site) (sites_ends f.back) f.end n here (fault_end f.here)
          (later_end f.back a b h.1 n e (fault_end h.4))

  -- no site with a fault: no user fault
  pub all_lawful : (items : List ItemSyntax) → All (NoSiteFault source) (sites_of items) → IsLawful source items
  all_lawful items h fault end f = no_fault_in (sites_of items) f.0 f.2 f.1 h f.3 fault end f.4

  -- what a stop says of the sites, said of the tokens
  pub stop_of : (tokens : List Token) (at : ℕ) (items : List ItemSyntax) (stop : Stopped) → Scans source tokens at
      → All (IsPlaced source) tokens → IsSyntax tokens items → IsStopped source (sites_of items) stop
      → IsStopOf source tokens stop
  stop_of tokens at items Memory s p r f = tt
  stop_of tokens at items (User fault) s p r f =
      record { items = items; syntax = r; first = first_ends_first tokens at items fault s p r f }
