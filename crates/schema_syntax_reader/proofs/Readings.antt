-- Parts that are read one after another.
use Rattle.std.proofs.Common.{◌≡◌, ℕ, List, [], ◌∷◌, ◌++◌, refl, sym, ap, ◌∙◌}
use Rattle.std.proofs.Common.{subst}
use Rattle.std.proofs.Common.{append_assoc}
use Rattle.std.specs.Prelude.{Result}
use Rattle.std.specs.List.{All, AllZip, flat_map}
use Rattle.std.specs.Result.{IsErrAnd}
use Rattle.std.proofs.lemmas.List.{append-nil}
use Rattle.std.proofs.lemmas.List.Elements.{All-append, All-nil, All-cons, All-head, All-tail}
use Rattle.std.proofs.lemmas.Result.{err_from_is_err_and}
use Rattle.std.proofs.lemmas.Slice.Zip.{all_zipped_more}
use Rattle.std.proofs.lemmas.List.Concat.{flat_map-append}
use Rattle.cedar_data.proofs.Lists.{All-back}
use Rattle.schema_syntax_reader.specs.declared.stopped.Stopped.{Stopped}
use Rattle.schema_syntax_reader.specs.declared.stopped.Stopped.TheVariants.{Memory, User}
use Rattle.schema_syntax_reader.specs.Sites.{Site}
use Rattle.schema_syntax_reader.specs.Placed.{NoSiteFault}
use Rattle.schema_syntax_reader.specs.Stops.{IsStopped, IsStoppedAt}
use Rattle.schema_syntax_reader.specs.Readings.{Reads}

module _ (source : List ℕ) where
  abbrev pub Faultless : List Site → Type 0
  Faultless sites = All (NoSiteFault source) sites

  -- a fault among the first sites is the first of all
  pub stopped_left : (a b : List Site) (e : Stopped) → IsStopped source a e → IsStopped source (a ++ b) e
  stopped_left a b Memory h = tt
  stopped_left a b (User fault) h = record {
    front = h.front;
    site = h.site;
    back = h.back ++ b;
    end = h.end;
    split = ap (λ l. l ++ b) h.split ∙ append_assoc h.front (h.site ∷ h.back) b;
    before = h.before;
    here = h.here;
    least = h.least;
  }

  -- where the first sites have none, the first of the others is
  pub stopped_right : (a b : List Site) (e : Stopped) → Faultless a → IsStopped source b e
      → IsStopped source (a ++ b) e
  stopped_right a b Memory all h = tt
  stopped_right a b (User fault) all h = record {
    front = a ++ h.front;
    site = h.site;
    back = h.back;
    end = h.end;
    split = ap (λ l. a ++ l) h.split ∙ sym (append_assoc a h.front (h.site ∷ h.back));
    before = All-append (NoSiteFault source) a h.front all h.before;
    here = h.here;
    least = h.least;
  }

  pub stopped_at : (site : Site) (e : Stopped) → IsStoppedAt source site e → IsStopped source (site ∷ []) e
  stopped_at site Memory h = tt
  stopped_at site (User fault) h = record {
    front = [];
    site = site;
    back = [];
    end = h.end;
    split = refl;
    before = All-nil (NoSiteFault source);
    here = h.here;
    least = h.least;
  }

  pub no_fault_at : (site : Site) → NoSiteFault source site → Faultless (site ∷ [])
  no_fault_at site h = All-cons (NoSiteFault source) site [] h (All-nil (NoSiteFault source))

  pub both_faultless : (a b : List Site) → Faultless a → Faultless b → Faultless (a ++ b)
  both_faultless a b h k = All-append (NoSiteFault source) a b h k

  module _ {A : Type 0} (Is : A → Type 0) (r : Result A Stopped) (e : Stopped) (err : IsErrAnd r (λ x. x ≡ e)) where
    pub stops : (sites : List Site) → IsStopped source sites e → Reads source sites Is r
    stops sites h = let p = err_from_is_err_and r err in
        subst (λ x. Reads source sites Is x) (sym p.1) (subst (IsStopped source sites) (sym p.2) h)

    -- the first part stops
    pub stops_left : (a b : List Site) → IsStopped source a e → Reads source (a ++ b) Is r
    stops_left a b h = stops (a ++ b) (stopped_left a b e h)

    -- the part behind it stops
    pub stops_right : (a b : List Site) → Faultless a → IsStopped source b e → Reads source (a ++ b) Is r
    stops_right a b all h = stops (a ++ b) (stopped_right a b e all h)

  -- a list, of which these parts are still to be read
  module _ {R A : Type 0} (sites : R → List Site) (Is : R → A → Type 0) (raws : List R) where
    pub record ReadTo (rest : List R) (items : List A) : Type 0 where
      pub done : List R
      pub split : raws ≡ done ++ rest
      pub each : AllZip Is done items
      pub lawful : Faultless (flat_map sites done)

    pub none_read : (rest : List R) (items : List A) → rest ≡ raws → items ≡ [] → ReadTo rest items
    none_read rest items whole none = record {
      done = [];
      split = sym whole;
      each = subst (AllZip Is []) (sym none) tt;
      lawful = All-nil (NoSiteFault source);
    }

    module _ (rest : List R) (r : R) (others : List R) (next : rest ≡ r ∷ others) (items : List A)
        (so_far : ReadTo rest items) where
      pub next_part : raws ≡ so_far.done ++ r ∷ others
      next_part = so_far.split ∙ ap (λ l. so_far.done ++ l) next

      pub next_fits : (P : R → Type 0) → All P raws → P r
      next_fits P all =
          All-head P r others (All-back P so_far.done (r ∷ others) (subst (All P) next_part all))

      pub one_more_read : (items' : List A) (x : A) → Is r x → Faultless (sites r) → items' ≡ items ++ x ∷ []
          → ReadTo others items'
      one_more_read items' x is all into = record {
        done = so_far.done ++ r ∷ [];
        split = next_part ∙ sym (append_assoc so_far.done (r ∷ []) others);
        each = subst (AllZip Is (so_far.done ++ r ∷ [])) (sym into)
            (all_zipped_more Is so_far.done items r x so_far.each is);
        lawful = subst Faultless (sym (flat_map-append sites so_far.done (r ∷ [])))
            (All-append (NoSiteFault source) (flat_map sites so_far.done) (sites r ++ []) so_far.lawful
            (subst Faultless (sym (append-nil (sites r))) all));
      }

      pub stopped_at_part : (e : Stopped) → IsStopped source (sites r) e → IsStopped source (flat_map sites raws) e
      stopped_at_part e h =
          subst (λ l. IsStopped source l e)
          (sym (ap (flat_map sites) next_part ∙ flat_map-append sites so_far.done (r ∷ others)))
          (stopped_right (flat_map sites so_far.done) (sites r ++ flat_map sites others) e so_far.lawful
          (stopped_left (sites r) (flat_map sites others) e h))

    pub all_read : (rest : List R) (items : List A) → rest ≡ [] → ReadTo rest items
        → AllZip Is raws items × Faultless (flat_map sites raws)
    all_read rest items none so_far =
        let whole : raws ≡ so_far.done = so_far.split ∙ (ap (λ l. so_far.done ++ l) none ∙ append-nil so_far.done) in (
          subst (λ l. AllZip Is l items) (sym whole) so_far.each,
          subst (λ l. Faultless (flat_map sites l)) (sym whole) so_far.lawful,
        )

  -- a list with a first part
  module _ {R A : Type 0} (sites : R → List Site) (Is : R → A → Type 0) (raws : List R) (r : R) (others : List R)
      (split : raws ≡ r ∷ others) where
    pub first_stops : (e : Stopped) → IsStopped source (sites r) e → IsStopped source (flat_map sites raws) e
    first_stops e h = subst (λ l. IsStopped source (flat_map sites l) e) (sym split)
        (stopped_left (sites r) (flat_map sites others) e h)

    pub others_stop : (e : Stopped) → Faultless (sites r) → IsStopped source (flat_map sites others) e
        → IsStopped source (flat_map sites raws) e
    others_stop e all h = subst (λ l. IsStopped source (flat_map sites l) e) (sym split)
        (stopped_right (sites r) (flat_map sites others) e all h)

    pub first_and_others : (x : A) (xs items : List A) → Is r x → Faultless (sites r) → AllZip Is others xs
        → Faultless (flat_map sites others) → items ≡ x ∷ xs → AllZip Is raws items × Faultless (flat_map sites raws)
    first_and_others x xs items is all each lawful same = (
      subst (λ l. AllZip Is l items) (sym split) (subst (AllZip Is (r ∷ others)) (sym same) (is, each)),
      subst (λ l. Faultless (flat_map sites l)) (sym split)
          (both_faultless (sites r) (flat_map sites others) all lawful),
    )

-- the first of items that are all so, and the others
pub first_fits : {R : Type 0} (P : R → Type 0) (raws : List R) (r : R) (others : List R) → raws ≡ r ∷ others
    → All P raws → P r × All P others
first_fits P raws r others split all =
    let same = subst (All P) split all in (All-head P r others same, All-tail P r others same)
