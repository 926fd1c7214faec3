use Rattle.std.proofs.Common.{◌≡◌, length, take, vec_len, arith, sym, ap, ◌∙◌, subst, refl}
use Rattle.std.specs.List.{All}
use Rattle.schema_syntax_tokens.specs.Scans.{Scans, IsPlaced}
use Rattle.schema_assist_words.specs.Cuts.{IsCutOf}
use Rattle.schema_assist_words.specs.Before.{IsWordBefore}
use Rattle.schema_assist_words.specs.Before.IsPartialWord.{a_word, no_word}
use Rattle.schema_assist_words.proofs.Heads.{written_end, whole_head, front_placed, start_within, written_word}
use Rattle.schema_assist_words.proofs.Heads.{front_scanned, popped}
use Rattle.schema_assist_words.proofs.head.cut_head.Goals as goal

pub returns-in-None : goal.returns-in-None
returns-in-None c =
    let head = c.args.head.now in
    let scanned = c.in_ok-tokens.field-0 in
    let told = c.in_ok-tokens.ensures in
    subst (λ p. IsCutOf head p scanned.tokens.items scanned.at) (sym c.new.ensures)
    (record {
      partial_word = no_word scanned.tokens.items scanned.at told.scans
          (λ front last is. c.in-None.ensures front last
          (subst (λ ts. IsWordBefore ts (length head) front last) (sym c.deref.ensures.value) is));
      scans = whole_head head scanned.tokens.items scanned.at told.scans;
      placed = told.placed;
      before = told.in_range;
      within = omega arith;
      word = written_end head;
      ends = refl;
    })

pub returns-in-Some : goal.returns-in-Some
returns-in-Some c =
    let head = c.args.head.now in
    let scanned = c.in_ok-tokens.field-0 in
    let tokens = scanned.tokens.items in
    let told = c.in_ok-tokens.ensures in
    let found = c.in-Some.ensures in
    let front = found.0 in
    let last = found.1 in
    let is : IsWordBefore tokens (length head) front last =
    subst (λ ts. IsWordBefore ts (length head) front last) c.deref.ensures.value found.2 in
    let size : length tokens ≡ vec_len scanned.tokens = sym (ap length c.deref.ensures.value) ∙ c.deref.ensures.len in
    let left : front ≡ c.pop.new.self.items =
    popped tokens c.pop.new.self.items front last (vec_len scanned.tokens) c.pop.ensures.rest size is.split in
    let start : last.loc.start ≡ c.partial.inside.start =
    sym (ap (λ p. p.start) c.partial.view_is ∙ ap (λ p. p.start) found.3) in
    let scans = front_scanned head tokens front last scanned.at told.scans told.placed is in
    subst (λ p. IsCutOf head p c.pop.new.self.items c.partial.inside.start) (sym found.3)
    (record {
      partial_word = a_word tokens front last scanned.at told.scans is;
      scans = subst (λ n. Scans (take last.loc.start head) c.pop.new.self.items n) start
          (subst (λ ts. Scans (take last.loc.start head) ts last.loc.start) left scans);
      placed = subst (λ ts. All (IsPlaced head) ts) left
          (front_placed head tokens front last scanned.at told.scans told.placed is);
      before = omega (arith, start);
      within = start_within head tokens front last scanned.at told.scans told.placed is;
      word = written_word head tokens front last scanned.at told.scans told.placed is;
      ends = is.ends;
    })
