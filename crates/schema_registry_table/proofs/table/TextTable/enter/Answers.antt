use Rattle.std.proofs.Common.{◌≡◌, ◌++◌, ℕ, pos, List, [], ◌∷◌, slice_get, Some, w64, sym, ap, ◌∙◌, arith}
use Rattle.std.proofs.lemmas.Int.{to_z-of_z}
use Rattle.std.specs.List.{Contains}
use Rattle.sha2.specs.Sha256.{sha256}
use Rattle.sqlite.specs.Held.{state}
use Rattle.sqlite.specs.State.{HasCleanDisk, Survives}
use Rattle.sqlite.proofs.StateLemmas.{survives_then}
use Rattle.schema_registry_table.specs.Table.{AreRowsOf, Rests}
use Rattle.schema_registry_table.proofs.StateLemmas.{on_err}
use Rattle.schema_registry_table.proofs.EnterLemmas.{many, many_left, many_added, found_enters, added_enters}
use Rattle.schema_registry_table.proofs.table.TextTable.enter.Goals as goal

pub invariant_of-self : goal.invariant_of-self
invariant_of-self g c = many_left (state g.S.Store c.self.inside.conn)
    (state g.S.Store c.find.new.conn) c.self.inside.count c.self.invariant c.find.ensures.left

pub invariant_of-self-in-Some : goal.invariant_of-self-in-Some
invariant_of-self-in-Some g c = many_left (state g.S.Store c.self.inside.conn)
    (state g.S.Store c.find.new.conn) c.self.inside.count c.self.invariant c.find.ensures.left

pub invariant_of-self-in_err-id : goal.invariant_of-self-in_err-id
invariant_of-self-in_err-id g c = many_left (state g.S.Store c.self.inside.conn)
    (state g.S.Store c.find.new.conn) c.self.inside.count c.self.invariant c.find.ensures.left

pub returns-in_err-place-clause-left : goal.returns-in_err-place-clause-left
returns-in_err-place-clause-left g c clean = rw (← c.self.view_is)
    (on_err c.from_residual.result (c.find.ensures.left.stands clean))

pub returns-in_err-id-clause-left : goal.returns-in_err-id-clause-left
returns-in_err-id-clause-left g c clean = rw (← c.self.view_is)
    (on_err c.from_residual-in_err-id.result (c.find.ensures.left.stands clean))

pub returns-in-Some-clause-entered : goal.returns-in-Some-clause-entered
returns-in-Some-clause-entered g c clean =
    let old = state g.S.Store c.self.inside.conn in
    let mid = state g.S.Store c.find.new.conn in
    let early : HasCleanDisk old = omega (arith, c.find.ensures.left.clean, clean) in
    let it = c.self.invariant early in
    let both = c.in_ok-place.ensures.rests clean it.0 it.1 in
    let sum = c.digest-sum.ensures ∙ ap sha256 c.as_bytes.ensures.value in
    let found : slice_get it.0 c.in-Some.place ≡ Some c.args.text.now = rw c.in-Some.is at
    (c.in_ok-place.ensures.found clean it.0 both.0 sum) in
    rw (← c.self.view_is) (found_enters old mid c.args.text.now c.in-Some.place it.0 both.0 both.1 found)

pub invariant_of-self-in_err-insert : goal.invariant_of-self-in_err-insert
invariant_of-self-in_err-insert g c clean =
    let old = state g.S.Store c.self.inside.conn in
    let later : HasCleanDisk (state g.S.Store c.find.new.conn) = omega (arith, c.insert.ensures.clean, clean) in
    let early : HasCleanDisk old = omega (arith, c.find.ensures.left.clean, later) in
    let it = c.self.invariant early in
    (it.0, c.in_err-insert.ensures.left clean it.0 (c.find.ensures.left.stands later it.0 it.1), it.2)

pub returns-in_err-insert-clause-left : goal.returns-in_err-insert-clause-left
returns-in_err-insert-clause-left g c clean =
    let later : HasCleanDisk (state g.S.Store c.find.new.conn) = omega (arith, c.insert.ensures.clean, clean) in
    rw (← c.self.view_is) (on_err c.from_residual-in_err-insert.result
    (λ texts stands. c.in_err-insert.ensures.left clean texts (c.find.ensures.left.stands later texts stands)))

pub returns-in_err-insert-clause-survives : goal.returns-in_err-insert-clause-survives
returns-in_err-insert-clause-survives g c =
    let old = state g.S.Store c.self.inside.conn in
    let mid = state g.S.Store c.find.new.conn in
    let new = state g.S.Store c.insert.new.conn in
    let sum = c.digest-sum.ensures ∙ ap sha256 c.as_bytes.ensures.value in
    let whole : (texts : List (List ℕ)) → Rests old texts
    → Survives old new (λ trees. AreRowsOf (texts ++ c.args.text.now ∷ []) (trees 0)) = λ texts rests.
    survives_then old mid new _ _ (λ trees. AreRowsOf (texts ++ c.args.text.now ∷ []) (trees 0))
    (λ _ db none. absurd none) (λ clean db by.
    let later : HasCleanDisk mid = omega (arith, c.insert.ensures.clean, clean) in
    let early : HasCleanDisk old = omega (arith, c.find.ensures.left.clean, later) in
    let both = c.in_ok-place.ensures.rests later texts (rests.autocommit, λ _. rests) in
    let id = to_z-of_z w64 c.in_ok-id.id c.in_ok-id.ensures.fits ∙ c.in_ok-id.ensures.value
    ∙ ap pos (sym (many old c.self.inside.count texts c.self.invariant early rests)) in
    by texts both.1 id sum) (c.find.ensures.left.survives texts rests) c.insert.ensures.survives in
    rw (← c.self.view_is) whole

pub invariant_of-self-2 : goal.invariant_of-self-2
invariant_of-self-2 g c clean =
    let old = state g.S.Store c.self.inside.conn in
    let mid = state g.S.Store c.find.new.conn in
    let new = state g.S.Store c.insert.new.conn in
    let later : HasCleanDisk mid = omega (arith, c.insert.ensures.clean, clean) in
    let early : HasCleanDisk old = omega (arith, c.find.ensures.left.clean, later) in
    let it = c.self.invariant early in
    let both = c.in_ok-place.ensures.rests later it.0 it.1 in
    let sum = c.digest-sum.ensures ∙ ap sha256 c.as_bytes.ensures.value in
    let id = to_z-of_z w64 c.in_ok-id.id c.in_ok-id.ensures.fits ∙ c.in_ok-id.ensures.value ∙ ap pos (sym it.2) in
    many_added new c.self.inside.count c.args.text.now it.0 it.2 (c.in_ok-insert.ensures.added clean it.0 both.1 id sum)

pub returns-clause-entered : goal.returns-clause-entered
returns-clause-entered g c clean =
    let old = state g.S.Store c.self.inside.conn in
    let mid = state g.S.Store c.find.new.conn in
    let new = state g.S.Store c.insert.new.conn in
    let later : HasCleanDisk mid = omega (arith, c.insert.ensures.clean, clean) in
    let early : HasCleanDisk old = omega (arith, c.find.ensures.left.clean, later) in
    let it = c.self.invariant early in
    let both = c.in_ok-place.ensures.rests later it.0 it.1 in
    let sum = c.digest-sum.ensures ∙ ap sha256 c.as_bytes.ensures.value in
    let none : Contains it.0 c.args.text.now → ⊥ = rw c.in_default.is at
    (c.in_ok-place.ensures.found later it.0 both.0 sum) in
    let id = to_z-of_z w64 c.in_ok-id.id c.in_ok-id.ensures.fits ∙ c.in_ok-id.ensures.value ∙ ap pos (sym it.2) in
    rw (← c.self.view_is) (added_enters old new c.self.inside.count c.args.text.now it.0 both.0 none it.2
    (c.in_ok-insert.ensures.added clean it.0 both.1 id sum))

pub returns-clause-survives : goal.returns-clause-survives
returns-clause-survives g c =
    let old = state g.S.Store c.self.inside.conn in
    let mid = state g.S.Store c.find.new.conn in
    let new = state g.S.Store c.insert.new.conn in
    let sum = c.digest-sum.ensures ∙ ap sha256 c.as_bytes.ensures.value in
    let whole : (texts : List (List ℕ)) → Rests old texts
    → Survives old new (λ trees. AreRowsOf (texts ++ c.args.text.now ∷ []) (trees 0)) = λ texts rests.
    survives_then old mid new _ _ (λ trees. AreRowsOf (texts ++ c.args.text.now ∷ []) (trees 0))
    (λ _ db none. absurd none) (λ clean db by.
    let later : HasCleanDisk mid = omega (arith, c.insert.ensures.clean, clean) in
    let early : HasCleanDisk old = omega (arith, c.find.ensures.left.clean, later) in
    let both = c.in_ok-place.ensures.rests later texts (rests.autocommit, λ _. rests) in
    let id = to_z-of_z w64 c.in_ok-id.id c.in_ok-id.ensures.fits ∙ c.in_ok-id.ensures.value
    ∙ ap pos (sym (many old c.self.inside.count texts c.self.invariant early rests)) in
    by texts both.1 id sum) (c.find.ensures.left.survives texts rests) c.insert.ensures.survives in
    rw (← c.self.view_is) whole
