use Rattle.std.proofs.Common.{◌≡◌, [], map, sym, ap, ◌∙◌, subst, inr}
use Rattle.std.proofs.lemmas.List.Elements.{All-weaker, All-contains}
use Rattle.cedar_names.specs.Orders.{names_in_order}
use Rattle.cedar_identifiers.specs.declared.name.Name.{Name}
use Rattle.schema_resolve_definitions.specs.Tests.{tests_of}
use Rattle.schema_build_hierarchy.specs.FirstUses.{AreFirstUses, IsFirstUse}
use Rattle.schema_build_hierarchy.specs.Rows.{undeclared_uses}
use Rattle.schema_build_hierarchy.proofs.ParentsDeclared.{entities_declared}
use Rattle.schema_build_hierarchy.proofs.UsesFree.{Free, uses_free, first_contained, no_firsts, none_used}
use Rattle.schema_build_hierarchy.proofs.declared_types.check_declared_types.Goals as goal

pub unreserved-requires : goal.unreserved-requires
unreserved-requires g c =
    let uses = undeclared_uses (tests_of c.args.defs.now) c.args.fragment.now in
    let free = uses_free c.args.fragment.now g.table (tests_of c.args.defs.now) c.requires in
    let made = c.in_ok-first_uses.field-0.items in
    let firsts : AreFirstUses names_in_order uses made =
    subst (λ l. AreFirstUses names_in_order l made) c.in_ok-uses.ensures c.in_ok-first_uses.ensures in
    All-weaker (IsFirstUse names_in_order uses) Free
    (λ x h. All-contains Free uses x free (first_contained names_in_order uses x h)) made firsts.first

pub returns-in_ok-new-in-Some-clause-err : goal.returns-in_ok-new-in-Some-clause-err
returns-in_ok-new-in-Some-clause-err g c =
    let uses = undeclared_uses (tests_of c.args.defs.now) c.args.fragment.now in
    let made = c.in_ok-first_uses.field-0.items in
    let firsts : AreFirstUses names_in_order uses made =
    subst (λ l. AreFirstUses names_in_order l made) c.in_ok-uses.ensures c.in_ok-first_uses.ensures in
    let same = ap (map (λ (n : Name). n.name)) c.in-Some.ensures.some.0 ∙ c.in_ok-firsts.ensures in
    let held = subst (AreFirstUses names_in_order uses) (sym same) firsts in
    inr (record { types = c.in-Some.types }, c.in_ok-new-in-Some.ensures, held, c.in-Some.ensures.some.1)

pub returns-in-None-clause-ok : goal.returns-in-None-clause-ok
returns-in-None-clause-ok g c = λ e h.
    let uses = undeclared_uses (tests_of c.args.defs.now) c.args.fragment.now in
    let made = c.in_ok-first_uses.field-0.items in
    let firsts : AreFirstUses names_in_order uses made =
    subst (λ l. AreFirstUses names_in_order l made) c.in_ok-uses.ensures c.in_ok-first_uses.ensures in
    let none : made ≡ [] = sym c.in_ok-firsts.ensures ∙ ap (map (λ (n : Name). n.name)) c.in-None.ensures.none in
    let nothing = subst (AreFirstUses names_in_order uses) none firsts in
    no_firsts names_in_order uses (λ (n : Name). n.name) h.0.types nothing h.2 h.3

pub returns-in-None-clause-declared : goal.returns-in-None-clause-declared
returns-in-None-clause-declared g c =
    let t = tests_of c.args.defs.now in
    let uses = undeclared_uses t c.args.fragment.now in
    let made = c.in_ok-first_uses.field-0.items in
    let firsts : AreFirstUses names_in_order uses made =
    subst (λ l. AreFirstUses names_in_order l made) c.in_ok-uses.ensures c.in_ok-first_uses.ensures in
    let none : made ≡ [] = sym c.in_ok-firsts.ensures ∙ ap (map (λ (n : Name). n.name)) c.in-None.ensures.none in
    let nothing = subst (AreFirstUses names_in_order uses) none firsts in
    entities_declared c.args.fragment.now t (none_used names_in_order uses nothing)
