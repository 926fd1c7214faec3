use contract.BorrowLft.{⊑_meet, ⊑_static}
use Rattle.std.proofs.Common.{rules, ◌≡◌, All, length, map, Option, sym, ap, ◌∙◌, subst}
use Rattle.std.specs.Borrow.{Bor}
use Rattle.std.proofs.lemmas.List.Elements.{All-contains, All-map, All-weaker}
use Rattle.std.proofs.lemmas.Option.{slice_get_within, get_or_from_slice_get}
use Rattle.std.proofs.lemmas.Result.{IfOk-weaker, IfErr-weaker, on_ok_weaker}
use Rattle.cedar_identifiers.specs.declared.internal_name.InternalName.{InternalName}
use Rattle.cedar_identifiers.specs.declared.raw_name.RawName.{RawName}
use Rattle.schema_json.specs.declared.types.Type.{«Type»}
use Rattle.schema_resolve_definitions.specs.Declarations.{name_of}
use Rattle.schema_build_expand.specs.Commons.{AreCommons}
use Rattle.schema_build_expand.specs.Rows.{AreMeant, NoneRound, IsCycleFault}
use Rattle.schema_build_expand.specs.Scope.{Scope}
use Rattle.schema_build_expand.specs.Uses.{AreIn, AreReady, AreUsesMeant}
use Rattle.schema_build_scope.specs.FragmentScope.{fragment_scope}
use Rattle.schema_build_scope.specs.Lent.{lent_at}
use Rattle.schema_build_scope.specs.LentCommons.{lent_type}
use Rattle.schema_build_scope.specs.LentRounds.{IsRoundFault, NoneReachesItself}
use Rattle.schema_build_scope.specs.Uses.{used_types}
use Rattle.schema_build_scope.specs.declared.names_in.NamesIn.{NamesIn}
use Rattle.schema_build_scope.proofs.LentScope.{lent_commons_are, lent_meant, lent_count, none_reaches, round_fault}
use Rattle.schema_build_scope.proofs.UsedTypes.{IsMeantAt, IsReadyAt, all_seen, types_ready, used_meant}
use Rattle.schema_build_scope.proofs.expansions.expand_lent.Goals as goal

abbrev scope : NamesIn → Scope RawName
scope v = fragment_scope v.names.now.fragment v.names.now.table

abbrev place : NamesIn → Option InternalName
place v = name_of v.ns.now

pub expansions-requires : goal.expansions-requires
expansions-requires g c κs within =
    let f = c.args.names.now.fragment in
    let table = c.args.names.now.table in
    let items = c.in_ok-commons.commons.items in
    let P = λ (x : NamesIn × Bor («Type» RawName)). x.0.names.now ≡ c.args.names.now in
    let are : AreCommons (fragment_scope f table) scope place items =
    lent_commons_are f table lent_type c.args.entries.now c.requires.1.0 scope place items
    c.in_ok-commons.ensures.commons
    (λ k x at. ap (λ n. fragment_scope n.fragment n.table)
    (All-contains P items x c.in_ok-commons.ensures.names
    (k, slice_get_within items k x at, get_or_from_slice_get items k x x at))) in
    let count = lent_count f table lent_type c.args.entries.now c.requires.1.0 scope place items
    c.in_ok-commons.ensures.commons in
    let meant : AreMeant (fragment_scope f table) place items =
    lent_meant f table lent_type c.args.entries.now c.requires.1.0 scope place items c.in_ok-commons.ensures.commons
    c.requires.1.1 in
    let are' : AreCommons g.s scope place c.deref-2.result.now = rw c.deref-2.ensures.value
    (subst (λ z. AreCommons z scope place items) (sym c.requires.0) are) in
    let meant' : AreMeant g.s place c.deref-2.result.now = rw c.deref-2.ensures.value
    (subst (λ z. AreMeant z place items) (sym c.requires.0) meant) in
    let count' : length g.s.commons
    ≡ length c.deref-2.result.now = ap (λ (z : Scope RawName). length z.commons) c.requires.0 ∙ count
    ∙ ap length (sym c.deref-2.ensures.value) in
    let uses = c.in_ok-uses.uses.items in
    let used : map lent_at uses ≡ used_types f =
    c.in_ok-uses.ensures.uses ∙ ap (map lent_type) c.deref.ensures.value ∙ c.in_ok-lent.ensures
    ∙ ap used_types c.fragment.ensures in
    let inside : AreIn (fragment_scope f table) scope uses =
    All-weaker P (λ u. scope u.0 ≡ fragment_scope f table) (λ u e. ap (λ n. fragment_scope n.fragment n.table) e) uses
    c.in_ok-uses.ensures.names in
    let inside' : AreIn g.s scope c.deref-3.result.now =
    subst (AreIn g.s scope) (sym c.deref-3.ensures.value) (subst (λ z. AreIn z scope uses) (sym c.requires.0) inside) in
    let known : AreUsesMeant (fragment_scope f table) place uses =
    all_seen (IsMeantAt f table) lent_at uses (used_types f) used (used_meant f table c.requires.1.1) in
    let known' : AreUsesMeant g.s place c.deref-3.result.now =
    subst (AreUsesMeant g.s place) (sym c.deref-3.ensures.value)
    (subst (λ z. AreUsesMeant z place uses) (sym c.requires.0) known) in
    let short = within.0 in
    let shorter = within.1.0 in (
      search rules,
      (
        search (⊑_meet, ⊑_static, short, shorter) depth 60 fits 100000,
        (are', (count', (meant', (inside', known')))),
      ),
    )

pub returns-clause-ready : goal.returns-clause-ready
returns-clause-ready g c =
    let f = c.args.names.now.fragment in
    let table = c.args.names.now.table in
    let uses = c.in_ok-uses.uses.items in
    let used : map lent_at uses ≡ used_types f =
    c.in_ok-uses.ensures.uses ∙ ap (map lent_type) c.deref.ensures.value ∙ c.in_ok-lent.ensures
    ∙ ap used_types c.fragment.ensures in
    IfOk-weaker c.expansions.result _ _
    (λ done h. types_ready f table done.items
    (subst (All (IsReadyAt f table done.items)) used
    (All-map (IsReadyAt f table done.items) lent_at uses
    (subst (λ z. AreReady z place uses done.items) c.requires.0
    (subst (λ us. AreReady g.s place us done.items) c.deref-3.ensures.value h)))))
    c.expansions.ensures.ready

pub returns-clause-acyclic : goal.returns-clause-acyclic
returns-clause-acyclic g c =
    let f = c.args.names.now.fragment in
    let table = c.args.names.now.table in
    let items = c.in_ok-commons.commons.items in
    let P = λ (x : NamesIn × Bor («Type» RawName)). x.0.names.now ≡ c.args.names.now in
    let are : AreCommons (fragment_scope f table) scope place items =
    lent_commons_are f table lent_type c.args.entries.now c.requires.1.0 scope place items
    c.in_ok-commons.ensures.commons
    (λ k x at. ap (λ n. fragment_scope n.fragment n.table)
    (All-contains P items x c.in_ok-commons.ensures.names
    (k, slice_get_within items k x at, get_or_from_slice_get items k x x at))) in
    on_ok_weaker c.expansions.result
    (λ none. subst NoneReachesItself (sym c.requires.0)
    (none_reaches f table lent_type c.args.entries.now c.requires.1.0 scope place items
    c.in_ok-commons.ensures.commons are
    (subst (λ z. NoneRound z place items) c.requires.0
    (subst (λ l. NoneRound g.s place l) c.deref-2.ensures.value none))))
    c.expansions.ensures.acyclic

pub returns-clause-fault : goal.returns-clause-fault
returns-clause-fault g c =
    let f = c.args.names.now.fragment in
    let table = c.args.names.now.table in
    let items = c.in_ok-commons.commons.items in
    let P = λ (x : NamesIn × Bor («Type» RawName)). x.0.names.now ≡ c.args.names.now in
    let are : AreCommons (fragment_scope f table) scope place items =
    lent_commons_are f table lent_type c.args.entries.now c.requires.1.0 scope place items
    c.in_ok-commons.ensures.commons
    (λ k x at. ap (λ n. fragment_scope n.fragment n.table)
    (All-contains P items x c.in_ok-commons.ensures.names
    (k, slice_get_within items k x at, get_or_from_slice_get items k x x at))) in
    IfErr-weaker c.expansions.result _ _
    (λ fault h. subst (λ z. IsRoundFault z fault) (sym c.requires.0)
    (round_fault f table lent_type c.args.entries.now c.requires.1.0 scope place items
    c.in_ok-commons.ensures.commons are fault
    (subst (λ z. IsCycleFault z place items fault) c.requires.0
    (subst (λ l. IsCycleFault g.s place l fault) c.deref-2.ensures.value h))))
    c.expansions.ensures.fault
