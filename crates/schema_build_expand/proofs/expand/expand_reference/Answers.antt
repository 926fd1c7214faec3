use Rattle.std.proofs.Common.{◌≡◌, ◌<◌, length, get_or, Some, None, refl, sym, ap, ◌∙◌, subst, rules}
use Rattle.std.specs.Prelude.{slice_get}
use Rattle.std.proofs.lemmas.Option.{slice_get_within, get_or_from_slice_get, slice_get_read}
use Rattle.cedar_identifiers.specs.Names.{components_of}
use Rattle.cedar_names.specs.Meaning as plain
use Rattle.schema_build_types.specs.declared.types.Type.TheVariants.{Entity}
use Rattle.schema_build_expand.specs.Expands.{to_entity, to_builtin}
use Rattle.schema_build_expand.specs.Targets.{IsMeantTarget, ReferenceExpandsTo}
use Rattle.schema_build_expand.proofs.Made.{if_ok, reference_made}
use Rattle.schema_build_expand.proofs.expand.expand_reference.Goals as goal

pub bounds-done-rank : goal.bounds-done-rank
bounds-done-rank g c =
    let s = g.R.Meanings.scope c.args.names.now in
    let ns = g.R.Meanings.place c.args.names.now in
    let t = subst (IsMeantTarget s ns c.args.kind c.args.name.now) c.in-Common.is c.in_ok-name.ensures in
    let there = c.requires.ready.1 t.0 c.in-Common.rank t.1 t.2 in
    slice_get_within c.args.done.now c.in-Common.rank (Some there.0) there.1

pub offset_bounds-done-rank : goal.offset_bounds-done-rank
offset_bounds-done-rank g c =
    let s = g.R.Meanings.scope c.args.names.now in
    let ns = g.R.Meanings.place c.args.names.now in
    let t = subst (IsMeantTarget s ns c.args.kind c.args.name.now) c.in-Common.is c.in_ok-name.ensures in
    let there = c.requires.ready.1 t.0 c.in-Common.rank t.1 t.2 in
    let lt : c.in-Common.rank < length c.args.done.now =
    slice_get_within c.args.done.now c.in-Common.rank (Some there.0) there.1 in
    search rules

pub unreachable-requires : goal.unreachable-requires
unreachable-requires g c =
    let s = g.R.Meanings.scope c.args.names.now in
    let ns = g.R.Meanings.place c.args.names.now in
    let done = c.args.done.now in
    let rank = c.in-Common.rank in
    let found = c.index-done-rank.result in
    let t = subst (IsMeantTarget s ns c.args.kind c.args.name.now) c.in-Common.is c.in_ok-name.ensures in
    let there = c.requires.ready.1 t.0 rank t.1 t.2 in
    let here : get_or done rank found ≡ Some there.0 = get_or_from_slice_get done rank (Some there.0) found there.1 in
    let none : found ≡ None = c.in-None.is in
    let is : found ≡ get_or done rank found = c.index-done-rank.is in
    absurd (cc)

pub returns-in_ok-new-in-Entity : goal.returns-in_ok-new-in-Entity
returns-in_ok-new-in-Entity g c =
    let s = g.R.Meanings.scope c.args.names.now in
    let ns = g.R.Meanings.place c.args.names.now in
    let name = c.in-Entity.name in
    let t = subst (IsMeantTarget s ns c.args.kind c.args.name.now) c.in-Entity.is c.in_ok-name.ensures in (
      plain.Entity (components_of name.name),
      to_entity ns c.args.kind c.args.name.now (components_of name.name) t,
      (name, ap Entity (c.in_ok-new-in-Entity.ensures ∙ c.new.ensures), refl),
    )

pub returns-in-Builtin : goal.returns-in-Builtin
returns-in-Builtin g c =
    let s = g.R.Meanings.scope c.args.names.now in
    let ns = g.R.Meanings.place c.args.names.now in
    let t = subst (IsMeantTarget s ns c.args.kind c.args.name.now) c.in-Builtin.is c.in_ok-name.ensures in
    (t.1, to_builtin ns c.args.kind c.args.name.now t.0 t.1 t.2 t.3 t.4, t.5)

pub returns-in-Some : goal.returns-in-Some
returns-in-Some g c =
    let s = g.R.Meanings.scope c.args.names.now in
    let ns = g.R.Meanings.place c.args.names.now in
    let done = c.args.done.now in
    let rank = c.in-Common.rank in
    let found = c.index-done-rank.result in
    let ty = c.in-Some.ty in
    let t = subst (IsMeantTarget s ns c.args.kind c.args.name.now) c.in-Common.is c.in_ok-name.ensures in
    let there = c.requires.ready.1 t.0 rank t.1 t.2 in
    let lt : rank < length done = slice_get_within done rank (Some there.0) there.1 in
    let at : slice_get done rank ≡ Some (Some ty) =
    slice_get_read done (length done) rank found refl lt c.index-done-rank.is ∙ ap Some c.in-Some.is in
    let made =
    reference_made g.row.N.Denot s ns done c.args.kind c.args.name.now t.0 rank ty c.requires.done t.1 t.2 at in
    if_ok (λ copy. copy ≡ ty) (ReferenceExpandsTo s ns c.args.kind c.args.name.now) c.clone_in.result
    (λ copy e. subst (ReferenceExpandsTo s ns c.args.kind c.args.name.now) (sym e) made) c.clone_in.ensures
