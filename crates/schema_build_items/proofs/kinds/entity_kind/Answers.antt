use Rattle.std.proofs.Common.{None, map, Some, refl, sym, ap, ◌∙◌, subst}
use Rattle.cedar_names.specs.Meaning.{no_more}
use Rattle.schema_resolve_definitions.specs.Declarations.{name_of}
use Rattle.schema_build_scope.specs.FragmentScope.{fragment_scope}
use Rattle.schema_build_items.specs.Kinds.{KindMeaning, IsKindMeaning}
use Rattle.schema_build_items.proofs.Bare.{bare_means}
use Rattle.schema_build_items.proofs.kinds.entity_kind.Goals as goal

pub returns-then-entry-clause-some : goal.returns-then-entry-clause-some
returns-then-entry-clause-some c =
    let s = fragment_scope c.args.names.now.fragment c.args.names.now.table in
    let ns = name_of c.args.entry.now.ns.now in (
      record { attributes = no_more; tags = None; choices = None },
      bare_means s ns c.args.entry.now.ty.now.kind (c.requires.bare c.if-entry.true),
      (c.if-entry.true, refl, refl, refl),
    )

pub returns-in_ok-choices-in-Enum-clause-some : goal.returns-in_ok-choices-in-Enum-clause-some
returns-in_ok-choices-in-Enum-clause-some c =
    let s = fragment_scope c.args.names.now.fragment c.args.names.now.table in
    let ns = name_of c.args.entry.now.ns.now in
    let choices = map (λ c. c.0) c.in_ok-choices-in-Enum.choices in
    let m : KindMeaning = record { attributes = no_more; tags = None; choices = Some choices } in (
      m,
      subst (λ k. IsKindMeaning s ns k m) (sym c.in-Enum.is)
          (refl, refl, ap (λ l. Some (map (λ c. c.0) l)) (c.in_ok-choices-in-Enum.ensures ∙ c.get-in-Enum.ensures)),
      (c.if-entry.false, refl, refl, refl),
    )
