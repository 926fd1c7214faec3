use Rattle.std.proofs.Common.{◌≡◌, false, ◌||◌, List, ◌∷◌, sym, ap, ◌∙◌, subst}
use Rattle.cedar_identifiers.specs.Candidates.{qualified}
use Rattle.cedar_identifiers.specs.Names.{components_of, has_cedar, texts_of}
use Rattle.cedar_identifiers.specs.Words.{is_cedar}
use Rattle.cedar_identifiers.specs.declared.id.Id.{Id}
use Rattle.cedar_identifiers.specs.declared.internal_name.InternalName.{InternalName}
use Rattle.schema_build_hierarchy.proofs.Unreserved.{unreserved_qualified}
use Rattle.schema_build_hierarchy.proofs.entries.full_name.Goals as goal

pub invariant_of-result : goal.invariant_of-result
invariant_of-result c =
    let word : InternalName = record { first = c.in_ok-clone_in.field-0; others = c.new.result; loc = c.args.loc } in
    let lone : has_cedar (components_of word) ≡ false =
    ap (λ (o : List Id). has_cedar (texts_of (c.in_ok-clone_in.field-0 ∷ o))) c.new.ensures
    ∙ ap (λ (i : Id). is_cedar i.text || false) c.in_ok-clone_in.ensures
    ∙ ap (λ b. b || false) c.args.id.now.unreserved in
    record {
      unreserved = subst (λ n. has_cedar (components_of n) ≡ false)
          (sym (c.in_ok-name.ensures.name ∙ ap (λ n. qualified n word) c.name_of.ensures))
          (unreserved_qualified c.args.ns.now word lone);
    }
