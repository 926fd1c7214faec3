use Rattle.std.proofs.Common.{◌≡◌, true, sym, subst}
use Rattle.serde_json.specs.Find.{get_member}
use Rattle.serde_json.specs.View.{members_view}
use Rattle.schema_compat_shapes.specs.OldTypes.{are_old_attributes}
use Rattle.schema_compat_shapes.proofs.OldWords.{object_there}
use Rattle.schema_compat_shapes.proofs.readable.attributes_in.Goals as goal

pub returns : goal.returns
returns c = record {
  there = object_there (get_member c.args.name.now (members_view c.args.members.now.entries))
      (members_view c.in-Some.inner.now.entries) c.in-Some.ensures;
  all = subst (λ o. are_old_attributes o ≡ true) (sym c.in-Some.ensures) c.requires;
}
