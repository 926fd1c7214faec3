use Rattle.std.proofs.Common.{◌≡◌, take}
use Rattle.schema_syntax_tree.proofs.types.+clone_in.Given as goal

abbrev pub invariant-clone_attributes-loop-attribute :
    goal.invariant-clone_attributes-loop-attribute
invariant-clone_attributes-loop-attribute l = l.copy.items ≡ take l.attribute-index l.attributes
