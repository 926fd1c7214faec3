use Rattle.schema_resolve.proofs.resolve_fragment.FragmentDefsFragmentRenamerRawNameInternalName.rename_in.Goals as goal

pub returns-clause-out : goal.returns-clause-out
returns-clause-out c = rw (← c.name_of.ensures) c.rename_namespace.ensures.out

pub returns-clause-defined : goal.returns-clause-defined
returns-clause-defined c = rw (← c.name_of.ensures) c.rename_namespace.ensures.defined

pub returns-clause-err : goal.returns-clause-err
returns-clause-err c = rw (← c.name_of.ensures) c.rename_namespace.ensures.err
