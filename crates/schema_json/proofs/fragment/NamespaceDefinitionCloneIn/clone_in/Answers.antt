use Rattle.schema_json.proofs.fragment.NamespaceDefinitionCloneIn.clone_in.Goals as goal

pub returns : goal.returns
returns g c = λ i. record {
  common_types = c.in_ok-clone_in.ensures i;
  entity_types = c.in_ok-clone_in-2.ensures i;
  actions = c.in_ok-clone_in-3.ensures i;
  annotations = c.in_ok-clone_in-4.ensures i;
}
