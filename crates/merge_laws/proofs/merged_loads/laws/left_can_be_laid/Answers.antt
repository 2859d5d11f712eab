use Rattle.merge_laws.proofs.lemmas.merged_loads.Whole.{left_can}
use Rattle.merge_laws.proofs.merged_loads.laws.left_can_be_laid.Goals as goal

pub returns : goal.returns
returns c = left_can (record {
  types = c.values.ensures.types;
  methods = c.values.ensures.methods;
  properties = c.values.ensures.properties;
  fields = c.values.ensures.fields;
  locals = c.values.ensures.locals;
  instances = c.values.ensures.instances;
})
