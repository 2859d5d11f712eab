use Rattle.trim_laws.proofs.lemmas.spelled_parts.Left.{left_spelled}
use Rattle.trim_laws.proofs.spelled_parts.laws.left_is_spelled.Goals as goal

pub returns : goal.returns
returns c = left_spelled (record {
  types = c.values.ensures.types;
  methods = c.values.ensures.methods;
  properties = c.values.ensures.properties;
  fields = c.values.ensures.fields;
  locals = c.values.ensures.locals;
  instances = c.values.ensures.instances;
})
