use Rattle.trim_laws.proofs.lemmas.spelled_parts.Core.{core_spelled}
use Rattle.trim_laws.proofs.spelled_parts.laws.core_is_spelled.Goals as goal

pub returns : goal.returns
returns c = core_spelled (record {
  types = c.values.ensures.types;
  methods = c.values.ensures.methods;
  properties = c.values.ensures.properties;
  fields = c.values.ensures.fields;
  locals = c.values.ensures.locals;
  instances = c.values.ensures.instances;
})
