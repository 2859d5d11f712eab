use Rattle.trim_laws.proofs.lemmas.spelled_parts.Files.{files_spelled}
use Rattle.trim_laws.proofs.spelled_parts.laws.files_are_spelled.Goals as goal

pub returns : goal.returns
returns c = files_spelled (record {
  types = c.types.ensures.read;
  methods = c.methods.ensures.read;
  properties = c.properties.ensures.read;
  fields = c.fields.ensures.read;
  locals = c.locals.ensures.read;
  instances = c.instances.ensures.read;
  bodies = λ bs b n fits e. (c.read_body_is_spelled.ensures bs b n fits e).0.0;
})
