-- A file that is laid out has the record that it is laid out from.
use Rattle.file_laws.proofs.lemmas.layout_laws.Within.{within}
use Rattle.file_laws.proofs.lemmas.layout_laws.DemandsHeld.{reads_back_by}
use Rattle.file_laws.proofs.layout_laws.laws.reads_back.Goals as goal

pub returns : goal.returns
returns c rec can none = reads_back_by (record {
  images = c.images.ensures;
  metadata = c.metadata.ensures;
  tables = c.tables.ensures;
  strings = c.heaps.ensures.strings;
  blobs = c.heaps.ensures.blobs;
  guids = c.heaps.ensures.guids;
  users = c.heaps.ensures.users;
  once = c.each_once.ensures;
  types = c.types.ensures.written;
  methods = c.methods.ensures.written;
  properties = c.properties.ensures.written;
  fields = c.fields.ensures.written;
  locals = c.locals.ensures.written;
  instances = c.instances.ensures.written;
  type_values = c.values.ensures.types;
  method_values = c.values.ensures.methods;
  property_values = c.values.ensures.properties;
  field_values = c.values.ensures.fields;
  local_values = c.values.ensures.locals;
  instance_values = c.values.ensures.instances;
  bodies = c.written_body_is_read.ensures;
}) rec (within rec can none)
