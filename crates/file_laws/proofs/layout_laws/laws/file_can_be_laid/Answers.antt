-- A file's record that is as the layout has it.
use Rattle.file_laws.proofs.lemmas.layout_laws.FileRecord.{file_law}
use Rattle.file_laws.proofs.layout_laws.laws.file_can_be_laid.Goals as goal

pub returns : goal.returns
returns c bs rec bytes h as_laid =
    file_law (record {
      types = c.types.ensures.read;
      methods = c.methods.ensures.read;
      properties = c.properties.ensures.read;
      fields = c.fields.ensures.read;
      locals = c.locals.ensures.read;
      instances = c.instances.ensures.read;
      type_values = c.values.ensures.types;
      method_values = c.values.ensures.methods;
      property_values = c.values.ensures.properties;
      field_values = c.values.ensures.fields;
      local_values = c.values.ensures.locals;
      instance_values = c.values.ensures.instances;
    }) bs rec bytes h (c.file_has_record.ensures bs rec h) as_laid
