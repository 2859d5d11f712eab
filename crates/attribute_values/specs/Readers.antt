-- An assembly whose attributes are read.
use Rattle.std.specs.Prelude.{◌≡◌}
use Rattle.rules.specs.mark_rules.Attributes.{enums_from}
use Rattle.attribute_values.specs.attribute_kinds.Sites.{recs_in, place_in, IsSite}
use Rattle.attribute_values.specs.declared.reader.Reader.{Reader}

pub record IsReader (r : Reader) : Type 0 where
  pub site : IsSite r.site
  pub names : r.names.now ≡ recs_in r.site
  pub enums : r.enums.now ≡ enums_from (recs_in r.site) (place_in r.site)
