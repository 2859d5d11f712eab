use Rattle.rules.specs.merged_world_rules.Merge.{before}
use Rattle.merge_laws.proofs.lemmas.merged_rows_move.Members.{record_of}
use Rattle.trim_laws.proofs.lemmas.merged_back.FieldReads.{fields_read}
use Rattle.trim_laws.proofs.merged_back.laws.fields_read.Goals as goal

pub returns : goal.returns
returns c =
    λ m entry roots is there.
    fields_read m entry roots is (c.reference_rows_stand.ensures m is.merge) (c.owners_stay.ensures (before m) entry roots m.kept (λ a rec lt e. record_of m is.merge a rec e lt) is.marked is.all) there
