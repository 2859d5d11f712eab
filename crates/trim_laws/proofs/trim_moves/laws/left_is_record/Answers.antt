use Rattle.rules.specs.merged_world_rules.Merge.{before}
use Rattle.merge_laws.proofs.lemmas.merged_loads.Whole.{numbers_fit, an_input}
use Rattle.merge_laws.specs.merged_record.Laws.{InputsAreRecords}
use Rattle.trim_laws.proofs.trim_moves.laws.left_is_record.Goals as goal

pub returns : goal.returns
returns c = λ m entry roots merge references names.
    let records : InputsAreRecords (before m) = λ a rec lt e. merge.merge.records a rec (an_input m.inputs merge.files a rec lt e) in
    let owners = c.owners_stay.ensures (before m) entry roots m.kept records merge.marked merge.all in
    c.restricted_is_record.ensures m.internal (before m) m.kept m.left merge.merge.restricts records (numbers_fit m.inputs merge.files) owners references names merge.merge.few
