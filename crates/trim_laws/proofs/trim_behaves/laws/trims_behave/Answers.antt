use Rattle.trim_laws.proofs.lemmas.trim_behaves.Joined.{Laws, all_behave}
use Rattle.trim_laws.proofs.trim_behaves.laws.trims_behave.Goals as goal

pub returns : goal.returns
returns c = all_behave (record {
  mets = c.mets_are_kept.ensures;
  members = c.members_are_kept.ensures;
  owners = c.owners_stay.ensures;
  core = c.names_stay.ensures;
  there = c.met_there.ensures;
  rows = c.reference_rows_stand.ensures;
  references = c.references_stand.ensures;
  names = c.all_named.ensures;
  links = c.marked_links.ensures;
  record_left = c.left_is_record.ensures;
  tokens = c.tokens_read.ensures;
  signatures = c.signatures_read.ensures;
  field_signatures = c.fields_read.ensures;
  callees = c.callees_read.ensures;
  field_tokens = c.field_tokens_read.ensures;
  impls = c.impls_read.ensures;
  parts = c.parts_stay.ensures;
  plain = c.core_is_plain.ensures;
  follow = c.flags_follow.ensures;
  flags = c.flags_say.ensures;
  bases = c.bases_are_good.ensures;
  interfaces = c.interfaces_are_good.ensures;
  back = c.undone.ensures;
  methods = c.methods_move.ensures;
  fields = c.fields_move.ensures;
  entry = c.entry_moves.ensures;
  runs = c.programs_run.ensures;
  entry_type = c.entry_type_is_left.ensures;
  loads = c.trim_loads.ensures;
})
