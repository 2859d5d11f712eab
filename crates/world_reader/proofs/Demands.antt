-- A file that has a record is refused for want of memory alone.
use Rattle.std.proofs.Common.{◌≡◌, ℕ, List, [], Option, None, refl, sym, ◌∙◌}
use Rattle.il_base.specs.declared.cli_format.error.TablesError.{TablesError}
use Rattle.il_base.specs.declared.cli_format.error.TablesError.TheVariants.{Bad, Rows, NoMemory}
use Rattle.il_base.specs.cli_format.Demand.{first_fault}
use Rattle.il_base.specs.cli_format.Metadata.{Refused}
use Rattle.il_base.specs.declared.world_model.record.AsmRec.{AsmRec}
use Rattle.rules.specs.record_format.Record.{record_demands, record_at, HasRecord}

only_memory : (e : TablesError) (fault : Option TablesError) → fault ≡ None → Refused e fault → Refused e (first_fault [])
unfolding Refused first_fault
only_memory NoMemory fault p q = tt
only_memory (Bad b) fault p q = absurd cc
only_memory (Rows n) fault p q = absurd cc

pub refused_record : (e : TablesError) (bs : List ℕ) (r : AsmRec) → HasRecord bs r → Refused e (first_fault (record_demands bs)) → Refused e (first_fault [])
refused_record e bs r h q = only_memory e (first_fault (record_demands bs)) h.meets q

none_of_none : first_fault {E = TablesError} [] ≡ None
unfolding first_fault
none_of_none = refl

pub read_record_of : (bs : List ℕ) (x r : AsmRec) → HasRecord bs r → x ≡ record_at bs → (first_fault {E = TablesError} [] ≡ None) × (x ≡ r)
read_record_of bs x r h q = (none_of_none, q ∙ sym h.is)
