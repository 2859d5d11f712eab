-- What is so of the records of files that are taken.
use Rattle.std.proofs.Common.{◌≡◌, ℕ, zero, suc, List, [], ◌∷◌, map, Option, Some, None, refl, sym}
use Rattle.std.specs.Prelude.{slice_get}
use Rattle.il_base.specs.declared.cli_format.error.TablesError.{TablesError}
use Rattle.il_base.specs.declared.cli_format.error.TablesError.TheVariants as unread
use Rattle.il_base.specs.cli_format.Demand.{first_fault}
use Rattle.il_base.specs.declared.world_model.record.AsmRec.{AsmRec}
use Rattle.il_base.specs.world_model.Records.{IsRecord}
use Rattle.rules.specs.record_format.Record.{record_demands, record_at, HasRecord}
use Rattle.rules.specs.declared.link_rules.link_error.LinkError.{LinkError}
use Rattle.rules.specs.declared.link_rules.link_error.LinkError.TheVariants as unlinked
use Rattle.rules.specs.link_rules.Linked.{assemblies, link_fault_of, world_in, world_of}
use Rattle.base_laws.specs.world_laws.Inputs.{AreRecords}
use Rattle.inputs.specs.declared.error.InputError.{InputError}
use Rattle.inputs.specs.Files.{or_fault, limit_fault, unread_as, record_fault, records, unlinked_as, linking_fault, entry_fault, input_fault}

no_first : (o p : Option InputError) → or_fault o p ≡ None → o ≡ None
no_first None p e = refl
no_first (Some x) p e = absurd cc

no_later : (o p : Option InputError) → or_fault o p ≡ None → p ≡ None
no_later None p e = e
no_later (Some x) p e = absurd cc

all_read : (i : ℕ) (o : Option TablesError) → unread_as i o ≡ None → o ≡ None
all_read i None e = refl
all_read i (Some (unread.Bad at)) e = absurd cc
all_read i (Some (unread.Rows n)) e = absurd cc
all_read i (Some unread.NoMemory) e = absurd cc

all_linked : (files : List (List ℕ)) (o : Option LinkError) → unlinked_as files o ≡ None → o ≡ None
all_linked files None e = refl
all_linked files (Some (unlinked.Bad i why token)) e = absurd cc
all_linked files (Some unlinked.NoMemory) e = absurd cc

module _ (law : (bs : List ℕ) (rec : AsmRec) → HasRecord bs rec → IsRecord rec) where
  each_record : (i : ℕ) (files : List (List ℕ)) → record_fault i files ≡ None → (a : ℕ) (rec : AsmRec) → slice_get (map record_at files) a ≡ Some rec → IsRecord rec
  unfolding record_fault
  each_record i [] e a rec is = absurd cc
  each_record i (f ∷ fs) e zero rec is =
      let same : record_at f ≡ rec = cc in
      law f rec (record { meets = all_read i (first_fault (record_demands f)) (no_first (unread_as i (first_fault (record_demands f))) (record_fault (suc i) fs) e); is = sym same })
  each_record i (f ∷ fs) e (suc a) rec is = each_record (suc i) fs (no_later (unread_as i (first_fault (record_demands f))) (record_fault (suc i) fs) e) a rec is

  -- after the limits
  read_all : (files : List (List ℕ)) → input_fault files ≡ None → record_fault 0 files ≡ None
  read_all files e =
      no_first (record_fault 0 files) (or_fault (linking_fault files) (entry_fault (records files)))
      (no_later (limit_fault files) (or_fault (record_fault 0 files) (or_fault (linking_fault files) (entry_fault (records files)))) e)

  pub are_records : (files : List (List ℕ)) → input_fault files ≡ None → AreRecords (records files)
  are_records files e = each_record 0 files (read_all files e)

pub linked : (files : List (List ℕ)) → input_fault files ≡ None → link_fault_of (records files) ≡ None
linked files e =
    all_linked files (link_fault_of (records files))
    (no_first (linking_fault files) (entry_fault (records files))
    (no_later (record_fault 0 files) (or_fault (linking_fault files) (entry_fault (records files)))
    (no_later (limit_fault files) (or_fault (record_fault 0 files) (or_fault (linking_fault files) (entry_fault (records files)))) e)))

pub world_recs : (recs : List AsmRec) → assemblies recs ≡ (world_of recs).recs
unfolding world_in
world_recs recs = refl
