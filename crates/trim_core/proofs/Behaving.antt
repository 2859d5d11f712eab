-- The bytes that a trim of files writes behave as the files do, by the laws on merges.
use Rattle.std.proofs.Common.{◌≡◌, ◌≤◌, ◌<◌, ℕ, zero, suc, ◌+◌, Bool, true, false, List, [], ◌∷◌, length, map, Option, Some, None, nat_le, nat_lt, refl, sym, ap, subst, ◌∙◌, arith}
use Rattle.std.specs.Prelude.{unwrap_or, if◌then◌else◌}
use Rattle.std.specs.Option.{is_some, option_map}
use Rattle.std.proofs.lemmas.Bool.{le-leb, lt-ltb, ltb-true}
use Rattle.il_base.specs.declared.table.TheConstants.{METHOD_DEF}
use Rattle.il_base.specs.declared.cli_format.error.TablesError.{TablesError}
use Rattle.il_base.specs.cli_format.Demand.{first_fault}
use Rattle.rules.specs.record_format.Record.{record_demands, record_at, HasRecord}
use Rattle.il_base.specs.declared.world_model.record.AsmRec.{AsmRec}
use Rattle.il_base.specs.declared.world_model.world.World.{World}
use Rattle.il_base.specs.world_model.Tokens.{index_in}
use Rattle.il_base.specs.world_model.Worlds.{row_below}
use Rattle.descriptor_file.specs.declared.root.Root.{Root}
use Rattle.rules.specs.declared.link_rules.row_at.RowAt.{RowAt}
use Rattle.rules.specs.link_rules.Types.{at_row}
use Rattle.rules.specs.link_rules.Linked.{assemblies, world_in, world_of, link_fault_of}
use Rattle.il_base.specs.declared.cil_values.end.End.{End}
use Rattle.il_base.specs.declared.cil_values.end.End.TheVariants as run_end
use Rattle.rules.specs.step_rules.Run.{Outcome, run_from}
use Rattle.rules.specs.view_rules.Answers.{queries_of}
use Rattle.rules.specs.change_rules.Change.{Rho}
use Rattle.rules.specs.change_rules.States.{move_end}
use Rattle.run_laws.specs.lock_steps.Laws.{move_outcome}
use Rattle.inputs.specs.declared.error.InputError.{InputError}
use Rattle.inputs.specs.Files.{or_fault, unless, length_fault, bytes_of, limit_fault, unread_as, record_fault, linking_fault, entry_fault, input_fault, records, unlinked_as, names_method}
use Rattle.rules.specs.mark_rules.Facts.Fact.{marked}
use Rattle.rules.specs.mark_rules.Marking.{Marks}
use Rattle.mark_numbers.specs.Numbers.{is_there}
use Rattle.rules.specs.merge_rules.Numbers.{Kept}
use Rattle.merge_laws.specs.merged_owners.Laws.{AreMarked, AreKept}
use Rattle.merge_laws.specs.merged_loads.Laws.{AreOfFiles}
use Rattle.rules.specs.merged_world_rules.Merge.{Merge, IsMerge}
use Rattle.rules.specs.merged_world_rules.NewNumbers.{rho_of}
use Rattle.trim_laws.specs.trim_behaves.Laws.{FilesMerge, merge_of}
use Rattle.trim_laws.specs.trim_behaves.Behaves as law
use Rattle.trim_laws.specs.trim_behaves.Behaves.{TrimsBehave}
use Rattle.trim_laws.specs.spelled_trims.Laws.{TrimIsSpelled}
use Rattle.run_rules.specs.Runs.{FileRun, end_of, file_run, entry_of, world_run, run_of_files}
use Rattle.run_rules.specs.Alike.{SameEnd, SameRun}
use Rattle.trim_core.specs.declared.program_trim.answers.ProgramTrim.{ProgramTrim}
use Rattle.trim_core.specs.program_trim.Trim.{IsKeptSet, LeftIsSpelled, TrimmedWorld}
use Rattle.trim_core.specs.Taken.{Bytes, IsTaken}
use Rattle.trim_core.specs.Behaves.{most_bytes, Behaves}
use Rattle.trim_core.specs.Told.{entry_row}

-- ---- files that no limit and no demand refuses

rest_passes : (a b : Option InputError) → or_fault a b ≡ None → b ≡ None
rest_passes None b h = h
rest_passes (Some e) b h = absurd (cc)

front_passes : (a b : Option InputError) → or_fault a b ≡ None → a ≡ None
front_passes None b h = refl
front_passes (Some e) b h = absurd (cc)

both_pass : (a b : Option InputError) → a ≡ None → b ≡ None → or_fault a b ≡ None
both_pass a b e f = rw (e, f) refl

all_read : (i : ℕ) (o : Option TablesError) → unread_as i o ≡ None → o ≡ None
all_read i None e = refl
all_read i (Some (TablesError.Bad at)) e = absurd (cc)
all_read i (Some (TablesError.Rows n)) e = absurd (cc)
all_read i (Some TablesError.NoMemory) e = absurd (cc)

each_of_file : (i : ℕ) (files : List (List ℕ)) → Bytes files → record_fault i files ≡ None → AreOfFiles (map record_at files)
unfolding record_fault
each_of_file i [] bytes e a rec is = absurd (cc)
each_of_file i (f ∷ fs) bytes e zero rec is =
    let same : record_at f ≡ rec = cc in
    record {
      file = f;
      bytes = bytes 0 f refl;
      has = record { meets = all_read i (first_fault (record_demands f)) (front_passes (unread_as i (first_fault (record_demands f))) (record_fault (suc i) fs) e); is = sym same };
    }
each_of_file i (f ∷ fs) bytes e (suc a) rec is =
    each_of_file (suc i) fs (λ b g there. bytes (suc b) g there) (rest_passes (unread_as i (first_fault (record_demands f))) (record_fault (suc i) fs) e) a rec is

module _ (files : List (List ℕ)) (sound : input_fault files ≡ None) where
  after_limits : or_fault (record_fault 0 files) (or_fault (linking_fault files) (entry_fault (records files))) ≡ None
  after_limits = rest_passes (limit_fault files) (or_fault (record_fault 0 files) (or_fault (linking_fault files) (entry_fault (records files)))) sound

  read : record_fault 0 files ≡ None
  read = front_passes (record_fault 0 files) (or_fault (linking_fault files) (entry_fault (records files))) after_limits

  entered : entry_fault (records files) ≡ None
  entered = rest_passes (linking_fault files) (entry_fault (records files)) (rest_passes (record_fault 0 files) (or_fault (linking_fault files) (entry_fault (records files))) after_limits)

-- ---- the entry method

pub record EntryOf (rec : AsmRec) : Type 0 where
  pub k : ℕ
  pub names : index_in METHOD_DEF rec.entry ≡ Some k
  pub below : k < length rec.method_def

entry_by : (rec : AsmRec) (o : Option ℕ) → index_in METHOD_DEF rec.entry ≡ o → is_some (row_below (length rec.method_def) o) ≡ true → EntryOf rec
entry_by rec None e h = absurd (cc)
entry_by rec (Some k) e h = by_test (nat_lt k (length rec.method_def)) refl
  where
    by_test : (b : Bool) → nat_lt k (length rec.method_def) ≡ b → EntryOf rec
    by_test true t = record { k = k; names = e; below = ltb-true k (length rec.method_def) t }
    by_test false t = absurd (let n : is_some (if nat_lt k (length rec.method_def) then Some k else None) ≡ false = rw t refl in cc)

unless_passes : (b : Bool) (e : InputError) → unless b e ≡ None → b ≡ true
unless_passes true e h = refl
unless_passes false e h = absurd (cc)

entry_there : (rec : AsmRec) (recs : List AsmRec) → entry_fault (rec ∷ recs) ≡ None → EntryOf rec
entry_there rec recs h = entry_by rec (index_in METHOD_DEF rec.entry) refl (unless_passes (names_method rec rec.entry) (InputError.NoEntry rec.entry) h)

-- ---- what is kept is what is marked

module _ (recs : List AsmRec) (entry : Option RowAt) (roots : List Root) (kept : Kept) (s : IsKeptSet recs entry roots kept) where
  are_marked : AreMarked recs entry roots kept
  are_marked i h = by_there (is_there recs (marked i)) refl
    where
      by_there : (b : Bool) → is_there recs (marked i) ≡ b → Marks recs entry roots (marked i)
      by_there true e = (s.exact i e).0 h
      by_there false e = let a = s.absent i e in absurd (cc)

  are_kept : AreKept recs entry roots kept
  unfolding is_there
  are_kept i there m = (s.exact i there).1 m

-- ---- what is left can be written

world_recs : (recs : List AsmRec) → (world_of recs).recs ≡ assemblies recs
unfolding world_in
world_recs recs = refl

module _ (law : TrimIsSpelled) (files : List (List ℕ)) (bytes : Bytes files) (entry : Option RowAt) (roots : List Root) (internal : Bool) where
  of_files : input_fault files ≡ None → LeftIsSpelled (assemblies (records files)) entry roots internal
  of_files sound kept left exact good is few =
      let recs : List AsmRec = assemblies (records files) in
      law internal (records files) entry roots kept left (record {
        files = each_of_file 0 files bytes (read files sound);
        marked = are_marked recs entry roots kept exact;
        all = are_kept recs entry roots kept exact;
        good = good;
        is = is;
        few = few;
      })

  -- of the world that files were taken as
  pub spelled : (w : World) → IsTaken files w → LeftIsSpelled w.recs entry roots internal
  spelled w taken =
      let same : w.recs ≡ assemblies (records files) = ap (λ (v : World). v.recs) taken.world ∙ world_recs (records files) in
      subst (λ (rs : List AsmRec). LeftIsSpelled rs entry roots internal) (sym same) (of_files taken.sound)

-- ---- runs

same_end : (rho : Rho) (after before : List AsmRec) (e : Option End) → SameEnd rho.method after before (end_of after (option_map (move_end rho) e)) (end_of before e)
same_end rho after before None = tt
same_end rho after before (Some (run_end.Ended code)) = refl
same_end rho after before (Some (run_end.Threw kind message)) = (refl, refl)
same_end rho after before (Some (run_end.Stopped m at)) = record { method = m.0; offset = at; new = refl; old = refl }
same_end rho after before (Some (run_end.Stuck m at)) = record { method = m.0; offset = at; new = refl; old = refl }

same_run : (rho : Rho) (after before : List AsmRec) (x y : Outcome) → x ≡ move_outcome rho y → SameRun rho.method after before (file_run after x) (file_run before y)
same_run rho after before x y e =
    subst (λ (z : Outcome). SameRun rho.method after before (file_run after z) (file_run before y)) (sym e) (record { output = refl; end = same_end rho after before y.end })

files_run : (files : List (List ℕ)) (input : List ℕ) (n : ℕ) → run_of_files files input n ≡ world_run (assemblies (records files)) input n
unfolding run_of_files
files_run files input n = ap (λ (rs : List AsmRec). world_run rs input n) (world_recs (records files))

-- the first assembly of a world is the first input
entry_first : (rec : AsmRec) (recs : List AsmRec) → entry_of (assemblies (rec ∷ recs)) ≡ unwrap_or (index_in METHOD_DEF rec.entry) 0
unfolding assemblies
entry_first rec recs = refl

-- ---- the bytes again

module _ (bytes : List ℕ) (left : AsmRec) (has : HasRecord bytes left) (links : link_fault_of (left ∷ []) ≡ None) (e : EntryOf left) (small : length bytes ≤ most_bytes) where
  one_record : records (bytes ∷ []) ≡ left ∷ []
  one_record = ap (λ (r : AsmRec). r ∷ []) (sym has.is)

  no_limit : limit_fault (bytes ∷ []) ≡ None
  unfolding length_fault bytes_of
  no_limit =
      let short : nat_le (length bytes) 67108864 ≡ true = le-leb (length bytes) 67108864 small in
      let sum : nat_le (length bytes + 0) 536870912 ≡ true = le-leb (length bytes + 0) 536870912 (omega (arith, small)) in
      rw (short, sum) refl

  no_unread : record_fault 0 (bytes ∷ []) ≡ None
  unfolding record_fault
  no_unread = rw has.meets refl

  no_unlinked : linking_fault (bytes ∷ []) ≡ None
  no_unlinked = ap (λ (rs : List AsmRec). unlinked_as (bytes ∷ []) (link_fault_of rs)) one_record ∙ ap (unlinked_as (bytes ∷ [])) links

  named : names_method left left.entry ≡ true
  named =
      let below : nat_lt e.k (length left.method_def) ≡ true = lt-ltb e.k (length left.method_def) e.below in
      rw (e.names, below) refl

  no_entry : entry_fault (records (bytes ∷ [])) ≡ None
  no_entry = ap entry_fault one_record ∙ ap (λ (b : Bool). unless b (InputError.NoEntry left.entry)) named

  pub taken_again : input_fault (bytes ∷ []) ≡ None
  taken_again = both_pass (limit_fault (bytes ∷ [])) _ no_limit (both_pass (record_fault 0 (bytes ∷ [])) _ no_unread (both_pass (linking_fault (bytes ∷ [])) _ no_unlinked no_entry))

-- ---- all together

module _ (behave : TrimsBehave) (merging : FilesMerge) where
  behaves_by : (files : List (List ℕ)) → input_fault files ≡ None → Bytes files → link_fault_of (records files) ≡ None → (roots : List Root) (internal : Bool) (t : ProgramTrim)
      → (trims : TrimmedWorld (assemblies (records files)) (entry_row (records files)) roots internal t)
      → 1 ≤ length files → Behaves files t.bytes trims.left trims.kept
  behaves_by [] sound bytes links roots internal t trims some = absurd (omega (arith, some))
  behaves_by (f ∷ fs) sound bytes links roots internal t trims some =
      let inputs : List AsmRec = records (f ∷ fs) in
      let recs : List AsmRec = assemblies (records (f ∷ fs)) in
      let entry : Option RowAt = entry_row (records (f ∷ fs)) in
      let left : AsmRec = trims.left in
      let of_files : AreOfFiles (records (f ∷ fs)) = each_of_file 0 (f ∷ fs) bytes (read (f ∷ fs) sound) in
      let m : Merge = merge_of internal inputs trims.kept left in
      let e : EntryOf (record_at f) = entry_there (record_at f) (records fs) (entered (f ∷ fs) sound) in
      let merged : IsMerge m = merging internal inputs trims.kept left (omega arith) of_files links trims.restricted trims.within in
      let is : law.IsTrimmed m entry roots trims.holds e.k = record {
        merge = record {
          merge = merged;
          files = of_files;
          marked = are_marked recs entry roots trims.kept trims.exact;
          all = are_kept recs entry roots trims.kept trims.exact;
          good = trims.good;
          within = trims.within;
        };
        facts = trims.facts;
        followed = trims.followed;
        apart = record { seen = trims.unique.seen; exact = trims.unique.exact; none = trims.unique.first };
        begins = record { first = record_at f; there = refl; names = e.names; below = e.below; is = ap (option_map (at_row 0)) e.names };
        can = trims.can;
      } in
      let b : law.Behaves m e.k = behave m entry roots trims.holds e.k is in
      let has : HasRecord t.bytes left = subst (λ (bs : List ℕ). HasRecord bs left) (sym trims.bytes) b.loads in
      let there_again : records (t.bytes ∷ []) ≡ left ∷ [] = ap (λ (r : AsmRec). r ∷ []) (sym has.is) in
      record {
        loads = has;
        links = b.links;
        taken = λ small. taken_again t.bytes left has b.links (record { k = b.entry; names = b.names; below = b.below }) small;
        number = (rho_of m).method;
        moved = b.moved;
        runs = λ input n.
            let start : entry_of recs ≡ e.k = entry_first (record_at f) (records fs) ∙ ap (λ (o : Option ℕ). unwrap_or o 0) e.names in
            let one : SameRun (rho_of m).method (assemblies (left ∷ [])) recs (world_run (assemblies (left ∷ [])) input n) (world_run recs input n) =
            same_run (rho_of m) (assemblies (left ∷ [])) recs (run_from (queries_of (assemblies (left ∷ []))) (entry_of (assemblies (left ∷ []))) input n) (run_from (queries_of recs) (entry_of recs) input n)
            (ap (λ (k : ℕ). run_from (queries_of (assemblies (left ∷ []))) k input n) (entry_first left []) ∙ b.runs input n ∙ ap (λ (k : ℕ). move_outcome (rho_of m) (run_from (queries_of recs) k input n)) (sym start)) in
            let two : SameRun (rho_of m).method (assemblies (left ∷ [])) recs (run_of_files (t.bytes ∷ []) input n) (world_run recs input n) =
            subst (λ (r : FileRun). SameRun (rho_of m).method (assemblies (left ∷ [])) recs r (world_run recs input n))
            (sym (files_run (t.bytes ∷ []) input n ∙ ap (λ (rs : List AsmRec). world_run (assemblies rs) input n) there_again)) one in
            subst (λ (r : FileRun). SameRun (rho_of m).method (assemblies (left ∷ [])) recs (run_of_files (t.bytes ∷ []) input n) r) (sym (files_run (f ∷ fs) input n)) two;
      }

  -- of the world that files were taken as
  pub behaves : (files : List (List ℕ)) → input_fault files ≡ None → Bytes files → link_fault_of (records files) ≡ None → (roots : List Root) (internal : Bool) (t : ProgramTrim)
      → (trims : TrimmedWorld (world_of (records files)).recs (entry_row (records files)) roots internal t)
      → 1 ≤ length files → Behaves files t.bytes trims.left trims.kept
  unfolding world_in
  behaves files sound bytes links roots internal t trims some = behaves_by files sound bytes links roots internal t trims some
