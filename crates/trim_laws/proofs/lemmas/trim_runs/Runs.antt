-- All rows of a merge move, so its output runs as its inputs.
use Rattle.std.proofs.Common.{◌≡◌, ◌<◌, ℕ, zero, suc, List, [], ◌∷◌, length, Option, Some, None, Bool, refl, sym, subst, arith}
use Rattle.std.specs.Prelude.{slice_get}
use Rattle.il_base.specs.declared.table.TheConstants.{TYPE_DEF}
use Rattle.descriptor_file.specs.declared.root.Root.{Root}
use Rattle.il_base.specs.declared.world_model.record.AsmRec.{AsmRec}
use Rattle.il_base.specs.world_model.Records.{IsRecord, table_sizes, rows_in}
use Rattle.rules.specs.declared.link_rules.row_at.RowAt.{RowAt}
use Rattle.rules.specs.mark_rules.Facts.{Fact}
use Rattle.base_laws.specs.world_laws.Inputs.{AreRecords}
use Rattle.rules.specs.change_rules.Change.{Keep}
use Rattle.rules.specs.world_change_rules.Rows.{RowsMove}
use Rattle.run_laws.specs.dispatch_laws.Kept.{Apart}
use Rattle.run_laws.specs.marked_call_laws.Laws.{HasFewTypes}
use Rattle.run_laws.specs.closed_laws.Laws.{OnlyMarks}
use Rattle.run_laws.proofs.lemmas.closed_laws.Trims as closed
use Rattle.rules.specs.merged_world_rules.Merge.{Merge, IsMerge, before, after}
use Rattle.rules.specs.merged_world_rules.NewNumbers.{change_of, places_of}
use Rattle.rules.specs.merged_world_rules.Kept.{HasFlags}
use Rattle.merge_laws.proofs.lemmas.merged_places.Whole.{undone_of, places_move, stay_apart}
use Rattle.merge_laws.specs.merged_rows_move.Laws.{ReadsRows, MarksMove}
use Rattle.merge_laws.proofs.lemmas.merged_rows_move.Core.{core_moves}
use Rattle.merge_laws.proofs.lemmas.merged_rows_move.Whole.{types, marks, signatures}
use Rattle.trim_laws.specs.marked_merge_rules.Merges.{flags_of}
use Rattle.trim_laws.specs.trim_moves.Laws.{keep_by, kept_by, IsFlagged, NamesApart, LeftIsRecord}
use Rattle.trim_laws.proofs.lemmas.trim_moves.Flags.{flags_say}
use Rattle.trim_laws.proofs.lemmas.trim_moves.Parts.{bases_good, interfaces_good}
use Rattle.trim_laws.proofs.lemmas.trim_moves.Names.{names_stay}
use Rattle.trim_laws.specs.trim_runs.Laws.{IsFollowed, OutputStands, OutputReads, RunsAlike, TrimsRun}

-- ---- records

one_record : (left : AsmRec) → IsRecord left → AreRecords (left ∷ [])
one_record left is zero rec e = let same : left ≡ rec = cc in subst IsRecord same is
one_record left is (suc k) rec e = absurd (cc)

type_size : (rec : AsmRec) → rows_in rec TYPE_DEF ≡ length rec.type_def
unfolding table_sizes
type_size rec = refl

few_types : (m : Merge) → IsMerge m → HasFewTypes m.inputs
few_types m is a rec e = let lt = is.few_inputs a rec e TYPE_DEF in let size = type_size rec in omega (arith, lt, size)

-- ---- all rows

module _ (m : Merge) (is : IsMerge m) (k : Keep) (kept : RowAt → Bool) (flags : HasFlags m k kept) (rows : ReadsRows m k) (reads : OutputReads m k) where
  all_marks : MarksMove m k
  all_marks = marks m k kept is flags

  pub rows_move : RowsMove (change_of m (undone_of m) k) kept (places_of m) (after m) (before m)
  rows_move = record {
    places = places_move m (undone_of m) k kept is flags;
    types = λ at keeps. types m k kept is flags (undone_of m) rows at keeps;
    methods = λ at keeps.
        let mark = all_marks.methods at keeps in
        record { there = mark.there; absent = mark.absent; signature = signatures m k kept is flags reads.signatures at keeps; owner = mark.owner; method = reads.methods at keeps };
    fields = λ at keeps. record { field = reads.fields at keeps; instance = all_marks.instance at keeps };
    core = core_moves m is k kept flags (undone_of m);
  }

  pub rows_apart : Apart k (places_of m) (before m)
  rows_apart =
      let apart = stay_apart m is in
      record { types = λ a b x y h g e f. apart.types a b x y e f; methods = λ a b x y h g e f. apart.methods a b x y e f }

module _ (law : LeftIsRecord) (m : Merge) (entry : Option RowAt) (roots : List Root) (holds : Fact → Bool) (flagged : IsFlagged m entry roots holds) (only : OnlyMarks (before m) entry roots (flags_of m holds))
    (followed : IsFollowed m entry roots) (names : NamesApart m entry roots) (stands : OutputStands m) (reads : OutputReads m (keep_by m holds)) where
  abbrev k : Keep
  k = keep_by m holds

  abbrev kept : RowAt → Bool
  kept = kept_by m holds

  abbrev is : IsMerge m
  is = flagged.merge.merge

  left_is : IsRecord m.left
  left_is = law m entry roots flagged.merge stands.references stands.names

  flags : HasFlags m k kept
  flags = flags_say m entry roots holds flagged

  rows : ReadsRows m k
  rows = record {
    tokens = reads.tokens;
    bases = bases_good m entry roots flagged.merge;
    interfaces = interfaces_good m entry roots holds flagged;
    impls = reads.impls;
    names = names_stay m entry roots holds flagged names left_is stands.links;
  }

  pub runs_alike : RunsAlike m k
  runs_alike i h bytes n =
      closed.trims_run (change_of m (undone_of m) k) (places_of m) (m.left ∷ []) m.inputs entry roots (flags_of m holds) stands.links is.links (one_record m.left left_is) is.records (few_types m is) flagged.marks only flagged.merge.good followed
      refl (rows_move m is k kept flags rows reads) (rows_apart m is k kept flags rows reads) i h bytes n

pub trims_run : LeftIsRecord → TrimsRun
trims_run law m entry roots holds flagged only followed names stands reads = runs_alike law m entry roots holds flagged only followed names stands reads
