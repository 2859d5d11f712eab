-- The laws on a merge that keeps exactly what is marked, joined: what is left of files loads, links and runs as they do.
use Rattle.std.proofs.Common.{◌≡◌, ◌<◌, ◌≤◌, ℕ, zero, suc, Bool, List, [], ◌∷◌, ◌++◌, length, Option, Some, None, inl, inr, sym, subst, arith}
use Rattle.std.specs.Prelude.{IsTrue, slice_get}
use Rattle.std.specs.List.{Contains}
use Rattle.std.specs.Option.{option_map}
use Rattle.base_laws.proofs.lemmas.type_laws.Within.{In}
use Rattle.rules.specs.merge_rules.Keys.{world_sig}
use Rattle.rules.specs.merge_rules.Refs.{types_of_sig}
use Rattle.descriptor_file.specs.declared.root.Root.{Root}
use Rattle.il_base.specs.declared.world_model.record.AsmRec.{AsmRec}
use Rattle.il_base.specs.world_model.Records.{IsRecord}
use Rattle.rules.specs.record_format.Record.{HasRecord}
use Rattle.rules.specs.declared.link_rules.row_at.RowAt.{RowAt}
use Rattle.rules.specs.link_rules.Types.{at_row}
use Rattle.rules.specs.link_rules.Linked.{assemblies, link_fault_of}
use Rattle.rules.specs.view_rules.Methods as view
use Rattle.rules.specs.mark_rules.Facts.{Fact}
use Rattle.rules.specs.mark_rules.Marking.{Marks}
use Rattle.rules.specs.mark_rules.BadItems.{IsFirstFlaw}
use Rattle.rules.specs.record_layout.Laid.{laid}
use Rattle.rules.specs.change_rules.Change.{Keep, Undone}
use Rattle.rules.specs.change_rules.Answers.{move_method, move_field}
use Rattle.rules.specs.world_change_rules.Places.{keeps_method_row, keeps_field_row}
use Rattle.run_laws.specs.marked_laws.Flags.{HasMarks}
use Rattle.run_laws.specs.closed_laws.Laws.{OnlyMarks}
use Rattle.merge_laws.specs.merged_record.Laws.{InputsAreRecords, ReferencesStand, NamesAll}
use Rattle.merge_laws.specs.merged_owners.Laws.{AreMarked, AreKept, OwnersStay}
use Rattle.rules.specs.merged_world_rules.Merge.{Merge, IsMerge, before, after, output}
use Rattle.rules.specs.merged_world_rules.NewNumbers.{rho_of, back_of, places_of}
use Rattle.rules.specs.merged_world_rules.Kept.{HasFlags}
use Rattle.merge_laws.proofs.lemmas.merged_loads.Whole.{an_input}
use Rattle.merge_laws.specs.merged_places.Laws.{LeadBack}
use Rattle.merge_laws.specs.merged_rows_move.Premises.{ReadsTokens, ReadsSignatures, HasGoodBases, HasGoodInterfaces}
use Rattle.merge_laws.specs.merged_references.Written.{HasReferenceRows}
use Rattle.merge_laws.specs.merged_standing.Laws.{ReferenceRowsStand}
use Rattle.trim_laws.specs.marked_loads.Laws.{IsTrim, TrimLoads, EntryTypeIsLeft}
use Rattle.trim_laws.specs.marked_merge_rules.Merges.{IsMarkedMerge, AreFacts, flags_of}
use Rattle.trim_laws.specs.marked_merge_rules.Reads.{KeepsAllMet, CoreStays, AllThere, KeepsMembers, ReadsCallees, ReadsFieldTokens}
use Rattle.trim_laws.specs.marked_mets.Laws.{MetsAreKept, MembersAreKept}
use Rattle.trim_laws.specs.merged_scopes.Laws.{MarkedReferencesStand}
use Rattle.trim_laws.specs.member_parents.Laws.{AllNamed}
use Rattle.trim_laws.specs.added_names.Laws.{NamesStay, MetThere, TokensRead, SignaturesRead}
use Rattle.trim_laws.proofs.lemmas.added_names.Homes.{sig_there}
use Rattle.trim_laws.specs.merged_back.Premises.{ReadsFieldSignatures}
use Rattle.trim_laws.specs.merged_back.Laws.{MarkedLinks, FieldsRead}
use Rattle.trim_laws.specs.merged_uses.Laws as uses
use Rattle.trim_laws.specs.merged_uses.Laws.{CalleesRead, FieldTokensRead, ImplsRead}
use Rattle.trim_laws.specs.merged_code.Laws.{HaveHomes, MovesMethods}
use Rattle.trim_laws.specs.merged_fields.Laws.{MovesFields}
use Rattle.trim_laws.specs.flagged_marks.Laws.{FlagsFollow}
use Rattle.trim_laws.specs.kept_parts.Laws.{PartsStayed, CoreStaysPlain}
use Rattle.trim_laws.specs.trim_moves.Laws.{keep_by, kept_by, IsFlagged, FlagsSay, BasesAreGood, InterfacesAreGood, LeftIsRecord}
use Rattle.trim_laws.specs.trim_runs.Laws.{OutputStands, OutputReads}
use Rattle.trim_laws.specs.trim_runs.Entry.{EntryMoves, ProgramsRun}
use Rattle.trim_laws.specs.trim_behaves.Behaves.{IsTrimmed, Behaves, TrimsBehave}
use Rattle.trim_laws.proofs.lemmas.trim_behaves.Numbers.{numbered}

-- ---- inputs are the first assemblies of their world

in_front : (xs ys : List AsmRec) (a : ℕ) (rec : AsmRec) → slice_get xs a ≡ Some rec → slice_get (xs ++ ys) a ≡ Some rec
in_front [] ys a rec e = absurd (cc)
in_front (x ∷ xs) ys zero rec e = e
in_front (x ∷ xs) ys (suc a) rec e = in_front xs ys a rec e

below_end : (xs : List AsmRec) (y : AsmRec) (a : ℕ) (rec : AsmRec) → slice_get xs a ≡ Some rec → suc a < length (xs ++ y ∷ [])
below_end [] y a rec e = absurd (cc)
below_end (x ∷ []) y zero rec e = omega arith
below_end (x ∷ []) y (suc a) rec e = absurd (cc)
below_end (x ∷ z ∷ xs) y zero rec e = omega arith
below_end (x ∷ z ∷ xs) y (suc a) rec e = let h = below_end (z ∷ xs) y a rec e in omega (arith, h)

input_there : (inputs : List AsmRec) (a : ℕ) (rec : AsmRec) → slice_get inputs a ≡ Some rec → slice_get (assemblies inputs) a ≡ Some rec
unfolding assemblies
input_there inputs a rec e = in_front inputs _ a rec e

input_below : (inputs : List AsmRec) (a : ℕ) (rec : AsmRec) → slice_get inputs a ≡ Some rec → suc a < length (assemblies inputs)
unfolding assemblies
input_below inputs a rec e = below_end inputs _ a rec e

contained : {A : Type 0} (xs : List A) (x : A) → Contains xs x → In x xs
contained [] x c = absurd (let lt = c.1 in omega arith)
contained (y ∷ xs) x (zero, lt, is) = inl (sym is)
contained (y ∷ xs) x (suc n, lt, is) = inr (contained xs x (n, omega arith, is))

-- ---- the laws

pub record Laws : Type 1 where
  -- what is met
  pub mets : MetsAreKept
  pub members : MembersAreKept
  pub owners : OwnersStay
  pub core : NamesStay
  pub there : MetThere
  -- what is left refers to rows, and links
  pub rows : ReferenceRowsStand
  pub references : MarkedReferencesStand
  pub names : AllNamed
  pub links : MarkedLinks
  pub record_left : LeftIsRecord
  -- what tokens and signatures name
  pub tokens : TokensRead
  pub signatures : SignaturesRead
  pub field_signatures : FieldsRead
  pub callees : CalleesRead
  pub field_tokens : FieldTokensRead
  pub impls : ImplsRead
  -- flags
  pub parts : PartsStayed
  pub plain : CoreStaysPlain
  pub follow : FlagsFollow
  pub flags : FlagsSay
  pub bases : BasesAreGood
  pub interfaces : InterfacesAreGood
  -- rows move
  pub back : LeadBack
  pub methods : MovesMethods
  pub fields : MovesFields
  -- runs and files
  pub entry : EntryMoves
  pub runs : ProgramsRun
  pub entry_type : EntryTypeIsLeft
  pub loads : TrimLoads

module _ (l : Laws) (m : Merge) (entry : Option RowAt) (roots : List Root) (holds : Fact → Bool) (k : ℕ) (t : IsTrimmed m entry roots holds k) where
  merge : IsMerge m
  merge = t.merge.merge

  inputs_are : InputsAreRecords (before m)
  inputs_are a rec lt e = merge.records a rec (an_input m.inputs t.merge.files a rec lt e)

  mets : KeepsAllMet m
  mets = l.mets m entry roots t.merge

  members : KeepsMembers m
  members = l.members m entry roots t.merge

  core : CoreStays m
  core = l.core m merge

  there : AllThere m
  there = l.there m merge mets

  rows : HasReferenceRows m
  rows = l.rows m merge

  tokens : ReadsTokens m
  tokens = l.tokens m merge there

  signatures : ReadsSignatures m
  signatures = l.signatures m entry roots t.merge there

  field_signatures : ReadsFieldSignatures m
  field_signatures = l.field_signatures m entry roots t.merge there

  homes : HaveHomes m
  homes = λ a rec s e t there lt h c. sig_there (before m) a rec there s e t h (contained (types_of_sig (world_sig (before m) a rec s)) t c)

  marks : HasMarks (before m) entry roots (flags_of m holds) × OnlyMarks (before m) entry roots (flags_of m holds)
  marks = l.follow m entry roots holds t.merge t.facts (l.parts m entry roots t.merge core) (l.plain m)

  flagged : IsFlagged m entry roots holds
  flagged = record { merge = t.merge; facts = t.facts; marks = marks.0 }

  flags : HasFlags m (keep_by m holds) (kept_by m holds)
  flags = l.flags m entry roots holds flagged

  bases : HasGoodBases m
  bases = l.bases m entry roots t.merge

  interfaces : HasGoodInterfaces m (keep_by m holds)
  interfaces = l.interfaces m entry roots holds flagged

  references : ReferencesStand (output m) m.left
  references = l.references m entry roots t.merge

  names : NamesAll m.left
  names = l.names m entry roots t.merge mets references

  left_record : IsRecord m.left
  left_record = l.record_left m entry roots t.merge references names

  links : link_fault_of (m.left ∷ []) ≡ None
  links = l.links m entry roots (keep_by m holds) (kept_by m holds) t.merge flags (record { tokens = tokens; bases = bases; interfaces = interfaces; methods = signatures; fields = field_signatures })

  reads : uses.Reads m (keep_by m holds) (kept_by m holds)
  reads = record {
    merge = merge;
    flags = flags;
    rows = rows;
    there = there;
    members = members;
    homes = λ a rec s e there lt h t c. sig_there (before m) a rec there s e t h (contained (types_of_sig (world_sig (before m) a rec s)) t c);
    methods = signatures;
    fields = field_signatures;
    owners = l.owners (before m) entry roots m.kept inputs_are t.merge.marked t.merge.all;
    left = left_record;
  }

  callees : ReadsCallees m
  callees = l.callees m (keep_by m holds) (kept_by m holds) reads

  field_tokens : ReadsFieldTokens m
  field_tokens = l.field_tokens m (keep_by m holds) (kept_by m holds) reads

  methods : (at : RowAt) → IsTrue (keeps_method_row (keep_by m holds) (before m) at) → view.method_at (after m) ((places_of m).method at) ≡ option_map (move_method (rho_of m)) (view.method_at (before m) at)
  methods at h =
      (l.methods m entry roots (keep_by m holds) (kept_by m holds) t.merge flags (record { tokens = tokens; callees = callees; fields = field_tokens; signatures = signatures; there = there; homes = homes }) (l.back m) at h).method

  fields : (at : RowAt) → IsTrue (keeps_field_row (keep_by m holds) (before m) at) → view.field_at (after m) ((places_of m).field at) ≡ option_map (move_field (rho_of m)) (view.field_at (before m) at)
  fields at h = l.fields m entry roots (keep_by m holds) (kept_by m holds) t.merge flags left_record field_signatures at h

  stands : OutputStands m
  stands = record { references = references; names = names; links = links }

  output_reads : OutputReads m (keep_by m holds)
  output_reads = record { tokens = tokens; impls = l.impls m (keep_by m holds) (kept_by m holds) reads; signatures = signatures; methods = methods; fields = fields }

  -- ---- the file

  abbrev Marked : Option RowAt → Type 0
  Marked e = AreMarked (before m) e roots m.kept × AreKept (before m) e roots m.kept × IsFirstFlaw (before m) e (Marks (before m) e roots) None

  some_type : 1 ≤ length m.left.type_def
  some_type =
      let i = t.begins in
      let known : Marked (Some (at_row 0 k)) = subst Marked i.is (t.merge.marked, t.merge.all, t.merge.good) in
      l.entry_type m.internal (before m) (at_row 0 k) roots m.kept m.left i.first merge.restricts inputs_are known.0 known.1 known.2 (input_below m.inputs 0 i.first i.there) (input_there m.inputs 0 i.first i.there) i.below

  is_trim : IsTrim m.internal m.inputs entry roots m.kept m.left
  is_trim = record {
    some_input = merge.some;
    files = t.merge.files;
    marked = t.merge.marked;
    all = t.merge.all;
    good = t.merge.good;
    is = merge.restricts;
    some_type = some_type;
    can = t.can;
    within = t.merge.within;
  }

  pub behaves : Behaves m k
  behaves =
      let e = l.entry m entry roots k t.merge t.begins in
      record {
        loads = l.loads m.internal m.inputs entry roots m.kept m.left is_trim references names;
        links = links;
        entry = (rho_of m).method k;
        names = e.0;
        below = e.1;
        moved = numbered m;
        runs = l.runs m entry roots holds k flagged marks.1 t.followed t.apart stands output_reads t.begins;
      }

pub all_behave : Laws → TrimsBehave
all_behave l = λ m entry roots holds k t. behaves l m entry roots holds k t
