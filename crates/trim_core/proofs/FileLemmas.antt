-- The world that files were taken as, and the trim of them.
use Rattle.std.proofs.Common.{◌≡◌, ℕ, zero, suc, ◌<◌, ◌≤◌, List, [], ◌∷◌, ◌++◌, length, take, Option, Some, None, Result, Ok, Err, refl, sym, ap, subst, ◌∙◌, arith, rules}
use Rattle.std.specs.Option.{option_map}
use Rattle.il_base.specs.blob_grammar.Laws.{AreBytes}
use Rattle.rules.specs.record_format.Record.{record_at}
use Rattle.il_base.specs.declared.world_model.record.AsmRec.{AsmRec}
use Rattle.il_base.specs.declared.world_model.world.World.{World}
use Rattle.il_base.specs.core_table.Record.{core_record}
use Rattle.rules.specs.declared.link_rules.link_error.LinkError.{LinkError}
use Rattle.rules.specs.link_rules.CoreNames.{missing_names, core_with}
use Rattle.rules.specs.link_rules.Linked.{IsWorld, assemblies, world_in, world_of, link_fault_of}
use Rattle.base_laws.specs.flaw_laws.There.{RowsThere}
use Rattle.inputs.specs.declared.error.InputError.{InputError}
use Rattle.inputs.specs.Files.{or_fault, limit_fault, record_fault, linking_fault, entry_fault, input_fault, records, unlinked_as, Passes, Takes}
use Rattle.descriptor_file.specs.declared.root.Root.{Root}
use Rattle.descriptor_roots.specs.declared.error.RootsError.{RootsError}
use Rattle.descriptor_roots.specs.Roots.{ReadsRoots, roots_of, descriptor_fault}
use Rattle.trim_laws.specs.trim_behaves.Laws.{FilesMerge}
use Rattle.trim_laws.specs.trim_behaves.Behaves.{TrimsBehave}
use Rattle.trim_core.specs.declared.answers.Opts.{Opts}
use Rattle.trim_core.specs.declared.answers.Refusal.{Refusal}
use Rattle.trim_core.specs.declared.answers.Refusal.TheVariants as refusal
use Rattle.trim_core.specs.declared.answers.Trimmed.{Trimmed}
use Rattle.trim_core.specs.Taken.{Bytes, IsTaken}
use Rattle.trim_core.specs.Told.{or_refusal, input_refusal, roots_refusal, too_long, entry_row, RefusedBy}
use Rattle.trim_core.specs.Trim.{TrimmedProgram, TrimsProgram, TrimsFiles, TrimsUnless}
use Rattle.trim_core.proofs.Behaving.{behaves}

-- ---- files that were taken

rest_passes : (a b : Option InputError) → or_fault a b ≡ None → b ≡ None
rest_passes None b h = h
rest_passes (Some e) b h = search rules

pub front_passes : (a b : Option InputError) → or_fault a b ≡ None → a ≡ None
front_passes None b h = refl
front_passes (Some e) b h = h

links : (files : List (List ℕ)) → input_fault files ≡ None → linking_fault files ≡ None
links files h =
    front_passes (linking_fault files) (entry_fault (records files))
    (rest_passes (record_fault 0 files) _ (rest_passes (limit_fault files) _ h))

no_fault : (files : List (List ℕ)) (e : Option LinkError) → unlinked_as files e ≡ None → e ≡ None
no_fault files None h = refl
no_fault files (Some (LinkError.Bad i why token)) h = search rules
no_fault files (Some LinkError.NoMemory) h = search rules

pub sound : (files : List (List ℕ)) (w : World) → IsTaken files w → link_fault_of (records files) ≡ None
sound files w t = no_fault files (link_fault_of (records files)) (links files t.sound)

pub is_world : (files : List (List ℕ)) (w : World) → IsTaken files w → IsWorld w
is_world files w t = record { inputs = records files; sound = sound files w t; linked = t.world }

-- what holds of the world of all files that are refused by nothing
pub rows_there : (files : List (List ℕ)) (w : World) → IsTaken files w
    → ((fs : List (List ℕ)) → input_fault fs ≡ None → RowsThere (world_of (records fs)).recs) → RowsThere w.recs
rows_there files w t law = subst (λ (v : World). RowsThere v.recs) (sym t.world) (law files t.sound)

-- the records of the world: those of the files, and the core library's
recs_are : (files : List (List ℕ)) (w : World) → IsTaken files w
    → w.recs ≡ records files ++ (core_with core_record (missing_names (records files ++ core_record ∷ [])) ∷ [])
unfolding world_in assemblies
recs_are files w t = ap (λ (v : World). v.recs) t.world

front_within : (files : List (List ℕ)) (rest : List AsmRec) → length files ≤ length (records files ++ rest)
front_within [] rest = omega arith
front_within (f ∷ fs) rest = let h = front_within fs rest in omega (arith, h)

front_is : (files : List (List ℕ)) (rest : List AsmRec) → take (length files) (records files ++ rest) ≡ records files
front_is [] rest = search rules
front_is (f ∷ fs) rest = ap (λ (xs : List AsmRec). record_at f ∷ xs) (front_is fs rest)

pub inputs_within : (files : List (List ℕ)) (w : World) → IsTaken files w → length files ≤ length w.recs
inputs_within files w t = subst (λ (xs : List AsmRec). length files ≤ length xs) (sym (recs_are files w t)) (front_within files _)

pub inputs_are : (files : List (List ℕ)) (w : World) → IsTaken files w → take (length files) w.recs ≡ records files
inputs_are files w t = ap (λ (xs : List AsmRec). take (length files) xs) (recs_are files w t) ∙ front_is files _

length_records : (files : List (List ℕ)) → length (records files) ≡ length files
length_records [] = refl
length_records (f ∷ fs) = ap (λ (n : ℕ). suc n) (length_records fs)

-- as many records stand at the front as there are files
pub count_is : (files : List (List ℕ)) (w : World) (n : ℕ) (xs : List AsmRec) → IsTaken files w → n ≡ length files → xs ≡ w.recs → n ≡ length (take n xs)
count_is files w n xs t a b =
    a ∙ sym (length_records files) ∙ ap (λ (ys : List AsmRec). length ys) (sym (inputs_are files w t))
    ∙ ap (λ (ys : List AsmRec). length (take (length files) ys)) (sym b) ∙ ap (λ (m : ℕ). length (take m xs)) (sym a)

-- ---- files are bytes

pub no_bytes : (files : List (List ℕ)) → length files < 1 → Bytes files
no_bytes [] few a f e = absurd (cc)
no_bytes (g ∷ fs) few a f e = absurd (omega (arith, few))

pub more_bytes : (f : List ℕ) (fs : List (List ℕ)) → AreBytes f → Bytes fs → Bytes (f ∷ fs)
more_bytes f fs one more zero g e = let same : f ≡ g = cc in subst AreBytes same one
more_bytes f fs one more (suc a) g e = more a g e

-- ---- what a trim is

module _ (files ds : List (List ℕ)) (w : World) (roots : List Root) (opts : Opts) (taken : IsTaken files w) (are : roots ≡ roots_of (records files) ds) (behave : TrimsBehave) (merging : FilesMerge) (bytes : Bytes files) where
  abbrev Of : World → List Root → Result Trimmed Refusal → Type 0
  Of v rs answer = TrimsProgram v.recs (entry_row (records files)) rs opts answer

  moved : (answer : Result Trimmed Refusal) → Of w roots answer → Of (world_of (records files)) (roots_of (records files) ds) answer
  moved answer t = subst (λ (rs : List Root). Of (world_of (records files)) rs answer) are (subst (λ (v : World). Of v roots answer) taken.world t)

  pub by_program : (answer : Result Trimmed Refusal) → Of w roots answer → TrimsFiles files ds opts answer
  by_program (Ok t) h =
      let p : TrimmedProgram (world_of (records files)).recs (entry_row (records files)) (roots_of (records files) ds) opts t = moved (Ok t) h in
      record {
        program = p;
        behaves = λ some. behaves behave merging files taken.sound bytes (sound files w taken) (roots_of (records files) ds) opts.internalize (record { bytes = t.bytes; kept = p.list }) p.trims some;
      }
  by_program (Err e) h = moved (Err e) h

pub unless_none : (fault : Option Refusal) (files ds : List (List ℕ)) (opts : Opts) (answer : Result Trimmed Refusal)
    → fault ≡ None → TrimsFiles files ds opts answer → TrimsUnless fault files ds opts answer
unless_none fault files ds opts answer e t = subst (λ (o : Option Refusal). TrimsUnless o files ds opts answer) (sym e) t

-- ---- refusals

pub no_memory : (o : Option Refusal) (files ds : List (List ℕ)) (opts : Opts) → TrimsUnless o files ds opts (Err refusal.NoMemory)
no_memory None files ds opts = tt
no_memory (Some due) files ds opts = tt

itself : (r : Refusal) → RefusedBy r r
itself (refusal.BadFile file at) = refl
itself (refusal.Outside place what) = refl
itself (refusal.Unresolved place) = refl
itself (refusal.NotYet file) = refl
itself (refusal.Collision first second) = refl
itself (refusal.BadDescriptor source offset) = refl
itself (refusal.Limit which found) = refl
itself (refusal.NoEntry token) = refl
itself refusal.NoMemory = tt

-- what is due comes
pub due : (o : Option Refusal) (r : Refusal) (files ds : List (List ℕ)) (opts : Opts) → o ≡ Some r → TrimsUnless o files ds opts (Err r)
due o r files ds opts e = subst (λ (p : Option Refusal). TrimsUnless p files ds opts (Err r)) (sym e) (itself r)

first_due : (o later : Option Refusal) (r : Refusal) (files ds : List (List ℕ)) (opts : Opts) → o ≡ Some r → TrimsUnless (or_refusal o later) files ds opts (Err r)
first_due o later r files ds opts e = due (or_refusal o later) r files ds opts (ap (λ (p : Option Refusal). or_refusal p later) e)

pub limit_due : (fault : Option InputError) (later : Option Refusal) (e : InputError) (files ds : List (List ℕ)) (opts : Opts) → Passes fault (Err e)
    → TrimsUnless (or_refusal (option_map input_refusal fault) later) files ds opts (Err (input_refusal e))
limit_due fault later (InputError.Limit which found) files ds opts h = first_due _ later (refusal.Limit which found) files ds opts (ap (option_map input_refusal) h)
limit_due fault later (InputError.BadFile file at) files ds opts h = first_due _ later (refusal.BadFile file at) files ds opts (ap (option_map input_refusal) h)
limit_due fault later (InputError.NoEntry token) files ds opts h = first_due _ later (refusal.NoEntry token) files ds opts (ap (option_map input_refusal) h)
limit_due fault later InputError.NoMemory files ds opts h = no_memory _ files ds opts

pub input_due : (later : Option Refusal) (e : InputError) (files ds : List (List ℕ)) (opts : Opts) → Takes files (Err e)
    → TrimsUnless (or_refusal (option_map input_refusal (input_fault files)) later) files ds opts (Err (input_refusal e))
input_due later (InputError.Limit which found) files ds opts h = first_due _ later (refusal.Limit which found) files ds opts (ap (option_map input_refusal) h)
input_due later (InputError.BadFile file at) files ds opts h = first_due _ later (refusal.BadFile file at) files ds opts (ap (option_map input_refusal) h)
input_due later (InputError.NoEntry token) files ds opts h = first_due _ later (refusal.NoEntry token) files ds opts (ap (option_map input_refusal) h)
input_due later InputError.NoMemory files ds opts h = no_memory _ files ds opts

pub roots_due : (recs : List AsmRec) (e : RootsError) (files ds : List (List ℕ)) (opts : Opts) → recs ≡ records files → ReadsRoots recs ds (Err e)
    → TrimsUnless (option_map roots_refusal (descriptor_fault (records files) ds)) files ds opts (Err (roots_refusal e))
roots_due recs (RootsError.Bad source offset) files ds opts r h =
    due _ (refusal.BadDescriptor source offset) files ds opts (ap (λ (xs : List AsmRec). option_map roots_refusal (descriptor_fault xs ds)) (sym r) ∙ ap (option_map roots_refusal) h)
roots_due recs RootsError.NoMemory files ds opts r h = no_memory _ files ds opts

-- ---- no refusal so far

pub taken_on : (fault : Option InputError) (later : Option Refusal) (files ds : List (List ℕ)) (opts : Opts) (answer : Result Trimmed Refusal)
    → fault ≡ None → TrimsUnless later files ds opts answer → TrimsUnless (or_refusal (option_map input_refusal fault) later) files ds opts answer
taken_on fault later files ds opts answer e t =
    subst (λ (o : Option InputError). TrimsUnless (or_refusal (option_map input_refusal o) later) files ds opts answer) (sym e) t

pub within_on : (found : Option ℕ) (later : Option Refusal) (files ds : List (List ℕ)) (opts : Opts) (answer : Result Trimmed Refusal)
    → found ≡ None → TrimsUnless later files ds opts answer → TrimsUnless (or_refusal (option_map too_long found) later) files ds opts answer
within_on found later files ds opts answer e t =
    subst (λ (o : Option ℕ). TrimsUnless (or_refusal (option_map too_long o) later) files ds opts answer) (sym e) t

pub length_due : (found : Option ℕ) (n : ℕ) (later : Option Refusal) (files ds : List (List ℕ)) (opts : Opts)
    → found ≡ Some n → TrimsUnless (or_refusal (option_map too_long found) later) files ds opts (Err (too_long n))
length_due found n later files ds opts e = first_due _ later (too_long n) files ds opts (ap (option_map too_long) e)

-- the elements of descriptors were read, and the way was found
pub roots_on : (files ds : List (List ℕ)) (opts : Opts) (answer : Result Trimmed Refusal)
    → descriptor_fault (records files) ds ≡ None → TrimsFiles files ds opts answer
    → TrimsUnless (option_map roots_refusal (descriptor_fault (records files) ds)) files ds opts answer
roots_on files ds opts answer e t = unless_none _ files ds opts answer (ap (option_map roots_refusal) e) t
