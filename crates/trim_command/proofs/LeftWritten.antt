-- The write of OUT, and that of the keep list after it.
use Rattle.std.proofs.Common.{◌≡◌, ◌≢◌, ℕ, List, Option, Some, None, Result, Ok, Err, refl, sym, subst, ◌∙◌, inl, inr}
use Rattle.il_outside.specs.Faults.{Rose}
use Rattle.il_outside.specs.declared.folder.FolderError.{FolderError}
use Rattle.il_outside.specs.declared.folder.FolderError.TheVariants.{Failed, NoMemory}
use Rattle.il_outside.specs.Folder.{Files, FolderState, SameOthers, LeavesPrefix, KeepsFiles, Writes, WritesFile, NoFault, WriteFaults}
use Rattle.trim_core.specs.declared.answers.Trimmed.{Trimmed}
use Rattle.named_files.proofs.Folders.{quiet_twice}
use Rattle.trim_command.specs.Writing.{WhereTold, IsApart, written_names, Differs, KeepsOthers, BothStand, OutputStands, ListIsPrefix, Leaves, ListWrites}

-- ---- what is told

-- a write that memory was short for leaves the folder
short_write : (old new : Option Files) (name bytes : List ℕ) → WritesFile old new name bytes (Err NoMemory) → KeepsFiles old new
short_write None new name bytes w = tt
short_write (Some f) None name bytes w = w
short_write (Some f) (Some g) name bytes w = w

output_alone : (old new : Option Files) (left : Trimmed) (output : List ℕ) → WritesFile old new output left.bytes (Ok tt) → WhereTold (BothStand left output None) old new
output_alone None new left output w = tt
output_alone (Some f) None left output w = w
output_alone (Some f) (Some g) left output w = (w.0, tt)

both_stand : (a b c : Option Files) (left : Trimmed) (output name : List ℕ) → name ≢ output → WritesFile a b output left.bytes (Ok tt) → WritesFile b c name left.kept (Ok tt)
    → WhereTold (BothStand left output (Some name)) a c
both_stand None b c left output name apart w v = tt
both_stand (Some f) None c left output name apart w v = absurd w
both_stand (Some f) (Some g) None left output name apart w v = v
both_stand (Some f) (Some g) (Some h) left output name apart w v = (v.1 output (λ e. apart (sym e)) ∙ w.0, v.0)

prefix_behind : (f g h : Files) (name output bytes : List ℕ) → name ≢ output → SameOthers f g output → LeavesPrefix g h name bytes → LeavesPrefix f h name bytes
prefix_behind f g h name output bytes apart same (inl e) = inl (e ∙ same name apart)
prefix_behind f g h name output bytes apart same (inr e) = inr e

list_prefix : (a b c : Option Files) (left : Trimmed) (output name : List ℕ) → name ≢ output → WritesFile a b output left.bytes (Ok tt) → WritesFile b c name left.kept (Err Failed)
    → WhereTold (ListIsPrefix left output name) a c
list_prefix None b c left output name apart w v = tt
list_prefix (Some f) None c left output name apart w v = absurd w
list_prefix (Some f) (Some g) None left output name apart w v = v
list_prefix (Some f) (Some g) (Some h) left output name apart w v =
    (v.1 output (λ e. apart (sym e)) ∙ w.0, prefix_behind f g h name output left.kept apart w.1 v.0)

output_stands : (a b c : Option Files) (left : Trimmed) (output : List ℕ) → WritesFile a b output left.bytes (Ok tt) → KeepsFiles b c → WhereTold (OutputStands left output) a c
output_stands None b c left output w v = tt
output_stands (Some f) None c left output w v = absurd w
output_stands (Some f) (Some g) None left output w v = v
output_stands (Some f) (Some g) (Some h) left output w v = (v output ∙ w.0, λ other ne. v other ∙ w.1 other ne)

-- ---- what the writes leave

pub output_unwritten : (left : Trimmed) (output : List ℕ) (list : Option (List ℕ)) (was now : FolderState) (e : FolderError) → WritesFile was.files now.files output left.bytes (Err e)
    → WriteFaults {T = Unit {0}} was now output (Err e) → Leaves left output list was now (Err e)
output_unwritten left output list was now Failed w faults = inl (record { written = w; rose = faults.0; failed = faults.2; reads = faults.1 })
output_unwritten left output list was now NoMemory w faults = (inl (short_write was.files now.files output left.bytes w), faults)

list_written : (left : Trimmed) (output name : List ℕ) (was mid now : FolderState) (r : Result Unit FolderError) → name ≢ output → WritesFile was.files mid.files output left.bytes (Ok tt)
    → NoFault was mid → WritesFile mid.files now.files name left.kept r → WriteFaults {T = Unit {0}} mid now name r → Leaves left output (Some name) was now r
list_written left output name was mid now (Ok tt) apart w quiet v faults =
    (both_stand was.files mid.files now.files left output name apart w v, quiet_twice was mid now quiet faults)
list_written left output name was mid now (Err Failed) apart w quiet v faults = inr (record {
  name = name;
  named = refl;
  written = list_prefix was.files mid.files now.files left output name apart w v;
  rose = subst (λ (n : ℕ). Rose n now.write_faults) quiet.1 faults.0;
  failed = faults.2;
  reads = faults.1 ∙ quiet.0;
})
list_written left output name was mid now (Err NoMemory) apart w quiet v faults =
    (inr (output_stands was.files mid.files now.files left output w (short_write mid.files now.files name left.kept v)), quiet_twice was mid now quiet faults)

no_list : (left : Trimmed) (output : List ℕ) (was mid now : FolderState) → now ≡ mid → WritesFile was.files mid.files output left.bytes (Ok tt) → NoFault was mid
    → Leaves left output None was now (Ok tt)
no_list left output was mid now same w quiet =
    subst (λ (s : FolderState). Leaves left output None was s (Ok tt)) (sym same) (output_alone was.files mid.files left output w, quiet)

pub output_written : (left : Trimmed) (output : List ℕ) (list : Option (List ℕ)) (was mid now : FolderState) (r : Result Unit FolderError) → IsApart output list
    → WritesFile was.files mid.files output left.bytes (Ok tt) → NoFault was mid → ListWrites list left.kept mid now r → Leaves left output list was now r
output_written left output None was mid now (Ok tt) apart w quiet v = no_list left output was mid now v w quiet
output_written left output None was mid now (Err e) apart w quiet v = absurd v
output_written left output (Some name) was mid now r apart w quiet v = list_written left output name was mid now r apart w quiet v.0 v.1

-- ---- other names

others_written : (f g : Files) (name bytes : List ℕ) (r : Result Unit FolderError) → Writes f g name bytes r → SameOthers f g name
others_written f g name bytes (Ok x) w = w.1
others_written f g name bytes (Err Failed) w = w.1
others_written f g name bytes (Err NoMemory) w = λ other ne. w other

not_output : (output other : List ℕ) (list : Option (List ℕ)) → Differs other (written_names output list) → other ≢ output
not_output output other None d = d.0
not_output output other (Some name) d = d.0

pub others_of_output : (a b : Option Files) (output bytes : List ℕ) (list : Option (List ℕ)) (r : Result Unit FolderError) → WritesFile a b output bytes r → KeepsOthers (written_names output list) a b
others_of_output None b output bytes list r w = tt
others_of_output (Some f) None output bytes list r w = w
others_of_output (Some f) (Some g) output bytes list r w = λ other d. others_written f g output bytes r w other (not_output output other list d)

others_of_list : (a b c : Option Files) (output name bytes kept : List ℕ) (r : Result Unit FolderError) → WritesFile a b output bytes (Ok tt) → WritesFile b c name kept r
    → KeepsOthers (written_names output (Some name)) a c
others_of_list None b c output name bytes kept r w v = tt
others_of_list (Some f) None c output name bytes kept r w v = absurd w
others_of_list (Some f) (Some g) None output name bytes kept r w v = v
others_of_list (Some f) (Some g) (Some h) output name bytes kept r w v = λ other d. others_written g h name kept r v other d.1.0 ∙ w.1 other d.0

pub others_of_both : (output bytes kept : List ℕ) (list : Option (List ℕ)) (was mid now : FolderState) (r : Result Unit FolderError) → WritesFile was.files mid.files output bytes (Ok tt)
    → ListWrites list kept mid now r → KeepsOthers (written_names output list) was.files now.files
others_of_both output bytes kept None was mid now (Ok tt) w v =
    subst (λ (s : FolderState). KeepsOthers (written_names output None) was.files s.files) (sym v) (others_of_output was.files mid.files output bytes None (Ok tt) w)
others_of_both output bytes kept None was mid now (Err e) w v = absurd v
others_of_both output bytes kept (Some name) was mid now r w v = others_of_list was.files mid.files now.files output name bytes kept r w v.0
