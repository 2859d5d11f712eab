-- The promise on the bytes that a trim of files writes: they load as the record that is left, which links and runs as the files do.
use Rattle.std.specs.Prelude.{◌≡◌, ◌≤◌, ℕ, List, [], ◌∷◌, length, Some, None}
use Rattle.il_base.specs.declared.world_model.record.AsmRec.{AsmRec}
use Rattle.rules.specs.record_format.Record.{HasRecord}
use Rattle.rules.specs.declared.link_rules.row_at.RowAt.{RowAt}
use Rattle.rules.specs.link_rules.Members.{methods_in}
use Rattle.rules.specs.link_rules.Linked.{assemblies, link_fault_of}
use Rattle.rules.specs.merge_rules.Numbers.{Kept, kept_methods, new_row}
use Rattle.rules.specs.merged_world_rules.Numbering.{number_at}
use Rattle.inputs.specs.Files.{input_fault, records}
use Rattle.run_rules.specs.Runs.{run_of_files}
use Rattle.run_rules.specs.Alike.{SameRun}

-- the most bytes of a file that is read
abbrev pub most_bytes : ℕ
most_bytes = 67108864

pub record Behaves (files : List (List ℕ)) (bytes : List ℕ) (left : AsmRec) (kept : Kept) : Type 0 where
  pub loads : HasRecord bytes left
  pub links : link_fault_of (left ∷ []) ≡ None
  -- `exec` of the bytes alone isn't refused, where they are within the limit on the length of a file that is read
  pub taken : length bytes ≤ most_bytes → input_fault (bytes ∷ []) ≡ None
  -- the new numbers of methods, from 0: a kept method's is its row among the kept ones, in the order of the files and of their rows
  pub number : ℕ → ℕ
  pub moved : (at : RowAt) (row : ℕ) → new_row (kept_methods (assemblies (records files)) kept) at ≡ Some row → number (number_at methods_in (assemblies (records files)) at) ≡ row
  -- For any input and any number of steps the run of the bytes prints what the run of the files prints, and ends, throws, stops or
  -- goes on as that does.
  pub runs : (input : List ℕ) (n : ℕ) → SameRun number (assemblies (left ∷ [])) (assemblies (records files)) (run_of_files (bytes ∷ []) input n) (run_of_files files input n)
