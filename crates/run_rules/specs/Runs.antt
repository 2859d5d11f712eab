-- What a run of files comes to: what it prints within n steps, and how it stands then.
use Rattle.std.specs.Prelude.{ℕ, suc, List, [], ◌∷◌, Option, Some, None, unwrap_or}
use Rattle.il_base.specs.declared.ids.Place.{Place}
use Rattle.il_base.specs.declared.table.TheConstants.{METHOD_DEF}
use Rattle.il_base.specs.declared.world_model.record.AsmRec.{AsmRec}
use Rattle.il_base.specs.world_model.Tokens.{token_of, index_in}
use Rattle.rules.specs.declared.link_rules.row_at.RowAt.{RowAt}
use Rattle.rules.specs.link_rules.Members.{home_from, methods_in}
use Rattle.rules.specs.link_rules.Linked.{world_of}
use Rattle.inputs.specs.Files.{records}
use Rattle.il_base.specs.declared.cil_values.end.End.{End}
use Rattle.il_base.specs.declared.cil_values.end.End.TheVariants as run_end
use Rattle.rules.specs.step_rules.Run as whole
use Rattle.rules.specs.view_rules.Answers.{queries_of}
use Rattle.run_rules.specs.declared.answers.EndKind.{EndKind}
use Rattle.run_rules.specs.declared.answers.EndKind.TheVariants.{Ended, Threw, Spent, Stopped, Stuck}

-- the bytes printed, and how the run stands
pub record FileRun : Type 0 where
  pub output : List ℕ
  pub end : EndKind

-- a place in a method of the world, by its assembly and its MethodDef token
abbrev pub place_by : ℕ → Option RowAt → Place
place_by at None = record { asm = 0; token = 0; offset = at }
place_by at (Some home) = record { asm = home.asm; token = token_of METHOD_DEF (suc home.row); offset = at }

abbrev pub place_at : List AsmRec → ℕ → ℕ → Place
place_at recs m at = place_by at (home_from methods_in 0 recs m)

abbrev pub end_of : List AsmRec → Option End → EndKind
end_of recs None = Spent
end_of recs (Some (run_end.Ended code)) = Ended code
end_of recs (Some (run_end.Threw kind message)) = Threw kind message
end_of recs (Some (run_end.Stopped m at)) = Stopped (place_at recs m.0 at)
end_of recs (Some (run_end.Stuck m at)) = Stuck (place_at recs m.0 at)

abbrev pub file_run : List AsmRec → whole.Outcome → FileRun
file_run recs o = record { output = o.output; end = end_of recs o.end }

-- the entry method of the first assembly, whose methods come first in the world (II.25.3.3.2)
abbrev pub entry_of : List AsmRec → ℕ
entry_of [] = 0
entry_of (rec ∷ recs) = unwrap_or (index_in METHOD_DEF rec.entry) 0

-- of a world's assemblies, with the bytes of the input
abbrev pub world_run : List AsmRec → List ℕ → ℕ → FileRun
world_run recs input n = file_run recs (whole.run_from (queries_of recs) (entry_of recs) input n)

-- n steps of the program of files, of which the first has the entry point, with the bytes of the input
unfoldable pub run_of_files : List (List ℕ) → List ℕ → ℕ → FileRun
run_of_files files input n = world_run (world_of (records files)).recs input n
