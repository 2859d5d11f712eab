-- The ways out of each instruction of a method, and the offsets that they lead to.
use Rattle.std.specs.Prelude.{ℕ, ◌+◌, List, [], ◌∷◌, map, slice_get, unwrap_or, Option, Some, None}
use Rattle.std.specs.List.{flat_map}
use Rattle.il_base.specs.declared.body.Instr.{Instr}
use Rattle.il_base.specs.declared.world_model.record.AsmRec.{AsmRec}
use Rattle.rules.specs.link_rules.Cycles.{listed}
use Rattle.rules.specs.declared.flow_rules.exit.Step.{Step}
use Rattle.rules.specs.declared.flow_rules.exit.Exit.{Exit}
use Rattle.rules.specs.flow_rules.Methods.{Setting}
use Rattle.rules.specs.flow_rules.Counts.{counts_of}
use Rattle.rules.specs.flow_rules.Steps.{offsets, place_in, steps_of}

abbrev pub exit_with : List Step → Option (ℕ × ℕ) → Exit
exit_with steps None = record { pops = 0; pushes = 0; steps = [] }
exit_with steps (Some counts) = record { pops = counts.0; pushes = counts.1; steps = steps }

-- An instruction whose operand names nothing, or a method whose signature has no reading, leads nowhere.
abbrev pub exit_of : List AsmRec → Setting → ℕ → Instr → Exit
exit_of recs s k i = exit_with (steps_of (offsets s.body.code) s.body.code s.body.handlers k i) (counts_of recs s.asm s.rec s.own.returns i)

abbrev pub exits_from : List AsmRec → Setting → ℕ → List Instr → List Exit
exits_from recs s k [] = []
exits_from recs s k (i ∷ is) = exit_of recs s k i ∷ exits_from recs s (k + 1) is

unfoldable pub exits_of : List AsmRec → Setting → List Exit
exits_of recs s = exits_from recs s 0 s.body.code

-- ---- by IL offsets

-- the offset of the instruction that a step leads to, if it is there
abbrev pub offset_to : List ℕ → Step → List ℕ
offset_to keys step = listed (slice_get keys step.to)

abbrev pub exit_offsets : List ℕ → Exit → List ℕ
exit_offsets keys e = flat_map (offset_to keys) e.steps

-- the edges of the graph: the offsets of the instructions where control goes from the instruction at an offset
unfoldable pub edges_of : List AsmRec → Setting → ℕ → List ℕ
edges_of recs s at =
    unwrap_or (slice_get (map (exit_offsets (offsets s.body.code)) (exits_of recs s)) (place_in (offsets s.body.code) at)) []
