-- How control goes from an instruction to others (III.3, I.12.4.2.5): to the next one, to the targets of a branch, through the
-- finally handlers that `leave` crosses, and from each instruction of a try block to its handlers. Instructions are counted from 0.
use Rattle.std.specs.Prelude.{ℕ, suc, ◌+◌, List, [], ◌∷◌, ◌++◌, length, map, drop, find, nat_eq, nat_lt, nat_le, ◌==◌, ◌&&◌, Bool, true, not, Option, Some, None, unwrap_or, if◌then◌else◌}
use Rattle.std.specs.List.{flat_map, position_from}
use Rattle.il_base.specs.declared.body.Form.{Form}
use Rattle.il_base.specs.declared.body.Form.TheVariants as form
use Rattle.il_base.specs.declared.body.Operand.{Operand}
use Rattle.il_base.specs.declared.body.Operand.TheVariants as operand
use Rattle.il_base.specs.declared.body.Instr.{Instr}
use Rattle.il_base.specs.declared.body.Handler.{Handler}
use Rattle.rules.specs.declared.flow_rules.exit.Way.{Way}
use Rattle.rules.specs.declared.flow_rules.exit.Way.TheVariants as way
use Rattle.rules.specs.declared.flow_rules.exit.Step.{Step}
use Rattle.rules.specs.declared.flow_rules.placed.Placed.{Placed}
use Rattle.rules.specs.declared.flow_rules.clause_kind.TheConstants.{CATCH, FINALLY}

-- ---- places of instructions

abbrev pub offsets : List Instr → List ℕ
offsets code = map (λ (i : Instr). i.at) code

-- the instruction that begins at an IL offset, or the number of instructions where none does
abbrev pub place_in : List ℕ → ℕ → ℕ
place_in keys offset = unwrap_or (position_from (nat_eq offset) 0 keys) (length keys)

abbrev pub step_to : Way → ℕ → Step
step_to w place = record { to = place; way = w }

-- ---- blocks (II.25.4.6)

abbrev pub covers : ℕ → ℕ → ℕ → Bool
covers from len at = nat_le from at && nat_lt at (from + len)

abbrev pub in_try : Handler → ℕ → Bool
in_try h at = covers h.try_at h.try_len at

abbrev pub in_handler : Handler → ℕ → Bool
in_handler h at = covers h.at h.len at

abbrev pub is_finally : Handler → Bool
is_finally h = h.kind == FINALLY

-- a finally clause whose try block a `leave` from one offset to another goes out of
abbrev pub is_crossed : ℕ → ℕ → Handler → Bool
is_crossed at to h = is_finally h && in_try h at && not (in_try h to)

-- where a `leave` goes that has these clauses still to cross, the inner ones first: the first crossed handler, else its target
abbrev pub handler_or : ℕ → Option Handler → ℕ
handler_or to None = to
handler_or to (Some h) = h.at

abbrev pub leaves_to : List Handler → ℕ → ℕ → ℕ
leaves_to hs at to = handler_or to (find (is_crossed at to) hs)

abbrev pub is_shorter : Handler → Option Placed → Bool
is_shorter h None = true
is_shorter h (Some best) = nat_lt h.len best.clause.len

abbrev pub better : ℕ → ℕ → Handler → Option Placed → Option Placed
better at n h best = if in_handler h at && is_shorter h best then Some (record { place = n; clause = h }) else best

-- the innermost handler that an offset lies in: handlers lie in each other or apart, so it is the shortest
unfoldable pub innermost_from : ℕ → Option Placed → ℕ → List Handler → Option Placed
innermost_from at best n [] = best
innermost_from at best n (h ∷ hs) = innermost_from at (better at n h best) (suc n) hs

abbrev pub innermost : List Handler → ℕ → Option Placed
innermost hs at = innermost_from at None 0 hs

-- ---- `endfinally` (III.3.35): what comes next for each `leave` that crosses its clause

abbrev pub goes_on_from : List Handler → Placed → ℕ → Operand → List ℕ
goes_on_from hs p at (operand.Target to) = if is_crossed at to p.clause then leaves_to (drop (suc p.place) hs) at to ∷ [] else []
goes_on_from hs p at _ = []

abbrev pub goes_on_by : List Handler → Placed → Instr → Form → List ℕ
goes_on_by hs p i form.Leave = goes_on_from hs p i.at i.operand
goes_on_by hs p i _ = []

abbrev pub goes_on : List Handler → Placed → Instr → List ℕ
goes_on hs p i = goes_on_by hs p i i.form

-- an `endfinally` of a fault handler, of a catch handler or of none leads nowhere
abbrev pub ends_at : List Instr → List Handler → Option Placed → List ℕ
ends_at code hs None = []
ends_at code hs (Some p) = if is_finally p.clause then flat_map (goes_on hs p) code else []

-- ---- the steps of an instruction

abbrev pub targets_of : Operand → List ℕ
targets_of (operand.Target to) = to ∷ []
targets_of (operand.Targets ts) = ts
targets_of _ = []

abbrev pub next_to : List ℕ → List ℕ → List Step
next_to keys offsets = map (λ to. step_to way.Next (place_in keys to)) offsets

abbrev pub branch_steps : List ℕ → Operand → List Step
branch_steps keys o = next_to keys (targets_of o)

abbrev pub leave_steps : List ℕ → List Handler → ℕ → Operand → List Step
leave_steps keys hs at (operand.Target to) = step_to way.Emptied (place_in keys (leaves_to hs at to)) ∷ []
leave_steps keys hs at _ = []

abbrev pub emptied_to : List ℕ → List ℕ → List Step
emptied_to keys offsets = map (λ to. step_to way.Emptied (place_in keys to)) offsets

abbrev pub end_steps : List ℕ → List Instr → List Handler → ℕ → List Step
end_steps keys code hs at = emptied_to keys (ends_at code hs (innermost hs at))

abbrev pub next_step : ℕ → Step
next_step k = step_to way.Next (suc k)

-- where control goes from instruction k, exceptions aside
unfoldable pub own_steps : List ℕ → List Instr → List Handler → ℕ → Instr → Form → List Step
own_steps keys code hs k i form.Br = branch_steps keys i.operand
own_steps keys code hs k i form.BrIf = next_step k ∷ branch_steps keys i.operand
own_steps keys code hs k i form.Switch = next_step k ∷ branch_steps keys i.operand
own_steps keys code hs k i form.Leave = leave_steps keys hs i.at i.operand
own_steps keys code hs k i form.EndFinally = end_steps keys code hs i.at
own_steps keys code hs k i form.Ret = []
own_steps keys code hs k i form.Throw = []
own_steps keys code hs k i _ = next_step k ∷ []

-- ---- handlers

abbrev pub way_into : Handler → Way
way_into h = if h.kind == CATCH then way.Caught else way.Unwound

abbrev pub into_handler : List ℕ → ℕ → Handler → List Step
into_handler keys at h = if in_try h at then step_to (way_into h) (place_in keys h.at) ∷ [] else []

abbrev pub handler_steps : List ℕ → List Handler → ℕ → List Step
handler_steps keys hs at = flat_map (into_handler keys at) hs

abbrev pub steps_of : List ℕ → List Instr → List Handler → ℕ → Instr → List Step
steps_of keys code hs k i = own_steps keys code hs k i i.form ++ handler_steps keys hs i.at
