-- One lemma for each instruction of exceptions.
use Rattle.std.proofs.Common.{◌≡◌, ℕ, suc, Bool, true, false, ◌&&◌, List, [], ◌∷◌, map, Option, Some, None, refl, sym, ap, subst, ◌∙◌}
use Rattle.std.specs.Prelude.{IsTrue, if◌then◌else◌, ◌==◌}
use Rattle.std.specs.Option.{option_map}
use Rattle.std.proofs.lemmas.List.Folds.{list_all-map}
use Rattle.il_base.specs.declared.opcode.TheConstants.{THROW}
use Rattle.il_base.specs.declared.core_table.names.CoreName.TheVariants as name
use Rattle.il_base.specs.declared.cil_values.value.Value.{Value, out-Value, roll-Value}
use Rattle.il_base.specs.declared.cil_values.resolved.Code.{Code}
use Rattle.il_base.specs.declared.cil_values.resolved.Clause.{Clause}
use Rattle.il_base.specs.declared.cil_values.resolved.Instruction.{Instruction}
use Rattle.il_base.specs.declared.cil_values.resolved.Use.{Use}
use Rattle.il_base.specs.declared.cil_values.resolved.Use.TheVariants.{Target as target}
use Rattle.il_base.specs.declared.cil_values.state.State.{State}
use Rattle.il_base.specs.declared.cil_values.frame.Reason.{Reason}
use Rattle.il_base.specs.declared.cil_values.frame.Reason.TheVariants.{Caught as caught, Leaving as leaving, Unwinding as unwinding}
use Rattle.il_base.specs.declared.cil_values.frame.Prefix.TheVariants.{None as none}
use Rattle.rules.specs.step_rules.Queries.{Queries}
use Rattle.rules.specs.step_rules.Next.{went}
use Rattle.rules.specs.step_rules.Words.{Here, stuck, in_handler, object_at}
use Rattle.rules.specs.step_rules.Objects.{core_type, is_a}
use Rattle.rules.specs.step_rules.Throws.{Placed, is_shorter, better, innermost_from, innermost, reason_of, throws, throws_again, rethrow, throw_form, may_leave_by, may_leave, is_crossed, crossed, leave_through, leaves, leave, goes_on, end_finally}
use Rattle.rules.specs.change_rules.Change.{Rho, Change}
use Rattle.rules.specs.change_rules.Moves.{move_value}
use Rattle.rules.specs.change_rules.Answers.{move_clause, move_code, move_here, move_operand, move_instruction}
use Rattle.rules.specs.change_rules.States.{move_frame, move_state}
use Rattle.rules.specs.change_rules.Keeps.{keeps_value}
use Rattle.rules.specs.change_rules.Covered.{Covered}
use Rattle.rules.specs.change_rules.Agree.{Agree, is_asked}
use Rattle.rules.specs.change_rules.Lock.{Lock}
use Rattle.run_laws.proofs.lemmas.lock_words.Words.{stuck_lock, given_lock, given_moved, required_lock, if_lock, popped_lock}
use Rattle.run_laws.proofs.lemmas.lock_words.Cases.{kept_cases}
use Rattle.run_laws.proofs.lemmas.lock_throwing.Objects.{core_moved, core_kept, made_kept, is_a_at}
use Rattle.run_laws.proofs.lemmas.lock_throwing.Here.{places_moved, still_running_moved}
use Rattle.run_laws.proofs.lemmas.lock_throwing.Searching.{handler_lock, unwind_to_lock, throw_lock, raise_lock}

-- ---- the innermost handler

abbrev move_placed : Rho → Placed → Placed
move_placed r p = record { place = p.place; clause = move_clause r p.clause }

module _ (r : Rho) where
  shorter_moved : (c : Clause) (best : Option Placed) → is_shorter (move_clause r c) (option_map (move_placed r) best) ≡ is_shorter c best
  shorter_moved c None = refl
  shorter_moved c (Some p) = refl

  better_by : (b : Bool) (n : ℕ) (c : Clause) (best : Option Placed) → (if b then Some (record { place = n; clause = move_clause r c }) else option_map (move_placed r) best)
      ≡ option_map (move_placed r) (if b then Some (record { place = n; clause = c }) else best)
  better_by true n c best = refl
  better_by false n c best = refl

  better_moved : (at n : ℕ) (c : Clause) (best : Option Placed) → better at n (move_clause r c) (option_map (move_placed r) best) ≡ option_map (move_placed r) (better at n c best)
  better_moved at n c best =
      ap (λ (b : Bool). if in_handler c at && b then Some (record { place = n; clause = move_clause r c }) else option_map (move_placed r) best) (shorter_moved c best)
      ∙ better_by (in_handler c at && is_shorter c best) n c best

  innermost_moved : (at : ℕ) (best : Option Placed) (n : ℕ) (cs : List Clause) → innermost_from at (option_map (move_placed r) best) n (map (move_clause r) cs) ≡ option_map (move_placed r) (innermost_from at best n cs)
  unfolding innermost_from
  innermost_moved at best n [] = refl
  innermost_moved at best n (c ∷ cs) =
      ap (λ (b : Option Placed). innermost_from at b (suc n) (map (move_clause r) cs)) (better_moved at n c best) ∙ innermost_moved at (better at n c best) (suc n) cs

null_asked : IsTrue (is_asked name.NullReferenceException)
unfolding is_asked
null_asked = refl

exception_asked : IsTrue (is_asked name.Exception)
unfolding is_asked
exception_asked = refl

module _ (k : Change) (after before : Queries) (a : Agree k after before) (here : Here) (i : Instruction) (s : State) (c : Covered k.keep before s) where
  -- ---- throw, rethrow

  is_exception : (n : ℕ) → is_a after (core_type after name.Exception) (object_at (move_state k before s) n) ≡ is_a before (core_type before name.Exception) (object_at s n)
  is_exception n =
      ap (λ e. is_a after e (object_at (move_state k before s) n)) (core_moved k after before a name.Exception exception_asked)
      ∙ is_a_at k after before a s c (core_type before name.Exception) (made_kept k.keep _ (core_kept k after before a name.Exception exception_asked)) n

  throws_lock : (v : Value) → IsTrue (keeps_value k.keep v) → Lock k before (throws after (move_state k before s) (move_value k.rho v)) (throws before s v)
  unfolding roll-Value denote.Hole.Carrier.roll out-Value denote.Hole.Carrier.out
  throws_lock =
      kept_cases k (λ w v. Lock k before (throws after (move_state k before s) w) (throws before s v))
      (raise_lock k after before a name.NullReferenceException null_asked s c) (λ n. stuck_lock k before s) (λ n. stuck_lock k before s) (λ n. stuck_lock k before s)
      (λ n. required_lock k before _ (is_a before (core_type before name.Exception) (object_at s n)) s _ _ (is_exception n) (λ e. throw_lock k after before a n s c))
      (λ p h. stuck_lock k before s) (λ e cells h g. stuck_lock k before s) (λ e h. stuck_lock k before s) (λ f h. stuck_lock k before s)

  again_lock : (r : Reason) → Lock k before (throws_again after (move_state k before s) r) (throws_again before s r)
  again_lock (caught x) = throw_lock k after before a x s c
  again_lock (leaving ns to) = stuck_lock k before s
  again_lock (unwinding u) = stuck_lock k before s

  rethrow_lock : Lock k before (rethrow after (move_here k.rho here) (move_state k before s)) (rethrow before here s)
  rethrow_lock =
      given_moved k before (move_placed k.rho) (innermost here.code s.top.at) _ s _ _ (innermost_moved k.rho s.top.at None 0 here.code.clauses)
      (λ p e. given_lock k before (reason_of p.place s.top.running) s _ _ (λ r is. again_lock r))

  pub throw_form_lock : Lock k before (throw_form after (move_here k.rho here) (move_instruction k.rho i) (move_state k before s)) (throw_form before here i s)
  unfolding throw_form
  throw_form_lock =
      if_lock k before _ (i.opcode == THROW) _ _ _ _ refl (λ e. popped_lock k before s.top.stack s _ _ c.top.stack (λ v stack hv hs. throws_lock v hv)) (λ e. rethrow_lock)

  -- ---- leave, endfinally

  may_leave_moved : (code : Code) (at to : ℕ) → may_leave (move_code k.rho code) at to ≡ may_leave code at to
  unfolding may_leave
  may_leave_moved code at to = list_all-map (may_leave_by at to) (move_clause k.rho) code.clauses

  crossed_moved : (code : Code) (at to : ℕ) → crossed (move_code k.rho code) at to ≡ crossed code at to
  unfolding crossed
  crossed_moved code at to = places_moved k.rho (is_crossed at to) (λ x. refl) 0 code.clauses

  through_lock : (code : Code) (ns : List ℕ) (to : ℕ) → Lock k before (leave_through (move_code k.rho code) ns to (move_state k before s)) (leave_through code ns to s)
  unfolding leave_through
  through_lock code [] to =
      record {
        same = λ j. went (record (move_state k before s) { top = record (move_frame k.rho s.top) { at = to; stack = []; prefix = none; running = still_running_moved k.rho code to s.top.running j } }) [];
        kept = record {
          heap = c.heap;
          statics = c.statics;
          inits = c.inits;
          below = c.below;
          top = record { method = c.top.method; args = c.top.args; locals = c.top.locals; stack = refl; prefix = refl; waits = c.top.waits };
        };
      }
  through_lock code (n ∷ ns) to = handler_lock k after before a code n (leaving ns to) [] s c refl

  leaves_lock : (to : ℕ) → Lock k before (leaves (move_here k.rho here) (move_state k before s) to) (leaves here s to)
  leaves_lock to =
      required_lock k before _ (may_leave here.code s.top.at to) s _ _ (may_leave_moved here.code s.top.at to) (λ e.
      subst (λ (ns : List ℕ). Lock k before (leave_through (move_code k.rho here.code) ns to (move_state k before s)) (leave_through here.code (crossed here.code s.top.at to) to s))
      (sym (crossed_moved here.code s.top.at to)) (through_lock here.code (crossed here.code s.top.at to) to))

  leave_by : (u : Use) → Lock k before (elim (move_operand k.rho u) [ target to ↦ leaves (move_here k.rho here) (move_state k before s) to | _ ↦ stuck (move_state k before s) ])
      (elim u [ target to ↦ leaves here s to | _ ↦ stuck s ])
  leave_by (target to) = leaves_lock to
  leave_by _ = stuck_lock k before s

  pub leave_lock : Lock k before (leave after (move_here k.rho here) (move_instruction k.rho i) (move_state k before s)) (leave before here i s)
  unfolding leave
  leave_lock = leave_by i.operand

  on_lock : (r : Reason) → Lock k before (goes_on after (move_code k.rho here.code) (move_state k before s) r) (goes_on before here.code s r)
  on_lock (caught x) = stuck_lock k before s
  on_lock (leaving ns to) = through_lock here.code ns to
  on_lock (unwinding u) = unwind_to_lock k after before a u s s.below c c.below

  pub end_finally_lock : Lock k before (end_finally after (move_here k.rho here) (move_instruction k.rho i) (move_state k before s)) (end_finally before here i s)
  unfolding end_finally
  end_finally_lock =
      given_moved k before (move_placed k.rho) (innermost here.code s.top.at) _ s _ _ (innermost_moved k.rho s.top.at None 0 here.code.clauses)
      (λ p e. given_lock k before (reason_of p.place s.top.running) s _ _ (λ r is. on_lock r))
