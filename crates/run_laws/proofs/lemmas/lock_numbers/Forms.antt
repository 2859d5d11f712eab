-- One lemma for each form on numbers, and for each branch.
use Rattle.std.proofs.Common.{◌≡◌, ℕ, ℤ, pos, Bool, true, false, ◌&&◌, not, List, ◌∷◌, Option, Some, None, refl, sym, subst}
use Rattle.std.specs.Prelude.{IsTrue, slice_get, nat_le, ◌+◌, ◌-◌, ◌*◌, ◌/◌, ◌%◌, ◌==◌, ◌+ℤ◌, ◌-ℤ◌, ◌*ℤ◌, int_div, int_rem, if◌then◌else◌}
use Rattle.std.specs.Int.{Width, w32, w64, cast_signed, cast_unsigned}
use Rattle.il_base.specs.declared.core_table.names.CoreName.{CoreName}
use Rattle.il_base.specs.declared.core_table.names.CoreName.TheVariants as name
use Rattle.il_base.specs.declared.cil_values.value.Value.{Value, out-Value, roll-Value}
use Rattle.il_base.specs.declared.cil_values.value.Value.TheVariants as value
use Rattle.il_base.specs.declared.cil_values.resolved.Instruction.{Instruction}
use Rattle.il_base.specs.declared.cil_values.resolved.Use.{Use}
use Rattle.il_base.specs.declared.cil_values.resolved.Use.TheVariants.{Target as target, Targets as targets}
use Rattle.il_base.specs.declared.cil_values.state.State.{State}
use Rattle.il_base.specs.declared.opcode.TheConstants as opcode
use Rattle.il_base.specs.declared.opcode.TheConstants.{BRFALSE, BRFALSE_S, BRTRUE, BRTRUE_S}
use Rattle.rules.specs.step_rules.Queries.{Queries}
use Rattle.rules.specs.step_rules.Words.{Here, stuck, popped, goes, branches, truth_value}
use Rattle.rules.specs.step_rules.Integers.{fits_signed, fits_unsigned, number}
use Rattle.rules.specs.step_rules.Comparisons.{Test, Numbers, numbers, test}
use Rattle.rules.specs.step_rules.Numbers.{Answer, is, raises, is_if, exactly, is_zero, unless_zero, arithmetic, answered, arithmetic_of, is_shift, shift_count, shift, comparison, compute_values, binary, unary_of, unary, Conversion, conversion, operand_of, has_number, converted, convert}
use Rattle.rules.specs.step_rules.Branches.{branch, branch_on, truth, is_either, test_of, branch_truth, branch_test, same, branch_to, branch_if, switch_to, switch_on, switch}
use Rattle.rules.specs.change_rules.Change.{Change}
use Rattle.rules.specs.change_rules.Moves.{move_value, move_values}
use Rattle.rules.specs.change_rules.Answers.{move_here, move_operand, move_instruction}
use Rattle.rules.specs.change_rules.States.{move_state}
use Rattle.rules.specs.change_rules.Keeps.{keeps_value, keeps_values}
use Rattle.rules.specs.change_rules.Covered.{Covered}
use Rattle.rules.specs.change_rules.Agree.{Agree, is_asked}
use Rattle.rules.specs.change_rules.Lock.{Lock}
use Rattle.base_laws.proofs.lemmas.change_laws.Values.{move_i4, move_i8, move_native, keeps_i4, keeps_i8, keeps_native}
use Rattle.run_laws.proofs.lemmas.lock_words.Words.{stuck_lock, given_lock, given_same, if_lock, popped_lock, goes_lock, push_lock, branches_lock}
use Rattle.run_laws.proofs.lemmas.lock_words.Cases.{kept_cases, alike}
use Rattle.run_laws.proofs.lemmas.lock_words.Fits.{number_moved, number_kept}
use Rattle.run_laws.proofs.lemmas.lock_throwing.Searching.{raise_lock}
use Rattle.run_laws.proofs.lemmas.lock_numbers.Comparing.{numbers_moved, test_moved}

-- ---- what is raised

data Fine : Answer → Type 0 where
  fine : (n : ℤ) → Fine (is n)
  raised : (n : CoreName) → IsTrue (is_asked n) → Fine (raises n)

data AllFine : Option Answer → Type 0 where
  nothing : AllFine None
  one : (x : Answer) → Fine x → AllFine (Some x)

either : {A : Type 0} (P : A → Type 0) (b : Bool) (x y : A) → P x → P y → P (if b then x else y)
either P true x y p q = p
either P false x y p q = q

overflows : Fine (raises name.OverflowException)
unfolding is_asked
overflows = raised name.OverflowException refl

divides_zero : Fine (raises name.DivideByZeroException)
unfolding is_asked
divides_zero = raised name.DivideByZeroException refl

if_fits : (b : Bool) (n : ℤ) → Fine (is_if b n)
if_fits b n = either Fine b (is n) (raises name.OverflowException) (fine n) overflows

unless_fine : (n : ℤ) (x : Answer) → Fine x → Fine (unless_zero n x)
unless_fine n x f = either Fine (is_zero n) (raises name.DivideByZeroException) x divides_zero f

arithmetic_fine : (code : ℕ) (w : Width) (m n : ℤ) → AllFine (arithmetic code w m n)
unfolding arithmetic
arithmetic_fine code w m n =
    either AllFine (code == opcode.ADD) _ _ (one _ (fine _))
    (either AllFine (code == opcode.SUB) _ _ (one _ (fine _))
    (either AllFine (code == opcode.MUL) _ _ (one _ (fine _))
    (either AllFine (code == opcode.DIV) _ _ (one _ (unless_fine n (exactly w (int_div m n)) (if_fits (fits_signed w (int_div m n)) (int_div m n))))
    (either AllFine (code == opcode.DIV_UN) _ _ (one _ (unless_fine n (is (cast_signed w (cast_unsigned w m / cast_unsigned w n))) (fine _)))
    (either AllFine (code == opcode.REM) _ _ (one _ (unless_fine n (is_if (fits_signed w (int_div m n)) (int_rem m n)) (if_fits (fits_signed w (int_div m n)) (int_rem m n))))
    (either AllFine (code == opcode.REM_UN) _ _ (one _ (unless_fine n (is (cast_signed w (cast_unsigned w m % cast_unsigned w n))) (fine _)))
    (either AllFine (code == opcode.AND) _ _ (one _ (fine _))
    (either AllFine (code == opcode.OR) _ _ (one _ (fine _))
    (either AllFine (code == opcode.XOR) _ _ (one _ (fine _))
    (either AllFine (code == opcode.ADD_OVF) _ _ (one _ (if_fits (fits_signed w (m +ℤ n)) (m +ℤ n)))
    (either AllFine (code == opcode.ADD_OVF_UN) _ _ (one _ (if_fits (fits_unsigned w (cast_unsigned w m + cast_unsigned w n)) (cast_signed w (cast_unsigned w m + cast_unsigned w n))))
    (either AllFine (code == opcode.SUB_OVF) _ _ (one _ (if_fits (fits_signed w (m -ℤ n)) (m -ℤ n)))
    (either AllFine (code == opcode.SUB_OVF_UN) _ _ (one _ (if_fits (nat_le (cast_unsigned w n) (cast_unsigned w m)) (cast_signed w (cast_unsigned w m - cast_unsigned w n))))
    (either AllFine (code == opcode.MUL_OVF) _ _ (one _ (if_fits (fits_signed w (m *ℤ n)) (m *ℤ n)))
    (either AllFine (code == opcode.MUL_OVF_UN) _ _ (one _ (if_fits (fits_unsigned w (cast_unsigned w m * cast_unsigned w n)) (cast_signed w (cast_unsigned w m * cast_unsigned w n)))) nothing)))))))))))))))

fine_of : (x : Answer) → AllFine (Some x) → Fine x
fine_of x (one _ f) = f

converted_fine : (c : Conversion) (n : ℤ) → Fine (converted c n)
unfolding converted
converted_fine c n = either Fine (c.checked && not (has_number c.to n)) (raises name.OverflowException) (is n) overflows (fine n)

-- ---- values that don't move

record Still (k : Change) (v : Value) : Type 0 where
  moves : v ≡ move_value k.rho v
  kept : IsTrue (keeps_value k.keep v)

module _ (k : Change) where
  still_i4 : (n : ℤ) → Still k (value.I4 n)
  still_i4 n = record { moves = sym (move_i4 k.rho n); kept = keeps_i4 k.keep n }

  still_i8 : (n : ℤ) → Still k (value.I8 n)
  still_i8 n = record { moves = sym (move_i8 k.rho n); kept = keeps_i8 k.keep n }

  still_native : (n : ℤ) → Still k (value.Native n)
  still_native n = record { moves = sym (move_native k.rho n); kept = keeps_native k.keep n }

  still_truth : (b : Bool) → Still k (truth_value b)
  still_truth true = still_i4 (pos 1)
  still_truth false = still_i4 (pos 0)

  still_number : (code : ℕ) (n : ℤ) → Still k (number code n)
  still_number code n = record { moves = sym (number_moved k.rho code n); kept = number_kept k.keep code n }

  abbrev StillBack : Numbers → Type 0
  StillBack n = (z : ℤ) → Still k (n.back z)

  numbers_still : (v w : Value) (n : Numbers) → numbers v w ≡ Some n → StillBack n
  unfolding numbers
  numbers_still (value.I4 a) (value.I4 b) n e = let is : record { width = w32; left = a; right = b; back = λ z. value.I4 z } ≡ n = cc in subst StillBack is still_i4
  numbers_still (value.I4 a) (value.Native b) n e = let is : record { width = w64; left = a; right = b; back = λ z. value.Native z } ≡ n = cc in subst StillBack is still_native
  numbers_still (value.Native a) (value.I4 b) n e = let is : record { width = w64; left = a; right = b; back = λ z. value.Native z } ≡ n = cc in subst StillBack is still_native
  numbers_still (value.Native a) (value.Native b) n e = let is : record { width = w64; left = a; right = b; back = λ z. value.Native z } ≡ n = cc in subst StillBack is still_native
  numbers_still (value.I8 a) (value.I8 b) n e = let is : record { width = w64; left = a; right = b; back = λ z. value.I8 z } ≡ n = cc in subst StillBack is still_i8
  numbers_still v w n e = cc

  as_still : (v w : Value) → Still k v → Some v ≡ Some w → Still k w
  as_still v w s e = let is : v ≡ w = cc in subst (Still k) is s

  shift_still : (code : ℕ) (v : Value) (count : ℕ) (w : Value) → shift code v count ≡ Some w → Still k w
  unfolding shift
  shift_still code value.Null count w e = cc
  shift_still code (value.I4 n) count w e = as_still _ w (still_i4 _) e
  shift_still code (value.I8 n) count w e = as_still _ w (still_i8 _) e
  shift_still code (value.Native n) count w e = as_still _ w (still_native _) e
  shift_still code (value.Object a) count w e = cc
  shift_still code (value.Pointer p) count w e = cc
  shift_still code (value.Handle t) count w e = cc
  shift_still code (value.FieldHandle f) count w e = cc
  shift_still code v count w e = cc

  shift_moved : (code : ℕ) (v : Value) (count : ℕ) → shift code (move_value k.rho v) count ≡ shift code v count
  unfolding shift roll-Value denote.Hole.Carrier.roll out-Value denote.Hole.Carrier.out
  shift_moved code v count = alike k.rho (λ x. shift code x count) (λ p. refl) (λ e cells. refl) (λ e. refl) (λ f. refl) v

  count_moved : (v : Value) → shift_count (move_value k.rho v) ≡ shift_count v
  unfolding shift_count roll-Value denote.Hole.Carrier.roll out-Value denote.Hole.Carrier.out
  count_moved v = alike k.rho shift_count (λ p. refl) (λ e cells. refl) (λ e. refl) (λ f. refl) v

  unary_still : (code : ℕ) (v w : Value) → unary_of code v ≡ Some w → Still k w
  unfolding unary_of
  unary_still code value.Null w e = cc
  unary_still code (value.I4 n) w e = as_still _ w (still_i4 _) e
  unary_still code (value.I8 n) w e = as_still _ w (still_i8 _) e
  unary_still code (value.Native n) w e = as_still _ w (still_native _) e
  unary_still code (value.Object a) w e = cc
  unary_still code (value.Pointer p) w e = cc
  unary_still code (value.Handle t) w e = cc
  unary_still code (value.FieldHandle f) w e = cc
  unary_still code v w e = cc

  unary_moved : (code : ℕ) (v : Value) → unary_of code (move_value k.rho v) ≡ unary_of code v
  unfolding unary_of roll-Value denote.Hole.Carrier.roll out-Value denote.Hole.Carrier.out
  unary_moved code v = alike k.rho (unary_of code) (λ p. refl) (λ e cells. refl) (λ e. refl) (λ f. refl) v

  operand_moved : (unsigned : Bool) (v : Value) → operand_of unsigned (move_value k.rho v) ≡ operand_of unsigned v
  unfolding operand_of roll-Value denote.Hole.Carrier.roll out-Value denote.Hole.Carrier.out
  operand_moved unsigned v = alike k.rho (operand_of unsigned) (λ p. refl) (λ e cells. refl) (λ e. refl) (λ f. refl) v

  truth_moved : (v : Value) → truth (move_value k.rho v) ≡ truth v
  unfolding truth roll-Value denote.Hole.Carrier.roll out-Value denote.Hole.Carrier.out
  truth_moved v = alike k.rho truth (λ p. refl) (λ e cells. refl) (λ e. refl) (λ f. refl) v

module _ (k : Change) (after before : Queries) (a : Agree k after before) (here : Here) (i : Instruction) (s : State) (c : Covered k.keep before s) where
  abbrev Stack : List Value → Type 0
  Stack stack = IsTrue (keeps_values k.keep stack)

  still_lock : (v : Value) (stack : List Value) → Still k v → Stack stack
      → Lock k before (goes (move_here k.rho here) (move_instruction k.rho i) (v ∷ move_values k.rho stack) (move_state k before s)) (goes here i (v ∷ stack) s)
  still_lock v stack st h = push_lock k before here i v v stack s st.moves c st.kept h

  answered_lock : (back : ℤ → Value) → ((z : ℤ) → Still k (back z)) → (stack : List Value) → Stack stack → (x : Answer) → Fine x
      → Lock k before (answered after (move_here k.rho here) (move_instruction k.rho i) (move_values k.rho stack) (move_state k before s) back x) (answered before here i stack s back x)
  answered_lock back st stack h (is n) f = still_lock (back n) stack (st n) h
  answered_lock back st stack h (raises n) (raised _ asked) = raise_lock k after before a n asked s c

  arithmetic_lock : (stack : List Value) → Stack stack → (n : Numbers) → StillBack k n
      → Lock k before (arithmetic_of after (move_here k.rho here) (move_instruction k.rho i) (move_values k.rho stack) (move_state k before s) n) (arithmetic_of before here i stack s n)
  arithmetic_lock stack h n st =
      given_lock k before (arithmetic i.opcode n.width n.left n.right) s _ _ (λ x e.
      answered_lock n.back st stack h x (fine_of x (subst AllFine e (arithmetic_fine i.opcode n.width n.left n.right))))

  compute_lock : (v w : Value) (stack : List Value) → Stack stack → (o : Option Test)
      → Lock k before (compute_values after (move_here k.rho here) (move_instruction k.rho i) (move_values k.rho stack) (move_state k before s) (move_value k.rho v) (move_value k.rho w) o) (compute_values before here i stack s v w o)
  compute_lock v w stack h (Some t) = given_same k before _ (test t v w) s _ _ (test_moved k t v w) (λ b e. still_lock (truth_value b) stack (still_truth k b) h)
  compute_lock v w stack h None =
      if_lock k before _ (is_shift i.opcode) _ _ _ _ refl
      (λ e. given_same k before _ (shift_count w) s _ _ (count_moved k w) (λ count is.
      given_same k before _ (shift i.opcode v count) s _ _ (shift_moved k i.opcode v count) (λ x xs. still_lock x stack (shift_still k i.opcode v count x xs) h)))
      (λ e. given_same k before _ (numbers v w) s _ _ (numbers_moved k v w) (λ n is. arithmetic_lock stack h n (numbers_still k v w n is)))

  pub binary_lock : Lock k before (binary after (move_here k.rho here) (move_instruction k.rho i) (move_state k before s)) (binary before here i s)
  unfolding binary
  binary_lock =
      popped_lock k before s.top.stack s _ _ c.top.stack (λ w below hw hb. popped_lock k before below s _ _ hb (λ v stack hv hs. compute_lock v w stack hs (comparison i.opcode)))

  pub unary_lock : Lock k before (unary after (move_here k.rho here) (move_instruction k.rho i) (move_state k before s)) (unary before here i s)
  unfolding unary
  unary_lock =
      popped_lock k before s.top.stack s _ _ c.top.stack (λ v stack hv hs.
      given_same k before _ (unary_of i.opcode v) s _ _ (unary_moved k i.opcode v) (λ w e. still_lock w stack (unary_still k i.opcode v w e) hs))

  pub convert_lock : Lock k before (convert after (move_here k.rho here) (move_instruction k.rho i) (move_state k before s)) (convert before here i s)
  unfolding convert
  convert_lock =
      popped_lock k before s.top.stack s _ _ c.top.stack (λ v stack hv hs.
      given_lock k before (conversion i.opcode) s _ _ (λ x e.
      given_same k before _ (operand_of x.unsigned v) s _ _ (operand_moved k x.unsigned v) (λ n is.
      answered_lock (number x.to) (still_number k x.to) stack hs (converted x n) (converted_fine x n))))

  -- ---- branches

  branch_by : (u : Use) → Lock k before (elim (move_operand k.rho u) [ target to ↦ branches (move_here k.rho here) (move_instruction k.rho i) to (move_values k.rho s.top.stack) (move_state k before s) | _ ↦ stuck (move_state k before s) ])
      (elim u [ target to ↦ branches here i to s.top.stack s | _ ↦ stuck s ])
  branch_by (target to) = branches_lock k before here i to s.top.stack s c c.top.stack
  branch_by _ = stuck_lock k before s

  pub branch_lock : Lock k before (branch after (move_here k.rho here) (move_instruction k.rho i) (move_state k before s)) (branch before here i s)
  unfolding branch
  branch_lock = branch_by i.operand

  on_lock : (to : ℕ) (stack : List Value) → Stack stack → (b : Bool)
      → Lock k before (branch_on (move_here k.rho here) (move_instruction k.rho i) to (move_values k.rho stack) (move_state k before s) b) (branch_on here i to stack s b)
  on_lock to stack h true = branches_lock k before here i to stack s c h
  on_lock to stack h false = goes_lock k before here i stack s c h

  branch_truth_lock : (to : ℕ) (wanted : Bool → Bool)
      → Lock k before (branch_truth (move_here k.rho here) (move_instruction k.rho i) to (move_state k before s) wanted) (branch_truth here i to s wanted)
  branch_truth_lock to wanted =
      popped_lock k before s.top.stack s _ _ c.top.stack (λ v stack hv hs. given_same k before _ (truth v) s _ _ (truth_moved k v) (λ b e. on_lock to stack hs (wanted b)))

  branch_test_lock : (to : ℕ) (t : Test) → Lock k before (branch_test (move_here k.rho here) (move_instruction k.rho i) to (move_state k before s) t) (branch_test here i to s t)
  branch_test_lock to t =
      popped_lock k before s.top.stack s _ _ c.top.stack (λ w below hw hb. popped_lock k before below s _ _ hb (λ v stack hv hs.
      given_same k before _ (test t v w) s _ _ (test_moved k t v w) (λ b e. on_lock to stack hs b)))

  branch_to_lock : (to : ℕ) → Lock k before (branch_to (move_here k.rho here) (move_instruction k.rho i) (move_state k before s) to) (branch_to here i s to)
  branch_to_lock to =
      if_lock k before _ (is_either i.opcode BRTRUE BRTRUE_S) _ _ _ _ refl (λ e. branch_truth_lock to same) (λ e.
      if_lock k before _ (is_either i.opcode BRFALSE BRFALSE_S) _ _ _ _ refl (λ f. branch_truth_lock to not) (λ f.
      given_lock k before (test_of i.opcode) s _ _ (λ t is. branch_test_lock to t)))

  branch_if_by : (u : Use) → Lock k before (elim (move_operand k.rho u) [ target to ↦ branch_to (move_here k.rho here) (move_instruction k.rho i) (move_state k before s) to | _ ↦ stuck (move_state k before s) ])
      (elim u [ target to ↦ branch_to here i s to | _ ↦ stuck s ])
  branch_if_by (target to) = branch_to_lock to
  branch_if_by _ = stuck_lock k before s

  pub branch_if_lock : Lock k before (branch_if after (move_here k.rho here) (move_instruction k.rho i) (move_state k before s)) (branch_if before here i s)
  unfolding branch_if
  branch_if_lock = branch_if_by i.operand

  switch_to_lock : (stack : List Value) → Stack stack → (o : Option ℕ)
      → Lock k before (switch_to (move_here k.rho here) (move_instruction k.rho i) (move_values k.rho stack) (move_state k before s) o) (switch_to here i stack s o)
  switch_to_lock stack h None = goes_lock k before here i stack s c h
  switch_to_lock stack h (Some to) = branches_lock k before here i to stack s c h

  switch_on_lock : (tos : List ℕ) (stack : List Value) → Stack stack → (v : Value) → IsTrue (keeps_value k.keep v)
      → Lock k before (switch_on (move_here k.rho here) (move_instruction k.rho i) tos (move_values k.rho stack) (move_state k before s) (move_value k.rho v)) (switch_on here i tos stack s v)
  unfolding roll-Value denote.Hole.Carrier.roll out-Value denote.Hole.Carrier.out
  switch_on_lock tos stack h =
      let out : Lock k before (stuck (move_state k before s)) (stuck s) = stuck_lock k before s in
      kept_cases k (λ w v. Lock k before (switch_on (move_here k.rho here) (move_instruction k.rho i) tos (move_values k.rho stack) (move_state k before s) w) (switch_on here i tos stack s v))
      out (λ n. switch_to_lock stack h (slice_get tos (cast_unsigned w32 n))) (λ n. out) (λ n. out) (λ n. out) (λ p g. out) (λ e cells g f. out) (λ e g. out) (λ f g. out)

  switch_by : (u : Use) → Lock k before (elim (move_operand k.rho u) [ targets tos ↦ popped (move_values k.rho s.top.stack) (move_state k before s) (λ v stack. switch_on (move_here k.rho here) (move_instruction k.rho i) tos stack (move_state k before s) v) | _ ↦ stuck (move_state k before s) ])
      (elim u [ targets tos ↦ popped s.top.stack s (λ v stack. switch_on here i tos stack s v) | _ ↦ stuck s ])
  switch_by (targets tos) = popped_lock k before s.top.stack s _ _ c.top.stack (λ v stack hv hs. switch_on_lock tos stack hs v hv)
  switch_by _ = stuck_lock k before s

  pub switch_lock : Lock k before (switch after (move_here k.rho here) (move_instruction k.rho i) (move_state k before s)) (switch before here i s)
  unfolding switch
  switch_lock = switch_by i.operand
