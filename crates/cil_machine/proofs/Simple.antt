-- Simple instructions, where they go on.
use Rattle.std.proofs.Common.{◌≡◌, ℕ, List, [], ◌∷◌, drop, Bool, true, false, Option, Some, None, slice_get, refl, sym, ap, subst, ◌∙◌, if◌then◌else◌}
use Rattle.std.specs.Option.{option_and_then, is_some}
use Rattle.il_base.specs.declared.world_model.known.Known.TheVariants.{Good}
use Rattle.il_base.specs.declared.world_model.expr.TypeExpr.{TypeExpr}
use Rattle.il_base.specs.declared.cil_values.value.Value.{Value}
use Rattle.il_base.specs.declared.cil_values.state.State.{State}
use Rattle.il_base.specs.declared.cil_values.resolved.Instruction.{Instruction}
use Rattle.il_base.specs.declared.cil_values.resolved.Use.{Use}
use Rattle.il_base.specs.declared.cil_values.resolved.Use.TheVariants.{Slot as slot}
use Rattle.rules.specs.step_rules.Queries.{Queries}
use Rattle.rules.specs.step_rules.Next.{Next, went}
use Rattle.rules.specs.step_rules.Words.{Here, given, popped, required, stuck, moved, may_go, goes, goes_with, branches}
use Rattle.rules.specs.step_rules.Comparisons.{Test, test}
use Rattle.rules.specs.step_rules.Branches.{branch_on, branch_test, branch_truth, test_of, truth}
use Rattle.rules.specs.step_rules.Numbers.{binary, convert}
use Rattle.rules.specs.step_rules.Closing.{closed_slot}
use Rattle.rules.specs.step_rules.Stores.{fits}
use Rattle.rules.specs.step_rules.Places.{set_local}
use Rattle.rules.specs.step_rules.Slots.{local_type, store_local, store_slot}
use Rattle.machine_numbers.specs.declared.cil_arithmetic.outcome.Outcome.{Outcome}
use Rattle.machine_numbers.specs.declared.cil_arithmetic.outcome.Outcome.TheVariants as outcome
use Rattle.machine_numbers.specs.cil_conversions.Outcomes.{convert_of}
use Rattle.machine_numbers.specs.cil_numbers.Outcomes.{binary_of, finished, one_over, two_over, with_stack}
use Rattle.machine_numbers.proofs.lemmas.cil_numbers.Outcomes.{binary_from, convert_from}
use Rattle.cil_machine.specs.Quiet.{QuietBy}

instead : (result : Bool) (a b : Next) (s t : State) → a ≡ b → QuietBy result b s t → QuietBy result a s t
instead result a b s t e h = subst (λ (n : Next). QuietBy result n s t) (sym e) h

-- ---- branches

lands : (here : Here) (i : Instruction) (to : ℕ) (stack : List Value) (s : State) (b : Bool) → branch_on here i to stack s b ≡ branches here i (if b then to else i.next) stack s
unfolding branches goes_with
lands here i to stack s true = refl
lands here i to stack s false = refl

pub on_one : (here : Here) (i : Instruction) (to at : ℕ) (s t : State) (w : Bool → Bool) (v : Value) (rest : List Value) (so result : Bool)
    → s.top.stack ≡ v ∷ rest → truth v ≡ Some so → at ≡ (if w so then to else i.next) → QuietBy result (branches here i at (drop 1 s.top.stack) s) s t → QuietBy result (branch_truth here i to s w) s t
on_one here i to at s t w v rest so result e is lies h =
    let turn : List Value → Value → Option Bool → Next = λ stack x o. given o s (λ b. branch_on here i to stack s (w b)) in
    let first : branch_truth here i to s w ≡ turn rest v (truth v) = ap (λ (vs : List Value). popped vs s (λ x stack. turn stack x (truth x))) e in
    let second : turn rest v (truth v) ≡ branch_on here i to rest s (w so) = ap (turn rest v) is in
    let third : branches here i (if w so then to else i.next) rest s ≡ branches here i at (drop 1 s.top.stack) s = ap (λ (x : ℕ). branches here i x rest s) (sym lies) ∙ ap (λ (vs : List Value). branches here i at (drop 1 vs) s) (sym e) in
    instead result (branch_truth here i to s w) (branches here i at (drop 1 s.top.stack) s) s t (first ∙ second ∙ lands here i to rest s (w so) ∙ third) h

tested : (here : Here) (i : Instruction) (to : ℕ) (s : State) (a b : Value) (rest : List Value) (so : Bool) (o : Option Test) → s.top.stack ≡ b ∷ a ∷ rest → option_and_then (λ t. test t a b) o ≡ Some so
    → given o s (branch_test here i to s) ≡ branch_on here i to rest s so
tested here i to s a b rest so None e is = cc
tested here i to s a b rest so (Some t) e is =
    ap (λ (vs : List Value). popped vs s (λ x below. popped below s (λ y stack. given (test t y x) s (branch_on here i to stack s)))) e
    ∙ ap (λ (o : Option Bool). given o s (branch_on here i to rest s)) is

two : (s : State) (a b : Value) (mid rest : List Value) → s.top.stack ≡ b ∷ mid → mid ≡ a ∷ rest → s.top.stack ≡ b ∷ a ∷ rest
two s a b mid rest e f = e ∙ ap (λ (vs : List Value). b ∷ vs) f

pub on_two : (here : Here) (i : Instruction) (to at : ℕ) (s t : State) (a b : Value) (mid rest : List Value) (so result : Bool)
    → s.top.stack ≡ b ∷ mid → mid ≡ a ∷ rest → option_and_then (λ t. test t a b) (test_of i.opcode) ≡ Some so → at ≡ (if so then to else i.next)
    → QuietBy result (branches here i at (drop 2 s.top.stack) s) s t → QuietBy result (given (test_of i.opcode) s (branch_test here i to s)) s t
on_two here i to at s t a b mid rest so result e f is lies h =
    let whole = two s a b mid rest e f in
    let last : branches here i (if so then to else i.next) rest s ≡ branches here i at (drop 2 s.top.stack) s = ap (λ (x : ℕ). branches here i x rest s) (sym lies) ∙ ap (λ (vs : List Value). branches here i at (drop 2 vs) s) (sym whole) in
    instead result (given (test_of i.opcode) s (branch_test here i to s)) (branches here i at (drop 2 s.top.stack) s) s t (tested here i to s a b rest so (test_of i.opcode) whole is ∙ lands here i to rest s so ∙ last) h

-- ---- numbers

on_any_stack : (b : Bool) (at : ℕ) (vs stack : List Value) (s : State) → required b (with_stack vs s) (went (moved at stack (with_stack vs s)) []) ≡ required b s (went (moved at stack s) [])
on_any_stack true at vs stack s = refl
on_any_stack false at vs stack s = refl

goes_on : (here : Here) (i : Instruction) (vs stack : List Value) (s : State) → goes here i stack (with_stack vs s) ≡ goes here i stack s
unfolding goes_with
goes_on here i vs stack s = on_any_stack (may_go here.code i.at i.next) i.next vs stack s

pub of_two : (q : Queries) (here : Here) (i : Instruction) (s t : State) (a b v : Value) (mid rest : List Value) (result : Bool)
    → s.top.stack ≡ b ∷ mid → mid ≡ a ∷ rest → binary_of i.opcode a b ≡ Some (outcome.Gives v)
    → QuietBy result (goes here i (v ∷ drop 2 s.top.stack) s) s t → QuietBy result (binary q here i s) s t
of_two q here i s t a b v mid rest result e f is h =
    let whole = with_stack (b ∷ a ∷ rest) (with_stack rest s) in
    let given_so : two_over q here i a b (with_stack rest s) ≡ goes here i (v ∷ rest) whole = ap (λ (o : Option Outcome). given o whole (finished q here i rest whole)) is in
    let left : goes here i (v ∷ rest) s ≡ goes here i (v ∷ drop 2 s.top.stack) s = ap (λ (vs : List Value). goes here i (v ∷ drop 2 vs) s) (sym (two s a b mid rest e f)) in
    instead result (binary q here i s) (goes here i (v ∷ drop 2 s.top.stack) s) s t (binary_from q here i s a b mid rest e f ∙ given_so ∙ goes_on here i (b ∷ a ∷ rest) (v ∷ rest) s ∙ left) h

pub of_one : (q : Queries) (here : Here) (i : Instruction) (s t : State) (v w : Value) (rest : List Value) (result : Bool)
    → s.top.stack ≡ v ∷ rest → convert_of i.opcode v ≡ Some (outcome.Gives w)
    → QuietBy result (goes here i (w ∷ drop 1 s.top.stack) s) s t → QuietBy result (convert q here i s) s t
of_one q here i s t v w rest result e is h =
    let whole = with_stack (v ∷ rest) (with_stack rest s) in
    let given_so : one_over q here i v (with_stack rest s) ≡ goes here i (w ∷ rest) whole = ap (λ (o : Option Outcome). given o whole (finished q here i rest whole)) is in
    let left : goes here i (w ∷ rest) s ≡ goes here i (w ∷ drop 1 s.top.stack) s = ap (λ (vs : List Value). goes here i (w ∷ drop 1 vs) s) (sym e) in
    instead result (convert q here i s) (goes here i (w ∷ drop 1 s.top.stack) s) s t (convert_from q here i s v rest e ∙ given_so ∙ goes_on here i (v ∷ rest) (w ∷ rest) s ∙ left) h

-- ---- stores

kept : (q : Queries) (here : Here) (i : Instruction) (s : State) (k : ℕ) (v w : Value) (o : Option TypeExpr) → option_and_then (λ e. fits q e v) o ≡ Some w
    → (stack : List Value) → given o s (λ e. given (fits q e v) s (λ w. goes here i stack (record s { top = set_local k w s.top }))) ≡ goes here i stack (record s { top = set_local k w s.top })
kept q here i s k v w None is stack = cc
kept q here i s k v w (Some e) is stack = ap (λ (o : Option Value). given o s (λ w. goes here i stack (record s { top = set_local k w s.top }))) is

takes : (q : Queries) (here : Here) (i : Instruction) (s : State) (k : ℕ) (v : Value) (rest : List Value) (o : Option TypeExpr) → s.top.stack ≡ v ∷ rest
    → given o s (λ e. popped s.top.stack s (λ v stack. given (fits q e v) s (λ w. goes here i stack (record s { top = set_local k w s.top }))))
    ≡ given o s (λ e. given (fits q e v) s (λ w. goes here i rest (record s { top = set_local k w s.top })))
takes q here i s k v rest None is = refl
takes q here i s k v rest (Some e) is = ap (λ (vs : List Value). popped vs s (λ v stack. given (fits q e v) s (λ w. goes here i stack (record s { top = set_local k w s.top })))) is

module _ (q : Queries) (here : Here) (i : Instruction) (s t : State) (k : ℕ) (types : List TypeExpr) (ty : TypeExpr) (x v w : Value) (rest : List Value)
    (operand : i.operand ≡ slot k) (locals : here.code.locals ≡ Good types) (typed : slice_get types k ≡ Some ty) (there : slice_get s.top.locals k ≡ Some x) (stack : s.top.stack ≡ v ∷ rest)
    (fit : option_and_then (λ e. fits q e v) (closed_slot q here.targs here.margs ty) ≡ Some w) (may : may_go here.code i.at i.next ≡ true) where
  type_is : local_type q here k ≡ closed_slot q here.targs here.margs ty
  unfolding local_type
  type_is = rw (locals, typed) refl

  goes_by : goes here i rest (record s { top = set_local k w s.top }) ≡ went (moved i.next rest (record s { top = set_local k w s.top })) []
  unfolding goes_with
  goes_by = ap (λ (b : Bool). required b (record s { top = set_local k w s.top }) (went (moved i.next rest (record s { top = set_local k w s.top })) [])) may

  slot_is : store_slot q here i s s.top.locals k (local_type q here k) (set_local k) ≡ goes here i rest (record s { top = set_local k w s.top })
  slot_is =
      ap (λ (o : Option Value). required (is_some o) s (given (local_type q here k) s (λ e. popped s.top.stack s (λ v stack. given (fits q e v) s (λ w. goes here i stack (record s { top = set_local k w s.top })))))) there
      ∙ ap (λ (o : Option TypeExpr). given o s (λ e. popped s.top.stack s (λ v stack. given (fits q e v) s (λ w. goes here i stack (record s { top = set_local k w s.top }))))) type_is
      ∙ takes q here i s k v rest (closed_slot q here.targs here.margs ty) stack
      ∙ kept q here i s k v w (closed_slot q here.targs here.margs ty) fit rest

  operand_is : store_local q here i s ≡ store_slot q here i s s.top.locals k (local_type q here k) (set_local k)
  unfolding store_local
  operand_is = ap (λ (u : Use). elim u [ slot n ↦ store_slot q here i s s.top.locals n (local_type q here n) (set_local n) | _ ↦ stuck s ]) operand

  stored : store_local q here i s ≡ went (moved i.next (drop 1 s.top.stack) (record s { top = set_local k w s.top })) []
  stored = operand_is ∙ slot_is ∙ goes_by ∙ ap (λ (vs : List Value). went (moved i.next (drop 1 vs) (record s { top = set_local k w s.top })) []) (sym stack)

  pub stores : t ≡ moved i.next (drop 1 s.top.stack) (record s { top = set_local k w s.top }) → (store_local q here i s ≡ went t []) × (t.top.method ≡ s.top.method)
  stores is = (stored ∙ ap (λ (u : State). went u []) (sym is), ap (λ (u : State). u.top.method) is)
