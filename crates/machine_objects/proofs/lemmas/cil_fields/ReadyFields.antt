-- Accesses to a static field that has a value.
use Rattle.std.proofs.Common.{◌≡◌, ◌∙◌, refl, sym, ap, subst, List, [], ◌∷◌}
use Rattle.std.specs.Prelude.{Option, Some, None}
use Rattle.il_base.specs.declared.world_model.expr.TypeExpr.{TypeExpr}
use Rattle.il_base.specs.declared.cil_values.value.Value.{Value}
use Rattle.il_base.specs.declared.cil_values.value.Value.TheVariants as value
use Rattle.il_base.specs.declared.cil_values.resolved.Instruction.{Instruction}
use Rattle.il_base.specs.declared.cil_values.frame.Frame.{Frame}
use Rattle.il_base.specs.declared.cil_values.state.State.{State}
use Rattle.rules.specs.step_rules.Queries.{Queries}
use Rattle.rules.specs.step_rules.Next.{Next}
use Rattle.rules.specs.step_rules.Words.{given, goes, had, here_in}
use Rattle.rules.specs.step_rules.Closing.{Accessed}
use Rattle.rules.specs.step_rules.Stores.{fits}
use Rattle.rules.specs.step_rules.Places.{global_of, with_global}
use Rattle.rules.specs.step_rules.Fields.{address_static, begins_with, begun_static, first_value, load_static, static_path, static_type, store_static, with_static}
use Rattle.machine_words.specs.declared.cil_words.body.Body.{Body}
use Rattle.machine_words.specs.declared.cil_words.step_out.StepOut.{StepOut}
use Rattle.machine_words.specs.cil_words.Steps.{here_by, next_of}
use Rattle.machine_numbers.specs.cil_pointers.Reaching.{with_stack}
use Rattle.machine_objects.specs.declared.cil_fields.statics.Ready.{Ready}
use Rattle.machine_objects.specs.declared.cil_fields.statics.Ready.TheVariants.{Is, Over}
use Rattle.machine_objects.specs.cil_fields.Placing.{Begins, IsReady}
use Rattle.il_base.specs.declared.cil_values.definition.First.{First}
use Rattle.il_base.specs.declared.cil_values.end.End.TheVariants.{Stopped}
use Rattle.machine_words.specs.declared.cil_words.step_out.StepOut.TheVariants.{Over as Ended}

-- what an access goes on with, in a frame
abbrev pub loads_in : Body → Instruction → Accessed → Frame → State → Next
loads_in b i a f t = had (global_of t a.id a.owner) t (λ v. goes (here_in f b.method.now b.code.now) i (v ∷ f.stack) t)

abbrev pub points_in : Body → Instruction → Accessed → TypeExpr → Frame → State → Next
points_in b i a e f t = goes (here_in f b.method.now b.code.now) i (value.Pointer (static_path a e) ∷ f.stack) t

abbrev pub stores_in : Queries → Body → Instruction → Accessed → Value → TypeExpr → Frame → State → Next
stores_in q b i a v e f t = given (fits q e v) t (λ w. goes (here_in f b.method.now b.code.now) i f.stack (with_global a.id a.owner w t))

module _ (q : Queries) (b : Body) (i : Instruction) (a : Accessed) (s t : State) (ready : Ready) (is_ready : IsReady q a s t ready) (vs : List Value) where
  over : (out : StepOut) → ready ≡ Over out → (f : TypeExpr → State → Next) → next_of out t [] ≡ with_static q a (with_stack vs s) f
  over out is f = let P : Ready → Type 0 = λ r. IsReady q a s t r in sym (subst P is is_ready vs f)

  pub load_over : (out : StepOut) → ready ≡ Over out → next_of out t [] ≡ load_static q (here_by b s) i a s.top.stack (with_stack vs s)
  load_over out is = over out is (λ e x. loads_in b i a s.top x)

  pub address_over : (out : StepOut) → ready ≡ Over out → next_of out t [] ≡ address_static q (here_by b s) i a s.top.stack (with_stack vs s)
  address_over out is = over out is (λ e x. points_in b i a e s.top x)

  pub store_over : (v : Value) (out : StepOut) → ready ≡ Over out → next_of out t [] ≡ store_static q (here_by b s) i a v s.top.stack (with_stack vs s)
  store_over v out is = over out is (λ e x. stores_in q b i a v e s.top x)

  goes_on : (n : Next) (e : TypeExpr) → ready ≡ Is e → (f : Frame → TypeExpr → State → Next) → n ≡ f t.top e (with_stack vs t) → n ≡ with_static q a (with_stack vs s) (f s.top)
  goes_on n e is f on =
      let P : Ready → Type 0 = λ r. IsReady q a s t r in
      let known : IsReady q a s t (Is e) = subst P is is_ready in
      on ∙ ap (λ (x : Frame). f x e (with_stack vs t)) known.0 ∙ sym (known.1 vs (f s.top))

  pub load_ready : (n : Next) (e : TypeExpr) → ready ≡ Is e → n ≡ loads_in b i a t.top (with_stack vs t) → n ≡ load_static q (here_by b s) i a s.top.stack (with_stack vs s)
  load_ready n e is on = goes_on n e is (λ f e x. loads_in b i a f x) on

  pub address_ready : (n : Next) (e : TypeExpr) → ready ≡ Is e → n ≡ points_in b i a e t.top (with_stack vs t) → n ≡ address_static q (here_by b s) i a s.top.stack (with_stack vs s)
  address_ready n e is on = goes_on n e is (λ f e x. points_in b i a e f x) on

  pub store_ready : (v : Value) (n : Next) (e : TypeExpr) → ready ≡ Is e → n ≡ stores_in q b i a v e t.top (with_stack vs t) → n ≡ store_static q (here_by b s) i a v s.top.stack (with_stack vs s)
  store_ready v n e is on = goes_on n e is (λ f e x. stores_in q b i a v e f x) on

-- ---- how a static field begins

abbrev pub BeginsWith : Accessed → State → State → Option StepOut → Option Value → Type 0
BeginsWith a s t over v = Begins (λ s f. had v s (begins_with a s f)) s t over

abbrev pub BeginsFirst : Queries → Accessed → TypeExpr → State → State → Option StepOut → First → Type 0
BeginsFirst q a e s t over first = Begins (λ s f. first_value q a s f e first) s t over

abbrev pub BeginsStatic : Queries → Accessed → TypeExpr → State → State → Option StepOut → Type 0
BeginsStatic q a e s t over = Begins (λ s f. begun_static q a s f e (global_of s a.id a.owner)) s t over

pub first_is : (q : Queries) (a : Accessed) (e : TypeExpr) (s t : State) (over : Option StepOut) (x y : First) → x ≡ y → BeginsFirst q a e s t over y → BeginsFirst q a e s t over x
first_is q a e s t over x y is begins = let P : First → Type 0 = λ z. BeginsFirst q a e s t over z in subst P (sym is) begins

-- one that has a value stays
pub was_begun : (q : Queries) (a : Accessed) (e : TypeExpr) (s : State) (v : Value) → global_of s a.id a.owner ≡ Some v → BeginsStatic q a e s s None
unfolding global_of
was_begun q a e s v is = (refl, λ vs f. ap (λ (o : Option Value). begun_static q a (with_stack vs s) f e o) is)

pub first_begun : (q : Queries) (a : Accessed) (e : TypeExpr) (s t : State) (over : Option StepOut) → global_of s a.id a.owner ≡ None → BeginsFirst q a e s t over a.field.first → BeginsStatic q a e s t over
unfolding global_of
first_begun q a e s t None is begins = (begins.0, λ vs f. ap (λ (o : Option Value). begun_static q a (with_stack vs s) f e o) is ∙ begins.1 vs f)
first_begun q a e s t (Some out) is begins = λ vs f. ap (λ (o : Option Value). begun_static q a (with_stack vs s) f e o) is ∙ begins vs f

module _ (q : Queries) (a : Accessed) (s t : State) where
  pub ready_on : (e : TypeExpr) (begun : Option StepOut) → static_type q a ≡ Some e → begun ≡ None → BeginsStatic q a e s t begun → IsReady q a s t (Is e)
  unfolding with_static
  ready_on e begun typ is begins =
      let P : Option StepOut → Type 0 = λ x. BeginsStatic q a e s t x in
      let known : BeginsStatic q a e s t None = subst P is begins in
      (known.0, λ vs f. ap (λ (o : Option TypeExpr). had o (with_stack vs s) (λ e. begun_static q a (with_stack vs s) (f e) e (global_of (with_stack vs s) a.id a.owner))) typ ∙ known.1 vs (f e))

  pub ready_over : (e : TypeExpr) (begun : Option StepOut) (out : StepOut) → static_type q a ≡ Some e → begun ≡ Some out → BeginsStatic q a e s t begun → IsReady q a s t (Over out)
  unfolding with_static
  ready_over e begun out typ is begins =
      let P : Option StepOut → Type 0 = λ x. BeginsStatic q a e s t x in
      let known : BeginsStatic q a e s t (Some out) = subst P is begins in
      λ vs f. ap (λ (o : Option TypeExpr). had o (with_stack vs s) (λ e. begun_static q a (with_stack vs s) (f e) e (global_of (with_stack vs s) a.id a.owner))) typ ∙ known vs (f e)

  pub ready_not : (out : StepOut) → static_type q a ≡ None → out ≡ Ended (Stopped s.top.method.method s.top.at) → IsReady q a s t (Over out)
  unfolding with_static
  ready_not out typ is = λ vs f.
      ap (λ (o : Option TypeExpr). had o (with_stack vs s) (λ e. begun_static q a (with_stack vs s) (f e) e (global_of (with_stack vs s) a.id a.owner))) typ
      ∙ sym (ap (λ (x : StepOut). next_of x t []) is)
