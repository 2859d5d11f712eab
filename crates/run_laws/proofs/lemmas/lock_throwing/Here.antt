-- The running method under new numbers: what a frame runs, its clauses, and the handlers that it is in.
use Rattle.std.proofs.Common.{◌≡◌, ℕ, suc, Bool, List, [], ◌∷◌, map, take, Option, Some, None, refl, ap, subst, ◌∙◌}
use Rattle.std.specs.Prelude.{IsTrue, slice_get, nat_eq, if◌then◌else◌}
use Rattle.std.specs.List.{list_all, filter}
use Rattle.std.specs.Option.{option_map, option_and_then}
use Rattle.std.specs.Cmp.{first_so, second_so}
use Rattle.std.proofs.lemmas.Option.{slice_get-map}
use Rattle.std.proofs.lemmas.List.{take-map}
use Rattle.il_base.specs.declared.world_model.known.Known.{Known}
use Rattle.il_base.specs.declared.world_model.known.Known.TheVariants.{Good, Bad}
use Rattle.il_base.specs.world_model.Worlds.{known_map}
use Rattle.il_base.specs.declared.world_model.expr.TypeExpr.{TypeExpr}
use Rattle.il_base.specs.declared.cil_values.definition.Method.{Method}
use Rattle.il_base.specs.declared.cil_values.resolved.Code.{Code}
use Rattle.il_base.specs.declared.cil_values.resolved.Clause.{Clause}
use Rattle.il_base.specs.declared.cil_values.frame.Frame.{Frame}
use Rattle.il_base.specs.declared.cil_values.frame.Running.{Running}
use Rattle.rules.specs.step_rules.Queries.{Queries}
use Rattle.rules.specs.step_rules.Words.{Here, good, here_in, here_of}
use Rattle.rules.specs.step_rules.Raising.{add_if, places_of, is_in, still_running, is_unwound, unwound_in, unwound_within, left_here, left_in}
use Rattle.rules.specs.change_rules.Change.{Rho, Keep, Change}
use Rattle.rules.specs.change_rules.Moves.{move_exprs}
use Rattle.rules.specs.change_rules.Answers.{move_clause, move_code, move_method, move_here}
use Rattle.rules.specs.change_rules.States.{move_frame}
use Rattle.rules.specs.change_rules.Keeps.{keeps_expr, shows_expr, keeps_use, keeps_code, keeps_body, keeps_method}
use Rattle.rules.specs.change_rules.Agree.{Agree}
use Rattle.run_laws.proofs.lemmas.lock_words.Definitions.{args_moved, args_shown}

-- ---- clauses

pub places_moved : (r : Rho) (test : Clause → Bool) → ((c : Clause) → test (move_clause r c) ≡ test c) → (n : ℕ) (cs : List Clause) → places_of test n (map (move_clause r) cs) ≡ places_of test n cs
unfolding places_of
places_moved r test h n [] = refl
places_moved r test h n (c ∷ cs) = λ i. add_if (h c i) n (places_moved r test h (suc n) cs i)

is_in_moved : (r : Rho) (o : Option Clause) (at : ℕ) → is_in (option_map (move_clause r) o) at ≡ is_in o at
is_in_moved r None at = refl
is_in_moved r (Some c) at = refl

pub still_running_moved : (r : Rho) (code : Code) (at : ℕ) (running : List Running) → still_running (move_code r code) at running ≡ still_running code at running
unfolding still_running
still_running_moved r code at running =
    ap (λ (p : Running → Bool). filter p running)
    (λ i x. (ap (λ (o : Option Clause). is_in o at) (slice_get-map (move_clause r) code.clauses x.clause) ∙ is_in_moved r (slice_get code.clauses x.clause) at) i)

-- ---- what a frame runs

-- what is known of the method that runs
pub record KeptHere (k : Keep) (q : Queries) (here : Here) : Type 0 where
  pub method : IsTrue (keeps_method k q here.method)
  pub code : IsTrue (keeps_code k q here.code)
  pub targs : IsTrue (list_all (shows_expr k) here.targs)
  pub margs : IsTrue (list_all (shows_expr k) here.margs)

abbrev bodies : Frame → Method → Option (Known Code) → Option Here
bodies f m o = option_and_then (λ body. option_and_then (λ code. Some (here_in f m code)) (good body)) o

module _ (k : Change) (after before : Queries) (a : Agree k after before) where
  use_method : (f : Frame) → IsTrue (keeps_use k.keep f.method) → IsTrue (k.keep.method f.method.method.0)
  use_method f h = first_so (k.keep.method f.method.method.0) (k.keep.called f.method.method.0) (first_so _ _ (first_so _ (list_all (shows_expr k.keep) f.method.args) h))

  use_owner : (f : Frame) → IsTrue (keeps_use k.keep f.method) → IsTrue (keeps_expr k.keep f.method.owner)
  use_owner f h = second_so _ _ (first_so _ (list_all (shows_expr k.keep) f.method.args) h)

  bodies_moved : (f : Frame) (m : Method) (o : Option (Known Code))
      → bodies (move_frame k.rho f) (move_method k.rho m) (option_map (known_map (move_code k.rho)) o) ≡ option_map (move_here k.rho) (bodies f m o)
  bodies_moved f m None = refl
  bodies_moved f m (Some (Good code)) =
      ap (λ (ts : List TypeExpr). Some (record { method = move_method k.rho m; code = move_code k.rho code; targs = ts; margs = move_exprs k.rho f.method.args }))
      (args_moved k.rho f.method.owner)
  bodies_moved f m (Some (Bad why)) = refl

  methods_moved : (f : Frame) (o : Option Method)
      → option_and_then (λ (m : Method). bodies (move_frame k.rho f) m m.body) (option_map (move_method k.rho) o) ≡ option_map (move_here k.rho) (option_and_then (λ (m : Method). bodies f m m.body) o)
  methods_moved f None = refl
  methods_moved f (Some m) = bodies_moved f m m.body

  pub here_moved : (f : Frame) → IsTrue (keeps_use k.keep f.method) → here_of after (move_frame k.rho f) ≡ option_map (move_here k.rho) (here_of before f)
  unfolding here_of
  here_moved f h =
      ap (option_and_then (λ (m : Method). bodies (move_frame k.rho f) m m.body)) (a.method f.method.method.0 (use_method f h)) ∙ methods_moved f (before.method f.method.method.0)

  kept_body : (f : Frame) (h : IsTrue (keeps_use k.keep f.method)) (m : Method) (here : Here) → IsTrue (keeps_method k.keep before m)
      → (o : Option (Known Code)) → IsTrue (keeps_body k.keep before o) → bodies f m o ≡ Some here → KeptHere k.keep before here
  kept_body f h m here km None kb e = cc
  kept_body f h m here km (Some (Good code)) kb e =
      let is : here_in f m code ≡ here = cc in
      subst (KeptHere k.keep before) is (record {
        method = km;
        code = kb;
        targs = args_shown k.keep f.method.owner (use_owner f h);
        margs = second_so _ (list_all (shows_expr k.keep) f.method.args) h;
      })
  kept_body f h m here km (Some (Bad why)) kb e = cc

  kept_method : (f : Frame) (h : IsTrue (keeps_use k.keep f.method)) (here : Here) (o : Option Method) → before.method f.method.method.0 ≡ o
      → option_and_then (λ (m : Method). bodies f m m.body) o ≡ Some here → KeptHere k.keep before here
  kept_method f h here None is e = cc
  kept_method f h here (Some m) is e =
      let km : IsTrue (keeps_method k.keep before m) = a.keeps_methods f.method.method.0 m (use_method f h) is in
      kept_body f h m here km m.body (second_so _ (keeps_body k.keep before m.body) km) e

  pub here_kept : (f : Frame) (here : Here) → IsTrue (keeps_use k.keep f.method) → here_of before f ≡ Some here → KeptHere k.keep before here
  unfolding here_of
  here_kept f here h e = kept_method f h here (before.method f.method.method.0) refl e

  -- ---- handlers that are left

  left_by : (frame clause : ℕ) (f : Frame) (o : Option Here) → left_here frame clause (move_frame k.rho f) (option_map (move_here k.rho) o) ≡ left_here frame clause f o
  left_by frame clause f None = refl
  left_by frame clause f (Some here) =
      let within : unwound_within (move_code k.rho here.code) f.at clause ≡ unwound_within here.code f.at clause
      = ap (places_of (is_unwound f.at) 0) (take-map (move_clause k.rho) clause here.code.clauses) ∙ places_moved k.rho (is_unwound f.at) (λ c. refl) 0 (take clause here.code.clauses) in
      let all : unwound_in (move_code k.rho here.code) f.at ≡ unwound_in here.code f.at = places_moved k.rho (is_unwound f.at) (λ c. refl) 0 here.code.clauses in
      λ i. if nat_eq f.number frame then within i else all i

  pub left_moved : (frame clause : ℕ) (f : Frame) → IsTrue (keeps_use k.keep f.method) → left_in after frame clause (move_frame k.rho f) ≡ left_in before frame clause f
  unfolding left_in
  left_moved frame clause f h = ap (left_here frame clause (move_frame k.rho f)) (here_moved f h) ∙ left_by frame clause f (here_of before f)
