use Rattle.std.proofs.Common.{◌≡◌, drop}
use Rattle.std.specs.Prelude.{find}
use Rattle.std.specs.Option.{option_map}
use Rattle.il_base.specs.world_model.Exprs.{same_expr}
use Rattle.il_base.specs.declared.cil_values.state.Started.{Started}
use Rattle.machine_frames.proofs.cil_frames.starting.init_of.Given as goal

abbrev pub invariant-loop-x : goal.invariant-loop-x
invariant-loop-x l =
    option_map (λ (x : Started). x.init) (find (λ (x : Started). same_expr x.typ l.ty) (drop l.x-index l.st.inits)) ≡ option_map (λ (x : Started). x.init) (find (λ (x : Started). same_expr x.typ l.ty) l.st.inits)
