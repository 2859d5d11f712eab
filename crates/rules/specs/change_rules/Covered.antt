-- When all that a state names is kept. A cell of a field that isn't kept may hold anything.
use Rattle.std.specs.Prelude.{List, [], ◌∷◌, Bool, true, false, not, ◌&&◌, IsTrue}
use Rattle.std.specs.List.{list_all}
use Rattle.il_base.specs.declared.cil_values.object.Obj.{Obj}
use Rattle.il_base.specs.declared.cil_values.object.Obj.TheVariants as object
use Rattle.rules.specs.step_rules.Queries.{Queries}
use Rattle.il_base.specs.declared.cil_values.state.State.{State}
use Rattle.il_base.specs.declared.cil_values.frame.Frame.{Frame}
use Rattle.il_base.specs.declared.cil_values.frame.Prefix.{Prefix}
use Rattle.il_base.specs.declared.cil_values.frame.Waits.{Waits}
use Rattle.il_base.specs.declared.cil_values.state.Global.{Global}
use Rattle.il_base.specs.declared.cil_values.state.Started.{Started}
use Rattle.il_base.specs.declared.cil_values.frame.Prefix.TheVariants.{Constrained as constrained}
use Rattle.il_base.specs.declared.cil_values.frame.Waits.TheVariants.{Starts as starts, Opens as opens, Core as core}
use Rattle.rules.specs.step_rules.Next.{Next, went, over}
use Rattle.rules.specs.step_rules.CoreSearches.{searches}
use Rattle.rules.specs.change_rules.Keeping.{keep}
use Rattle.rules.specs.change_rules.Change.{Keep}
use Rattle.rules.specs.change_rules.States.{mask}
use Rattle.rules.specs.change_rules.Keeps.{keeps_expr, shows_expr, keeps_made, keeps_use, keeps_value, keeps_values}

-- ---- objects, fields and initializers

-- No object of a member is in such a state: there is none before a search, and no step that is kept searches.
abbrev pub keeps_obj : Keep → Queries → Obj → Bool
keeps_obj k q (object.Instance of cells) = keeps_made k of && keeps_values k (keep (mask k (q.cells of)) cells)
keeps_obj k q (object.Boxed of v) = keeps_made k of && keeps_value k v
keeps_obj k q (object.Array of cells) = shows_expr k of && keeps_values k cells
keeps_obj k q (object.Str units) = true
keeps_obj k q (object.TypeOf e) = shows_expr k e
keeps_obj k q (object.Member i e) = false

abbrev pub keeps_global : Keep → Global → Bool
keeps_global k g = k.field g.field && keeps_expr k g.owner && keeps_value k g.value

abbrev pub keeps_started : Keep → Started → Bool
keeps_started k s = keeps_expr k s.typ

-- ---- frames: no member that searches waits, so none that reflection calls by

abbrev pub keeps_prefix : Keep → Prefix → Bool
keeps_prefix k (constrained e) = shows_expr k e
keeps_prefix k _ = true

abbrev pub keeps_waits : Keep → Waits → Bool
keeps_waits k (starts e) = keeps_expr k e
keeps_waits k (opens e u) = keeps_expr k e && keeps_use k u
keeps_waits k (core c args) = keeps_values k args && not (searches c)
keeps_waits k _ = true

pub record CoveredFrame (k : Keep) (f : Frame) : Type 0 where
  pub method : IsTrue (keeps_use k f.method)
  pub args : IsTrue (keeps_values k f.args)
  pub locals : IsTrue (keeps_values k f.locals)
  pub stack : IsTrue (keeps_values k f.stack)
  pub prefix : IsTrue (keeps_prefix k f.prefix)
  pub waits : IsTrue (keeps_waits k f.waits)

abbrev pub CoveredFrames : Keep → List Frame → Type 0
CoveredFrames k [] = Unit {0}
CoveredFrames k (f ∷ fs) = CoveredFrame k f × CoveredFrames k fs

-- ---- states

pub record Covered (k : Keep) (q : Queries) (s : State) : Type 0 where
  pub heap : IsTrue (list_all (keeps_obj k q) s.heap)
  pub statics : IsTrue (list_all (keeps_global k) s.statics)
  pub inits : IsTrue (list_all (keeps_started k) s.inits)
  pub top : CoveredFrame k s.top
  pub below : CoveredFrames k s.below

abbrev pub CoveredNext : Keep → Queries → Next → Type 0
CoveredNext k q (went s bytes) = Covered k q s
CoveredNext k q (over e) = Unit {0}
