-- What a token of an instruction refers to goes by the instruction's form alone.
use Rattle.std.proofs.Common.{◌≡◌, ℕ, List, refl}
use Rattle.il_base.specs.declared.body.Form.{Form}
use Rattle.il_base.specs.declared.body.Form.TheVariants as form
use Rattle.il_base.specs.declared.world_model.record.AsmRec.{AsmRec}
use Rattle.mark_parts.specs.Forms.{names_of}
use Rattle.rules.specs.merge_rules.Order.{met_by_form}
use Rattle.restrict.specs.met_parts.Forms.{met_by_names}

pub by_forms : (recs : List AsmRec) (a : ℕ) (rec : AsmRec) (token : ℕ) (f : Form) → met_by_names recs a rec (names_of f) token ≡ met_by_form recs a rec f token
unfolding names_of met_by_names
by_forms recs a rec token form.Nop = refl
by_forms recs a rec token form.LdArg = refl
by_forms recs a rec token form.LdArgA = refl
by_forms recs a rec token form.StArg = refl
by_forms recs a rec token form.LdLoc = refl
by_forms recs a rec token form.LdLocA = refl
by_forms recs a rec token form.StLoc = refl
by_forms recs a rec token form.LdNull = refl
by_forms recs a rec token form.LdI4 = refl
by_forms recs a rec token form.LdI8 = refl
by_forms recs a rec token form.LdStr = refl
by_forms recs a rec token form.Dup = refl
by_forms recs a rec token form.Pop = refl
by_forms recs a rec token form.Br = refl
by_forms recs a rec token form.BrIf = refl
by_forms recs a rec token form.Switch = refl
by_forms recs a rec token form.Leave = refl
by_forms recs a rec token form.EndFinally = refl
by_forms recs a rec token form.Binary = refl
by_forms recs a rec token form.Unary = refl
by_forms recs a rec token form.Convert = refl
by_forms recs a rec token form.Call = refl
by_forms recs a rec token form.Ret = refl
by_forms recs a rec token form.NewObj = refl
by_forms recs a rec token form.Throw = refl
by_forms recs a rec token form.Cast = refl
by_forms recs a rec token form.Box = refl
by_forms recs a rec token form.Unbox = refl
by_forms recs a rec token form.Field = refl
by_forms recs a rec token form.NewArr = refl
by_forms recs a rec token form.Elem = refl
by_forms recs a rec token form.Indirect = refl
by_forms recs a rec token form.LdToken = refl
by_forms recs a rec token form.Prefix = refl
