-- What a token of an instruction names goes by the instruction's form alone.
use Rattle.std.proofs.Common.{◌≡◌, ℕ, List, refl}
use Rattle.il_base.specs.declared.body.Form.{Form}
use Rattle.il_base.specs.declared.body.Form.TheVariants as form
use Rattle.il_base.specs.declared.world_model.record.AsmRec.{AsmRec}
use Rattle.rules.specs.mark_rules.Bodies.{token_parts}
use Rattle.mark_parts.specs.Forms.{names_of, parts_by}

pub by_forms : (recs : List AsmRec) (a : ℕ) (rec : AsmRec) (place offset token : ℕ) (f : Form) → parts_by recs a rec place offset (names_of f) token ≡ token_parts recs a rec place offset f token
unfolding names_of parts_by
by_forms recs a rec place offset token form.Nop = refl
by_forms recs a rec place offset token form.LdArg = refl
by_forms recs a rec place offset token form.LdArgA = refl
by_forms recs a rec place offset token form.StArg = refl
by_forms recs a rec place offset token form.LdLoc = refl
by_forms recs a rec place offset token form.LdLocA = refl
by_forms recs a rec place offset token form.StLoc = refl
by_forms recs a rec place offset token form.LdNull = refl
by_forms recs a rec place offset token form.LdI4 = refl
by_forms recs a rec place offset token form.LdI8 = refl
by_forms recs a rec place offset token form.LdStr = refl
by_forms recs a rec place offset token form.Dup = refl
by_forms recs a rec place offset token form.Pop = refl
by_forms recs a rec place offset token form.Br = refl
by_forms recs a rec place offset token form.BrIf = refl
by_forms recs a rec place offset token form.Switch = refl
by_forms recs a rec place offset token form.Leave = refl
by_forms recs a rec place offset token form.EndFinally = refl
by_forms recs a rec place offset token form.Binary = refl
by_forms recs a rec place offset token form.Unary = refl
by_forms recs a rec place offset token form.Convert = refl
by_forms recs a rec place offset token form.Call = refl
by_forms recs a rec place offset token form.Ret = refl
by_forms recs a rec place offset token form.NewObj = refl
by_forms recs a rec place offset token form.Throw = refl
by_forms recs a rec place offset token form.Cast = refl
by_forms recs a rec place offset token form.Box = refl
by_forms recs a rec place offset token form.Unbox = refl
by_forms recs a rec place offset token form.Field = refl
by_forms recs a rec place offset token form.NewArr = refl
by_forms recs a rec place offset token form.Elem = refl
by_forms recs a rec place offset token form.Indirect = refl
by_forms recs a rec place offset token form.LdToken = refl
by_forms recs a rec place offset token form.Prefix = refl
