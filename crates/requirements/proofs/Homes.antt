-- A method's body is in the assembly of its row.
use Rattle.std.proofs.Common.{◌≡◌, ℕ, List, Option, Some, None, sym, ap, ◌∙◌}
use Rattle.std.specs.Option.{option_and_then, option_map}
use Rattle.std.specs.Prelude.{slice_get}
use Rattle.il_base.specs.declared.ids.MethodId.{MethodId}
use Rattle.il_base.specs.declared.body.Body.{Body}
use Rattle.il_base.specs.declared.world_model.known.Known.{Known}
use Rattle.il_base.specs.declared.world_model.known.Known.TheVariants.{Good, Bad}
use Rattle.il_base.specs.declared.world_model.members.MethodDefRow.{MethodDefRow}
use Rattle.il_base.specs.declared.world_model.record.AsmRec.{AsmRec}
use Rattle.rules.specs.declared.link_rules.row_at.RowAt.{RowAt}
use Rattle.rules.specs.type_rules.Slots.{method_home}
use Rattle.rules.specs.declared.flow_rules.called.Called.{Called}
use Rattle.rules.specs.flow_rules.Methods.{Setting, with_locals, with_body, setting_in, setting_at, setting_of}

by_own : (asm : ℕ) (rec : AsmRec) (b : Body) (o : Option Called) (l : Option ℕ) (s : Setting)
    → option_and_then (λ own. option_map (with_locals asm rec own b) l) o ≡ Some s → s.asm ≡ asm
by_own asm rec b None l s e = cc
by_own asm rec b (Some own) None s e = cc
by_own asm rec b (Some own) (Some n) s e = let same : with_locals asm rec own b n ≡ s = cc in sym (ap (λ (x : Setting). x.asm) same)

by_body : (recs : List AsmRec) (at : RowAt) (rec : AsmRec) (b : Option (Known Body)) (s : Setting) → with_body recs at rec b ≡ Some s → s.asm ≡ at.asm
by_body recs at rec None s e = cc
by_body recs at rec (Some (Bad why)) s e = cc
by_body recs at rec (Some (Good b)) s e = by_own at.asm rec b _ _ s e

by_row : (recs : List AsmRec) (at : RowAt) (rec : AsmRec) (m : Option MethodDefRow) (s : Setting)
    → option_and_then (λ (r : MethodDefRow). with_body recs at rec r.body) m ≡ Some s → s.asm ≡ at.asm
by_row recs at rec None s e = cc
by_row recs at rec (Some r) s e = by_body recs at rec r.body s e

by_rec : (recs : List AsmRec) (at : RowAt) (rec : Option AsmRec) (s : Setting) → option_and_then (setting_in recs at) rec ≡ Some s → s.asm ≡ at.asm
by_rec recs at None s e = cc
by_rec recs at (Some rec) s e = by_row recs at rec (slice_get rec.method_def at.row) s e

by_home : (recs : List AsmRec) (home : Option RowAt) (at : RowAt) (s : Setting) → home ≡ Some at → option_and_then (setting_at recs) home ≡ Some s → s.asm ≡ at.asm
by_home recs None at s h e = cc
by_home recs (Some here) at s h e =
    let same : here ≡ at = cc in by_rec recs here (slice_get recs here.asm) s e ∙ ap (λ (x : RowAt). x.asm) same

pub same_assembly : (recs : List AsmRec) (m : MethodId) (at : RowAt) (s : Setting) → method_home recs m ≡ Some at → setting_of recs m ≡ Some s → s.asm ≡ at.asm
unfolding setting_of
same_assembly recs m at s h e = by_home recs (method_home recs m) at s h e
