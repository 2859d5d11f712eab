-- The signature of a member that is a method.
use Rattle.std.proofs.Common.{◌≡◌, Option, Some, None, sym, ap, ◌∙◌}
use Rattle.il_base.specs.declared.sig.Sig.{Sig}
use Rattle.il_base.specs.declared.sig.MethodSig.{MethodSig}
use Rattle.il_base.specs.declared.world_model.known.Known.{Known}
use Rattle.il_base.specs.declared.world_model.known.Known.TheVariants.{Good, Bad}
use Rattle.il_base.specs.declared.world_model.known.BadKind.{BadKind}
use Rattle.il_base.specs.declared.world_model.expr.MemberSig.{MemberSig}
use Rattle.il_base.specs.declared.world_model.expr.MemberSig.TheVariants as member
use Rattle.il_base.specs.declared.world_model.members.MemberRefRow.{MemberRefRow}
use Rattle.rules.specs.mark_rules.Attributes.{ref_sig}
use Rattle.rules.specs.merge_rules.Keys.{good}

module _ (row : MemberRefRow) where
  abbrev Of : Known MemberSig → Option MethodSig
  Of s = good (ref_sig (record row { signature = s }))

  pub method_of : (m : MemberSig) (s : MethodSig) → row.signature ≡ Good m → m ≡ member.Method s → Some s ≡ good (ref_sig row)
  method_of m s e f = sym (ap Of e ∙ ap (λ (x : MemberSig). Of (Good x)) f)

  pub field_of : (m : MemberSig) (s : Sig) → row.signature ≡ Good m → m ≡ member.Field s → None ≡ good (ref_sig row)
  field_of m s e f = sym (ap Of e ∙ ap (λ (x : MemberSig). Of (Good x)) f)

  pub bad_of : (why : BadKind) → row.signature ≡ Bad why → None ≡ good (ref_sig row)
  bad_of why e = sym (ap Of e)
