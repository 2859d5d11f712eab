-- Signatures of rows as blobs (II.23.2). A signature without a reading isn't written.
use Rattle.std.specs.Prelude.{ℕ, List, []}
use Rattle.il_base.specs.declared.sig.Sig.{Sig}
use Rattle.il_base.specs.declared.sig.MethodSig.{MethodSig}
use Rattle.il_base.specs.declared.world_model.known.Known.{Known}
use Rattle.il_base.specs.declared.world_model.known.Known.TheVariants.{Good, Bad}
use Rattle.il_base.specs.declared.world_model.expr.MemberSig.{MemberSig}
use Rattle.il_base.specs.declared.world_model.expr.MemberSig.TheVariants as member
use Rattle.il_base.specs.blob_grammar.Signatures.{method_bytes, field_bytes, locals_bytes}

abbrev pub method_blob : Known MethodSig → List ℕ
method_blob (Good s) = method_bytes s
method_blob (Bad why) = []

abbrev pub member_blob : Known MemberSig → List ℕ
member_blob (Good (member.Method s)) = method_bytes s
member_blob (Good (member.Field s)) = field_bytes s
member_blob (Bad why) = []

abbrev pub locals_blob : Known (List Sig) → List ℕ
locals_blob (Good types) = locals_bytes types
locals_blob (Bad why) = []
