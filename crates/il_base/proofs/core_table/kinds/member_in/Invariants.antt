use Rattle.std.proofs.Common.{◌≡◌, drop}
use Rattle.il_base.specs.core_table.Kinds.{member_in}
use Rattle.il_base.proofs.core_table.kinds.member_in.Given as goal

abbrev pub invariant-loop-ty : goal.invariant-loop-ty
invariant-loop-ty l = member_in (drop l.ty-index l.types) l.left ≡ member_in l.types l.at
