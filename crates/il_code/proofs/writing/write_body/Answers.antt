use Rattle.std.proofs.Common.{subst, sym, All, List}
use Rattle.il_base.specs.declared.body.Instr.{Instr}
use Rattle.il_base.specs.body_grammar.BodySpelling.{targets_fit}
use Rattle.il_code.proofs.Written.{targets_fit_all}
use Rattle.il_code.proofs.writing.write_body.Goals as goal

pub code-requires : goal.code-requires
code-requires c = subst (λ (is : List Instr). All (λ i. targets_fit i.operand) is) (sym c.as_slice.ensures) (targets_fit_all 0 c.args.b.now.code c.requires.code)
