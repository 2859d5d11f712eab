use Rattle.std.proofs.Common.{sym, ap, ◌∙◌}
use Rattle.rules.specs.link_rules.Members.{good_type}
use Rattle.link_faults.proofs.Unsubstituted.{plain_expr}
use Rattle.link_faults.proofs.scope.Scope.type_of.Goals as goal

pub returns-in-Ok-Bad : goal.returns-in-Ok-Bad
returns-in-Ok-Bad c = ap good_type (sym c.in-Ok-Bad.field-0-is ∙ c.in-Ok-Bad.ensures ∙ plain_expr c.args.self.now.all.now c.args.self.now.links.now c.args.asm.0 c.args.signature.now)

pub returns-in-Ok-Good : goal.returns-in-Ok-Good
returns-in-Ok-Good c = ap good_type (sym c.in-Ok-Good.field-0-is ∙ c.in-Ok-Good.ensures ∙ plain_expr c.args.self.now.all.now c.args.self.now.links.now c.args.asm.0 c.args.signature.now)
