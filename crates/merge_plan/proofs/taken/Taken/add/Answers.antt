use Rattle.std.proofs.Common.{ap, ◌∙◌, refl}
use Rattle.std.specs.Prelude.{bytes_eq}
use Rattle.std.specs.List.{list_any}
use Rattle.merge_plan.proofs.Taking.{key_added}
use Rattle.merge_plan.proofs.taken.Taken.add.Goals as goal

pub returns : goal.returns
returns c = λ q.
    ap (list_any (λ other. bytes_eq q other.items)) c.in_ok-insert.ensures.keys ∙ key_added (λ v. v.items) q c.args.name c.args.self.now.names.keys _ refl
