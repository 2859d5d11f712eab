use Rattle.std.proofs.Common.{◌≡◌, ap, sym, ◌∙◌}
use Rattle.std.proofs.lemmas.Int.{to_z-of_z}
use Rattle.std.specs.Int.{w64}
use Rattle.machine_numbers.specs.cil_compare.Tests.{holds, order}
use Rattle.machine_numbers.proofs.lemmas.cil_compare.Comparing.{compares_by}
use Rattle.machine_numbers.proofs.cil_compare.test.compares64.Goals as goal

pub returns : goal.returns
returns c =
    let e : c.order64.result ≡ order w64 c.args.a c.args.b =
    rw (to_z-of_z w64 c.args.a c.ranges.a, to_z-of_z w64 c.args.b c.ranges.b) at c.order64.ensures in
    c.holds.ensures ∙ ap (holds c.args.t) e ∙ sym (compares_by c.args.t w64 c.args.a c.args.b)
