use Rattle.std.proofs.Common.{ℕ, ◌-◌, ◌≤◌, ◌≡◌, subst, arith}
use Rattle.il_code.specs.Around.{IsGreatest, by_start, by_end, by_clause, pairs_of}
use Rattle.il_code.specs.Blocks.{most}
use Rattle.il_code.proofs.Numbers.{numbers_left, greatest_of}
use Rattle.il_code.proofs.around.Begun.around.Goals as goal

twice : (g : ℕ) → g ≤ most → g ≡ most - (most - g)
twice g l = omega arith

pub returns-clause-around : goal.returns-clause-around
returns-clause-around c blocks n has =
    let place = c.args.place in
    let first = numbers_left by_start blocks n place _ (pairs_of c.greatest.new.self) c.greatest.ensures.kept c.greatest.ensures.old has.starts in
    let ends = numbers_left by_end blocks n place _ (pairs_of c.greatest-2.new.self) c.greatest-2.ensures.kept c.greatest-2.ensures.old has.ends in
    let clauses = numbers_left by_clause blocks n place _ (pairs_of c.greatest-3.new.self) c.greatest-3.ensures.kept c.greatest-3.ensures.old has.clauses in
    record {
      from = greatest_of by_start blocks n place c.greatest.result (pairs_of c.greatest.new.self) first c.greatest.ensures.bound c.greatest.ensures.is;
      to = subst (IsGreatest by_end blocks n place) (twice c.greatest-2.result (omega arith))
          (greatest_of by_end blocks n place c.greatest-2.result (pairs_of c.greatest-2.new.self) ends c.greatest-2.ensures.bound c.greatest-2.ensures.is);
      clause = subst (IsGreatest by_clause blocks n place) (twice c.greatest-3.result (omega arith))
          (greatest_of by_clause blocks n place c.greatest-3.result (pairs_of c.greatest-3.new.self) clauses c.greatest-3.ensures.bound c.greatest-3.ensures.is);
    }
