use Rattle.std.proofs.Common.{◌≡◌, ℕ, ◌-◌, ◌∷◌, true, false, subst}
use Rattle.std.specs.List.Sorted.{IsPermutation}
use Rattle.std.proofs.lemmas.Result.{on_ok_weaker}
use Rattle.il_code.specs.declared.blocks.Block.{Block}
use Rattle.il_code.specs.Around.{by_start, by_end, by_clause, pairs_of}
use Rattle.il_code.specs.Blocks.{most}
use Rattle.il_code.proofs.Numbers.{numbers_more}
use Rattle.il_code.proofs.around.Begun.add.Goals as goal
use Rattle.il_code.proofs.around.Begun.add.Goals.{then-b, else-b}

of_try : (b : Block) (n : ℕ) → b.is_try ≡ true → n ≡ most - b.clause → n ≡ by_clause b
of_try b n t e = rw t e

of_handler : (b : Block) (n : ℕ) → b.is_try ≡ false → n ≡ 0 → n ≡ by_clause b
of_handler b n t e = rw t e

pub returns : goal.returns
returns c =
    let number : c.if-b.clause ≡ by_clause c.args.b = elim c.if-b.branch [ then-b w ↦ of_try c.args.b c.if-b.clause w.if-b.true w.clause-is | else-b w ↦ of_handler c.args.b c.if-b.clause w.if-b.false w.clause-is ] in
    on_ok_weaker c.add-3.result
    (λ (moved : IsPermutation ((c.if-b.clause, c.args.b.range.to) ∷ pairs_of c.args.self.now.clauses) (pairs_of c.add-3.new.self)). λ blocks n place e has. record {
      starts = numbers_more by_start blocks n place c.args.b (pairs_of c.args.self.now.starts) (pairs_of c.add.new.self) e c.in_ok-add.ensures has.starts;
      ends = numbers_more by_end blocks n place c.args.b (pairs_of c.args.self.now.ends) (pairs_of c.add-2.new.self) e c.in_ok-add-2.ensures has.ends;
      clauses = numbers_more by_clause blocks n place c.args.b (pairs_of c.args.self.now.clauses) (pairs_of c.add-3.new.self) e
          (subst (λ (m : ℕ). IsPermutation ((m, c.args.b.range.to) ∷ pairs_of c.args.self.now.clauses) (pairs_of c.add-3.new.self)) number moved) has.clauses;
    }) c.add-3.ensures
