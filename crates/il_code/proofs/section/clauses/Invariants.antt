use Rattle.std.proofs.Common.{◌≡◌, ◌+◌, ◌-◌, ◌*◌, ◌≤◌, [], length}
use Rattle.il_base.specs.body_grammar.Bodies as grammar
use Rattle.il_code.proofs.section.clauses.Given as goal

-- the clauses so far and those from a place on are all of them
abbrev pub invariant-loop : goal.invariant-loop
invariant-loop l = record {
  left : grammar.clauses_after (l.count - l.counter) l.fat l.place l.bytes l.handlers ≡ grammar.clauses_after l.count l.fat l.at l.bytes [];
  read : length l.handlers ≡ l.counter;
  place : l.place ≡ l.at + l.counter * grammar.clause_size l.fat;
  within : l.place ≤ length l.bytes;
}
