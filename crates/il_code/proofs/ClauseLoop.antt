-- Reading handler clauses one after another, as a loop does.
use Rattle.std.proofs.Common.{◌≡◌, ℕ, suc, ◌+◌, ◌-◌, ◌*◌, ◌<◌, ◌≤◌, Bool, List, [], ◌∷◌, ◌++◌, Option, Some, None, Result, Ok, Err, sym, ap, ◌∙◌, arith}
use Rattle.il_base.specs.declared.body.Handler.{Handler}
use Rattle.il_base.specs.declared.body_grammar.body.Fault.{Fault}
use Rattle.il_base.specs.body_grammar.Bodies.{clause_at, clause_size, clauses_then, clauses_after}

abbrev pub Clauses : Type 0
Clauses = List Handler × Option Fault

pub ends : (count i : ℕ) (fat : Bool) (at : ℕ) (bs : List ℕ) (before : List Handler) (f : Fault) (total : Clauses) → i < count
    → clause_at fat at bs ≡ Err f → clauses_after (count - i) fat at bs before ≡ total → total ≡ (before, Some f)
unfolding clauses_after
ends count i fat at bs before f total lt read h =
    let k : count - i ≡ suc (count - (i + 1)) = omega arith in
    sym h ∙ ap (λ (n : ℕ). clauses_after n fat at bs before) k
    ∙ ap (λ (r : Result Handler Fault). clauses_then before r (λ h. clauses_after (count - (i + 1)) fat (at + clause_size fat) bs (before ++ h ∷ []))) read

pub goes_on : (count i : ℕ) (fat : Bool) (at : ℕ) (bs : List ℕ) (before : List Handler) (c : Handler) (total : Clauses) → i < count
    → clause_at fat at bs ≡ Ok c → clauses_after (count - i) fat at bs before ≡ total
    → clauses_after (count - (i + 1)) fat (at + clause_size fat) bs (before ++ c ∷ []) ≡ total
unfolding clauses_after
goes_on count i fat at bs before c total lt read h =
    let k : count - i ≡ suc (count - (i + 1)) = omega arith in
    ap (λ (r : Result Handler Fault). clauses_then before r (λ h. clauses_after (count - (i + 1)) fat (at + clause_size fat) bs (before ++ h ∷ []))) (sym read)
    ∙ ap (λ (n : ℕ). clauses_after n fat at bs before) (sym k) ∙ h

pub is_done : (count i : ℕ) (fat : Bool) (at : ℕ) (bs : List ℕ) (before : List Handler) (total : Clauses) → count ≤ i
    → clauses_after (count - i) fat at bs before ≡ total → total ≡ (before, None)
unfolding clauses_after
is_done count i fat at bs before total le h =
    let k : count - i ≡ 0 = omega arith in
    sym h ∙ ap (λ (n : ℕ). clauses_after n fat at bs before) k

pub next_place : (at i s place t : ℕ) → t ≡ s → place ≡ at + i * s → place + t ≡ at + (i + 1) * s
next_place at i s place t same e = omega arith
