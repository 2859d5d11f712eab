-- Reading instructions one after another, as a loop does.
use Rattle.std.proofs.Common.{◌≡◌, ℕ, zero, suc, ◌+◌, ◌<◌, ◌≤◌, List, [], ◌∷◌, ◌++◌, length, drop, Result, Ok, sym, ap, ◌∙◌, arith}
use Rattle.std.proofs.lemmas.List.{drop-drop, length-drop, drop_all}
use Rattle.il_base.specs.declared.body.Instr.{Instr}
use Rattle.il_base.specs.declared.body_grammar.body.Fault.{Fault}
use Rattle.il_base.specs.body_grammar.Faults.{◌>>=◌}
use Rattle.il_base.specs.body_grammar.Instructions.{instr_at, code_after}
use Rattle.il_base.proofs.lemmas.body_grammar.WrittenCode.{code_step, no_more}
use Rattle.il_code.specs.declared.error.BodyError.{BodyError}
use Rattle.il_code.specs.declared.error.BodyError.TheVariants as error
use Rattle.il_code.specs.Gives.{Fails}

-- an instruction more
pub goes_on : (bound base at : ℕ) (before : List Instr) (bs : List ℕ) (i : Instr) (size : ℕ) (total : Result (List Instr) Fault)
    → at < length bs → length bs ≤ bound + at → 0 < size → instr_at at (base + at) (drop at bs) ≡ Ok (i, size)
    → code_after bound base at before (drop at bs) ≡ total
    → (x : ℕ) × (length bs ≤ x + (at + size)) × (code_after x base (at + size) (before ++ i ∷ []) (drop (at + size) bs) ≡ total)
goes_on zero base at before bs i size total lt enough pos read h = absurd (omega arith)
goes_on (suc n) base at before bs i size total lt enough pos read h =
    let long : 0 < length (drop at bs) = omega (arith, length-drop at bs) in
    let step : code_after (suc n) base at before (drop at bs) ≡ code_after n base (at + size) (before ++ i ∷ []) (drop size (drop at bs)) =
    code_step n base at before (drop at bs) long
    ∙ ap (λ (r : Result (Instr × ℕ) Fault). r >>= λ i. code_after n base (at + i.1) (before ++ i.0 ∷ []) (drop i.1 (drop at bs))) read in
    (n, omega arith, ap (λ (x : List ℕ). code_after n base (at + size) (before ++ i ∷ []) x) (sym (drop-drop size at bs)) ∙ sym step ∙ h)

-- an instruction that isn't read
pub ends : (e : BodyError) (bound base at : ℕ) (before : List Instr) (bs : List ℕ) (total : Result (List Instr) Fault)
    → at < length bs → length bs ≤ bound + at → Fails e (instr_at at (base + at) (drop at bs))
    → code_after bound base at before (drop at bs) ≡ total → Fails e total
ends error.NoMemory bound base at before bs total lt enough fails h = tt
ends (error.Bad a w) zero base at before bs total lt enough fails h = absurd (omega arith)
ends (error.Bad a w) (suc n) base at before bs total lt enough fails h =
    let long : 0 < length (drop at bs) = omega (arith, length-drop at bs) in
    sym h ∙ code_step n base at before (drop at bs) long
    ∙ ap (λ (r : Result (Instr × ℕ) Fault). r >>= λ i. code_after n base (at + i.1) (before ++ i.0 ∷ []) (drop i.1 (drop at bs))) fails

-- no bytes are left
pub is_done : (bound base at : ℕ) (before : List Instr) (bs : List ℕ) (total : Result (List Instr) Fault)
    → length bs ≤ at → code_after bound base at before (drop at bs) ≡ total → total ≡ Ok before
is_done bound base at before bs total le h =
    sym h ∙ ap (λ (x : List ℕ). code_after bound base at before x) (drop_all at bs le) ∙ no_more bound base at before
