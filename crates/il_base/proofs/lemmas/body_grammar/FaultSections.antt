-- A fault in the handler section comes after the code.
use Rattle.std.proofs.Common.{◌≡◌, ℕ, zero, suc, ◌+◌, ◌*◌, ◌/◌, ◌≤◌, inl, inr, Bool, true, false, cond, List, [], ◌∷◌, ◌++◌, length, Option, Some, None, Result, Ok, Err, refl, ap, arith}
use Rattle.il_base.specs.declared.body.Handler.{Handler}
use Rattle.il_base.specs.declared.body.Instr.{Instr}
use Rattle.il_base.specs.declared.outside.TheConstants.{FILTER, BODY}
use Rattle.il_base.specs.declared.body_grammar.body.Fault.{Fault}
use Rattle.il_base.specs.body_grammar.Faults.{◌>>=◌, fault}
use Rattle.il_base.specs.body_grammar.HandlerRules.{is_start, offender}
use Rattle.il_base.specs.body_grammar.Bodies.{field_at, clause_size, small_section_at, fat_section_at, section_at, zero_at, clause_kind_at, small_clause_at, fat_clause_at, clause_at, clauses_then, clauses_after, unless, accepted, handlers_at}
use Rattle.il_base.proofs.lemmas.body_grammar.FaultCode.{bind_err, err_is}
use Rattle.il_base.proofs.lemmas.body_grammar.FaultHeaders.{field_fault}

abbrev place_of : Fault → ℕ
place_of f = f.at

-- each fault of a reading is at a place or after it
abbrev pub After : {A : Type 0} → ℕ → Result A Fault → Type 0
After n r = (d : Fault) → r ≡ Err d → n ≤ d.at

found : {A : Type 0} (n : ℕ) (x : A) → After n (Ok x)
found n x d e = absurd cc

bad : {A : Type 0} (n at what : ℕ) → n ≤ at → After {A = A} n (Err (fault at what))
bad {A = A} n at what h d e = omega (arith, h, ap place_of (err_is {A = A} (fault at what) d e))

then : {A B : Type 0} (n : ℕ) (r : Result A Fault) (f : A → Result B Fault) → After n r → ((x : A) → After n (f x)) → After n (r >>= f)
then n r f h k d e = elim (bind_err r f d e) [ inl first ↦ h d first | inr more ↦ k more.0 d more.2 ]

either : {A : Type 0} (n : ℕ) (b : Bool) (r s : Result A Fault) → After n r → After n s → After n (cond b r s)
either n true r s h k = h
either n false r s h k = k

module _ (bs : List ℕ) (n : ℕ) (long : n ≤ length bs) where
  field : (k at : ℕ) → After n (field_at k bs at)
  field k at d e = omega (arith, long, (field_fault k bs at d e).0)

  small_section : (at : ℕ) → n ≤ at → After n (small_section_at at bs)
  unfolding small_section_at
  small_section at h = then n _ _ (field 1 (at + 1)) (λ size. either n _ _ _ (then n _ _ (field 2 (at + 2)) (λ reserved. found n (size / 12))) (bad n (at + 1) BODY (omega (arith, h))))

  fat_section : (at : ℕ) → n ≤ at → After n (fat_section_at at bs)
  unfolding fat_section_at
  fat_section at h =
      then n _ _ (field 1 (at + 1)) (λ low. either n _ _ _
      (then n _ _ (field 2 (at + 1)) (λ front. then n _ _ (field 1 (at + 3)) (λ high. either n _ _ _ (found n ((front + 65536 * high) / 24)) (bad n (at + 3) BODY (omega (arith, h))))))
      (bad n (at + 1) BODY (omega (arith, h))))

  section : (at : ℕ) → n ≤ at → After n (section_at at bs)
  unfolding section_at
  section at h =
      then n _ _ (field 1 at) (λ kind. either n _ _ _ (then n _ _ (small_section at h) (λ m. found n (false, m)))
      (either n _ _ _ (then n _ _ (fat_section at h) (λ m. found n (true, m))) (bad n at BODY h)))

  no_byte : (at : ℕ) → n ≤ at → After n (zero_at at bs)
  unfolding zero_at
  no_byte at h = then n _ _ (field 1 at) (λ b. either n _ _ _ (found n 0) (bad n at BODY h))

  kind : (at : ℕ) → n ≤ at → After n (clause_kind_at at bs)
  unfolding clause_kind_at
  kind at h = then n _ _ (field 1 at) (λ k. either n _ _ _ (bad n at FILTER h) (either n _ _ _ (found n k) (bad n at BODY h)))

  small_clause : (at : ℕ) → n ≤ at → After n (small_clause_at at bs)
  unfolding small_clause_at
  small_clause at h =
      then n _ _ (kind at h) (λ k. then n _ _ (no_byte (at + 1) (omega (arith, h))) (λ high. then n _ _ (field 2 (at + 2)) (λ try_at. then n _ _ (field 1 (at + 4)) (λ try_len.
      then n _ _ (field 2 (at + 5)) (λ start. then n _ _ (field 1 (at + 7)) (λ len. then n _ _ (field 4 (at + 8)) (λ token. found n _)))))))

  fat_clause : (at : ℕ) → n ≤ at → After n (fat_clause_at at bs)
  unfolding fat_clause_at
  fat_clause at h =
      then n _ _ (kind at h) (λ k. then n _ _ (no_byte (at + 1) (omega (arith, h))) (λ second. then n _ _ (no_byte (at + 2) (omega (arith, h))) (λ third. then n _ _ (no_byte (at + 3) (omega (arith, h))) (λ fourth.
      then n _ _ (field 4 (at + 4)) (λ try_at. then n _ _ (field 4 (at + 8)) (λ try_len. then n _ _ (field 4 (at + 12)) (λ start. then n _ _ (field 4 (at + 16)) (λ len. then n _ _ (field 4 (at + 20)) (λ token. found n _)))))))))

  clause : (fat : Bool) (at : ℕ) → n ≤ at → After n (clause_at fat at bs)
  clause fat at h = either n fat _ _ (fat_clause at h) (small_clause at h)

  -- the fault among clauses, if there is one, is after the place
  IsAfter : Option Fault → Type 0
  IsAfter None = Unit {0}
  IsAfter (Some d) = n ≤ d.at

  clause_then : (before : List Handler) (r : Result Handler Fault) (next : Handler → List Handler × Option Fault) → After n r → ((x : Handler) → IsAfter (next x).1) → IsAfter (clauses_then before r next).1
  unfolding IsAfter
  clause_then before (Ok x) next h k = k x
  clause_then before (Err d) next h k = h d refl

  clauses : (m : ℕ) (fat : Bool) (at : ℕ) (before : List Handler) → n ≤ at → IsAfter (clauses_after m fat at bs before).1
  unfolding clauses_after IsAfter
  clauses zero fat at before h = tt
  clauses (suc m) fat at before h =
      clause_then before (clause_at fat at bs) (λ x. clauses_after m fat (at + clause_size fat) bs (before ++ x ∷ [])) (clause fat at h)
      (λ x. clauses m fat (at + clause_size fat) (before ++ x ∷ []) (omega (arith, h)))

  unless_after : (hs : List Handler) (o : Option Fault) → IsAfter o → After n (unless hs o)
  unfolding IsAfter
  unless_after hs None h = found n hs
  unless_after hs (Some c) h = λ d e. omega (arith, h, ap place_of (err_is {A = List Handler} c d e))

  accepted_after : (at step : ℕ) (o : Option ℕ) (r : List Handler × Option Fault) → n ≤ at → IsAfter r.1 → After n (accepted at step o r)
  accepted_after at step None r h k = unless_after r.0 r.1 k
  accepted_after at step (Some i) r h k = bad n (at + i * step) BODY (omega (arith, h))

  pub handlers_after : (code : List Instr) (size at : ℕ) → n ≤ at → After n (handlers_at code size at bs)
  unfolding handlers_at
  handlers_after code size at h =
      then n _ _ (section at h) (λ s.
      then n _ _ (accepted_after (at + 4) (clause_size s.0) (offender (is_start code size) size (clauses_after s.1 s.0 (at + 4) bs []).0) (clauses_after s.1 s.0 (at + 4) bs []) (omega (arith, h)) (clauses s.1 s.0 (at + 4) [] (omega (arith, h))))
      (λ hs. found n (s.0, hs, at + 4 + s.1 * clause_size s.0)))
