-- A handler section that was written is read again.
use Rattle.std.proofs.Common.{◌≡◌, ℕ, ◌+◌, ◌*◌, ◌%◌, Bool, true, false, eqb, ◌||◌, List, [], ◌∷◌, ◌++◌, length, take, drop, None, Result, Ok, inl, inr, refl, sym, ap, ◌∙◌, append_assoc, add-zero, arith}
use Rattle.std.specs.List.{AllByRecursion}
use Rattle.std.proofs.lemmas.Bool.{or_cases, eqb-true}
use Rattle.std.proofs.lemmas.List.{length-append, append-nil}
use Rattle.il_base.specs.declared.body.Handler.{Handler}
use Rattle.il_base.specs.declared.body_grammar.body.Fault.{Fault}
use Rattle.il_base.specs.body_grammar.Bodies.{field_at, zero_at, clause_kind_at, small_clause_at, fat_clause_at, clause_at, clause_size, clauses_then, clauses_after}
use Rattle.il_base.specs.body_grammar.BodySpelling.{small_clause_bytes, fat_clause_bytes, clause_bytes, clauses_bytes, IsClause}
use Rattle.il_base.proofs.lemmas.body_grammar.WrittenNumbers.{field_in, byte_in}

zero_from : (at : ℕ) (bs : List ℕ) → field_at 1 bs at ≡ Ok 0 → zero_at at bs ≡ Ok 0
unfolding zero_at
zero_from at bs e = rw e refl

kind_from : (kind at : ℕ) (bs : List ℕ) → field_at 1 bs at ≡ Ok kind → (eqb kind 0 || eqb kind 2 || eqb kind 4) ≡ true → clause_kind_at at bs ≡ Ok kind
unfolding clause_kind_at
kind_from kind at bs e h =
    elim (or_cases (eqb kind 0 || eqb kind 2) (eqb kind 4) h) [
      | inl a ↦ elim (or_cases (eqb kind 0) (eqb kind 2) a) [
        | inl k ↦ let same : kind ≡ 0 = eqb-true kind 0 k in rw e (rw same refl)
        | inr k ↦ let same : kind ≡ 2 = eqb-true kind 2 k in rw e (rw same refl)
      ]
      | inr k ↦ let same : kind ≡ 4 = eqb-true kind 4 k in rw e (rw same refl)
    ]

small_from : (at : ℕ) (bs : List ℕ) (h : Handler) → clause_kind_at at bs ≡ Ok h.kind → zero_at (at + 1) bs ≡ Ok 0
    → field_at 2 bs (at + 2) ≡ Ok h.try_at → field_at 1 bs (at + 4) ≡ Ok h.try_len → field_at 2 bs (at + 5) ≡ Ok h.at → field_at 1 bs (at + 7) ≡ Ok h.len
    → field_at 4 bs (at + 8) ≡ Ok h.token → small_clause_at at bs ≡ Ok h
unfolding small_clause_at
small_from at bs h e0 e1 e2 e3 e4 e5 e6 = rw (e0, e1, e2, e3, e4, e5, e6) refl

fat_from : (at : ℕ) (bs : List ℕ) (h : Handler) → clause_kind_at at bs ≡ Ok h.kind
    → zero_at (at + 1) bs ≡ Ok 0 → zero_at (at + 2) bs ≡ Ok 0 → zero_at (at + 3) bs ≡ Ok 0
    → field_at 4 bs (at + 4) ≡ Ok h.try_at → field_at 4 bs (at + 8) ≡ Ok h.try_len → field_at 4 bs (at + 12) ≡ Ok h.at → field_at 4 bs (at + 16) ≡ Ok h.len
    → field_at 4 bs (at + 20) ≡ Ok h.token → fat_clause_at at bs ≡ Ok h
unfolding fat_clause_at
fat_from at bs h e0 e1 e2 e3 e4 e5 e6 e7 e8 = rw (e0, e1, e2, e3, e4, e5, e6, e7, e8) refl

clause_again : (fat : Bool) (at : ℕ) (before after : List ℕ) (h : Handler) → length before ≡ at → IsClause fat h
    → clause_at fat at (before ++ (clause_bytes fat h ++ after)) ≡ Ok h
clause_again false at before after h len is =
    let x : List ℕ = small_clause_bytes h ++ after in
    let bs : List ℕ = before ++ x in
    let kind : field_at 1 bs at ≡ Ok h.kind = ap (field_at 1 bs) (sym (add-zero at)) ∙ byte_in h.kind at 0 before [] (drop 1 x) len refl in
    let try_at : h.try_at % 65536 ≡ h.try_at = omega (arith, is.try_at) in
    let try_len : h.try_len % 256 ≡ h.try_len = omega (arith, is.try_len) in
    let start : h.at % 65536 ≡ h.at = omega (arith, is.at) in
    let size : h.len % 256 ≡ h.len = omega (arith, is.len) in
    small_from at bs h (kind_from h.kind at bs kind is.kind) (zero_from (at + 1) bs (byte_in 0 at 1 before (take 1 x) (drop 2 x) len refl))
    (field_in 2 (h.try_at % 65536) at 2 before (take 2 x) (drop 4 x) len refl (omega arith) ∙ ap (λ (n : ℕ). Ok n) try_at)
    (byte_in (h.try_len % 256) at 4 before (take 4 x) (drop 5 x) len refl ∙ ap (λ (n : ℕ). Ok n) try_len)
    (field_in 2 (h.at % 65536) at 5 before (take 5 x) (drop 7 x) len refl (omega arith) ∙ ap (λ (n : ℕ). Ok n) start)
    (byte_in (h.len % 256) at 7 before (take 7 x) (drop 8 x) len refl ∙ ap (λ (n : ℕ). Ok n) size)
    (field_in 4 h.token at 8 before (take 8 x) (drop 12 x) len refl (omega (arith, is.token)))
clause_again true at before after h len is =
    let x : List ℕ = fat_clause_bytes h ++ after in
    let bs : List ℕ = before ++ x in
    let kind : field_at 1 bs at ≡ Ok h.kind = ap (field_at 1 bs) (sym (add-zero at)) ∙ byte_in h.kind at 0 before [] (drop 1 x) len refl in
    fat_from at bs h (kind_from h.kind at bs kind is.kind)
    (zero_from (at + 1) bs (byte_in 0 at 1 before (take 1 x) (drop 2 x) len refl))
    (zero_from (at + 2) bs (byte_in 0 at 2 before (take 2 x) (drop 3 x) len refl))
    (zero_from (at + 3) bs (byte_in 0 at 3 before (take 3 x) (drop 4 x) len refl))
    (field_in 4 h.try_at at 4 before (take 4 x) (drop 8 x) len refl (omega (arith, is.try_at)))
    (field_in 4 h.try_len at 8 before (take 8 x) (drop 12 x) len refl (omega (arith, is.try_len)))
    (field_in 4 h.at at 12 before (take 12 x) (drop 16 x) len refl (omega (arith, is.at)))
    (field_in 4 h.len at 16 before (take 16 x) (drop 20 x) len refl (omega (arith, is.len)))
    (field_in 4 h.token at 20 before (take 20 x) (drop 24 x) len refl (omega (arith, is.token)))

pub length-clause : (fat : Bool) (h : Handler) → length (clause_bytes fat h) ≡ clause_size fat
length-clause false h = refl
length-clause true h = refl

pub length-clauses : (fat : Bool) (hs : List Handler) → length (clauses_bytes fat hs) ≡ length hs * clause_size fat
length-clauses fat [] = omega arith
length-clauses fat (h ∷ hs) = omega (arith, length-append (clause_bytes fat h) (clauses_bytes fat hs), length-clause fat h, length-clauses fat hs)

pub clauses_again : (fat : Bool) (hs : List Handler) (at : ℕ) (before after : List ℕ) (done : List Handler) → length before ≡ at → AllByRecursion (IsClause fat) hs
    → clauses_after (length hs) fat at (before ++ (clauses_bytes fat hs ++ after)) done ≡ (done ++ hs, None)
unfolding clauses_after
clauses_again fat [] at before after done len is = ap (λ (xs : List Handler). (xs, None)) (sym (append-nil done))
clauses_again fat (h ∷ hs) at before after done len is =
    let more : List ℕ = clauses_bytes fat hs ++ after in
    let bs : List ℕ = before ++ ((clause_bytes fat h ++ clauses_bytes fat hs) ++ after) in
    let front : bs ≡ before ++ (clause_bytes fat h ++ more) = ap (λ (x : List ℕ). before ++ x) (append_assoc (clause_bytes fat h) (clauses_bytes fat hs) after) in
    let behind : bs ≡ (before ++ clause_bytes fat h) ++ more = front ∙ sym (append_assoc before (clause_bytes fat h) more) in
    let read : clause_at fat at bs ≡ Ok h = ap (clause_at fat at) front ∙ clause_again fat at before more h len is.0 in
    let end : length (before ++ clause_bytes fat h) ≡ at + clause_size fat = omega (arith, length-append before (clause_bytes fat h), length-clause fat h) in
    ap (λ (r : Result Handler Fault). clauses_then done r (λ h. clauses_after (length hs) fat (at + clause_size fat) bs (done ++ h ∷ []))) read
    ∙ ap (λ (x : List ℕ). clauses_after (length hs) fat (at + clause_size fat) x (done ++ h ∷ [])) behind
    ∙ clauses_again fat hs (at + clause_size fat) (before ++ clause_bytes fat h) after (done ++ h ∷ []) end is.1
    ∙ ap (λ (xs : List Handler). (xs, None)) (append_assoc done (h ∷ []) hs)
