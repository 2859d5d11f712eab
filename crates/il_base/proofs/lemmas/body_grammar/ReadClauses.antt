-- A handler section that is read is spelled by the bytes it was read from.
use Rattle.std.proofs.Common.{◌≡◌, ℕ, zero, suc, ◌+◌, ◌*◌, ◌/◌, ◌%◌, ◌≤◌, Bool, true, false, cond, eqb, ◌||◌, List, [], ◌∷◌, ◌++◌, length, take, drop, Option, None, Result, Ok, Err, inl, inr, refl, sym, ap, ap₂, subst, ◌∙◌, append_assoc, arith}
use Rattle.std.specs.List.{AllByRecursion}
use Rattle.std.proofs.lemmas.Bool.{eqb-true}
use Rattle.std.proofs.lemmas.List.{append-nil, drop-drop}
use Rattle.byteorder.specs.Endian.{little_bytes}
use Rattle.il_base.specs.Bytes.{number_at}
use Rattle.il_base.specs.declared.body.Handler.{Handler}
use Rattle.il_base.specs.declared.outside.TheConstants.{FILTER, BODY}
use Rattle.il_base.specs.declared.body_grammar.body.Fault.{Fault}
use Rattle.il_base.specs.body_grammar.Faults.{◌>>=◌, fault}
use Rattle.il_base.specs.body_grammar.Bodies.{field_at, zero_at, clause_kind_at, small_clause_at, fat_clause_at, clause_at, clause_size, clauses_then, clauses_after, small_section_at, fat_section_at, section_at}
use Rattle.il_base.specs.body_grammar.BodySpelling.{small_clause_bytes, fat_clause_bytes, clause_bytes, clauses_bytes, section_head, IsClause}
use Rattle.il_base.proofs.lemmas.body_grammar.ReadNumbers.{IsBytes, bind_ok, need_ok, if_ok, if_not, either_ok, ok_is, take-add, IsField, is_1, is_2, is_4}

pub field_1 : (n at : ℕ) (bs : List ℕ) → IsBytes bs → field_at 1 bs at ≡ Ok n → IsField 1 at bs n
field_1 n at bs fits e = is_1 n at bs fits (need_ok (number_at 1 bs at) (fault (length bs) BODY) n e)

pub field_2 : (n at : ℕ) (bs : List ℕ) → IsBytes bs → field_at 2 bs at ≡ Ok n → IsField 2 at bs n
field_2 n at bs fits e = is_2 n at bs fits (need_ok (number_at 2 bs at) (fault (length bs) BODY) n e)

pub field_4 : (n at : ℕ) (bs : List ℕ) → IsBytes bs → field_at 4 bs at ≡ Ok n → IsField 4 at bs n
field_4 n at bs fits e = is_4 n at bs fits (need_ok (number_at 4 bs at) (fault (length bs) BODY) n e)

-- two parts, one after the other
pub join : (at a b : ℕ) (bs x y : List ℕ) → take a (drop at bs) ≡ x → take b (drop (at + a) bs) ≡ y → take (a + b) (drop at bs) ≡ x ++ y
join at a b bs x y p q = take-add a b (drop at bs) ∙ ap₂ (λ (s t : List ℕ). s ++ t) p (ap (take b) (drop-drop a at bs) ∙ q)

-- a byte that is spelled by itself
pub one_byte : (n at : ℕ) (bs : List ℕ) → IsField 1 at bs n → take 1 (drop at bs) ≡ n ∷ []
one_byte n at bs f = let low : n % 256 ≡ n = omega (arith, f.fits) in f.spelled ∙ ap (λ (m : ℕ). m ∷ []) low

zero_takes : (z at : ℕ) (bs : List ℕ) → IsBytes bs → zero_at at bs ≡ Ok z → take 1 (drop at bs) ≡ 0 ∷ []
unfolding zero_at
zero_takes z at bs fits e =
    let p = bind_ok (field_at 1 bs at) (λ b. cond (eqb b 0) (Ok 0) (Err (fault at BODY))) z e in
    let q = if_ok (eqb p.0 0) (Ok 0) (fault at BODY) z p.2 in
    let none : p.0 ≡ 0 = eqb-true p.0 0 q.0 in
    one_byte p.0 at bs (field_1 p.0 at bs fits p.1) ∙ ap (λ (m : ℕ). m ∷ []) none

kind_takes : (k at : ℕ) (bs : List ℕ) → clause_kind_at at bs ≡ Ok k → (field_at 1 bs at ≡ Ok k) × ((eqb k 0 || eqb k 2 || eqb k 4) ≡ true)
unfolding clause_kind_at
kind_takes k at bs e =
    let p = bind_ok (field_at 1 bs at) (λ kind. cond (eqb kind 1) (Err (fault at FILTER)) (cond (eqb kind 0 || eqb kind 2 || eqb kind 4) (Ok kind) (Err (fault at BODY)))) k e in
    let q = if_not (eqb p.0 1) (cond (eqb p.0 0 || eqb p.0 2 || eqb p.0 4) (Ok p.0) (Err (fault at BODY))) (fault at FILTER) k p.2 in
    let r = if_ok (eqb p.0 0 || eqb p.0 2 || eqb p.0 4) (Ok p.0) (fault at BODY) k q.1 in
    let same : p.0 ≡ k = ok_is p.0 k r.1 in
    subst (λ (m : ℕ). (field_at 1 bs at ≡ Ok m) × ((eqb m 0 || eqb m 2 || eqb m 4) ≡ true)) same (p.1, r.0)

-- a clause and the bytes that it takes
pub record TakesClause (fat : Bool) (from : ℕ) (bs : List ℕ) (h : Handler) : Type 0 where
  pub is : IsClause fat h
  pub within : from + clause_size fat ≤ length bs
  pub spelled : take (clause_size fat) (drop from bs) ≡ clause_bytes fat h

small_takes : (at : ℕ) (bs : List ℕ) (h : Handler) → IsBytes bs → small_clause_at at bs ≡ Ok h → TakesClause false at bs h
unfolding small_clause_at
small_takes at bs h fits e =
    let p0 = bind_ok (clause_kind_at at bs) (λ kind. zero_at (at + 1) bs >>= λ high. field_at 2 bs (at + 2) >>= λ try_at. field_at 1 bs (at + 4) >>= λ try_len.
    field_at 2 bs (at + 5) >>= λ start. field_at 1 bs (at + 7) >>= λ len. field_at 4 bs (at + 8) >>= λ token.
    Ok (record { kind = kind; try_at = try_at; try_len = try_len; at = start; len = len; token = token })) h e in
    let p1 = bind_ok (zero_at (at + 1) bs) (λ high. field_at 2 bs (at + 2) >>= λ try_at. field_at 1 bs (at + 4) >>= λ try_len.
    field_at 2 bs (at + 5) >>= λ start. field_at 1 bs (at + 7) >>= λ len. field_at 4 bs (at + 8) >>= λ token.
    Ok (record { kind = p0.0; try_at = try_at; try_len = try_len; at = start; len = len; token = token })) h p0.2 in
    let p2 = bind_ok (field_at 2 bs (at + 2)) (λ try_at. field_at 1 bs (at + 4) >>= λ try_len.
    field_at 2 bs (at + 5) >>= λ start. field_at 1 bs (at + 7) >>= λ len. field_at 4 bs (at + 8) >>= λ token.
    Ok (record { kind = p0.0; try_at = try_at; try_len = try_len; at = start; len = len; token = token })) h p1.2 in
    let p3 = bind_ok (field_at 1 bs (at + 4)) (λ try_len.
    field_at 2 bs (at + 5) >>= λ start. field_at 1 bs (at + 7) >>= λ len. field_at 4 bs (at + 8) >>= λ token.
    Ok (record { kind = p0.0; try_at = p2.0; try_len = try_len; at = start; len = len; token = token })) h p2.2 in
    let p4 = bind_ok (field_at 2 bs (at + 5)) (λ start. field_at 1 bs (at + 7) >>= λ len. field_at 4 bs (at + 8) >>= λ token.
    Ok (record { kind = p0.0; try_at = p2.0; try_len = p3.0; at = start; len = len; token = token })) h p3.2 in
    let p5 = bind_ok (field_at 1 bs (at + 7)) (λ len. field_at 4 bs (at + 8) >>= λ token.
    Ok (record { kind = p0.0; try_at = p2.0; try_len = p3.0; at = p4.0; len = len; token = token })) h p4.2 in
    let p6 = bind_ok (field_at 4 bs (at + 8)) (λ token.
    Ok (record { kind = p0.0; try_at = p2.0; try_len = p3.0; at = p4.0; len = p5.0; token = token })) h p5.2 in
    let kind = kind_takes p0.0 at bs p0.1 in
    let t0 = one_byte p0.0 at bs (field_1 p0.0 at bs fits kind.0) in
    let t1 = zero_takes p1.0 (at + 1) bs fits p1.1 in
    let f2 = field_2 p2.0 (at + 2) bs fits p2.1 in
    let f3 = field_1 p3.0 (at + 4) bs fits p3.1 in
    let f4 = field_2 p4.0 (at + 5) bs fits p4.1 in
    let f5 = field_1 p5.0 (at + 7) bs fits p5.1 in
    let f6 = field_4 p6.0 (at + 8) bs fits p6.1 in
    let m2 : p2.0 ≡ p2.0 % 65536 = omega (arith, f2.fits) in
    let m4 : p4.0 ≡ p4.0 % 65536 = omega (arith, f4.fits) in
    let made : Handler = record { kind = p0.0; try_at = p2.0; try_len = p3.0; at = p4.0; len = p5.0; token = p6.0 } in
    let j1 = join at 1 1 bs (p0.0 ∷ []) (0 ∷ []) t0 t1 in
    let j2 = join at 2 2 bs (p0.0 ∷ 0 ∷ []) (little_bytes 2 (p2.0 % 65536)) j1 (f2.spelled ∙ ap (little_bytes 2) m2) in
    let j3 = join at 4 1 bs (p0.0 ∷ 0 ∷ [] ++ little_bytes 2 (p2.0 % 65536)) (little_bytes 1 p3.0) j2 f3.spelled in
    let j4 = join at 5 2 bs (take 5 (small_clause_bytes made)) (little_bytes 2 (p4.0 % 65536)) j3 (f4.spelled ∙ ap (little_bytes 2) m4) in
    let j5 = join at 7 1 bs (take 7 (small_clause_bytes made)) (little_bytes 1 p5.0) j4 f5.spelled in
    let j6 = join at 8 4 bs (take 8 (small_clause_bytes made)) (little_bytes 4 p6.0) j5 f6.spelled in
    subst (TakesClause false at bs) {x = made} (ok_is made h p6.2) (record {
      is = record { kind = kind.1; try_at = f2.fits; try_len = f3.fits; at = f4.fits; len = f5.fits; token = f6.fits };
      within = omega (arith, f6.within);
      spelled = j6;
    })

fat_takes : (at : ℕ) (bs : List ℕ) (h : Handler) → IsBytes bs → fat_clause_at at bs ≡ Ok h → TakesClause true at bs h
unfolding fat_clause_at
fat_takes at bs h fits e =
    let p0 = bind_ok (clause_kind_at at bs) (λ kind. zero_at (at + 1) bs >>= λ second. zero_at (at + 2) bs >>= λ third. zero_at (at + 3) bs >>= λ fourth.
    field_at 4 bs (at + 4) >>= λ try_at. field_at 4 bs (at + 8) >>= λ try_len. field_at 4 bs (at + 12) >>= λ start. field_at 4 bs (at + 16) >>= λ len. field_at 4 bs (at + 20) >>= λ token.
    Ok (record { kind = kind; try_at = try_at; try_len = try_len; at = start; len = len; token = token })) h e in
    let z1 = bind_ok (zero_at (at + 1) bs) (λ second. zero_at (at + 2) bs >>= λ third. zero_at (at + 3) bs >>= λ fourth.
    field_at 4 bs (at + 4) >>= λ try_at. field_at 4 bs (at + 8) >>= λ try_len. field_at 4 bs (at + 12) >>= λ start. field_at 4 bs (at + 16) >>= λ len. field_at 4 bs (at + 20) >>= λ token.
    Ok (record { kind = p0.0; try_at = try_at; try_len = try_len; at = start; len = len; token = token })) h p0.2 in
    let z2 = bind_ok (zero_at (at + 2) bs) (λ third. zero_at (at + 3) bs >>= λ fourth.
    field_at 4 bs (at + 4) >>= λ try_at. field_at 4 bs (at + 8) >>= λ try_len. field_at 4 bs (at + 12) >>= λ start. field_at 4 bs (at + 16) >>= λ len. field_at 4 bs (at + 20) >>= λ token.
    Ok (record { kind = p0.0; try_at = try_at; try_len = try_len; at = start; len = len; token = token })) h z1.2 in
    let z3 = bind_ok (zero_at (at + 3) bs) (λ fourth.
    field_at 4 bs (at + 4) >>= λ try_at. field_at 4 bs (at + 8) >>= λ try_len. field_at 4 bs (at + 12) >>= λ start. field_at 4 bs (at + 16) >>= λ len. field_at 4 bs (at + 20) >>= λ token.
    Ok (record { kind = p0.0; try_at = try_at; try_len = try_len; at = start; len = len; token = token })) h z2.2 in
    let p2 = bind_ok (field_at 4 bs (at + 4)) (λ try_at. field_at 4 bs (at + 8) >>= λ try_len. field_at 4 bs (at + 12) >>= λ start. field_at 4 bs (at + 16) >>= λ len. field_at 4 bs (at + 20) >>= λ token.
    Ok (record { kind = p0.0; try_at = try_at; try_len = try_len; at = start; len = len; token = token })) h z3.2 in
    let p3 = bind_ok (field_at 4 bs (at + 8)) (λ try_len. field_at 4 bs (at + 12) >>= λ start. field_at 4 bs (at + 16) >>= λ len. field_at 4 bs (at + 20) >>= λ token.
    Ok (record { kind = p0.0; try_at = p2.0; try_len = try_len; at = start; len = len; token = token })) h p2.2 in
    let p4 = bind_ok (field_at 4 bs (at + 12)) (λ start. field_at 4 bs (at + 16) >>= λ len. field_at 4 bs (at + 20) >>= λ token.
    Ok (record { kind = p0.0; try_at = p2.0; try_len = p3.0; at = start; len = len; token = token })) h p3.2 in
    let p5 = bind_ok (field_at 4 bs (at + 16)) (λ len. field_at 4 bs (at + 20) >>= λ token.
    Ok (record { kind = p0.0; try_at = p2.0; try_len = p3.0; at = p4.0; len = len; token = token })) h p4.2 in
    let p6 = bind_ok (field_at 4 bs (at + 20)) (λ token.
    Ok (record { kind = p0.0; try_at = p2.0; try_len = p3.0; at = p4.0; len = p5.0; token = token })) h p5.2 in
    let kind = kind_takes p0.0 at bs p0.1 in
    let t0 = one_byte p0.0 at bs (field_1 p0.0 at bs fits kind.0) in
    let t1 = zero_takes z1.0 (at + 1) bs fits z1.1 in
    let t2 = zero_takes z2.0 (at + 2) bs fits z2.1 in
    let t3 = zero_takes z3.0 (at + 3) bs fits z3.1 in
    let f2 = field_4 p2.0 (at + 4) bs fits p2.1 in
    let f3 = field_4 p3.0 (at + 8) bs fits p3.1 in
    let f4 = field_4 p4.0 (at + 12) bs fits p4.1 in
    let f5 = field_4 p5.0 (at + 16) bs fits p5.1 in
    let f6 = field_4 p6.0 (at + 20) bs fits p6.1 in
    let made : Handler = record { kind = p0.0; try_at = p2.0; try_len = p3.0; at = p4.0; len = p5.0; token = p6.0 } in
    let j1 = join at 1 1 bs (p0.0 ∷ []) (0 ∷ []) t0 t1 in
    let j2 = join at 2 1 bs (p0.0 ∷ 0 ∷ []) (0 ∷ []) j1 t2 in
    let j3 = join at 3 1 bs (p0.0 ∷ 0 ∷ 0 ∷ []) (0 ∷ []) j2 t3 in
    let k2 = join at 4 4 bs (p0.0 ∷ 0 ∷ 0 ∷ 0 ∷ []) (little_bytes 4 p2.0) j3 f2.spelled in
    let k3 = join at 8 4 bs (take 8 (fat_clause_bytes made)) (little_bytes 4 p3.0) k2 f3.spelled in
    let k4 = join at 12 4 bs (take 12 (fat_clause_bytes made)) (little_bytes 4 p4.0) k3 f4.spelled in
    let k5 = join at 16 4 bs (take 16 (fat_clause_bytes made)) (little_bytes 4 p5.0) k4 f5.spelled in
    let k6 = join at 20 4 bs (take 20 (fat_clause_bytes made)) (little_bytes 4 p6.0) k5 f6.spelled in
    subst (TakesClause true at bs) {x = made} (ok_is made h p6.2) (record {
      is = record { kind = kind.1; try_at = f2.fits; try_len = f3.fits; at = f4.fits; len = f5.fits; token = f6.fits };
      within = omega (arith, f6.within);
      spelled = k6;
    })

clause_takes : (fat : Bool) (at : ℕ) (bs : List ℕ) (h : Handler) → IsBytes bs → clause_at fat at bs ≡ Ok h → TakesClause fat at bs h
clause_takes false at bs h fits e = small_takes at bs h fits e
clause_takes true at bs h fits e = fat_takes at bs h fits e

-- ---- the clauses of a section

then_ok : (before : List Handler) (r : Result Handler Fault) (f : Handler → List Handler × Option Fault) (total : List Handler)
    → clauses_then before r f ≡ (total, None) → (h : Handler) × (r ≡ Ok h) × (f h ≡ (total, None))
then_ok before (Ok h) f total e = (h, refl, e)
then_ok before (Err d) f total e = let no = ap (λ (p : List Handler × Option Fault). p.1) e in absurd cc

-- clauses and the bytes that they take, after those before
pub record TakesClauses (n : ℕ) (fat : Bool) (from : ℕ) (bs : List ℕ) (before total : List Handler) : Type 0 where
  pub clauses : List Handler
  pub all : total ≡ before ++ clauses
  pub count : length clauses ≡ n
  pub are : AllByRecursion (IsClause fat) clauses
  pub within : from + n * clause_size fat ≤ length bs
  pub spelled : take (n * clause_size fat) (drop from bs) ≡ clauses_bytes fat clauses

pub clauses_take : (n : ℕ) (fat : Bool) (at : ℕ) (bs : List ℕ) (before total : List Handler) → IsBytes bs → at ≤ length bs
    → clauses_after n fat at bs before ≡ (total, None) → TakesClauses n fat at bs before total
unfolding clauses_after
clauses_take zero fat at bs before total fits le e =
    let none : 0 * clause_size fat ≡ 0 = omega arith in
    record {
      clauses = [];
      all = sym (ap (λ (p : List Handler × Option Fault). p.0) e) ∙ sym (append-nil before);
      count = refl;
      are = tt;
      within = omega arith;
      spelled = ap (λ (k : ℕ). take k (drop at bs)) none;
    }
clauses_take (suc n) fat at bs before total fits le e =
    let p = then_ok before (clause_at fat at bs) (λ h. clauses_after n fat (at + clause_size fat) bs (before ++ h ∷ [])) total e in
    let first = clause_takes fat at bs p.0 fits p.1 in
    let rest = clauses_take n fat (at + clause_size fat) bs (before ++ p.0 ∷ []) total fits first.within p.2 in
    let size : suc n * clause_size fat ≡ clause_size fat + n * clause_size fat = omega arith in
    record {
      clauses = p.0 ∷ rest.clauses;
      all = rest.all ∙ append_assoc before (p.0 ∷ []) rest.clauses;
      count = ap suc rest.count;
      are = (first.is, rest.are);
      within = omega (arith, rest.within);
      spelled = ap (λ (k : ℕ). take k (drop at bs)) size
          ∙ join at (clause_size fat) (n * clause_size fat) bs (clause_bytes fat p.0) (clauses_bytes fat rest.clauses) first.spelled rest.spelled;
    }

-- ---- the head of a section

pub record TakesHead (from : ℕ) (bs : List ℕ) (x : Bool × ℕ) : Type 0 where
  pub reserved : List ℕ
  pub two : length reserved ≡ 2
  pub count : x.1 ≤ cond x.0 699050 20
  pub within : from + 4 ≤ length bs
  pub spelled : take 4 (drop from bs) ≡ section_head x.0 x.1 reserved

small_head_takes : (at n : ℕ) (bs : List ℕ) → IsBytes bs → field_at 1 bs at ≡ Ok 1 → small_section_at at bs ≡ Ok n → TakesHead at bs (false, n)
unfolding small_section_at section_head
small_head_takes at n bs fits e0 e =
    let p = bind_ok (field_at 1 bs (at + 1)) (λ size. cond (eqb (size % 12) 4) (field_at 2 bs (at + 2) >>= λ reserved. Ok (size / 12)) (Err (fault (at + 1) BODY))) n e in
    let q = if_ok (eqb (p.0 % 12) 4) (field_at 2 bs (at + 2) >>= λ reserved. Ok (p.0 / 12)) (fault (at + 1) BODY) n p.2 in
    let r = bind_ok (field_at 2 bs (at + 2)) (λ reserved. Ok (p.0 / 12)) n q.1 in
    let exact : p.0 % 12 ≡ 4 = eqb-true (p.0 % 12) 4 q.0 in
    let f0 = field_1 1 at bs fits e0 in
    let f1 = field_1 p.0 (at + 1) bs fits p.1 in
    let f2 = field_2 r.0 (at + 2) bs fits r.1 in
    let count : p.0 / 12 ≡ n = ok_is (p.0 / 12) n r.2 in
    let size : p.0 % 256 ≡ (4 + 12 * n) % 256 = omega (arith, f1.fits) in
    record {
      reserved = little_bytes 2 r.0;
      two = refl;
      count = omega (arith, f1.fits);
      within = omega (arith, f2.within);
      spelled = join at 2 2 bs (1 ∷ (4 + 12 * n) % 256 ∷ []) (little_bytes 2 r.0)
          (join at 1 1 bs (1 ∷ []) ((4 + 12 * n) % 256 ∷ []) f0.spelled (f1.spelled ∙ ap (λ (m : ℕ). m ∷ []) size)) f2.spelled;
    }

fat_head_takes : (at n : ℕ) (bs : List ℕ) → IsBytes bs → field_at 1 bs at ≡ Ok 65 → fat_section_at at bs ≡ Ok n → TakesHead at bs (true, n)
unfolding fat_section_at section_head
fat_head_takes at n bs fits e0 e =
    let p = bind_ok (field_at 1 bs (at + 1)) (λ low. cond (eqb (low % 8) 4) (field_at 2 bs (at + 1) >>= λ front. field_at 1 bs (at + 3) >>= λ high.
    cond (eqb ((front + 65536 * high) % 24) 4) (Ok ((front + 65536 * high) / 24)) (Err (fault (at + 3) BODY))) (Err (fault (at + 1) BODY))) n e in
    let q = if_ok (eqb (p.0 % 8) 4) (field_at 2 bs (at + 1) >>= λ front. field_at 1 bs (at + 3) >>= λ high.
    cond (eqb ((front + 65536 * high) % 24) 4) (Ok ((front + 65536 * high) / 24)) (Err (fault (at + 3) BODY))) (fault (at + 1) BODY) n p.2 in
    let r = bind_ok (field_at 2 bs (at + 1)) (λ front. field_at 1 bs (at + 3) >>= λ high.
    cond (eqb ((front + 65536 * high) % 24) 4) (Ok ((front + 65536 * high) / 24)) (Err (fault (at + 3) BODY))) n q.1 in
    let front : ℕ = r.0 in
    let t = bind_ok (field_at 1 bs (at + 3)) (λ high. cond (eqb ((front + 65536 * high) % 24) 4) (Ok ((front + 65536 * high) / 24)) (Err (fault (at + 3) BODY))) n r.2 in
    let high : ℕ = t.0 in
    let u = if_ok (eqb ((front + 65536 * high) % 24) 4) (Ok ((front + 65536 * high) / 24)) (fault (at + 3) BODY) n t.2 in
    let exact : (front + 65536 * high) % 24 ≡ 4 = eqb-true ((front + 65536 * high) % 24) 4 u.0 in
    let count : (front + 65536 * high) / 24 ≡ n = ok_is ((front + 65536 * high) / 24) n u.1 in
    let f0 = field_1 65 at bs fits e0 in
    let f1 = field_2 front (at + 1) bs fits r.1 in
    let f2 = field_1 high (at + 3) bs fits t.1 in
    let size : front + 65536 * high ≡ 4 + 24 * n = omega arith in
    let b1 : front % 256 ≡ (4 + 24 * n) % 256 = omega (arith, f1.fits, f2.fits) in
    let b2 : front / 256 % 256 ≡ (4 + 24 * n) / 256 % 256 = omega (arith, f1.fits, f2.fits) in
    let b3 : high % 256 ≡ (4 + 24 * n) / 65536 % 256 = omega (arith, f1.fits, f2.fits) in
    record {
      reserved = 0 ∷ 0 ∷ [];
      two = refl;
      count = omega (arith, f1.fits, f2.fits);
      within = omega (arith, f2.within);
      spelled = join at 3 1 bs (65 ∷ (4 + 24 * n) % 256 ∷ (4 + 24 * n) / 256 % 256 ∷ []) ((4 + 24 * n) / 65536 % 256 ∷ [])
          (join at 1 2 bs (65 ∷ []) ((4 + 24 * n) % 256 ∷ (4 + 24 * n) / 256 % 256 ∷ []) f0.spelled (f1.spelled ∙ ap₂ (λ (x y : ℕ). x ∷ y ∷ []) b1 b2))
          (f2.spelled ∙ ap (λ (m : ℕ). m ∷ []) b3);
    }

pub section_takes : (at : ℕ) (bs : List ℕ) (x : Bool × ℕ) → IsBytes bs → section_at at bs ≡ Ok x → TakesHead at bs x
unfolding section_at
section_takes at bs x fits e =
    let p = bind_ok (field_at 1 bs at) (λ kind. cond (eqb kind 1) (small_section_at at bs >>= λ n. Ok (false, n))
    (cond (eqb kind 65) (fat_section_at at bs >>= λ n. Ok (true, n)) (Err (fault at BODY)))) x e in
    elim (either_ok (eqb p.0 1) (small_section_at at bs >>= λ n. Ok (false, n)) (cond (eqb p.0 65) (fat_section_at at bs >>= λ n. Ok (true, n)) (Err (fault at BODY))) x p.2) [
      | inl small ↦
          let is : p.0 ≡ 1 = eqb-true p.0 1 small.0 in
          let q = bind_ok (small_section_at at bs) (λ n. Ok (false, n)) x small.1 in
          subst (TakesHead at bs) (ok_is (false, q.0) x q.2) (small_head_takes at q.0 bs fits (p.1 ∙ ap (λ (n : ℕ). Ok n) is) q.1)
      | inr other ↦
          let r = if_ok (eqb p.0 65) (fat_section_at at bs >>= λ n. Ok (true, n)) (fault at BODY) x other.1 in
          let is : p.0 ≡ 65 = eqb-true p.0 65 r.0 in
          let q = bind_ok (fat_section_at at bs) (λ n. Ok (true, n)) x r.1 in
          subst (TakesHead at bs) (ok_is (true, q.0) x q.2) (fat_head_takes at q.0 bs fits (p.1 ∙ ap (λ (n : ℕ). Ok n) is) q.1)
    ]
