-- A fault in the code is at the first instruction that no body has there.
use Rattle.std.proofs.Common.{◌≡◌, ℕ, zero, suc, ◌+◌, ◌-◌, ◌<◌, ◌≤◌, ◌⊎◌, inl, inr, Bool, true, false, cond, eqb, List, [], ◌∷◌, ◌++◌, length, take, drop, Option, Some, None, Result, Ok, Err, refl, sym, ap, ap₂, subst, ◌∙◌, append_assoc, arith, length-append}
use Rattle.std.specs.Prelude.{slice_get}
use Rattle.std.proofs.lemmas.List.{drop_at, drop-take, take-take, take-append-le, take-append-drop, length-take, length-drop}
use Rattle.il_base.specs.Bytes.{number_at}
use Rattle.il_base.specs.declared.body.Body.{Body}
use Rattle.il_base.specs.declared.body.Instr.{Instr}
use Rattle.il_base.specs.declared.outside.TheConstants.{BODY, FLOAT, INSTRUCTION}
use Rattle.il_base.specs.declared.body_grammar.body.Fault.{Fault}
use Rattle.il_base.specs.declared.body_grammar.body.Header.{Header}
use Rattle.il_base.specs.body_grammar.Faults.{◌>>=◌, need, fault}
use Rattle.il_base.specs.body_grammar.Opcodes.{kind_of, is_float}
use Rattle.il_base.specs.body_grammar.Instructions.{opcode_at, kind_at, operand_at, instr_at, code_after}
use Rattle.il_base.specs.body_grammar.Bodies.{header_at, header_size}
use Rattle.il_base.specs.body_grammar.BodySpelling.{instr_bytes, code_bytes, header_bytes, section_bytes, Filler, IsInstr, IsCode, IsSpelledBy}
use Rattle.il_base.specs.body_grammar.FirstFault.{Begins, HasInstr, IsFirstBadInstr}
use Rattle.il_base.proofs.lemmas.body_grammar.ReadNumbers.{IsBytes, bytes-drop, ok_is, take-add}
use Rattle.il_base.proofs.lemmas.body_grammar.ReadCode.{instr_takes}
use Rattle.il_base.proofs.lemmas.body_grammar.ReadBodies.{header_text}
use Rattle.il_base.proofs.lemmas.body_grammar.WrittenCode.{code_step, one_byte_or_more, no_more}
use Rattle.il_base.proofs.lemmas.body_grammar.WrittenBodies.{header_of, header_again, length-header}
use Rattle.il_base.proofs.lemmas.body_grammar.FaultBodies.{IsHeader, header_read, completes, continues, Continues}

-- ---- faults of steps one after another

pub bind_err : {A B : Type 0} (r : Result A Fault) (f : A → Result B Fault) (d : Fault) → (r >>= f) ≡ Err d → (r ≡ Err d) ⊎ ((x : A) × (r ≡ Ok x) × (f x ≡ Err d))
bind_err (Ok x) f d e = inr (x, refl, e)
bind_err (Err c) f d e = inl cc

abbrev failed : {A : Type 0} → Fault → Result A Fault
failed d = Err d

pub err_is : {A : Type 0} (c d : Fault) → failed {A = A} c ≡ failed d → c ≡ d
err_is c d e = cc

pub need_err : {A : Type 0} (o : Option A) (f d : Fault) → need o f ≡ Err d → f ≡ d
need_err {A = A} None f d e = err_is {A = A} f d e
need_err (Some x) f d e = absurd cc

pub not_both : {A : Type 0} (r : Result A Fault) (x : A) (d : Fault) → r ≡ Ok x → r ≡ Err d → ⊥
not_both (Ok y) x d p q = absurd cc
not_both (Err c) x d p q = absurd cc

-- ---- the place of a fault of an instruction

abbrev at_of : Fault → ℕ
at_of f = f.at

abbrev wide : ℕ → List ℕ → Result (ℕ × ℕ) Fault
wide place bs = need (number_at 1 bs 1) (fault place BODY) >>= λ second. Ok (65024 + second, 2)

abbrev narrow : ℕ → Result (ℕ × ℕ) Fault
narrow first = Ok (first, 1)

by_first : (b : Bool) (first place : ℕ) (bs : List ℕ) (d : Fault) → cond b (wide place bs) (narrow first) ≡ Err d → d.at ≡ place
by_first true first place bs d e =
    elim (bind_err {B = ℕ × ℕ} (need (number_at 1 bs 1) (fault place BODY)) (λ second. Ok (65024 + second, 2)) d e) [
      | inl second ↦ sym (ap at_of (need_err (number_at 1 bs 1) (fault place BODY) d second))
      | inr more ↦ absurd (let no = more.2 in cc)
    ]
by_first false first place bs d e = absurd cc

opcode_fault : (place : ℕ) (bs : List ℕ) (d : Fault) → opcode_at place bs ≡ Err d → d.at ≡ place
unfolding opcode_at
opcode_fault place bs d e =
    elim (bind_err {B = ℕ × ℕ} (need (number_at 1 bs 0) (fault place BODY)) (λ first. cond (eqb first 254) (wide place bs) (narrow first)) d e) [
      | inl first ↦ sym (ap at_of (need_err (number_at 1 bs 0) (fault place BODY) d first))
      | inr more ↦ by_first (eqb more.0 254) more.0 place bs d more.2
    ]

pub instr_fault : (at place : ℕ) (bs : List ℕ) (d : Fault) → instr_at at place bs ≡ Err d → d.at ≡ place
unfolding instr_at kind_at
instr_fault at place bs d e =
    elim (bind_err {B = Instr × ℕ} (opcode_at place bs) (λ op. (need (kind_of op.0) (fault place (cond (is_float op.0) FLOAT INSTRUCTION))) >>= λ kind. need (operand_at kind.1 op.0 (at + op.1) (drop op.1 bs)) (fault place BODY) >>= λ o.
    Ok (record { at = at; form = kind.0; opcode = op.0; operand = o.0 }, op.1 + o.1)) d e) [
      | inl opcode ↦ opcode_fault place bs d opcode
      | inr op ↦ elim (bind_err {B = Instr × ℕ} (need (kind_of op.0.0) (fault place (cond (is_float op.0.0) FLOAT INSTRUCTION))) (λ kind. need (operand_at kind.1 op.0.0 (at + op.0.1) (drop op.0.1 bs)) (fault place BODY) >>= λ o.
          Ok (record { at = at; form = kind.0; opcode = op.0.0; operand = o.0 }, op.0.1 + o.1)) d op.2) [
            | inl kind ↦ sym (ap at_of (need_err (kind_of op.0.0) (fault place (cond (is_float op.0.0) FLOAT INSTRUCTION)) d kind))
            | inr kind ↦ elim (bind_err {B = Instr × ℕ} (need (operand_at kind.0.1 op.0.0 (at + op.0.1) (drop op.0.1 bs)) (fault place BODY)) (λ o. Ok (record { at = at; form = kind.0.0; opcode = op.0.0; operand = o.0 }, op.0.1 + o.1)) d kind.2) [
              | inl operand ↦ sym (ap at_of (need_err (operand_at kind.0.1 op.0.0 (at + op.0.1) (drop op.0.1 bs)) (fault place BODY) d operand))
              | inr more ↦ absurd (let no = more.2 in cc)
            ]
          ]
    ]

-- ---- the code before a fault

-- the instructions before the one that isn't read, and the bytes from it on
pub record Fails (base at : ℕ) (bs : List ℕ) (d : Fault) : Type 0 where
  pub code : List Instr
  pub rest : List ℕ
  pub is : IsCode at code
  pub parts : bs ≡ code_bytes code ++ rest
  pub some : 0 < length rest
  pub not_read : instr_at (at + length (code_bytes code)) (base + (at + length (code_bytes code))) rest ≡ Err d

pub code_fails : (bound base at : ℕ) (before : List Instr) (bs : List ℕ) (d : Fault) → IsBytes bs → length bs ≤ bound → code_after bound base at before bs ≡ Err d → Fails base at bs d
code_fails bound base at before [] d fits enough e = absurd (not_both (code_after bound base at before []) before d (no_more bound base at before) e)
code_fails zero base at before (b ∷ bs) d fits enough e = absurd (omega arith)
code_fails (suc n) base at before (b ∷ bs) d fits enough e =
    let all : List ℕ = b ∷ bs in
    let long : 0 < length all = omega arith in
    elim (bind_err (instr_at at (base + at) all) (λ i. code_after n base (at + i.1) (before ++ i.0 ∷ []) (drop i.1 all)) d (sym (code_step n base at before all long) ∙ e)) [
      | inl here ↦
          let same : at ≡ at + 0 = omega arith in
          record { code = []; rest = all; is = tt; parts = refl; some = long; not_read = subst (λ (m : ℕ). instr_at m (base + m) all ≡ Err d) same here }
      | inr more ↦
          let i : Instr = more.0.0 in
          let size : ℕ = more.0.1 in
          let takes = instr_takes at (base + at) all more.0 fits more.1 in
          let len : length (instr_bytes i) ≡ size = omega (arith, ap length (sym takes.spelled), length-take size all, takes.within) in
          let r = code_fails n base (at + size) (before ++ i ∷ []) (drop size all) d (bytes-drop size all fits) (omega (arith, length-drop size all, one_byte_or_more i)) more.2 in
          let place : at + size + length (code_bytes r.code) ≡ at + length (instr_bytes i ++ code_bytes r.code) = omega (arith, len, length-append (instr_bytes i) (code_bytes r.code)) in
          record {
            code = i ∷ r.code;
            rest = r.rest;
            is = (takes.at, takes.is, subst (λ (m : ℕ). IsCode (at + m) r.code) (sym len) r.is);
            parts = sym (take-append-drop size all) ∙ ap₂ (λ (x y : List ℕ). x ++ y) takes.spelled r.parts ∙ sym (append_assoc (instr_bytes i) (code_bytes r.code) r.rest);
            some = r.some;
            not_read = subst (λ (m : ℕ). instr_at m (base + m) r.rest ≡ Err d) place r.not_read;
          }
    ]

-- ---- a code that no body goes on with

get_behind : {A : Type 0} (xs : List A) (y : A) (ys : List A) → slice_get (xs ++ y ∷ ys) (length xs) ≡ Some y
get_behind [] y ys = refl
get_behind (x ∷ xs) y ys = get_behind xs y ys

module _ (bs : List ℕ) (h : Header) (done : List Instr) (header : take (header_size h.tiny) bs ≡ header_text h) (is : IsHeader h) (are : IsCode 0 done)
    (less : length (code_bytes done) < h.size) (enough : header_size h.tiny + length (code_bytes done) ≤ length bs)
    (front : take (length (code_bytes done)) (drop (header_size h.tiny) bs) ≡ code_bytes done)
    (stuck : (i : Instr) (more : List ℕ) → IsInstr i → i.at ≡ length (code_bytes done) → take (h.size - length (code_bytes done)) (drop (header_size h.tiny + length (code_bytes done)) bs) ≡ instr_bytes i ++ more → ⊥) where
  abbrev from : ℕ
  from = header_size h.tiny

  abbrev d : ℕ
  d = length (code_bytes done)

  begun : Begins bs (from + d)
  begun =
      let c = completes h done is are (omega (arith, less)) in
      let text : take (from + d) bs ++ c.more ≡ header_text h ++ (code_bytes done ++ c.more) =
      ap (λ (x : List ℕ). x ++ c.more) (take-add from d bs ∙ ap₂ (λ (x y : List ℕ). x ++ y) header front) ∙ append_assoc (header_text h) (code_bytes done) c.more in
      (c.body, c.more, subst (λ (t : List ℕ). IsSpelledBy t c.body) (sym text) c.spelled)

  -- a body whose spelling begins with the same bytes
  module _ (b : Body) (text : List ℕ) (spelled : IsSpelledBy text b) (same : take (from + d) text ≡ take (from + d) bs) where
    abbrev f : Filler
    f = spelled.1

    abbrev own : List ℕ
    own = header_bytes b f.sects (length (code_bytes b.code))

    abbrev tail : List ℕ
    tail = cond f.sects (section_bytes f.pad f.reserved b) []

    parts : text ≡ own ++ (code_bytes b.code ++ tail)
    parts = spelled.3 ∙ append_assoc own (code_bytes b.code) tail

    header_front : take from text ≡ header_text h
    header_front = sym (take-take from (from + d) text (omega arith)) ∙ ap (take from) same ∙ take-take from (from + d) bs (omega arith) ∙ header

    header_is : header_of f b ≡ h
    header_is =
        let read : header_at text ≡ Ok (header_of f b) = ap header_at parts ∙ header_again f b (code_bytes b.code ++ tail) spelled.2 spelled.0 in
        let again : header_at text ≡ Ok h = ap header_at (sym (take-append-drop from text) ∙ ap (λ (x : List ℕ). x ++ drop from text) header_front) ∙ header_read h (drop from text) is in
        ok_is (header_of f b) h (sym read ∙ again)

    size_is : length (code_bytes b.code) ≡ h.size
    size_is = ap (λ (k : Header). k.size) header_is

    tiny_is : b.tiny ≡ h.tiny
    tiny_is = ap (λ (k : Header). k.tiny) header_is

    code_behind : drop from text ≡ code_bytes b.code ++ tail
    code_behind =
        let len : length own ≡ from = length-header b f.sects (length (code_bytes b.code)) ∙ ap header_size tiny_is in
        ap (drop from) parts ∙ drop_at own (code_bytes b.code ++ tail) from len

    code_front : take d (code_bytes b.code) ≡ code_bytes done
    code_front =
        let within : d ≤ length (code_bytes b.code) = omega (arith, size_is, less) in
        sym (take-append-le d (code_bytes b.code) tail within) ∙ ap (take d) (sym code_behind) ∙ sym (drop-take from d text) ∙ ap (drop from) same ∙ drop-take from d bs ∙ front

    goes_on : Continues 0 done b.code (drop d (code_bytes b.code))
    goes_on = continues done b.code 0 (drop d (code_bytes b.code)) are spelled.0.code (sym (take-append-drop d (code_bytes b.code)) ∙ ap (λ (x : List ℕ). x ++ drop d (code_bytes b.code)) code_front)

    next : (more : List Instr) → b.code ≡ done ++ more → IsCode (0 + d) more → code_bytes more ≡ drop d (code_bytes b.code)
        → (i : Instr) × HasInstr b (from + d) i × (take (length (instr_bytes i)) (drop (from + d) bs) ≡ instr_bytes i → ⊥)
    next [] all are e = absurd (omega (arith, ap length e, length-drop d (code_bytes b.code), size_is, less))
    next (i ∷ more) all are e =
        let zero_first : 0 + d ≡ d = omega arith in
        let at : i.at ≡ d = are.0 ∙ zero_first in
        let long : length (instr_bytes i) ≤ h.size - d = omega (arith, ap length e, length-append (instr_bytes i) (code_bytes more), length-drop d (code_bytes b.code), size_is) in
        let left : ℕ = h.size - d - length (instr_bytes i) in
        let size : h.size - d ≡ length (instr_bytes i) + left = omega (arith, long) in (
          i,
          (length done, ap (λ (c : List Instr). slice_get c (length done)) all ∙ get_behind done i more, ap₂ (λ (t : Bool) (n : ℕ). header_size t + n) tiny_is at),
          λ there. stuck i (take left (drop (length (instr_bytes i)) (drop (from + d) bs))) are.1 at
              (ap (λ (n : ℕ). take n (drop (from + d) bs)) size ∙ take-add (length (instr_bytes i)) left (drop (from + d) bs)
              ∙ ap (λ (x : List ℕ). x ++ take left (drop (length (instr_bytes i)) (drop (from + d) bs))) there),
        )

    other : (i : Instr) × HasInstr b (from + d) i × (take (length (instr_bytes i)) (drop (from + d) bs) ≡ instr_bytes i → ⊥)
    other = next goes_on.more goes_on.all goes_on.is goes_on.bytes

  pub first_bad_instr : IsFirstBadInstr bs (from + d)
  first_bad_instr = record { within = enough; begun = begun; other = other }
