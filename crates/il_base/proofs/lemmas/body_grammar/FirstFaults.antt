-- What a fault of a reading says of its place.
use Rattle.std.proofs.Common.{◌≡◌, ℕ, ◌+◌, ◌-◌, ◌<◌, ◌≤◌, ◌⊎◌, inl, inr, Bool, true, false, cond, ltb, List, [], ◌++◌, length, take, drop, Result, Ok, Err, refl, sym, ap, ap₂, subst, ◌∙◌, append_assoc, arith, length-append}
use Rattle.std.proofs.lemmas.Bool.{ltb-true, ltb-false}
use Rattle.std.proofs.lemmas.List.{drop_at, take_at, drop-drop, drop-take, drop_all, take_all, take-take, length-take, length-drop}
use Rattle.il_base.specs.declared.body.Body.{Body}
use Rattle.il_base.specs.declared.body.Instr.{Instr}
use Rattle.il_base.specs.declared.outside.TheConstants.{BODY}
use Rattle.il_base.specs.declared.body_grammar.body.Fault.{Fault}
use Rattle.il_base.specs.declared.body_grammar.body.Header.{Header}
use Rattle.il_base.specs.body_grammar.Faults.{◌>>=◌, fault}
use Rattle.il_base.specs.body_grammar.Instructions.{instr_at, code_at}
use Rattle.il_base.specs.body_grammar.Bodies.{header_at, header_size, aligned, handlers_at, made, with_handlers, body_at}
use Rattle.il_base.specs.body_grammar.BodySpelling.{instr_bytes, code_bytes, IsInstr, IsCode, IsSpelledBy}
use Rattle.il_base.specs.body_grammar.FirstFault.{Begins, IsFirstBadInstr, IsFirstFault}
use Rattle.il_base.specs.body_grammar.FirstFault.IsFirstFault.{in_header, in_code, in_section}
use Rattle.il_base.proofs.lemmas.body_grammar.ReadNumbers.{IsBytes, bytes-drop, bytes-take, take-add}
use Rattle.il_base.proofs.lemmas.body_grammar.ReadCode.{code_takes}
use Rattle.il_base.proofs.lemmas.body_grammar.ReadBodies.{header_text, header_takes, TakesHeader}
use Rattle.il_base.proofs.lemmas.body_grammar.WrittenCode.{instr_again, one_byte_or_more}
use Rattle.il_base.proofs.lemmas.body_grammar.FaultBodies.{IsHeader, completes}
use Rattle.il_base.proofs.lemmas.body_grammar.FaultCode.{bind_err, err_is, not_both, instr_fault, code_fails, Fails, first_bad_instr}
use Rattle.il_base.proofs.lemmas.body_grammar.FaultHeaders.{header_bad, first_bad_byte}
use Rattle.il_base.proofs.lemmas.body_grammar.FaultSections.{handlers_after}

abbrev place_of : Fault → ℕ
place_of f = f.at

if_err : {A : Type 0} (b : Bool) (r : Result A Fault) (f d : Fault) → cond b (Err f) r ≡ Err d → ((b ≡ true) × (f ≡ d)) ⊎ ((b ≡ false) × (r ≡ Err d))
if_err {A = A} true r f d e = inl (refl, err_is {A = A} f d e)
if_err false r f d e = inr (refl, e)

module _ (bs : List ℕ) (d : Fault) (h : Header) (fits : IsBytes bs) (read : header_at bs ≡ Ok h) where
  abbrev from : ℕ
  from = header_size h.tiny

  abbrev text : List ℕ
  text = take h.size (drop from bs)

  takes : TakesHeader bs h
  takes = header_takes bs h fits read

  is_header : IsHeader h
  is_header = record { tiny = takes.tiny; fat = takes.fat }

  -- the bytes of the code from an offset on
  text_behind : (n : ℕ) → n ≤ h.size → drop n text ≡ take (h.size - n) (drop (from + n) bs)
  text_behind n le =
      let size : h.size ≡ n + (h.size - n) = omega (arith, le) in
      ap (λ (m : ℕ). drop n (take m (drop from bs))) size ∙ drop-take n (h.size - n) (drop from bs) ∙ ap (take (h.size - n)) (drop-drop n from bs)

  -- an instruction of the code isn't read
  bad_code : Fails from 0 text d → IsFirstFault bs d
  bad_code f =
      let n : ℕ = length (code_bytes f.code) in
      let size = length-take h.size (drop from bs) in
      let all = length-drop from bs in
      let sum = ap length f.parts ∙ length-append (code_bytes f.code) f.rest in
      let less : n < h.size = omega (arith, sum, size, f.some) in
      let within : from + n ≤ length bs = omega (arith, sum, size, all, f.some) in
      let zero_first : 0 + n ≡ n = omega arith in
      let not_read : instr_at n (from + n) f.rest ≡ Err d = subst (λ (m : ℕ). instr_at m (from + m) f.rest ≡ Err d) zero_first f.not_read in
      let front : take n (drop from bs) ≡ code_bytes f.code = sym (take-take n h.size (drop from bs) (omega (arith, less))) ∙ ap (take n) f.parts ∙ take_at (code_bytes f.code) f.rest n refl in
      let rest : take (h.size - n) (drop (from + n) bs) ≡ f.rest = sym (text_behind n (omega (arith, less))) ∙ ap (drop n) f.parts ∙ drop_at (code_bytes f.code) f.rest n refl in
      let at : d.at ≡ from + n = instr_fault n (from + n) f.rest d not_read in
      let stuck : (i : Instr) (more : List ℕ) → IsInstr i → i.at ≡ n → take (h.size - n) (drop (from + n) bs) ≡ instr_bytes i ++ more → ⊥ = λ i more is place e.
      not_both (instr_at n (from + n) f.rest) (i, length (instr_bytes i)) d
      (ap (instr_at n (from + n)) (sym rest ∙ e) ∙ ap (λ (m : ℕ). instr_at m (from + n) (instr_bytes i ++ more)) (sym place) ∙ instr_again i (from + n) more is) not_read in
      in_code h read (omega (arith, at)) (omega (arith, at, less))
      (subst (IsFirstBadInstr bs) (sym at) (first_bad_instr bs h f.code takes.spelled is_header f.is less within front stuck))

  -- the code that is read, and its bytes
  record Coded (code : List Instr) : Type 0 where
    are : IsCode 0 code
    bytes : code_bytes code ≡ text

  coded : (code : List Instr) → code_at from text ≡ Ok code → Coded code
  coded code e =
      let c = code_takes (length text) from 0 [] text code (bytes-take h.size (drop from bs) (bytes-drop from bs fits)) (omega arith) e in
      let same : c.code ≡ code = sym c.out in
      record { are = subst (IsCode 0) same c.is; bytes = ap code_bytes (sym same) ∙ c.spelled }

  -- the bytes end before the code does
  cut_code : (code : List Instr) → Coded code → length bs < from + h.size → d.at ≡ length bs → IsFirstFault bs d
  cut_code code c short at =
      let n : ℕ = length (code_bytes code) in
      let size = length-take h.size (drop from bs) in
      let all = length-drop from bs in
      let start = takes.within in
      let whole : text ≡ drop from bs = take_all h.size (drop from bs) (omega (arith, all, short)) in
      let long : n ≡ length bs - from = ap length (c.bytes ∙ whole) ∙ all in
      let end : from + n ≡ length bs = omega (arith, long, start) in
      let less : n < h.size = omega (arith, end, short) in
      let front : take n (drop from bs) ≡ code_bytes code = take_all n (drop from bs) (omega (arith, all, long)) ∙ sym whole ∙ sym c.bytes in
      let none : drop (from + n) bs ≡ [] = drop_all (from + n) bs (omega (arith, end)) in
      let stuck : (i : Instr) (more : List ℕ) → IsInstr i → i.at ≡ n → take (h.size - n) (drop (from + n) bs) ≡ instr_bytes i ++ more → ⊥ = λ i more is place e.
      omega (arith, ap length e, length-append (instr_bytes i) more, one_byte_or_more i, length-take (h.size - n) (drop (from + n) bs), ap length none) in
      let place : from + n ≡ d.at = end ∙ sym at in
      in_code h read (omega (arith, place)) (omega (arith, place, less))
      (subst (IsFirstBadInstr bs) place (first_bad_instr bs h code takes.spelled is_header c.are less (omega (arith, end)) front stuck))

  -- the handler section
  bad_section : (code : List Instr) → Coded code → from + h.size ≤ length bs → with_handlers h code (from + h.size) bs ≡ Err d → IsFirstFault bs d
  bad_section code c long e =
      let size = length-take h.size (drop from bs) in
      let all = length-drop from bs in
      let n : length (code_bytes code) ≡ h.size = omega (arith, ap length c.bytes, size, all, long) in
      let body = completes h code is_header c.are (omega (arith, n)) in
      let front : take (from + h.size) bs ≡ header_text h ++ code_bytes code = take-add from h.size bs ∙ ap₂ (λ (x y : List ℕ). x ++ y) takes.spelled (sym c.bytes) in
      let text : header_text h ++ (code_bytes code ++ body.more) ≡ take (from + h.size) bs ++ body.more = sym (append_assoc (header_text h) (code_bytes code) body.more) ∙ ap (λ (x : List ℕ). x ++ body.more) (sym front) in
      let begun : Begins bs (from + h.size) = (body.body, body.more, subst (λ (t : List ℕ). IsSpelledBy t body.body) text body.spelled) in
      by_sects h.sects refl begun
    where
      after : handlers_at code h.size (aligned (from + h.size)) bs ≡ Err d → from + h.size ≤ d.at
      after f = handlers_after bs (from + h.size) long code h.size (aligned (from + h.size)) (omega arith) d f

      by_sects : (b : Bool) → h.sects ≡ b → Begins bs (from + h.size) → IsFirstFault bs d
      by_sects true is begun =
          let f : (handlers_at code h.size (aligned (from + h.size)) bs >>= λ s. Ok (made h code s.0 s.1, s.2)) ≡ Err d = sym (ap (λ (b : Bool). cond b (handlers_at code h.size (aligned (from + h.size)) bs >>= λ s. Ok (made h code s.0 s.1, s.2)) (Ok (made h code false [], from + h.size))) is) ∙ e in
          elim (bind_err {B = Body × ℕ} (handlers_at code h.size (aligned (from + h.size)) bs) (λ s. Ok (made h code s.0 s.1, s.2)) d f) [
            | inl g ↦ in_section h read is (after g) begun
            | inr more ↦ absurd (let no = more.2 in cc)
          ]
      by_sects false is begun =
          let f : Ok (made h code false [], from + h.size) ≡ Err d = sym (ap (λ (b : Bool). cond b (handlers_at code h.size (aligned (from + h.size)) bs >>= λ s. Ok (made h code s.0 s.1, s.2)) (Ok (made h code false [], from + h.size))) is) ∙ e in
          absurd cc

  behind_header : (code_at from text >>= λ code. cond (ltb (length bs) (from + h.size)) (Err (fault (length bs) BODY)) (with_handlers h code (from + h.size) bs)) ≡ Err d → IsFirstFault bs d
  behind_header e =
      elim (bind_err {B = Body × ℕ} (code_at from text) (λ code. cond (ltb (length bs) (from + h.size)) (Err (fault (length bs) BODY)) (with_handlers h code (from + h.size) bs)) d e) [
        | inl f ↦ bad_code (code_fails (length text) from 0 [] text d (bytes-take h.size (drop from bs) (bytes-drop from bs fits)) (omega arith) f)
        | inr code ↦ elim (if_err {A = Body × ℕ} (ltb (length bs) (from + h.size)) (with_handlers h code.0 (from + h.size) bs) (fault (length bs) BODY) d code.2) [
          | inl short ↦ cut_code code.0 (coded code.0 code.1) (ltb-true (length bs) (from + h.size) short.0) (sym (ap place_of short.1))
          | inr long ↦ bad_section code.0 (coded code.0 code.1) (ltb-false (length bs) (from + h.size) long.0) long.1
        ]
      ]

pub first_fault_is : (bs : List ℕ) (d : Fault) → IsBytes bs → body_at bs ≡ Err d → IsFirstFault bs d
unfolding body_at
first_fault_is bs d fits e =
    elim (bind_err {B = Body × ℕ} (header_at bs) (λ h. code_at (header_size h.tiny) (take h.size (drop (header_size h.tiny) bs)) >>= λ code.
    cond (ltb (length bs) (header_size h.tiny + h.size)) (Err (fault (length bs) BODY)) (with_handlers h code (header_size h.tiny + h.size) bs)) d e) [
      | inl f ↦ in_header f (first_bad_byte bs d fits f (header_bad bs d f))
      | inr h ↦ behind_header bs d h.0 fits h.1 h.2
    ]
