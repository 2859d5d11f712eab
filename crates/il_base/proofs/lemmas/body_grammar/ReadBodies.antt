-- A body that is read has a spelling, and is spelled by the bytes it was read from.
use Rattle.std.proofs.Common.{◌≡◌, ℕ, ◌+◌, ◌-◌, ◌*◌, ◌/◌, ◌%◌, ◌<◌, ◌≤◌, Bool, true, false, cond, eqb, ltb, List, [], ◌∷◌, ◌++◌, length, take, drop, replicate, Option, Some, None, Result, Ok, Err, inl, inr, refl, sym, ap, ap₂, subst, ◌∙◌, append_assoc, arith}
use Rattle.std.specs.Prelude.{◌⊎◌}
use Rattle.std.specs.List.{AllByRecursion}
use Rattle.std.proofs.lemmas.Bool.{eqb-true, ltb-false}
use Rattle.std.proofs.lemmas.List.{length-drop, length-take, length-replicate, append-nil}
use Rattle.byteorder.specs.Endian.{little_bytes}
use Rattle.il_base.specs.declared.body.Body.{Body}
use Rattle.il_base.specs.declared.body.Handler.{Handler}
use Rattle.il_base.specs.declared.body.Instr.{Instr}
use Rattle.il_base.specs.declared.outside.TheConstants.{BODY}
use Rattle.il_base.specs.declared.body_grammar.body.Fault.{Fault}
use Rattle.il_base.specs.declared.body_grammar.body.Header.{Header}
use Rattle.il_base.specs.body_grammar.Faults.{◌>>=◌, need, fault}
use Rattle.il_base.specs.body_grammar.HandlerRules.{is_start, offender, offender_from}
use Rattle.il_base.specs.body_grammar.Instructions.{code_at}
use Rattle.il_base.specs.body_grammar.Bodies.{field_at, flags_of, fat_at, header_at, header_size, aligned, clause_size, section_at, clauses_after, accepted, handlers_at, made, with_handlers, body_at}
use Rattle.il_base.specs.body_grammar.BodySpelling.{code_bytes, clauses_bytes, section_head, flags_byte, header_bytes, section_bytes, body_spelling, Filler, IsFiller, IsClause, IsCode, HasSpelling, IsSpelledBy}
use Rattle.il_base.proofs.lemmas.body_grammar.ReadNumbers.{IsBytes, bytes-drop, bytes-take, bind_ok, need_ok, if_ok, if_not, either_ok, ok_is, take-add}
use Rattle.il_base.proofs.lemmas.body_grammar.ReadCode.{code_takes}
use Rattle.il_base.proofs.lemmas.body_grammar.ReadClauses.{field_1, field_2, field_4, join, one_byte, clauses_take, section_takes}

by_tiny : {P : Type 0} (tiny : Bool) → (tiny ≡ true → P) → (tiny ≡ false → P) → P
by_tiny true f g = f refl
by_tiny false f g = g refl

-- ---- headers

-- the bytes of a header
abbrev pub header_text : Header → List ℕ
header_text h = cond h.tiny ((2 + 4 * h.size) % 256 ∷ [])
    (flags_byte h.sects h.init ∷ 48 ∷ [] ++ little_bytes 2 h.max_stack ++ little_bytes 4 (h.size % 4294967296) ++ little_bytes 4 h.locals)

pub record IsTinyHeader (h : Header) : Type 0 where
  pub size : h.size < 64
  pub init : h.init ≡ false
  pub sects : h.sects ≡ false
  pub max_stack : h.max_stack ≡ 8
  pub locals : h.locals ≡ 0

pub record IsFatHeader (h : Header) : Type 0 where
  pub size : h.size < 4294967296
  pub max_stack : h.max_stack < 65536
  pub locals : h.locals < 4294967296

pub record TakesHeader (bs : List ℕ) (h : Header) : Type 0 where
  pub tiny : h.tiny ≡ true → IsTinyHeader h
  pub fat : h.tiny ≡ false → IsFatHeader h
  pub within : header_size h.tiny ≤ length bs
  pub spelled : take (header_size h.tiny) bs ≡ header_text h

pick : {A : Type 0} (b : Bool) (a x : A) (o : Option A) → cond b (Some a) o ≡ Some x → ((b ≡ true) × (a ≡ x)) ⊎ (o ≡ Some x)
pick true a x o e = inl (refl, cc)
pick false a x o e = inr e

flags_are : (n : ℕ) (x : Bool × Bool) → flags_of n ≡ Some x → flags_byte x.1 x.0 ≡ n
unfolding flags_of
flags_are n x e =
    elim (pick (eqb n 3) (false, false) x _ e) [
      | inl h ↦ subst (λ (y : Bool × Bool). flags_byte y.1 y.0 ≡ n) h.1 (sym (eqb-true n 3 h.0))
      | inr e ↦ elim (pick (eqb n 11) (false, true) x _ e) [
        | inl h ↦ subst (λ (y : Bool × Bool). flags_byte y.1 y.0 ≡ n) h.1 (sym (eqb-true n 11 h.0))
        | inr e ↦ elim (pick (eqb n 19) (true, false) x _ e) [
          | inl h ↦ subst (λ (y : Bool × Bool). flags_byte y.1 y.0 ≡ n) h.1 (sym (eqb-true n 19 h.0))
          | inr e ↦ elim (pick (eqb n 27) (true, true) x None e) [
            | inl h ↦ subst (λ (y : Bool × Bool). flags_byte y.1 y.0 ≡ n) h.1 (sym (eqb-true n 27 h.0))
            | inr none ↦ absurd cc
          ]
        ]
      ]
    ]

fat_takes : (first : ℕ) (bs : List ℕ) (h : Header) → IsBytes bs → field_at 1 bs 0 ≡ Ok first → fat_at first bs ≡ Ok h → TakesHeader bs h
unfolding fat_at
fat_takes first bs h fits e0 e =
    let p = bind_ok (need (flags_of first) (fault 0 BODY)) (λ flags. field_at 1 bs 1 >>= λ high. cond (eqb high 48) (field_at 2 bs 2 >>= λ stack. field_at 4 bs 4 >>= λ size. field_at 4 bs 8 >>= λ locals.
    Ok (record { tiny = false; init = flags.0; sects = flags.1; max_stack = stack; size = size; locals = locals })) (Err (fault 1 BODY))) h e in
    let flags : Bool × Bool = p.0 in
    let q = bind_ok (field_at 1 bs 1) (λ high. cond (eqb high 48) (field_at 2 bs 2 >>= λ stack. field_at 4 bs 4 >>= λ size. field_at 4 bs 8 >>= λ locals.
    Ok (record { tiny = false; init = flags.0; sects = flags.1; max_stack = stack; size = size; locals = locals })) (Err (fault 1 BODY))) h p.2 in
    let r = if_ok (eqb q.0 48) (field_at 2 bs 2 >>= λ stack. field_at 4 bs 4 >>= λ size. field_at 4 bs 8 >>= λ locals.
    Ok (record { tiny = false; init = flags.0; sects = flags.1; max_stack = stack; size = size; locals = locals })) (fault 1 BODY) h q.2 in
    let s2 = bind_ok (field_at 2 bs 2) (λ stack. field_at 4 bs 4 >>= λ size. field_at 4 bs 8 >>= λ locals.
    Ok (record { tiny = false; init = flags.0; sects = flags.1; max_stack = stack; size = size; locals = locals })) h r.1 in
    let s3 = bind_ok (field_at 4 bs 4) (λ size. field_at 4 bs 8 >>= λ locals.
    Ok (record { tiny = false; init = flags.0; sects = flags.1; max_stack = s2.0; size = size; locals = locals })) h s2.2 in
    let s4 = bind_ok (field_at 4 bs 8) (λ locals.
    Ok (record { tiny = false; init = flags.0; sects = flags.1; max_stack = s2.0; size = s3.0; locals = locals })) h s3.2 in
    let it : Header = record { tiny = false; init = flags.0; sects = flags.1; max_stack = s2.0; size = s3.0; locals = s4.0 } in
    let byte : first ≡ flags_byte flags.1 flags.0 = sym (flags_are first flags (need_ok (flags_of first) (fault 0 BODY) flags p.1)) in
    let high : q.0 ≡ 48 = eqb-true q.0 48 r.0 in
    let t0 = one_byte first 0 bs (field_1 first 0 bs fits e0) ∙ ap (λ (n : ℕ). n ∷ []) byte in
    let t1 = one_byte q.0 1 bs (field_1 q.0 1 bs fits q.1) ∙ ap (λ (n : ℕ). n ∷ []) high in
    let f2 = field_2 s2.0 2 bs fits s2.1 in
    let f3 = field_4 s3.0 4 bs fits s3.1 in
    let f4 = field_4 s4.0 8 bs fits s4.1 in
    let size : s3.0 ≡ s3.0 % 4294967296 = omega (arith, f3.fits) in
    let j1 = join 0 1 1 bs (flags_byte flags.1 flags.0 ∷ []) (48 ∷ []) t0 t1 in
    let j2 = join 0 2 2 bs (flags_byte flags.1 flags.0 ∷ 48 ∷ []) (little_bytes 2 s2.0) j1 f2.spelled in
    let j3 = join 0 4 4 bs (flags_byte flags.1 flags.0 ∷ 48 ∷ [] ++ little_bytes 2 s2.0) (little_bytes 4 (s3.0 % 4294967296)) j2 (f3.spelled ∙ ap (little_bytes 4) size) in
    let j4 = join 0 8 4 bs (flags_byte flags.1 flags.0 ∷ 48 ∷ [] ++ little_bytes 2 s2.0 ++ little_bytes 4 (s3.0 % 4294967296)) (little_bytes 4 s4.0) j3 f4.spelled in
    subst (TakesHeader bs) {x = it} (ok_is it h s4.2) (record {
      tiny = λ no. absurd cc;
      fat = λ t. record { size = f3.fits; max_stack = f2.fits; locals = f4.fits };
      within = omega (arith, f4.within);
      spelled = j4;
    })

pub header_takes : (bs : List ℕ) (h : Header) → IsBytes bs → header_at bs ≡ Ok h → TakesHeader bs h
unfolding header_at
header_takes bs h fits e =
    let p = bind_ok (field_at 1 bs 0) (λ first. cond (eqb (first % 4) 2) (Ok (record { tiny = true; init = false; sects = false; max_stack = 8; size = first / 4; locals = 0 })) (fat_at first bs)) h e in
    let first : ℕ = p.0 in
    let it : Header = record { tiny = true; init = false; sects = false; max_stack = 8; size = first / 4; locals = 0 } in
    elim (either_ok (eqb (first % 4) 2) (Ok it) (fat_at first bs) h p.2) [
      | inl tiny ↦
          let f = field_1 first 0 bs fits p.1 in
          let two : first % 4 ≡ 2 = eqb-true (first % 4) 2 tiny.0 in
          let byte : first ≡ (2 + 4 * (first / 4)) % 256 = omega (arith, f.fits) in
          subst (TakesHeader bs) {x = it} (ok_is it h tiny.1) (record {
            tiny = λ t. record { size = omega (arith, f.fits); init = refl; sects = refl; max_stack = refl; locals = refl };
            fat = λ no. absurd cc;
            within = omega (arith, f.within);
            spelled = one_byte first 0 bs f ∙ ap (λ (n : ℕ). n ∷ []) byte;
          })
      | inr fat ↦ fat_takes first bs h fits p.1 fat.1
    ]

-- ---- handler sections

accepted_ok : (at step : ℕ) (o : Option ℕ) (r : List Handler × Option Fault) (hs : List Handler) → accepted at step o r ≡ Ok hs → (o ≡ None) × (r ≡ (hs, None))
accepted_ok at step (Some i) r hs e = absurd cc
accepted_ok at step None (xs, None) hs e = (refl, ap (λ (ys : List Handler). (ys, None)) (ok_is xs hs e))
accepted_ok at step None (xs, Some f) hs e = absurd cc

-- a handler section and the bytes that it takes
record TakesSection (code : List Instr) (size from : ℕ) (bs : List ℕ) (x : Bool × List Handler × ℕ) : Type 0 where
  pub reserved : List ℕ
  pub two : length reserved ≡ 2
  pub count : length x.1 ≤ cond x.0 699050 20
  pub are : AllByRecursion (IsClause x.0) x.1
  pub nesting : offender (is_start code size) size x.1 ≡ None
  pub long : ℕ
  pub end : x.2 ≡ from + long
  pub within : from + long ≤ length bs
  pub spelled : take long (drop from bs) ≡ section_head x.0 (length x.1) reserved ++ clauses_bytes x.0 x.1

section_all_takes : (code : List Instr) (size at : ℕ) (bs : List ℕ) (x : Bool × List Handler × ℕ) → IsBytes bs → handlers_at code size at bs ≡ Ok x → TakesSection code size at bs x
unfolding handlers_at
section_all_takes code size at bs x fits e =
    let p = bind_ok (section_at at bs) (λ s. accepted (at + 4) (clause_size s.0) (offender (is_start code size) size (clauses_after s.1 s.0 (at + 4) bs []).0) (clauses_after s.1 s.0 (at + 4) bs []) >>= λ hs.
    Ok (s.0, hs, at + 4 + s.1 * clause_size s.0)) x e in
    let fat : Bool = p.0.0 in
    let n : ℕ = p.0.1 in
    let r : List Handler × Option Fault = clauses_after n fat (at + 4) bs [] in
    let q = bind_ok (accepted (at + 4) (clause_size fat) (offender (is_start code size) size r.0) r) (λ hs. Ok (fat, hs, at + 4 + n * clause_size fat)) x p.2 in
    let hs : List Handler = q.0 in
    let ok = accepted_ok (at + 4) (clause_size fat) (offender (is_start code size) size r.0) r hs q.1 in
    let head = section_takes at bs p.0 fits p.1 in
    let clauses = clauses_take n fat (at + 4) bs [] hs fits head.within ok.1 in
    let same : clauses.clauses ≡ hs = sym clauses.all in
    let nesting : offender (is_start code size) size hs ≡ None = ap (λ (y : List Handler × Option Fault). offender (is_start code size) size y.0) (sym ok.1) ∙ ok.0 in
    let count : n ≡ length hs = sym clauses.count ∙ ap length same in
    subst (TakesSection code size at bs) {x = (fat, hs, at + 4 + n * clause_size fat)} (ok_is (fat, hs, at + 4 + n * clause_size fat) x q.2) (record {
      reserved = head.reserved;
      two = head.two;
      count = subst (λ (m : ℕ). m ≤ cond fat 699050 20) count head.count;
      are = subst (AllByRecursion (IsClause fat)) same clauses.are;
      nesting = nesting;
      long = 4 + n * clause_size fat;
      end = omega arith;
      within = omega (arith, clauses.within);
      spelled = join at 4 (n * clause_size fat) bs (section_head fat (length hs) head.reserved) (clauses_bytes fat hs)
          (head.spelled ∙ ap (λ (m : ℕ). section_head fat m head.reserved) count) (clauses.spelled ∙ ap (clauses_bytes fat) same);
    })

-- ---- bodies

-- a body, its filler, and the bytes that it takes
pub record TakesBody (bs : List ℕ) (x : Body × ℕ) : Type 0 where
  pub is : HasSpelling x.0
  pub filler : Filler
  pub fills : IsFiller filler x.0
  pub within : x.1 ≤ length bs
  pub spelled : take x.1 bs ≡ body_spelling filler x.0

-- what is known of a header and the code after it
record Known (bs : List ℕ) (h : Header) (code : List Instr) : Type 0 where
  pub header : TakesHeader bs h
  pub is : IsCode 0 code
  pub size : length (code_bytes code) ≡ h.size
  pub within : header_size h.tiny + h.size ≤ length bs
  pub spelled : take h.size (drop (header_size h.tiny) bs) ≡ code_bytes code

-- the header's bytes are those of a body that has its fields
pub header_same : (h : Header) (code : List Instr) (fat : Bool) (hs : List Handler) → length (code_bytes code) ≡ h.size
    → header_text h ≡ header_bytes (made h code fat hs) h.sects (length (code_bytes code))
unfolding header_bytes
header_same h code fat hs e = ap (λ (n : ℕ). cond h.tiny ((2 + 4 * n) % 256 ∷ [])
    (flags_byte h.sects h.init ∷ 48 ∷ [] ++ little_bytes 2 h.max_stack ++ little_bytes 4 (n % 4294967296) ++ little_bytes 4 h.locals)) (sym e)

pub no_handlers_offend : (start : ℕ → Bool) (size : ℕ) → offender start size [] ≡ None
unfolding offender_from
no_handlers_offend start size = refl

front_takes : (bs : List ℕ) (h : Header) (code : List Instr) (fat : Bool) (hs : List Handler) → Known bs h code
    → take (header_size h.tiny + h.size) bs ≡ header_bytes (made h code fat hs) h.sects (length (code_bytes code)) ++ code_bytes code
front_takes bs h code fat hs k =
    take-add (header_size h.tiny) h.size bs ∙ ap₂ (λ (x y : List ℕ). x ++ y) (k.header.spelled ∙ header_same h code fat hs k.size) k.spelled

no_section_takes : (bs : List ℕ) (h : Header) (code : List Instr) → Known bs h code → h.sects ≡ false → TakesBody bs (made h code false [], header_size h.tiny + h.size)
no_section_takes bs h code k s =
    let n : ℕ = 12 + length (code_bytes code) in
    let b : Body = made h code false [] in
    let f : Filler = record { sects = h.sects; pad = replicate (aligned n - n) 0; reserved = 0 ∷ 0 ∷ [] } in
    let text : List ℕ = header_bytes b h.sects (length (code_bytes code)) ++ code_bytes code in
    record {
      is = record {
        code = k.is;
        tiny = λ t. let is = k.header.tiny t in record { size = omega (arith, k.size, is.size); init = is.init; max_stack = is.max_stack; locals = is.locals; fat_handlers = refl; handlers = refl };
        fat = λ t. let is = k.header.fat t in record { size = omega (arith, k.size, is.size); max_stack = is.max_stack; locals = is.locals; count = omega arith; handlers = tt };
        nesting = no_handlers_offend (is_start code (length (code_bytes code))) (length (code_bytes code));
      };
      filler = f;
      fills = record { tiny = λ t. s; needed = λ no. absurd cc; pad = length-replicate (aligned n - n) 0; reserved = refl };
      within = k.within;
      spelled = front_takes bs h code false [] k ∙ sym (append-nil text) ∙ ap (λ (c : Bool). text ++ cond c (section_bytes f.pad f.reserved b) []) (sym s);
    }

section_body_takes : (bs : List ℕ) (h : Header) (code : List Instr) (x : Bool × List Handler × ℕ) → Known bs h code → h.sects ≡ true → IsBytes bs
    → TakesSection code h.size (aligned (header_size h.tiny + h.size)) bs x → TakesBody bs (made h code x.0 x.1, x.2)
section_body_takes bs h code x k s fits t =
    let fat : Bool = x.0 in
    let hs : List Handler = x.1 in
    let b : Body = made h code fat hs in
    let size : ℕ = length (code_bytes code) in
    let not_tiny : h.tiny ≡ false = by_tiny {P = h.tiny ≡ false} h.tiny (λ t. let no : true ≡ false = sym s ∙ (k.header.tiny t).sects in absurd cc) (λ t. t) in
    let twelve : header_size h.tiny ≡ 12 = ap header_size not_tiny in
    let end : ℕ = header_size h.tiny + h.size in
    let same : 12 + size ≡ end = omega (arith, k.size) in
    let gap : ℕ = aligned end - end in
    let le : end + gap ≡ aligned end = omega arith in
    let pad : List ℕ = take gap (drop end bs) in
    let f : Filler = record { sects = h.sects; pad = pad; reserved = t.reserved } in
    let len : length pad ≡ aligned (12 + size) - (12 + size) =
    omega (arith, length-take gap (drop end bs), length-drop end bs, t.within) ∙ ap (λ (m : ℕ). aligned m - m) (sym same) in
    let text : List ℕ = header_bytes b h.sects size ++ code_bytes code in
    let head : List ℕ = section_head fat (length hs) t.reserved in
    let clauses : List ℕ = clauses_bytes fat hs in
    let behind : take t.long (drop (end + gap) bs) ≡ head ++ clauses = ap (λ (m : ℕ). take t.long (drop m bs)) le ∙ t.spelled in
    let tail : take (gap + t.long) (drop end bs) ≡ pad ++ (head ++ clauses) = join end gap t.long bs pad (head ++ clauses) refl behind in
    let stop : x.2 ≡ end + (gap + t.long) = omega (arith, t.end, le) in
    let whole : take x.2 bs ≡ text ++ (pad ++ (head ++ clauses)) =
    ap (λ (m : ℕ). take m bs) stop ∙ take-add end (gap + t.long) bs ∙ ap₂ (λ (y z : List ℕ). y ++ z) (front_takes bs h code fat hs k) tail in
    let is = k.header.fat not_tiny in
    record {
      is = record {
        code = k.is;
        tiny = λ yes. let no : true ≡ false = sym yes ∙ not_tiny in absurd cc;
        fat = λ _. record { size = omega (arith, k.size, is.size); max_stack = is.max_stack; locals = is.locals; count = t.count; handlers = t.are };
        nesting = ap (λ (m : ℕ). offender (is_start code m) m hs) k.size ∙ t.nesting;
      };
      filler = f;
      fills = record { tiny = λ yes. let no : true ≡ false = sym yes ∙ not_tiny in absurd cc; needed = λ _. s; pad = len; reserved = t.two };
      within = omega (arith, t.end, t.within);
      spelled = whole ∙ ap (λ (y : List ℕ). text ++ y) (sym (append_assoc pad head clauses)) ∙ ap (λ (c : Bool). text ++ cond c ((pad ++ head) ++ clauses) []) (sym s);
    }

sections_take : (bs : List ℕ) (h : Header) (code : List Instr) (x : Body × ℕ) → Known bs h code → IsBytes bs
    → with_handlers h code (header_size h.tiny + h.size) bs ≡ Ok x → TakesBody bs x
sections_take bs h code x k fits e =
    let end : ℕ = header_size h.tiny + h.size in
    let with_one : Result (Body × ℕ) Fault = handlers_at code h.size (aligned end) bs >>= λ s. Ok (made h code s.0 s.1, s.2) in
    elim (either_ok h.sects with_one (Ok (made h code false [], end)) x e) [
      | inl one ↦
          let p = bind_ok (handlers_at code h.size (aligned end) bs) (λ s. Ok (made h code s.0 s.1, s.2)) x one.1 in
          let t = section_all_takes code h.size (aligned end) bs p.0 fits p.1 in
          subst (TakesBody bs) {x = (made h code p.0.0 p.0.1, p.0.2)} (ok_is (made h code p.0.0 p.0.1, p.0.2) x p.2) (section_body_takes bs h code p.0 k one.0 fits t)
      | inr none ↦
          subst (TakesBody bs) {x = (made h code false [], end)} (ok_is (made h code false [], end) x none.1) (no_section_takes bs h code k none.0)
    ]

pub body_takes : (bs : List ℕ) (x : Body × ℕ) → IsBytes bs → body_at bs ≡ Ok x → TakesBody bs x
unfolding body_at
body_takes bs x fits e =
    let p = bind_ok (header_at bs) (λ h. code_at (header_size h.tiny) (take h.size (drop (header_size h.tiny) bs)) >>= λ code.
    cond (ltb (length bs) (header_size h.tiny + h.size)) (Err (fault (length bs) BODY)) (with_handlers h code (header_size h.tiny + h.size) bs)) x e in
    let h : Header = p.0 in
    let from : ℕ = header_size h.tiny in
    let text : List ℕ = take h.size (drop from bs) in
    let q = bind_ok (code_at from text) (λ code. cond (ltb (length bs) (from + h.size)) (Err (fault (length bs) BODY)) (with_handlers h code (from + h.size) bs)) x p.2 in
    let code : List Instr = q.0 in
    let r = if_not (ltb (length bs) (from + h.size)) (with_handlers h code (from + h.size) bs) (fault (length bs) BODY) x q.2 in
    let long : from + h.size ≤ length bs = ltb-false (length bs) (from + h.size) r.0 in
    let header = header_takes bs h fits p.1 in
    let c = code_takes (length text) from 0 [] text code (bytes-take h.size (drop from bs) (bytes-drop from bs fits)) (omega arith) q.1 in
    let same : c.code ≡ code = sym c.out in
    let spelled : text ≡ code_bytes code = sym c.spelled ∙ ap code_bytes same in
    let size : length (code_bytes code) ≡ h.size = omega (arith, ap length (sym spelled), length-take h.size (drop from bs), length-drop from bs) in
    let k : Known bs h code = record { header = header; is = subst (IsCode 0) same c.is; size = size; within = long; spelled = spelled } in
    sections_take bs h code x k fits r.1

pub read_spelled : (bs : List ℕ) (b : Body) (n : ℕ) → IsBytes bs → body_at bs ≡ Ok (b, n) → IsSpelledBy (take n bs) b × (n ≤ length bs)
read_spelled bs b n fits e = let t = body_takes bs (b, n) fits e in ((t.is, t.filler, t.fills, t.spelled), t.within)
