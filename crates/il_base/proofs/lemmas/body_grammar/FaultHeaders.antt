-- A fault in the header is at the first byte that no body allows.
use Rattle.std.proofs.Common.{◌≡◌, ℕ, zero, suc, ◌+◌, ◌-◌, ◌/◌, ◌%◌, ◌<◌, ◌≤◌, inl, inr, Bool, true, false, cond, eqb, List, [], ◌∷◌, ◌++◌, length, get_or, take, drop, replicate, Option, Some, None, Result, Ok, Err, refl, sym, ap, ap₂, subst, ◌∙◌, append_assoc, arith, length-append}
use Rattle.std.proofs.lemmas.Bool.{cases_lt, le-leb, eqb-true}
use Rattle.std.proofs.lemmas.List.{take_at, drop_at, take_all}
use Rattle.byteorder.specs.Endian.{little_number}
use Rattle.il_base.specs.Bytes.{number_at}
use Rattle.il_base.specs.declared.body.Body.{Body}
use Rattle.il_base.specs.declared.outside.TheConstants.{BODY}
use Rattle.il_base.specs.declared.body_grammar.body.Fault.{Fault}
use Rattle.il_base.specs.declared.body_grammar.body.Header.{Header}
use Rattle.il_base.specs.body_grammar.Faults.{◌>>=◌, need, fault}
use Rattle.il_base.specs.body_grammar.Bodies.{field_at, flags_of, fat_at, header_at, header_size}
use Rattle.il_base.specs.body_grammar.BodySpelling.{code_bytes, header_bytes, section_bytes, IsSpelledBy}
use Rattle.il_base.specs.body_grammar.FirstFault.{IsFirstBad}
use Rattle.il_base.proofs.lemmas.body_grammar.ReadNumbers.{IsBytes, take-add}
use Rattle.il_base.proofs.lemmas.body_grammar.ReadBodies.{header_text, header_takes}
use Rattle.il_base.proofs.lemmas.body_grammar.WrittenNumbers.{byte_front, byte_in}
use Rattle.il_base.proofs.lemmas.body_grammar.WrittenBodies.{header_of, header_again, tiny_again}
use Rattle.il_base.proofs.lemmas.body_grammar.FaultBodies.{completes}
use Rattle.il_base.proofs.lemmas.body_grammar.FaultCode.{bind_err, err_is, need_err, not_both}

-- ---- bytes

bytes_join : (a b : List ℕ) → IsBytes a → IsBytes b → IsBytes (a ++ b)
bytes_join [] b ha hb i = hb i
bytes_join (x ∷ a) b ha hb zero = ha 0
bytes_join (x ∷ a) b ha hb (suc i) = bytes_join a b (λ j. ha (suc j)) hb i

bytes_zeros : (n : ℕ) → IsBytes (replicate n 0)
bytes_zeros zero i = omega arith
bytes_zeros (suc n) zero = omega arith
bytes_zeros (suc n) (suc i) = bytes_zeros n i

bytes_one : (x : ℕ) → x < 256 → IsBytes (x ∷ [])
bytes_one x h zero = h
bytes_one x h (suc i) = omega arith

all_same : (bs text : List ℕ) → take (suc (length bs)) text ≡ bs → text ≡ bs
all_same [] [] e = refl
all_same [] (c ∷ text) e = absurd cc
all_same (b ∷ bs) [] e = absurd cc
all_same (b ∷ bs) (c ∷ text) e =
    let h : c ≡ b = cc in
    let t : take (suc (length bs)) text ≡ bs = cc in
    ap₂ (λ (x : ℕ) (l : List ℕ). x ∷ l) h (all_same bs text t)

-- ---- fields

field_found : (k : ℕ) (bs : List ℕ) (at : ℕ) → at + k ≤ length bs → (n : ℕ) × (field_at k bs at ≡ Ok n)
unfolding number_at
field_found k bs at long = (little_number k (drop at bs), ap (λ (b : Bool). need (cond b (Some (little_number k (drop at bs))) None) (fault (length bs) BODY)) (le-leb (at + k) (length bs) long))

abbrev place_of : Fault → ℕ
place_of f = f.at

pub field_fault : (k : ℕ) (bs : List ℕ) (at : ℕ) (d : Fault) → field_at k bs at ≡ Err d → (d.at ≡ length bs) × (length bs < at + k)
unfolding number_at
field_fault k bs at d e =
    let place : d.at ≡ length bs = sym (ap place_of (need_err (number_at k bs at) (fault (length bs) BODY) d e)) in
    elim (cases_lt (length bs) (at + k)) [
      | inl less ↦ (place, less)
      | inr long ↦ (let there = field_found k bs at long in absurd (not_both (field_at k bs at) there.0 d there.1 e))
    ]

-- ---- which headers fail

abbrev tiny_of : ℕ → Header
tiny_of first = record { tiny = true; init = false; sects = false; max_stack = 8; size = first / 4; locals = 0 }

abbrev fat_of : Bool × Bool → ℕ → ℕ → ℕ → Header
fat_of flags stack size locals = record { tiny = false; init = flags.0; sects = flags.1; max_stack = stack; size = size; locals = locals }

abbrev fields : Bool × Bool → List ℕ → Result Header Fault
fields flags bs =
    field_at 2 bs 2 >>= λ stack.
    field_at 4 bs 4 >>= λ size.
    field_at 4 bs 8 >>= λ locals.
    Ok (fat_of flags stack size locals)

abbrev by_high : Bool × Bool → List ℕ → ℕ → Result Header Fault
by_high flags bs high = cond (eqb high 0x30) (fields flags bs) (Err (fault 1 BODY))

-- the front of a fat header
pub record Fat (first : ℕ) (flags : Bool × Bool) : Type 0 where
  pub not_tiny : eqb (first % 4) 2 ≡ false
  pub read : flags_of first ≡ Some flags

pub data Bad (bs : List ℕ) (d : Fault) : Type 0 where
  -- the bytes end too early
  nothing : bs ≡ [] → d.at ≡ 0 → Bad bs d
  one : (first : ℕ) (flags : Bool × Bool) → Fat first flags → bs ≡ first ∷ [] → d.at ≡ 1 → Bad bs d
  cut : (first : ℕ) (flags : Bool × Bool) (rest : List ℕ) → Fat first flags → bs ≡ first ∷ 0x30 ∷ rest → length rest < 10 → d.at ≡ length bs → Bad bs d
  -- a byte is bad
  first_bad : (first : ℕ) (rest : List ℕ) → eqb (first % 4) 2 ≡ false → flags_of first ≡ None → bs ≡ first ∷ rest → d.at ≡ 0 → Bad bs d
  high_bad : (first high : ℕ) (flags : Bool × Bool) (rest : List ℕ) → Fat first flags → eqb high 0x30 ≡ false → bs ≡ first ∷ high ∷ rest → d.at ≡ 1 → Bad bs d

none_of : {A : Type 0} (o : Option A) (f d : Fault) → need o f ≡ Err d → o ≡ None
none_of None f d e = refl
none_of (Some x) f d e = absurd cc

by_test : {P : Type 0} (b : Bool) → (b ≡ true → P) → (b ≡ false → P) → P
by_test true f g = f refl
by_test false f g = g refl

first_is : (first : ℕ) (rest : List ℕ) → header_at (first ∷ rest) ≡ cond (eqb (first % 4) 2) (Ok (tiny_of first)) (fat_at first (first ∷ rest))
unfolding header_at
first_is first rest = rw (byte_front first rest) refl

not_tiny_is : (first : ℕ) (rest : List ℕ) → eqb (first % 4) 2 ≡ false → header_at (first ∷ rest) ≡ fat_at first (first ∷ rest)
not_tiny_is first rest t = first_is first rest ∙ ap (λ (b : Bool). cond b (Ok (tiny_of first)) (fat_at first (first ∷ rest))) t

flags_is : (first : ℕ) (flags : Bool × Bool) (bs : List ℕ) → flags_of first ≡ Some flags → fat_at first bs ≡ (field_at 1 bs 1 >>= λ high. by_high flags bs high)
unfolding fat_at
flags_is first flags bs e = rw e refl

no_flags_is : (first : ℕ) (bs : List ℕ) → flags_of first ≡ None → fat_at first bs ≡ Err (fault 0 BODY)
unfolding fat_at
no_flags_is first bs e = rw e refl

high_is : (first high : ℕ) (rest : List ℕ) → field_at 1 (first ∷ high ∷ rest) 1 ≡ Ok high
high_is first high rest = byte_in high 0 1 [] (first ∷ []) rest refl refl

fat_is : (first high : ℕ) (flags : Bool × Bool) (rest : List ℕ) → Fat first flags → header_at (first ∷ high ∷ rest) ≡ by_high flags (first ∷ high ∷ rest) high
fat_is first high flags rest fat =
    not_tiny_is first (high ∷ rest) fat.not_tiny ∙ flags_is first flags (first ∷ high ∷ rest) fat.read
    ∙ ap (λ (r : Result ℕ Fault). r >>= λ h. by_high flags (first ∷ high ∷ rest) h) (high_is first high rest)

cut_short : (first : ℕ) (flags : Bool × Bool) (rest : List ℕ) (d : Fault) → fields flags (first ∷ 0x30 ∷ rest) ≡ Err d → (d.at ≡ length (first ∷ 0x30 ∷ rest)) × (length rest < 10)
cut_short first flags rest d e =
    let bs : List ℕ = first ∷ 0x30 ∷ rest in
    elim (bind_err {B = Header} (field_at 2 bs 2) (λ stack. field_at 4 bs 4 >>= λ size. field_at 4 bs 8 >>= λ locals. Ok (fat_of flags stack size locals)) d e) [
      | inl f ↦ (let p = field_fault 2 bs 2 d f in (p.0, omega (arith, p.1)))
      | inr stack ↦ elim (bind_err {B = Header} (field_at 4 bs 4) (λ size. field_at 4 bs 8 >>= λ locals. Ok (fat_of flags stack.0 size locals)) d stack.2) [
        | inl f ↦ (let p = field_fault 4 bs 4 d f in (p.0, omega (arith, p.1)))
        | inr size ↦ elim (bind_err {B = Header} (field_at 4 bs 8) (λ locals. Ok (fat_of flags stack.0 size.0 locals)) d size.2) [
          | inl f ↦ (let p = field_fault 4 bs 8 d f in (p.0, omega (arith, p.1)))
          | inr locals ↦ absurd (let no = locals.2 in cc)
        ]
      ]
    ]

bad_high : (first high : ℕ) (flags : Bool × Bool) (rest : List ℕ) (d : Fault) → Fat first flags → by_high flags (first ∷ high ∷ rest) high ≡ Err d → Bad (first ∷ high ∷ rest) d
bad_high first high flags rest d fat e =
    by_test {P = Bad (first ∷ high ∷ rest) d} (eqb high 0x30)
    (λ t.
    let is : high ≡ 0x30 = eqb-true high 0x30 t in
    let p = cut_short first flags rest d (sym (ap (λ (h : ℕ). fields flags (first ∷ h ∷ rest)) is) ∙ sym (ap (λ (b : Bool). cond b (fields flags (first ∷ high ∷ rest)) (Err (fault 1 BODY))) t) ∙ e) in
    cut first flags rest fat (ap (λ (h : ℕ). first ∷ h ∷ rest) is) p.1 p.0)
    (λ t. high_bad first high flags rest fat t refl
    (sym (ap place_of (err_is {A = Header} (fault 1 BODY) d (sym (ap (λ (b : Bool). cond b (fields flags (first ∷ high ∷ rest)) (Err (fault 1 BODY))) t) ∙ e)))))

no_second : (first n : ℕ) → field_at 1 (first ∷ []) 1 ≡ Ok n → ⊥
unfolding number_at
no_second first n e = cc

bad_flags : (first : ℕ) (flags : Bool × Bool) (rest : List ℕ) (d : Fault) → Fat first flags → header_at (first ∷ rest) ≡ Err d → Bad (first ∷ rest) d
bad_flags first flags [] d fat e =
    let read = sym (flags_is first flags (first ∷ []) fat.read) ∙ sym (not_tiny_is first [] fat.not_tiny) ∙ e in
    elim (bind_err {B = Header} (field_at 1 (first ∷ []) 1) (λ high. by_high flags (first ∷ []) high) d read) [
      | inl f ↦ one first flags fat refl (field_fault 1 (first ∷ []) 1 d f).0
      | inr high ↦ one first flags fat refl (absurd (no_second first high.0 high.1))
    ]
bad_flags first flags (high ∷ rest) d fat e = bad_high first high flags rest d fat (sym (fat_is first high flags rest fat) ∙ e)

bad_first : (first : ℕ) (rest : List ℕ) (d : Fault) → eqb (first % 4) 2 ≡ false → header_at (first ∷ rest) ≡ Err d → (o : Option (Bool × Bool)) → flags_of first ≡ o → Bad (first ∷ rest) d
bad_first first rest d t e None none =
    first_bad first rest t none refl (sym (ap place_of (err_is {A = Header} (fault 0 BODY) d (sym (no_flags_is first (first ∷ rest) none) ∙ sym (not_tiny_is first rest t) ∙ e))))
bad_first first rest d t e (Some flags) some = bad_flags first flags rest d (record { not_tiny = t; read = some }) e

no_bytes : (d : Fault) → header_at [] ≡ Err d → d.at ≡ 0
unfolding header_at number_at
no_bytes d e = sym (ap place_of (err_is {A = Header} (fault 0 BODY) d e))

pub header_bad : (bs : List ℕ) (d : Fault) → header_at bs ≡ Err d → Bad bs d
header_bad [] d e = nothing refl (no_bytes d e)
header_bad (first ∷ rest) d e =
    by_test {P = Bad (first ∷ rest) d} (eqb (first % 4) 2)
    (λ t. absurd (not_both (header_at (first ∷ rest)) (tiny_of first) d (first_is first rest ∙ ap (λ (b : Bool). cond b (Ok (tiny_of first)) (fat_at first (first ∷ rest))) t) e))
    (λ t. bad_first first rest d t e (flags_of first) refl)

-- ---- headers that begin so

fat_header_of : (first : ℕ) (flags : Bool × Bool) (rest : List ℕ) → Fat first flags → 10 ≤ length rest → (h : Header) × (header_at (first ∷ 0x30 ∷ rest) ≡ Ok h) × (h.tiny ≡ false)
fat_header_of first flags rest fat long =
    let bs : List ℕ = first ∷ 0x30 ∷ rest in
    let stack = field_found 2 bs 2 (omega arith) in
    let size = field_found 4 bs 4 (omega arith) in
    let locals = field_found 4 bs 8 (omega arith) in
    let read : fields flags bs ≡ Ok (fat_of flags stack.0 size.0 locals.0) = rw (stack.1, size.1, locals.1) refl in
    (fat_of flags stack.0 size.0 locals.0, fat_is first 0x30 flags rest fat ∙ read, refl)

-- some body's spelling begins with bytes that a header begins with
begun_by : (good more : List ℕ) (h : Header) → IsBytes (good ++ more) → header_at (good ++ more) ≡ Ok h → length good ≤ header_size h.tiny → (b : Body) × (rest : List ℕ) × IsSpelledBy (good ++ rest) b
begun_by good more h fits e within =
    let takes = header_takes (good ++ more) h fits e in
    let c = completes h [] (record { tiny = takes.tiny; fat = takes.fat }) tt (omega arith) in
    let left : ℕ = header_size h.tiny - length good in
    let size : header_size h.tiny ≡ length good + left = omega (arith, within) in
    let front : header_text h ≡ good ++ take left more =
    sym takes.spelled ∙ ap (λ (n : ℕ). take n (good ++ more)) size ∙ take-add (length good) left (good ++ more)
    ∙ ap₂ (λ (x y : List ℕ). x ++ y) (take_at good more (length good) refl) (ap (take left) (drop_at good more (length good) refl)) in
    let text : header_text h ++ ([] ++ c.more) ≡ good ++ (take left more ++ c.more) = ap (λ (x : List ℕ). x ++ c.more) front ∙ append_assoc good (take left more) c.more in
    (c.body, take left more ++ c.more, subst (λ (t : List ℕ). IsSpelledBy t c.body) text c.spelled)

-- ---- no body begins otherwise

header_there : (b : Body) (text : List ℕ) → IsSpelledBy text b → (h : Header) × (header_at text ≡ Ok h)
header_there b text s =
    let own : List ℕ = header_bytes b s.1.sects (length (code_bytes b.code)) in
    let tail : List ℕ = cond s.1.sects (section_bytes s.1.pad s.1.reserved b) [] in
    (header_of s.1 b, ap header_at (s.3 ∙ append_assoc own (code_bytes b.code) tail) ∙ header_again s.1 b (code_bytes b.code ++ tail) s.2 s.0)

none_alone : (bs : List ℕ) (d : Fault) → header_at bs ≡ Err d → (b : Body) (text : List ℕ) → IsSpelledBy text b → take (suc (length bs)) text ≡ take (suc (length bs)) bs → ⊥
none_alone bs d e b text s same =
    let there = header_there b text s in
    let all : text ≡ bs = all_same bs text (same ∙ take_all (suc (length bs)) bs (omega arith)) in
    not_both (header_at bs) there.0 d (ap header_at (sym all) ∙ there.1) e

none_first : (first : ℕ) (rest : List ℕ) → eqb (first % 4) 2 ≡ false → flags_of first ≡ None → (b : Body) (text : List ℕ) → IsSpelledBy text b → take 1 text ≡ take 1 (first ∷ rest) → ⊥
none_first first rest t none b [] s same = absurd cc
none_first first rest t none b (c ∷ text) s same =
    let is : c ≡ first = cc in
    let there = header_there b (c ∷ text) s in
    not_both (header_at (first ∷ text)) there.0 (fault 0 BODY) (ap (λ (x : ℕ). header_at (x ∷ text)) (sym is) ∙ there.1) (not_tiny_is first text t ∙ no_flags_is first (first ∷ text) none)

none_high : (first high : ℕ) (flags : Bool × Bool) (rest : List ℕ) → Fat first flags → eqb high 0x30 ≡ false → (b : Body) (text : List ℕ) → IsSpelledBy text b → take 2 text ≡ take 2 (first ∷ high ∷ rest) → ⊥
none_high first high flags rest fat t b [] s same = absurd cc
none_high first high flags rest fat t b (c ∷ []) s same = absurd cc
none_high first high flags rest fat t b (c ∷ e ∷ text) s same =
    let is : c ≡ first = cc in
    let next : e ≡ high = cc in
    let there = header_there b (c ∷ e ∷ text) s in
    let read : header_at (first ∷ high ∷ text) ≡ Err (fault 1 BODY) = fat_is first high flags text fat ∙ ap (λ (q : Bool). cond q (fields flags (first ∷ high ∷ text)) (Err (fault 1 BODY))) t in
    not_both (header_at (first ∷ high ∷ text)) there.0 (fault 1 BODY) (ap₂ (λ (x y : ℕ). header_at (x ∷ y ∷ text)) (sym is) (sym next) ∙ there.1) read

-- ---- the first bad byte

nothing_begun : (b : Body) × (rest : List ℕ) × IsSpelledBy ([] ++ rest) b
nothing_begun = begun_by [] (2 ∷ []) (record { tiny = true; init = false; sects = false; max_stack = 8; size = 0; locals = 0 }) (bytes_one 2 (omega arith)) (tiny_again 0 [] (omega arith)) (omega arith)

at_zero : (bs : List ℕ) → ((b : Body) (text : List ℕ) → IsSpelledBy text b → take 1 text ≡ take 1 bs → ⊥) → IsFirstBad bs 0
at_zero bs never = record { within = omega arith; begun = nothing_begun; never = never }

one_begun : (first : ℕ) (flags : Bool × Bool) → Fat first flags → first < 256 → (b : Body) × (rest : List ℕ) × IsSpelledBy ((first ∷ []) ++ rest) b
one_begun first flags fat low =
    let more : List ℕ = 0x30 ∷ replicate 10 0 in
    let h = fat_header_of first flags (replicate 10 0) fat (omega arith) in
    begun_by (first ∷ []) more h.0 (bytes_join (first ∷ []) more (bytes_one first low) (bytes_join (0x30 ∷ []) (replicate 10 0) (bytes_one 0x30 (omega arith)) (bytes_zeros 10))) h.1
    (omega (arith, ap header_size h.2))

pub first_bad_byte : (bs : List ℕ) (d : Fault) → IsBytes bs → header_at bs ≡ Err d → Bad bs d → IsFirstBad bs d.at
first_bad_byte bs d fits e (nothing is at) =
    subst (IsFirstBad bs) (sym at) (at_zero bs (λ b text s same. none_alone bs d e b text s (subst (λ (n : ℕ). take (suc n) text ≡ take (suc n) bs) (sym (ap length is)) same)))
first_bad_byte bs d fits e (one first flags fat is at) =
    let low : first < 256 = subst (λ (l : List ℕ). get_or l 0 0 < 256) is (fits 0) in
    let begun = one_begun first flags fat low in
    subst (IsFirstBad bs) (sym at) (record {
      within = omega (arith, ap length is);
      begun = (begun.0, begun.1, subst (λ (l : List ℕ). IsSpelledBy (l ++ begun.1) begun.0) (sym (ap (take 1) is)) begun.2);
      never = λ b text s same. none_alone bs d e b text s (subst (λ (n : ℕ). take (suc n) text ≡ take (suc n) bs) (sym (ap length is)) same);
    })
first_bad_byte bs d fits e (cut first flags rest fat is short at) =
    let more : List ℕ = replicate 10 0 in
    let h = fat_header_of first flags (rest ++ more) fat (omega (arith, length-append rest more)) in
    let begun = begun_by bs more h.0 (bytes_join bs more fits (bytes_zeros 10)) (ap (λ (l : List ℕ). header_at (l ++ more)) is ∙ h.1) (omega (arith, ap length is, short, ap header_size h.2)) in
    let all : take d.at bs ≡ bs = take_all d.at bs (omega (arith, at)) in
    record {
      within = omega (arith, at);
      begun = (begun.0, begun.1, subst (λ (l : List ℕ). IsSpelledBy (l ++ begun.1) begun.0) (sym all) begun.2);
      never = λ b text s same. none_alone bs d e b text s (subst (λ (n : ℕ). take (suc n) text ≡ take (suc n) bs) at same);
    }
first_bad_byte bs d fits e (first_bad first rest t none is at) =
    subst (IsFirstBad bs) (sym at) (at_zero bs (λ b text s same. none_first first rest t none b text s (same ∙ ap (take 1) is)))
first_bad_byte bs d fits e (high_bad first high flags rest fat t is at) =
    let low : first < 256 = subst (λ (l : List ℕ). get_or l 0 0 < 256) is (fits 0) in
    let begun = one_begun first flags fat low in
    subst (IsFirstBad bs) (sym at) (record {
      within = omega (arith, ap length is);
      begun = (begun.0, begun.1, subst (λ (l : List ℕ). IsSpelledBy (l ++ begun.1) begun.0) (sym (ap (take 1) is)) begun.2);
      never = λ b text s same. none_high first high flags rest fat t b text s (same ∙ ap (take 2) is);
    })
