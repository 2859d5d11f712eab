-- How long what is written of a body is.
use Rattle.std.proofs.Common.{◌≡◌, ℕ, suc, ◌+◌, ◌-◌, ◌*◌, ◌%◌, ◌≤◌, Bool, true, false, List, [], ◌∷◌, ◌++◌, length, drop, refl, sym, ap, ◌∙◌, arith, length-append}
use Rattle.std.specs.Prelude.{if◌then◌else◌}
use Rattle.std.proofs.lemmas.List.{length-replicate, drop_all}
use Rattle.std.proofs.lemmas.List.Concat.{flat_map-cons}
use Rattle.il_base.specs.declared.body.Body.{Body}
use Rattle.il_base.specs.declared.body.Handler.{Handler}
use Rattle.il_base.specs.declared.body.Instr.{Instr}
use Rattle.il_base.specs.body_grammar.Bodies.{aligned, header_size, clause_size}
use Rattle.il_base.specs.body_grammar.BodySpelling.{instr_bytes, code_bytes, clause_bytes, clauses_bytes, section_head, header_bytes, padding, section_bytes, has_section, body_bytes}
use Rattle.merge_plan.specs.method_places.Lengths.{section_size}

-- ---- code

-- so many bytes and those of some instructions, modulo 2^32
unfoldable pub size_from : ℕ → List Instr → ℕ
size_from n [] = n
size_from n (i ∷ is) = size_from ((n + length (instr_bytes i) % 4294967296) % 4294967296) is

size_from_is : (n : ℕ) (is : List Instr) → size_from (n % 4294967296) is ≡ (n + length (code_bytes is)) % 4294967296
unfolding size_from
size_from_is n [] = omega arith
size_from_is n (i ∷ is) =
    ap (λ (k : ℕ). size_from k is) (one n (length (instr_bytes i))) ∙ size_from_is (n + length (instr_bytes i)) is
    ∙ ap (λ (k : ℕ). k % 4294967296) (more n (length (instr_bytes i)) (length (code_bytes is)) ∙ ap (λ (k : ℕ). n + k) (sym (ap length (flat_map-cons instr_bytes i is) ∙ length-append (instr_bytes i) (code_bytes is))))
  where
    one : (a b : ℕ) → (a % 4294967296 + b % 4294967296) % 4294967296 ≡ (a + b) % 4294967296
    one a b = omega arith

    more : (a b d : ℕ) → a + b + d ≡ a + (b + d)
    more a b d = omega arith

pub code_length : (is : List Instr) → size_from 0 is ≡ length (code_bytes is) % 4294967296
code_length is = size_from_is 0 is ∙ ap (λ (k : ℕ). k % 4294967296) (start (length (code_bytes is)))
  where
    start : (n : ℕ) → 0 + n ≡ n
    start n = omega arith

pub code_done : (n k : ℕ) (is : List Instr) → length is ≤ k → size_from n (drop k is) ≡ size_from 0 is → n ≡ length (code_bytes is) % 4294967296
unfolding size_from
code_done n k is past e = ap (size_from n) (sym (drop_all k is past)) ∙ e ∙ code_length is

-- ---- the whole body

clause_length : (fat : Bool) (h : Handler) → length (clause_bytes fat h) ≡ clause_size fat
clause_length true h = refl
clause_length false h = refl

clauses_length : (fat : Bool) (hs : List Handler) → length (clauses_bytes fat hs) ≡ clause_size fat * length hs
clauses_length fat [] = none (clause_size fat)
  where
    none : (k : ℕ) → 0 ≡ k * 0
    none k = omega arith
clauses_length fat (h ∷ hs) =
    ap length (flat_map-cons (clause_bytes fat) h hs) ∙ length-append (clause_bytes fat h) (clauses_bytes fat hs)
    ∙ ap (λ (n : ℕ). n + length (clauses_bytes fat hs)) (clause_length fat h) ∙ ap (λ (n : ℕ). clause_size fat + n) (clauses_length fat hs) ∙ next fat (length hs)
  where
    next : (b : Bool) (n : ℕ) → clause_size b + clause_size b * n ≡ clause_size b * suc n
    next true n = omega arith
    next false n = omega arith

head_length : (fat : Bool) (n : ℕ) → length (section_head fat n (0 ∷ 0 ∷ [])) ≡ 4
unfolding section_head
head_length true n = refl
head_length false n = refl

header_length : (b : Body) (sects : Bool) (n : ℕ) → length (header_bytes b sects n) ≡ header_size b.tiny
unfolding header_bytes
header_length b sects n = by_case b.tiny refl
  where
    by_case : (t : Bool) → b.tiny ≡ t → length (header_bytes b sects n) ≡ header_size b.tiny
    by_case true e = rw e refl
    by_case false e = rw e refl

section_length : (b : Body) (n : ℕ) → length (section_bytes (padding (12 + n)) (0 ∷ 0 ∷ []) b) ≡ aligned (12 + n) - (12 + n) + (4 + clause_size b.fat_handlers * length b.handlers)
section_length b n =
    length-append (padding (12 + n) ++ section_head b.fat_handlers (length b.handlers) (0 ∷ 0 ∷ [])) (clauses_bytes b.fat_handlers b.handlers)
    ∙ ap (λ (k : ℕ). k + length (clauses_bytes b.fat_handlers b.handlers)) (length-append (padding (12 + n)) (section_head b.fat_handlers (length b.handlers) (0 ∷ 0 ∷ [])))
    ∙ sum (length (padding (12 + n))) (aligned (12 + n) - (12 + n)) (length (section_head b.fat_handlers (length b.handlers) (0 ∷ 0 ∷ []))) (length (clauses_bytes b.fat_handlers b.handlers)) (clause_size b.fat_handlers * length b.handlers)
    (length-replicate (aligned (12 + n) - (12 + n)) 0) (head_length b.fat_handlers (length b.handlers)) (clauses_length b.fat_handlers b.handlers)
  where
    sum : (p q h c d : ℕ) → p ≡ q → h ≡ 4 → c ≡ d → p + h + c ≡ q + (4 + d)
    sum p q h c d e f g = omega (arith, e, f, g)

-- what stands after the code
abbrev pub behind_size : Body → ℕ → ℕ
behind_size b n = if has_section b then aligned (12 + n) - (12 + n) + (4 + clause_size b.fat_handlers * length b.handlers) else 0

behind_length : (b : Body) (n : ℕ) → length (if has_section b then section_bytes (padding (12 + n)) (0 ∷ 0 ∷ []) b else []) ≡ behind_size b n
behind_length b n = by_case (has_section b)
  where
    by_case : (s : Bool) → length (if s then section_bytes (padding (12 + n)) (0 ∷ 0 ∷ []) b else []) ≡ (if s then aligned (12 + n) - (12 + n) + (4 + clause_size b.fat_handlers * length b.handlers) else 0)
    by_case true = section_length b n
    by_case false = refl

body_length : (b : Body) → length (body_bytes b) ≡ header_size b.tiny + length (code_bytes b.code) + behind_size b (length (code_bytes b.code))
body_length b =
    length-append (header_bytes b (has_section b) (length (code_bytes b.code)) ++ code_bytes b.code) (if has_section b then section_bytes (padding (12 + length (code_bytes b.code))) (0 ∷ 0 ∷ []) b else [])
    ∙ ap (λ (k : ℕ). k + length (if has_section b then section_bytes (padding (12 + length (code_bytes b.code))) (0 ∷ 0 ∷ []) b else [])) (length-append (header_bytes b (has_section b) (length (code_bytes b.code))) (code_bytes b.code))
    ∙ ap (λ (k : ℕ). k + length (code_bytes b.code) + length (if has_section b then section_bytes (padding (12 + length (code_bytes b.code))) (0 ∷ 0 ∷ []) b else [])) (header_length b (has_section b) (length (code_bytes b.code)))
    ∙ ap (λ (k : ℕ). header_size b.tiny + length (code_bytes b.code) + k) (behind_length b (length (code_bytes b.code)))

behind_modulo : (b : Body) (n h : ℕ) → (h + n % 4294967296 + section_size b (n % 4294967296)) % 4294967296 ≡ (h + n + behind_size b n) % 4294967296
behind_modulo b n h = by_case (has_section b) b.fat_handlers (length b.handlers)
  where
    by_case : (s f : Bool) (k : ℕ)
        → (h + n % 4294967296 + (if s then aligned (12 + n % 4294967296) - (12 + n % 4294967296) + (4 + clause_size f * (k % 4294967296)) else 0)) % 4294967296
        ≡ (h + n + (if s then aligned (12 + n) - (12 + n) + (4 + clause_size f * k) else 0)) % 4294967296
    by_case false f k = omega arith
    by_case true true k = omega arith
    by_case true false k = omega arith

pub body_modulo : (b : Body) (n header : ℕ) → n ≡ length (code_bytes b.code) % 4294967296 → header ≡ header_size b.tiny
    → (header + n + section_size b n) % 4294967296 ≡ length (body_bytes b) % 4294967296
body_modulo b n header e f =
    ap (λ (k : ℕ). (header + k + section_size b k) % 4294967296) e ∙ ap (λ (h : ℕ). (h + length (code_bytes b.code) % 4294967296 + section_size b (length (code_bytes b.code) % 4294967296)) % 4294967296) f
    ∙ behind_modulo b (length (code_bytes b.code)) (header_size b.tiny) ∙ ap (λ (k : ℕ). k % 4294967296) (sym (body_length b))
