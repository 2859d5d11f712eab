-- A body that was written is read again, whatever stands after it.
use Rattle.std.proofs.Common.{◌≡◌, ℕ, ◌+◌, ◌-◌, ◌*◌, ◌/◌, ◌%◌, ◌^◌, ◌<◌, ◌≤◌, Bool, true, false, not, cond, eqb, ltb, ◌||◌, List, [], ◌∷◌, ◌++◌, length, take, drop, None, Ok, refl, sym, ap, ap₂, subst, ◌∙◌, append_assoc, add-zero, arith}
use Rattle.std.specs.List.{AllByRecursion}
use Rattle.std.proofs.lemmas.Bool.{eq-eqb, ne_eqb, le-ltb}
use Rattle.std.proofs.lemmas.List.{length-append, length-replicate, append-nil, take_at, drop_at}
use Rattle.byteorder.specs.Endian.{little_bytes}
use Rattle.il_base.specs.declared.body.Body.{Body}
use Rattle.il_base.specs.declared.body.Handler.{Handler}
use Rattle.il_base.specs.declared.body.Instr.{Instr}
use Rattle.il_base.specs.declared.body_grammar.body.Header.{Header}
use Rattle.il_base.specs.body_grammar.HandlerRules.{is_start, offender}
use Rattle.il_base.specs.body_grammar.Instructions.{code_at}
use Rattle.il_base.specs.body_grammar.Bodies.{field_at, flags_of, fat_at, header_at, header_size, aligned, clause_size, small_section_at, fat_section_at, section_at, clauses_after, handlers_at, made, with_handlers, body_at}
use Rattle.il_base.specs.body_grammar.BodySpelling.{code_bytes, clauses_bytes, section_head, flags_byte, header_bytes, section_bytes, body_spelling, has_section, writing, body_bytes, Filler, IsFiller, IsClause, HasSpelling, IsSpelledBy}
use Rattle.il_base.proofs.lemmas.body_grammar.WrittenNumbers.{field_in, field_there, byte_in}
use Rattle.il_base.proofs.lemmas.body_grammar.WrittenCode.{code_again}
use Rattle.il_base.proofs.lemmas.body_grammar.WrittenClauses.{clauses_again, length-clauses}

-- ---- the head of a section

small_head : (n at : ℕ) (before reserved after : List ℕ) → length before ≡ at → n ≤ 20 → length reserved ≡ 2
    → section_at at (before ++ (section_head false n reserved ++ after)) ≡ Ok (false, n)
unfolding section_at small_section_at section_head
small_head n at before reserved after len few two =
    let x : List ℕ = 1 ∷ (4 + 12 * n) % 256 ∷ (reserved ++ after) in
    let bs : List ℕ = before ++ x in
    let kind : field_at 1 bs at ≡ Ok 1 = ap (field_at 1 bs) (sym (add-zero at)) ∙ byte_in 1 at 0 before [] (drop 1 x) len refl in
    let size : field_at 1 bs (at + 1) ≡ Ok ((4 + 12 * n) % 256) = byte_in ((4 + 12 * n) % 256) at 1 before (take 1 x) (drop 2 x) len refl in
    let reserved = field_there 2 at 2 before (take 2 x) (reserved ++ after) len refl (omega (arith, length-append reserved after)) in
    let exact : eqb ((4 + 12 * n) % 256 % 12) 4 ≡ true = eq-eqb ((4 + 12 * n) % 256 % 12) 4 (omega arith) in
    let count : (4 + 12 * n) % 256 / 12 ≡ n = omega arith in
    rw (kind, size, exact, reserved) (ap (λ (m : ℕ). Ok (false, m)) count)

fat_head : (n at : ℕ) (before reserved after : List ℕ) → length before ≡ at → n ≤ 699050
    → section_at at (before ++ (section_head true n reserved ++ after)) ≡ Ok (true, n)
unfolding section_at fat_section_at section_head
fat_head n at before reserved after len few =
    let s : ℕ = 4 + 24 * n in
    let x : List ℕ = 65 ∷ s % 256 ∷ s / 256 % 256 ∷ s / 65536 % 256 ∷ after in
    let bs : List ℕ = before ++ x in
    let kind : field_at 1 bs at ≡ Ok 65 = ap (field_at 1 bs) (sym (add-zero at)) ∙ byte_in 65 at 0 before [] (drop 1 x) len refl in
    let low : field_at 1 bs (at + 1) ≡ Ok (s % 256) = byte_in (s % 256) at 1 before (take 1 x) (drop 2 x) len refl in
    let first : eqb (s % 256 % 8) 4 ≡ true = eq-eqb (s % 256 % 8) 4 (omega arith) in
    let front : field_at 2 bs (at + 1) ≡ Ok (s % 256 + 256 * (s / 256 % 256 + 256 * 0)) = field_there 2 at 1 before (take 1 x) (drop 1 x) len refl (omega arith) in
    let high : field_at 1 bs (at + 3) ≡ Ok (s / 65536 % 256) = byte_in (s / 65536 % 256) at 3 before (take 3 x) (drop 4 x) len refl in
    let whole : s % 256 + 256 * (s / 256 % 256 + 256 * 0) + 65536 * (s / 65536 % 256) ≡ s = omega arith in
    let exact : eqb (s % 24) 4 ≡ true = eq-eqb (s % 24) 4 (omega arith) in
    let count : s / 24 ≡ n = omega arith in
    rw (kind, low, first, front, high) (rw whole (rw exact (ap (λ (m : ℕ). Ok (true, m)) count)))

pub section_again : (fat : Bool) (n at : ℕ) (before reserved after : List ℕ) → length before ≡ at → n ≤ cond fat 699050 20 → length reserved ≡ 2
    → section_at at (before ++ (section_head fat n reserved ++ after)) ≡ Ok (fat, n)
section_again false n at before reserved after len few two = small_head n at before reserved after len few two
section_again true n at before reserved after len few two = fat_head n at before reserved after len few

length-head : (fat : Bool) (n : ℕ) (reserved : List ℕ) → length reserved ≡ 2 → length (section_head fat n reserved) ≡ 4
unfolding section_head
length-head false n reserved two = omega arith
length-head true n reserved two = refl

-- ---- headers

pub tiny_again : (size : ℕ) (rest : List ℕ) → size < 64
    → header_at ((2 + 4 * size) % 256 ∷ rest) ≡ Ok (record { tiny = true; init = false; sects = false; max_stack = 8; size = size; locals = 0 })
unfolding header_at
tiny_again size rest lt =
    let x : List ℕ = (2 + 4 * size) % 256 ∷ rest in
    let first : field_at 1 x 0 ≡ Ok ((2 + 4 * size) % 256) = byte_in ((2 + 4 * size) % 256) 0 0 [] [] rest refl refl in
    let two : eqb ((2 + 4 * size) % 256 % 4) 2 ≡ true = eq-eqb ((2 + 4 * size) % 256 % 4) 2 (omega arith) in
    let above : (2 + 4 * size) % 256 / 4 ≡ size = omega arith in
    rw (first, two) (ap (λ (n : ℕ). Ok (record { tiny = true; init = false; sects = false; max_stack = 8; size = n; locals = 0 })) above)

fat_from : (sects init : Bool) (stack size locals : ℕ) (bs : List ℕ)
    → field_at 1 bs 0 ≡ Ok (flags_byte sects init) → field_at 1 bs 1 ≡ Ok 48 → field_at 2 bs 2 ≡ Ok stack → field_at 4 bs 4 ≡ Ok size → field_at 4 bs 8 ≡ Ok locals
    → header_at bs ≡ Ok (record { tiny = false; init = init; sects = sects; max_stack = stack; size = size; locals = locals })
unfolding header_at fat_at flags_of
fat_from false false stack size locals bs e0 e1 e2 e3 e4 = rw (e0, e1, e2, e3, e4) refl
fat_from false true stack size locals bs e0 e1 e2 e3 e4 = rw (e0, e1, e2, e3, e4) refl
fat_from true false stack size locals bs e0 e1 e2 e3 e4 = rw (e0, e1, e2, e3, e4) refl
fat_from true true stack size locals bs e0 e1 e2 e3 e4 = rw (e0, e1, e2, e3, e4) refl

pub fat_again : (sects init : Bool) (stack size locals : ℕ) (rest : List ℕ) → stack < 2 ^ 16 → size < 2 ^ 32 → locals < 2 ^ 32
    → header_at ((flags_byte sects init ∷ 48 ∷ [] ++ little_bytes 2 stack ++ little_bytes 4 (size % 4294967296) ++ little_bytes 4 locals) ++ rest)
    ≡ Ok (record { tiny = false; init = init; sects = sects; max_stack = stack; size = size; locals = locals })
fat_again sects init stack size locals rest h0 h1 h2 =
    let x : List ℕ = (flags_byte sects init ∷ 48 ∷ [] ++ little_bytes 2 stack ++ little_bytes 4 (size % 4294967296) ++ little_bytes 4 locals) ++ rest in
    let same : size % 4294967296 ≡ size = omega arith in
    fat_from sects init stack size locals x (byte_in (flags_byte sects init) 0 0 [] [] (drop 1 x) refl refl) (byte_in 48 0 1 [] (take 1 x) (drop 2 x) refl refl)
    (field_in 2 stack 0 2 [] (take 2 x) (drop 4 x) refl refl (omega arith))
    (field_in 4 (size % 4294967296) 0 4 [] (take 4 x) (drop 8 x) refl refl (omega arith) ∙ ap (λ (n : ℕ). Ok n) same)
    (field_in 4 locals 0 8 [] (take 8 x) (drop 12 x) refl refl (omega arith))

-- the header of a spelling
abbrev pub header_of : Filler → Body → Header
header_of f b = record { tiny = b.tiny; init = b.init; sects = f.sects; max_stack = b.max_stack; size = length (code_bytes b.code); locals = b.locals }

pub by_header : {P : Type 0} (tiny : Bool) → (tiny ≡ true → P) → (tiny ≡ false → P) → P
by_header true f g = f refl
by_header false f g = g refl

pub header_again : (f : Filler) (b : Body) (rest : List ℕ) → IsFiller f b → HasSpelling b
    → header_at (header_bytes b f.sects (length (code_bytes b.code)) ++ rest) ≡ Ok (header_of f b)
unfolding header_bytes
header_again f b rest fits h =
    let size : ℕ = length (code_bytes b.code) in
    by_header {P = header_at (cond b.tiny ((2 + 4 * size) % 256 ∷ []) (flags_byte f.sects b.init ∷ 48 ∷ [] ++ little_bytes 2 b.max_stack ++ little_bytes 4 (size % 4294967296) ++ little_bytes 4 b.locals) ++ rest) ≡ Ok (header_of f b)} b.tiny
    (λ t. let k = h.tiny t in rw (t, k.init, k.max_stack, k.locals, fits.tiny t) (tiny_again size rest k.size))
    (λ t. let k = h.fat t in rw t (fat_again f.sects b.init b.max_stack size b.locals rest k.max_stack k.size k.locals))

pub length-header : (b : Body) (sects : Bool) (size : ℕ) → length (header_bytes b sects size) ≡ header_size b.tiny
unfolding header_bytes
length-header b sects size =
    by_header {P = length (cond b.tiny ((2 + 4 * size) % 256 ∷ []) (flags_byte sects b.init ∷ 48 ∷ [] ++ little_bytes 2 b.max_stack ++ little_bytes 4 (size % 4294967296) ++ little_bytes 4 b.locals)) ≡ header_size b.tiny} b.tiny
    (λ t. rw t refl) (λ t. rw t refl)

-- ---- handler sections

handlers_again : (code : List Instr) (size at : ℕ) (fat : Bool) (hs : List Handler) (before reserved after : List ℕ) → length before ≡ at
    → length hs ≤ cond fat 699050 20 → length reserved ≡ 2 → AllByRecursion (IsClause fat) hs → offender (is_start code size) size hs ≡ None
    → handlers_at code size at (before ++ (section_head fat (length hs) reserved ++ (clauses_bytes fat hs ++ after))) ≡ Ok (fat, hs, at + 4 + length hs * clause_size fat)
unfolding handlers_at
handlers_again code size at fat hs before reserved after len few two are nest =
    let head : List ℕ = section_head fat (length hs) reserved in
    let bs : List ℕ = before ++ (head ++ (clauses_bytes fat hs ++ after)) in
    let section : section_at at bs ≡ Ok (fat, length hs) = section_again fat (length hs) at before reserved (clauses_bytes fat hs ++ after) len few two in
    let regrouped : bs ≡ (before ++ head) ++ (clauses_bytes fat hs ++ after) = sym (append_assoc before head (clauses_bytes fat hs ++ after)) in
    let behind : length (before ++ head) ≡ at + 4 = omega (arith, length-append before head, length-head fat (length hs) reserved two) in
    let clauses : clauses_after (length hs) fat (at + 4) bs [] ≡ (hs, None) =
    ap (λ (x : List ℕ). clauses_after (length hs) fat (at + 4) x []) regrouped ∙ clauses_again fat hs (at + 4) (before ++ head) after [] behind are in
    rw (section, clauses, nest) refl

with_section : (h : Header) (code : List Instr) (end : ℕ) (bs : List ℕ) (fat : Bool) (hs : List Handler) (stop : ℕ) → h.sects ≡ true
    → handlers_at code h.size (aligned end) bs ≡ Ok (fat, hs, stop) → with_handlers h code end bs ≡ Ok (made h code fat hs, stop)
with_section h code end bs fat hs stop e read = rw (e, read) refl

without_section : (h : Header) (code : List Instr) (end : ℕ) (bs : List ℕ) → h.sects ≡ false → with_handlers h code end bs ≡ Ok (made h code false [], end)
without_section h code end bs e = rw e refl

body_from : (bs : List ℕ) (h : Header) (code : List Instr) → header_at bs ≡ Ok h
    → code_at (header_size h.tiny) (take h.size (drop (header_size h.tiny) bs)) ≡ Ok code → ltb (length bs) (header_size h.tiny + h.size) ≡ false
    → body_at bs ≡ with_handlers h code (header_size h.tiny + h.size) bs
unfolding body_at
body_from bs h code e0 e1 e2 = rw (e0, e1, e2) refl

-- ---- bodies

-- what a body without a section is
needs_none_by : (fat : Bool) (hs : List Handler) → ((fat || not (eqb (length hs) 0)) ≡ true → ⊥) → (fat ≡ false) × (hs ≡ [])
needs_none_by true hs h = absurd (h refl)
needs_none_by false [] h = (refl, refl)
needs_none_by false (k ∷ ks) h = absurd (h (ap not (ne_eqb (length (k ∷ ks)) 0 (λ e. omega arith))))

needs_none : (b : Body) → (has_section b ≡ true → ⊥) → (b.fat_handlers ≡ false) × (b.handlers ≡ [])
needs_none b h = needs_none_by b.fat_handlers b.handlers h

sects_again : (f : Filler) (b : Body) (rest : List ℕ) → IsFiller f b → HasSpelling b → f.sects ≡ true
    → with_handlers (header_of f b) b.code (header_size b.tiny + length (code_bytes b.code)) (body_spelling f b ++ rest) ≡ Ok (b, length (body_spelling f b))
sects_again f b rest fits h s =
    let t : b.tiny ≡ false = by_header {P = b.tiny ≡ false} b.tiny (λ t. let no : true ≡ false = sym s ∙ fits.tiny t in absurd cc) (λ t. t) in
    let fat = h.fat t in
    let code : List ℕ = code_bytes b.code in
    let header : List ℕ = header_bytes b f.sects (length code) in
    let head : List ℕ = section_head b.fat_handlers (length b.handlers) f.reserved in
    let clauses : List ℕ = clauses_bytes b.fat_handlers b.handlers in
    let before : List ℕ = (header ++ code) ++ f.pad in
    let end : ℕ = header_size b.tiny + length code in
    let twelve : header_size b.tiny ≡ 12 = ap header_size t in
    let whole : body_spelling f b ≡ (header ++ code) ++ ((f.pad ++ head) ++ clauses) = ap (λ (c : Bool). (header ++ code) ++ cond c ((f.pad ++ head) ++ clauses) []) s in
    let regrouped : body_spelling f b ++ rest ≡ before ++ (head ++ (clauses ++ rest)) =
    ap (λ (x : List ℕ). x ++ rest) whole ∙ simp append_assoc in
    let at : length before ≡ aligned end =
    omega (arith, length-append (header ++ code) f.pad, length-append header code, length-header b f.sects (length code), twelve, fits.pad, ap aligned (ap (λ (n : ℕ). n + length code) twelve)) in
    let read = handlers_again b.code (length code) (aligned end) b.fat_handlers b.handlers before f.reserved rest at fat.count fits.reserved fat.handlers h.nesting in
    let stop : aligned end + 4 + length b.handlers * clause_size b.fat_handlers ≡ length (body_spelling f b) =
    omega (
      arith,
      ap length whole,
      length-append (header ++ code) ((f.pad ++ head) ++ clauses),
      length-append (f.pad ++ head) clauses,
      length-append f.pad head,
      at,
      length-append (header ++ code) f.pad,
      length-head b.fat_handlers (length b.handlers) f.reserved fits.reserved,
      length-clauses b.fat_handlers b.handlers,
    ) in
    with_section (header_of f b) b.code end (body_spelling f b ++ rest) b.fat_handlers b.handlers (aligned end + 4 + length b.handlers * clause_size b.fat_handlers) s
    (ap (handlers_at b.code (length code) (aligned end)) regrouped ∙ read)
    ∙ ap (λ (n : ℕ). Ok (b, n)) stop

no_sects_again : (f : Filler) (b : Body) (rest : List ℕ) → IsFiller f b → HasSpelling b → f.sects ≡ false
    → with_handlers (header_of f b) b.code (header_size b.tiny + length (code_bytes b.code)) (body_spelling f b ++ rest) ≡ Ok (b, length (body_spelling f b))
no_sects_again f b rest fits h s =
    let code : List ℕ = code_bytes b.code in
    let header : List ℕ = header_bytes b f.sects (length code) in
    let whole : body_spelling f b ≡ header ++ code =
    ap (λ (c : Bool). (header ++ code) ++ cond c (section_bytes f.pad f.reserved b) []) s ∙ append-nil (header ++ code) in
    let stop : header_size b.tiny + length code ≡ length (body_spelling f b) = omega (arith, ap length whole, length-append header code, length-header b f.sects (length code)) in
    let none = needs_none b (λ e. let no : true ≡ false = sym (fits.needed e) ∙ s in absurd cc) in
    without_section (header_of f b) b.code (header_size b.tiny + length code) (body_spelling f b ++ rest) s
    ∙ ap₂ (λ (fat : Bool) (hs : List Handler). Ok (made (header_of f b) b.code fat hs, header_size b.tiny + length code)) (sym none.0) (sym none.1)
    ∙ ap (λ (n : ℕ). Ok (b, n)) stop

pub body_again : (f : Filler) (b : Body) (rest : List ℕ) → IsFiller f b → HasSpelling b
    → body_at (body_spelling f b ++ rest) ≡ Ok (b, length (body_spelling f b))
body_again f b rest fits h =
    let code : List ℕ = code_bytes b.code in
    let header : List ℕ = header_bytes b f.sects (length code) in
    let tail : List ℕ = cond f.sects (section_bytes f.pad f.reserved b) [] in
    let from : ℕ = header_size b.tiny in
    let bs : List ℕ = body_spelling f b ++ rest in
    let regrouped : bs ≡ header ++ (code ++ (tail ++ rest)) = append_assoc (header ++ code) tail rest ∙ append_assoc header code (tail ++ rest) in
    let first : header_at bs ≡ Ok (header_of f b) = ap header_at regrouped ∙ header_again f b (code ++ (tail ++ rest)) fits h in
    let size = length-header b f.sects (length code) in
    let behind : drop from bs ≡ code ++ (tail ++ rest) = ap (drop from) regrouped ∙ drop_at header (code ++ (tail ++ rest)) from size in
    let within : take (length code) (drop from bs) ≡ code = ap (take (length code)) behind ∙ take_at code (tail ++ rest) (length code) refl in
    let read : code_at from (take (length code) (drop from bs)) ≡ Ok b.code =
    ap (code_at from) within ∙ code_again b.code (length code) from 0 [] h.code (omega arith) in
    let long : ltb (length bs) (from + length code) ≡ false =
    le-ltb (length bs) (from + length code) (omega (arith, ap length regrouped, length-append header (code ++ (tail ++ rest)), length-append code (tail ++ rest), size)) in
    body_from bs (header_of f b) b.code first read long
    ∙ by_header f.sects (sects_again f b rest fits h) (no_sects_again f b rest fits h)

written_fits : (b : Body) → HasSpelling b → IsFiller (writing b (length (code_bytes b.code))) b
written_fits b h = record {
  tiny = λ t. let k = h.tiny t in rw (k.fat_handlers, k.handlers) refl;
  needed = λ e. e;
  pad = length-replicate (aligned (12 + length (code_bytes b.code)) - (12 + length (code_bytes b.code))) 0;
  reserved = refl;
}

pub written_again : (b : Body) (rest : List ℕ) → HasSpelling b → body_at (body_bytes b ++ rest) ≡ Ok (b, length (body_bytes b))
written_again b rest h = body_again (writing b (length (code_bytes b.code))) b rest (written_fits b h) h

pub spelled_again : (text : List ℕ) (b : Body) (rest : List ℕ) → IsSpelledBy text b → body_at (text ++ rest) ≡ Ok (b, length text)
spelled_again text b rest s =
    subst (λ (t : List ℕ). body_at (t ++ rest) ≡ Ok (b, length t)) (sym s.3) (body_again s.1 b rest s.2 s.0)

pub written_spelled : (b : Body) → HasSpelling b → IsSpelledBy (body_bytes b) b
written_spelled b h = (h, writing b (length (code_bytes b.code)), written_fits b h, refl)
