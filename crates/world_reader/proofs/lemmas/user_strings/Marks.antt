-- A flag for each offset of `#US` says whether a body loads the text there.
use Rattle.std.proofs.Common.{◌≡◌, ◌≢◌, ℕ, zero, suc, ◌-◌, ◌+◌, ◌≤◌, ◌<◌, Bool, true, false, ◌||◌, ◌&&◌, ◌==◌, nat_lt, nat_le, List, [], ◌∷◌, length, get_or, replicate, refl, sym, ap, ◌∙◌, arith, if◌then◌else◌}
use Rattle.std.proofs.lemmas.Bool.{ltb-true, ltb-false, leb-true, leb-false, eqb-true, eq-eqb, ne_eqb}
use Rattle.std.proofs.lemmas.Bool.Decides.{same_from_decides, Decides-eqb, Decides-like}
use Rattle.std.proofs.lemmas.List.{get_or-set_same, get_or-set_other, length-set}
use Rattle.std.specs.List.{list_any}
use Rattle.std.specs.Prelude.{Option, Some, None, Result, Ok, Err, IfOk, slice_set}
use Rattle.il_base.specs.declared.memory.NoMemory.{NoMemory}
use Rattle.il_base.specs.declared.world_model.record.UserText.{UserText}
use Rattle.il_base.specs.declared.body.Body.{Body}
use Rattle.il_base.specs.declared.body.Instr.{Instr}
use Rattle.il_base.specs.declared.body.Operand.{Operand}
use Rattle.il_base.specs.declared.body.Operand.TheVariants as operand
use Rattle.il_base.specs.declared.world_model.known.Known.{Known}
use Rattle.il_base.specs.declared.world_model.known.Known.TheVariants.{Good, Bad}
use Rattle.il_base.specs.declared.world_model.members.MethodDefRow.{MethodDefRow}
use Rattle.rules.specs.record_format.Texts.{is_token, is_ldstr, loads, body_loads, is_loaded, user_token, user_text_at, and_text, texts_below, text_offsets, all_texts}
use Rattle.world_reader.specs.user_strings.Marks.{marked_at, marked_by_operand, marked_by, marked_in, marked_body, marked, marks_of, texts_marked}

or_false : (a : Bool) → (a || false) ≡ a
or_false true = refl
or_false false = refl

or_true : (a : Bool) → (a || true) ≡ true
or_true true = refl
or_true false = refl

or_or : (a b c : Bool) → ((a || b) || c) ≡ (a || (b || c))
or_or true b c = refl
or_or false b c = refl

-- ---- lengths

length-at : (marks : List Bool) (k : ℕ) → length (marked_at marks k) ≡ length marks
length-at marks k = by (nat_lt k (length marks))
  where
    by : (b : Bool) → length (if b then slice_set marks k true else marks) ≡ length marks
    by true = length-set marks k true
    by false = refl

length-operand : (marks : List Bool) (o : Operand) → length (marked_by_operand marks o) ≡ length marks
length-operand marks (operand.Token t) = by (nat_le 0x70000000 t)
  where
    by : (b : Bool) → length (if b then marked_at marks (t - 0x70000000) else marks) ≡ length marks
    by true = length-at marks (t - 0x70000000)
    by false = refl
length-operand marks operand.None = refl
length-operand marks (operand.Number n) = refl
length-operand marks (operand.Slot n) = refl
length-operand marks (operand.Target n) = refl
length-operand marks (operand.Targets ns) = refl

pub length-by : (marks : List Bool) (i : Instr) → length (marked_by marks i) ≡ length marks
unfolding marked_by
length-by marks i = by (is_ldstr i.form)
  where
    by : (b : Bool) → length (if b then marked_by_operand marks i.operand else marks) ≡ length marks
    by true = length-operand marks i.operand
    by false = refl

length-in : (marks : List Bool) (is : List Instr) → length (marked_in marks is) ≡ length marks
length-in marks [] = refl
length-in marks (i ∷ is) = length-in (marked_by marks i) is ∙ length-by marks i

length-body : (marks : List Bool) (b : Option (Known Body)) → length (marked_body marks b) ≡ length marks
length-body marks None = refl
length-body marks (Some (Good b)) = length-in marks b.code
length-body marks (Some (Bad why)) = refl

length-all : (marks : List Bool) (ms : List MethodDefRow) → length (marked marks ms) ≡ length marks
length-all marks [] = refl
length-all marks (m ∷ ms) = length-all (marked_body marks m.body) ms ∙ length-body marks m.body

length-none : (n : ℕ) → length (replicate n false) ≡ n
length-none zero = refl
length-none (suc n) = ap suc (length-none n)

pub length-marks : (n : ℕ) (methods : List MethodDefRow) → length (marks_of n methods) ≡ n
length-marks n methods = length-all (replicate n false) methods ∙ length-none n

get-none : (n k : ℕ) → get_or (replicate n false) k false ≡ false
get-none zero k = refl
get-none (suc n) zero = refl
get-none (suc n) (suc k) = get-none n k

-- ---- flags

flag-set : (marks : List Bool) (j k : ℕ) → j < length marks → get_or (slice_set marks j true) k false ≡ (get_or marks k false || (j == k))
flag-set marks j k lt = by (j == k) refl
  where
    by : (b : Bool) → (j == k) ≡ b → get_or (slice_set marks j true) k false ≡ (get_or marks k false || b)
    by true e =
        let s : j ≡ k = eqb-true j k e in
        ap (λ (n : ℕ). get_or (slice_set marks j true) n false) (sym s) ∙ get_or-set_same marks j true false lt ∙ sym (or_true (get_or marks k false))
    by false e =
        let ne : k ≢ j = λ p. let t : (j == k) ≡ true = eq-eqb j k (sym p) in cc in
        get_or-set_other marks j k true false ne ∙ sym (or_false (get_or marks k false))

flag-unset : (marks : List Bool) (j k : ℕ) → (j ≢ k) → get_or marks k false ≡ (get_or marks k false || (j == k))
flag-unset marks j k ne = rw (ne_eqb j k ne) (sym (or_false (get_or marks k false)))

flag-at : (marks : List Bool) (j k : ℕ) → k < length marks → get_or (marked_at marks j) k false ≡ (get_or marks k false || (j == k))
flag-at marks j k lt = by (nat_lt j (length marks)) refl
  where
    by : (b : Bool) → nat_lt j (length marks) ≡ b → get_or (if b then slice_set marks j true else marks) k false ≡ (get_or marks k false || (j == k))
    by true e = flag-set marks j k (ltb-true j (length marks) e)
    by false e = flag-unset marks j k (λ p. let h : length marks ≤ j = ltb-false j (length marks) e in omega arith)

-- the same test, of a token and of its offset
moved-test : (base t k : ℕ) → base ≤ t → ((t - base) == k) ≡ (t == base + k)
moved-test base t k le =
    let there : t ≡ base + k → t - base ≡ k = λ e. omega arith in
    let back : t - base ≡ k → t ≡ base + k = λ e. omega arith in
    same_from_decides ((t - base) == k) (t == base + k) (Decides-eqb (t - base) k) (Decides-like (t == base + k) there back (Decides-eqb t (base + k)))

flag-operand : (marks : List Bool) (o : Operand) (k : ℕ) → k < length marks → get_or (marked_by_operand marks o) k false ≡ (get_or marks k false || is_token (user_token k) o)
flag-operand marks (operand.Token t) k lt = by (nat_le 0x70000000 t) refl
  where
    by : (b : Bool) → nat_le 0x70000000 t ≡ b → get_or (if b then marked_at marks (t - 0x70000000) else marks) k false ≡ (get_or marks k false || (t == 0x70000000 + k))
    by true e = flag-at marks (t - 0x70000000) k lt ∙ ap (λ (b : Bool). get_or marks k false || b) (moved-test 0x70000000 t k (leb-true 0x70000000 t e))
    by false e =
        let h : t < 0x70000000 = leb-false 0x70000000 t e in
        rw (ne_eqb t (0x70000000 + k) (λ p. omega arith)) (sym (or_false (get_or marks k false)))
flag-operand marks operand.None k lt = sym (or_false (get_or marks k false))
flag-operand marks (operand.Number n) k lt = sym (or_false (get_or marks k false))
flag-operand marks (operand.Slot n) k lt = sym (or_false (get_or marks k false))
flag-operand marks (operand.Target n) k lt = sym (or_false (get_or marks k false))
flag-operand marks (operand.Targets ns) k lt = sym (or_false (get_or marks k false))

flag-by : (marks : List Bool) (i : Instr) (k : ℕ) → k < length marks → get_or (marked_by marks i) k false ≡ (get_or marks k false || loads (user_token k) i)
unfolding marked_by loads
flag-by marks i k lt = by (is_ldstr i.form)
  where
    by : (b : Bool) → get_or (if b then marked_by_operand marks i.operand else marks) k false ≡ (get_or marks k false || (b && is_token (user_token k) i.operand))
    by true = flag-operand marks i.operand k lt
    by false = sym (or_false (get_or marks k false))

flag-in : (marks : List Bool) (is : List Instr) (k : ℕ) → k < length marks → get_or (marked_in marks is) k false ≡ (get_or marks k false || list_any (loads (user_token k)) is)
flag-in marks [] k lt = sym (or_false (get_or marks k false))
flag-in marks (i ∷ is) k lt =
    let e : length (marked_by marks i) ≡ length marks = length-by marks i in
    flag-in (marked_by marks i) is k (omega arith)
    ∙ ap (λ (b : Bool). b || list_any (loads (user_token k)) is) (flag-by marks i k lt)
    ∙ or_or (get_or marks k false) (loads (user_token k) i) (list_any (loads (user_token k)) is)

flag-body : (marks : List Bool) (b : Option (Known Body)) (k : ℕ) → k < length marks → get_or (marked_body marks b) k false ≡ (get_or marks k false || body_loads (user_token k) b)
flag-body marks None k lt = sym (or_false (get_or marks k false))
flag-body marks (Some (Good b)) k lt = flag-in marks b.code k lt
flag-body marks (Some (Bad why)) k lt = sym (or_false (get_or marks k false))

flag-all : (marks : List Bool) (ms : List MethodDefRow) (k : ℕ) → k < length marks → get_or (marked marks ms) k false ≡ (get_or marks k false || list_any (λ m. body_loads (user_token k) m.body) ms)
flag-all marks [] k lt = sym (or_false (get_or marks k false))
flag-all marks (m ∷ ms) k lt =
    let e : length (marked_body marks m.body) ≡ length marks = length-body marks m.body in
    flag-all (marked_body marks m.body) ms k (omega arith)
    ∙ ap (λ (b : Bool). b || list_any (λ n. body_loads (user_token k) n.body) ms) (flag-body marks m.body k lt)
    ∙ or_or (get_or marks k false) (body_loads (user_token k) m.body) (list_any (λ n. body_loads (user_token k) n.body) ms)

pub flag-loaded : (n : ℕ) (methods : List MethodDefRow) (k : ℕ) → k < n → get_or (marks_of n methods) k false ≡ is_loaded methods (user_token k)
unfolding is_loaded
flag-loaded n methods k lt =
    let len : length (replicate n false) ≡ n = length-none n in
    let e : get_or (replicate n false) k false ≡ false = get-none n k in
    let f = flag-all (replicate n false) methods k (omega arith) in
    f ∙ ap (λ (b : Bool). b || list_any (λ m. body_loads (user_token k) m.body) methods) e

-- ---- texts

pub texts_none : (user : List ℕ) (marks : List Bool) → texts_marked user marks 0 ≡ []
unfolding texts_marked
texts_none user marks = refl

pub texts_on : (user : List ℕ) (marks : List Bool) (k : ℕ) → get_or marks k false ≡ true → texts_marked user marks (k + 1) ≡ and_text (texts_marked user marks k) (user_text_at user k)
unfolding texts_marked
texts_on user marks k e = let z : k + 1 ≡ suc k = omega arith in rw (z, e) refl

pub texts_off : (user : List ℕ) (marks : List Bool) (k : ℕ) → get_or marks k false ≡ false → texts_marked user marks (k + 1) ≡ texts_marked user marks k
unfolding texts_marked
texts_off user marks k e = let z : k + 1 ≡ suc k = omega arith in rw (z, e) refl

pub ruleset marking = (texts_none, texts_on, texts_off)

texts_same : (user : List ℕ) (methods : List MethodDefRow) (n k : ℕ) → k ≤ n → texts_marked user (marks_of n methods) k ≡ texts_below user methods k
unfolding texts_marked texts_below
texts_same user methods n zero le = refl
texts_same user methods n (suc k) le =
    let before = texts_same user methods n k (omega arith) in
    let flag = flag-loaded n methods k (omega arith) in
    rw (before, flag) refl

pub texts_all : (user : List ℕ) (methods : List MethodDefRow) (n : ℕ) → n ≡ text_offsets user → texts_marked user (marks_of n methods) n ≡ all_texts user methods
texts_all user methods n e = texts_same user methods n n (omega arith) ∙ ap (λ (k : ℕ). texts_below user methods k) e

pub marks_few : (user : List ℕ) (methods : List MethodDefRow) (n : ℕ) (marks : List Bool) → marks ≡ marks_of n methods → n ≡ text_offsets user → length marks ≤ 16777216
marks_few user methods n marks e p = let len = length-marks n methods in rw (e, len) (omega arith)

pub texts_given : (found : Result (List UserText) NoMemory) (user : List ℕ) (methods : List MethodDefRow) (n : ℕ) (marks : List Bool) → marks ≡ marks_of n methods → n ≡ text_offsets user
    → IfOk found (λ t. t ≡ texts_marked user marks (length marks)) → IfOk found (λ t. t ≡ all_texts user methods)
texts_given (Ok t) user methods n marks e p q =
    let len : length marks ≡ n = ap (λ (ms : List Bool). length ms) e ∙ length-marks n methods in
    q ∙ ap (λ (k : ℕ). texts_marked user marks k) len ∙ ap (λ (ms : List Bool). texts_marked user ms n) e ∙ texts_all user methods n p
texts_given (Err e) user methods n marks _ _ q = tt
