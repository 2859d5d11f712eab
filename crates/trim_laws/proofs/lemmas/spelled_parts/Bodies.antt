-- A body with the output's tokens has a spelling where it had one (II.25.4): opcodes, offsets and ranges stay, and a token has four bytes.
use Rattle.std.proofs.Common.{◌≡◌, ℕ, ◌+◌, ◌^◌, ◌<◌, ◌≤◌, Bool, true, false, List, [], ◌∷◌, length, map, Option, Some, None, refl, sym, ap, subst, ◌∙◌, length-append}
use Rattle.std.specs.Prelude.{◌==◌, ◌&&◌, ◌||◌, nat_lt, if◌then◌else◌}
use Rattle.std.specs.List.{AllByRecursion}
use Rattle.std.specs.Option.{option_map}
use Rattle.std.proofs.lemmas.List.{length-map}
use Rattle.byteorder.specs.Numbers.{length-bytes_low_first}
use Rattle.il_base.specs.declared.body.Body.{Body}
use Rattle.il_base.specs.declared.body.Form.{Form}
use Rattle.il_base.specs.declared.body.Handler.{Handler}
use Rattle.il_base.specs.declared.body.Instr.{Instr}
use Rattle.il_base.specs.declared.body.Operand.{Operand}
use Rattle.il_base.specs.declared.body.Operand.TheVariants as operand
use Rattle.il_base.specs.declared.body_grammar.body.Inline.{Inline}
use Rattle.il_base.specs.declared.body_grammar.body.Inline.TheVariants.{InlineNone, FixedSlot, FixedNumber, InlineTok}
use Rattle.il_base.specs.body_grammar.Opcodes.{kind_of}
use Rattle.il_base.specs.body_grammar.HandlerRules.{begins, is_start, ranges_fit, nests_right, fits_beside, fits_beside_all, is_clause, meets_rules, offender_from, offender}
use Rattle.il_base.specs.body_grammar.BodySpelling.{operand_bytes, inline_in, opcode_size, opcode_bytes, instr_bytes, code_bytes, IsOperand, IsInstr, IsCode, IsClause, IsTiny, IsFat, HasSpelling}
use Rattle.il_base.specs.declared.world_model.known.Known.{Known}
use Rattle.il_base.specs.declared.world_model.known.Known.TheVariants.{Good, Bad}
use Rattle.il_base.specs.declared.world_model.record.AsmRec.{AsmRec}
use Rattle.il_base.specs.world_model.Worlds.{known_map}
use Rattle.record_writer.specs.CanWrite.{HasBody}
use Rattle.rules.specs.mark_rules.Bodies.{is_catch}
use Rattle.rules.specs.merge_rules.Refs.{Output}
use Rattle.rules.specs.merge_rules.Moved.{moved_type, moved_by_form, moved_operand, moved_instr, moved_handler, moved_locals, moved_body}
use Rattle.trim_laws.proofs.lemmas.spelled_parts.Small.{IsSmall, form_small, moved_type_small, moved_locals_small, no_locals}

-- ---- operands

token_bytes : (k : Inline) (next t u : ℕ) → length (operand_bytes k next (operand.Token t)) ≡ length (operand_bytes k next (operand.Token u))
unfolding operand_bytes
token_bytes InlineTok next t u = length-bytes_low_first 0 4 t ∙ sym (length-bytes_low_first 0 4 u)
token_bytes _ next t u = refl

token_stays : (k : Inline) (op next t u : ℕ) → IsSmall u → IsOperand k op next (operand.Token t) → IsOperand k op next (operand.Token u)
unfolding IsOperand
token_stays InlineNone op next t u small h = absurd cc
token_stays (FixedSlot first) op next t u small h = absurd cc
token_stays (FixedNumber first) op next t u small h = absurd cc
token_stays InlineTok op next t u small h = small
token_stays _ op next t u small h = h

-- ---- clauses: a clause with another token has the same ranges

abbrev with_token : Bool → ℕ → Handler → Handler
with_token b t h = if b then record h { token = t } else h

ranges_same : (h k : Handler) (t u : ℕ) (b c : Bool) → ranges_fit (with_token b t h) (with_token c u k) ≡ ranges_fit h k
unfolding ranges_fit
ranges_same h k t u true true = refl
ranges_same h k t u true false = refl
ranges_same h k t u false true = refl
ranges_same h k t u false false = refl

nests_same : (i j : ℕ) (h k : Handler) (t u : ℕ) (b c : Bool) → nests_right i (with_token b t h) j (with_token c u k) ≡ nests_right i h j k
unfolding nests_right
nests_same i j h k t u true true = refl
nests_same i j h k t u true false = refl
nests_same i j h k t u false true = refl
nests_same i j h k t u false false = refl

clause_same : (start : ℕ → Bool) (size : ℕ) (h : Handler) (t : ℕ) (b : Bool) → is_clause start size (with_token b t h) ≡ is_clause start size h
unfolding is_clause
clause_same start size h t true = refl
clause_same start size h t false = refl

clause_stays : (fat : Bool) (h : Handler) (t : ℕ) (b : Bool) → IsSmall t → IsClause fat h → IsClause fat (with_token b t h)
clause_stays fat h t true small c = record { kind = c.kind; try_at = c.try_at; try_len = c.try_len; at = c.at; len = c.len; token = small }
clause_stays fat h t false small c = c

module _ (o : Output) (a : ℕ) (rec : AsmRec) where
  -- ---- instructions

  abbrev moves : Instr → Instr
  moves i = moved_instr o a rec i

  operand_length : (k : Inline) (next : ℕ) (f : Form) (x : Operand) → length (operand_bytes k next (moved_operand o a rec f x)) ≡ length (operand_bytes k next x)
  operand_length k next f (operand.Token t) = token_bytes k next _ t
  operand_length k next f _ = refl

  instr_length : (i : Instr) → length (instr_bytes (moves i)) ≡ length (instr_bytes i)
  unfolding instr_bytes
  instr_length i =
      let k : Inline = inline_in (kind_of i.opcode) in
      let next : ℕ = i.at + opcode_size i.opcode in
      length-append (opcode_bytes i.opcode) (operand_bytes k next (moved_operand o a rec i.form i.operand))
      ∙ ap (λ (n : ℕ). length (opcode_bytes i.opcode) + n) (operand_length k next i.form i.operand)
      ∙ sym (length-append (opcode_bytes i.opcode) (operand_bytes k next i.operand))

  code_length : (is : List Instr) → length (code_bytes (map moves is)) ≡ length (code_bytes is)
  code_length [] = refl
  code_length (i ∷ is) =
      length-append (instr_bytes (moves i)) (code_bytes (map moves is)) ∙ (λ j. instr_length i j + code_length is j) ∙ sym (length-append (instr_bytes i) (code_bytes is))

  operand_stays : (k : Inline) (op next : ℕ) (f : Form) (x : Operand) → IsOperand k op next x → IsOperand k op next (moved_operand o a rec f x)
  operand_stays k op next f (operand.Token t) h = token_stays k op next t (moved_by_form o a rec f t) (form_small o a rec f t) h
  operand_stays k op next f _ h = h

  instr_stays : (i : Instr) → IsInstr i → IsInstr (moves i)
  instr_stays i h = record { opcode = h.opcode; kind = h.kind; operand = operand_stays (inline_in (kind_of i.opcode)) i.opcode (i.at + opcode_size i.opcode) i.form i.operand h.operand }

  code_stays : (at : ℕ) (is : List Instr) → IsCode at is → IsCode at (map moves is)
  code_stays at [] h = tt
  code_stays at (i ∷ is) h =
      (h.0, instr_stays i h.1, subst (λ (n : ℕ). IsCode (at + n) (map moves is)) (sym (instr_length i)) (code_stays (at + length (instr_bytes i)) is h.2))

  begins_same : (is : List Instr) (at : ℕ) → begins (map moves is) at ≡ begins is at
  begins_same [] at = refl
  begins_same (i ∷ is) at = ap (λ (b : Bool). i.at == at || b) (begins_same is at)

  -- ---- clauses

  abbrev clause : Handler → Handler
  clause h = moved_handler o a rec h

  beside_same : (i j : ℕ) (h k : Handler) → fits_beside i (clause h) j (clause k) ≡ fits_beside i h j k
  unfolding fits_beside
  beside_same i j h k =
      let t : ℕ = moved_type o a rec h.token in
      let u : ℕ = moved_type o a rec k.token in
      λ n. i == j || ranges_same h k t u (is_catch h) (is_catch k) n && nests_same i j h k t u (is_catch h) (is_catch k) n

  all_same : (i j : ℕ) (h : Handler) (ks : List Handler) → fits_beside_all i (clause h) j (map clause ks) ≡ fits_beside_all i h j ks
  unfolding fits_beside_all
  all_same i j h [] = refl
  all_same i j h (k ∷ ks) = λ n. beside_same i j h k n && all_same i (j + 1) h ks n

  meets_same : (start : ℕ → Bool) (size : ℕ) (all : List Handler) (i : ℕ) (h : Handler) → meets_rules start size (map clause all) i (clause h) ≡ meets_rules start size all i h
  unfolding meets_rules
  meets_same start size all i h = λ n. clause_same start size h (moved_type o a rec h.token) (is_catch h) n && all_same i 0 h all n

  offender_same : (start : ℕ → Bool) (size : ℕ) (all : List Handler) (i : ℕ) (hs : List Handler) → offender_from start size (map clause all) i (map clause hs) ≡ offender_from start size all i hs
  unfolding offender_from
  offender_same start size all i [] = refl
  offender_same start size all i (h ∷ hs) = λ n. if meets_same start size all i h n then offender_same start size all (i + 1) hs n else Some i

  clauses_stay : (fat : Bool) (hs : List Handler) → AllByRecursion (IsClause fat) hs → AllByRecursion (IsClause fat) (map clause hs)
  clauses_stay fat [] h = tt
  clauses_stay fat (x ∷ xs) h = (clause_stays fat x (moved_type o a rec x.token) (is_catch x) (moved_type_small o a rec x.token) h.0, clauses_stay fat xs h.1)

  -- ---- bodies

  module _ (b : Body) (h : HasSpelling b) where
    size_same : length (code_bytes (map moves b.code)) ≡ length (code_bytes b.code)
    size_same = code_length b.code

    pub tiny_stays : IsTiny b → IsTiny (moved_body o a rec b)
    unfolding moved_body
    tiny_stays t = record {
      size = subst (λ (n : ℕ). n < 64) (sym size_same) t.size;
      init = t.init;
      max_stack = t.max_stack;
      locals = ap (moved_locals o a rec) t.locals ∙ no_locals o a rec;
      fat_handlers = t.fat_handlers;
      handlers = ap (map clause) t.handlers;
    }

    fat_stays : IsFat b → IsFat (moved_body o a rec b)
    unfolding moved_body
    fat_stays f = record {
      size = subst (λ (n : ℕ). n < 2 ^ 32) (sym size_same) f.size;
      max_stack = f.max_stack;
      locals = moved_locals_small o a rec b.locals;
      count = subst (λ (n : ℕ). n ≤ (if b.fat_handlers then 699050 else 20)) (sym (length-map b.handlers clause)) f.count;
      handlers = clauses_stay b.fat_handlers b.handlers f.handlers;
    }

    nesting_stays : offender (is_start (map moves b.code) (length (code_bytes (map moves b.code)))) (length (code_bytes (map moves b.code))) (map clause b.handlers) ≡ None
    nesting_stays =
        (λ n. offender (λ (at : ℕ). nat_lt at (size_same n) && begins_same b.code at n) (size_same n) (map clause b.handlers))
        ∙ offender_same (is_start b.code (length (code_bytes b.code))) (length (code_bytes b.code)) b.handlers 0 b.handlers
        ∙ h.nesting

    pub body_stays : HasSpelling (moved_body o a rec b)
    unfolding moved_body
    body_stays = record {
      code = code_stays 0 b.code h.code;
      tiny = λ e. tiny_stays (h.tiny e);
      fat = λ e. fat_stays (h.fat e);
      nesting = nesting_stays;
    }

  known_body_stays : (k : Known Body) → HasBody (Some k) → HasBody (Some (known_map (moved_body o a rec) k))
  known_body_stays (Good b) h = body_stays b h
  known_body_stays (Bad why) h = tt

  pub has_body_stays : (m : Option (Known Body)) → HasBody m → HasBody (option_map (known_map (moved_body o a rec)) m)
  has_body_stays None h = tt
  has_body_stays (Some k) h = known_body_stays k h
